-- One round of the arithmetic-geometric mean over whole numbers: how near to 1 the ratio of the two comes, where each operation is off by one part in W and the root by one in H. Assumes nothing.
use Rattle.std.specs.Prelude.{◌≡◌, Bool, true, false, not, ◌&&◌, ℕ, ◌+◌, ◌-◌, ◌*◌, ◌≤◌, ◌<◌, T}
use Rattle.std.proofs.Common.{sym, ap, subst, mul-add, add-mul, mul_assoc, mul_comm, mul_left_comm, le_of_eq, mul-le-mul, mul-le-mul_left, mul-le-mul_right, le_of_mul-le-mul_right, one-mul, arith, leb→le, ltb→lt}
use Rattle.std.proofs.Math.Nat.{mul-mul-mul_comm, le_trans, le_of_mul-le-mul_left}
use Rattle.std.proofs.Math.Dec.{leb, ltb, nleb→lt}
use Rattle.std.specs.Float.Ieee.Fits.{and_l, and_r}
use Rattle.legendre.specs.laws.Beneath.{square_le}

ruleset sorted = (mul-add, add-mul, mul_assoc, mul_comm, mul_left_comm)

-- ---- chains of bounds A * x ≤ B * y
pub compose : (A B C E x y z : ℕ) → A * x ≤ B * y → C * y ≤ E * z → A * C * x ≤ B * E * z
compose A B C E x y z p q =
    let u : C * (A * x) ≤ C * (B * y) = mul-le-mul_left C p in
    let v : B * (C * y) ≤ B * (E * z) = mul-le-mul_left B q in
    omega arith

pub square : (A B x y : ℕ) → A * x ≤ B * y → A * A * (x * x) ≤ B * B * (y * y)
square A B x y p = le_trans (le_of_eq (mul-mul-mul_comm A A x x)) (le_trans (mul-le-mul p p) (le_of_eq (sym (mul-mul-mul_comm B B y y))))

pub finish : (A B E F X Y : ℕ) → 0 < A → A * X ≤ B * Y → E * B ≤ F * A → E * X ≤ F * Y
finish A B E F X Y h p q =
    let u : E * (A * X) ≤ E * (B * Y) = mul-le-mul_left E p in
    let v : E * B * Y ≤ F * A * Y = mul-le-mul_right Y q in
    let w : A * (E * X) ≤ A * (F * Y) = omega arith in
    le_of_mul-le-mul_left w h

pub root_le : (E F x y : ℕ) → E * E * (x * x) ≤ F * F * (y * y) → E * x ≤ F * y
root_le E F x y h = square_le (E * x) (F * y) (le_trans (le_of_eq (sym (mul-mul-mul_comm E E x x))) (le_trans h (le_of_eq (mul-mul-mul_comm F F y y))))

-- ---- the means
diff : (x y : ℕ) → x ≤ y → y ≡ x + (y - x)
diff x y h = omega arith

-- with 1 / R ≤ a / b ≤ R = N / D: (a + b)² / (a * b) ≤ (N + D)² / (N * D)
pub ratio : (a b N D : ℕ) → a * D ≤ b * N → b * D ≤ a * N → N * D * ((a + b) * (a + b)) ≤ (N + D) * (N + D) * (a * b)
ratio a b N D p q = go (a * N - b * D) (b * N - a * D) (diff (b * D) (a * N) q) (diff (a * D) (b * N) p)
  where
    go : (i j : ℕ) → a * N ≡ b * D + i → b * N ≡ a * D + j → N * D * ((a + b) * (a + b)) ≤ (N + D) * (N + D) * (a * b)
    go i j e1 e2 =
        let f1 : a * N * (b * N) ≡ (b * D + i) * (a * D + j) = (λ k. e1 k * e2 k) in
        let f2 : b * D * (b * N) ≡ b * D * (a * D + j) = ap (λ (z : ℕ). b * D * z) e2 in
        let f3 : a * D * (a * N) ≡ a * D * (b * D + i) = ap (λ (z : ℕ). a * D * z) e1 in
        simp sorted (omega (arith, simp sorted at f1, simp sorted at f2, simp sorted at f3))

pub means : (a b : ℕ) → 4 * (a * b) ≤ 1 * ((a + b) * (a + b))
means a b = go (leb a b) (leb→le a b) (nleb→lt a b)
  where
    with : (a d : ℕ) → 4 * (a * (a + d)) ≤ (a + (a + d)) * (a + (a + d))
    with a d = omega arith

    with' : (a d : ℕ) → 4 * ((a + d) * a) ≤ (a + d + a) * (a + d + a)
    with' a d = omega arith

    go : (t : Bool) → (T t → a ≤ b) → (T (not t) → b < a) → 4 * (a * b) ≤ 1 * ((a + b) * (a + b))
    go true h k =
        let e : b ≡ a + (b - a) = diff a b (h tt) in
        le_trans (subst (λ (z : ℕ). 4 * (a * z) ≤ (a + z) * (a + z)) (sym e) (with a (b - a))) (le_of_eq (sym (one-mul ((a + b) * (a + b)))))
    go false h k =
        let l = k tt in
        let e : a ≡ b + (a - b) = diff b a (omega arith) in
        le_trans (subst (λ (z : ℕ). 4 * (z * b) ≤ (z + b) * (z + b)) (sym e) (with' b (a - b))) (le_of_eq (sym (one-mul ((a + b) * (a + b)))))

-- ---- the numbers of one round: s the sum, x the half of it, n the product, t the root
pub record Round (Z W H a b s x n t : ℕ) : Type 0 where
  pub sum_hi : W * s ≤ (W + 1) * (a + b)
  pub sum_lo : Z * (a + b) ≤ W * s
  pub half_hi : 2 * W * x ≤ (W + 1) * s
  pub half_lo : Z * s ≤ 2 * W * x
  pub prod_hi : W * n ≤ (W + 1) * (a * b)
  pub prod_lo : Z * (a * b) ≤ W * n
  pub root_hi : H * H * (t * t) ≤ (H + 1) * (H + 1) * n
  pub root_lo : H * H * n ≤ (H + 1) * (H + 1) * (t * t)

-- the coefficients of the two chains
unfoldable pub up_a : ℕ → ℕ → ℕ → ℕ → ℕ → ℕ
up_a Z W H N D = 2 * W * W * (2 * W * W) * (N * D) * (Z * (H * H))

unfoldable pub up_b : ℕ → ℕ → ℕ → ℕ → ℕ → ℕ
up_b Z W H N D = (W + 1) * (W + 1) * ((W + 1) * (W + 1)) * ((N + D) * (N + D)) * (W * ((H + 1) * (H + 1)))

unfoldable pub lo_a : ℕ → ℕ → ℕ → ℕ
lo_a Z W H = H * H * W * 4 * (Z * Z * (Z * Z))

unfoldable pub lo_b : ℕ → ℕ → ℕ → ℕ
lo_b Z W H = (H + 1) * (H + 1) * (W + 1) * 1 * (W * (2 * W) * (W * (2 * W)))

-- from the ratio N / D to N' / D'
unfoldable pub rung : ℕ → ℕ → ℕ → ℕ → ℕ → ℕ → ℕ → Bool
unfolding up_a up_b lo_a lo_b
rung Z W H N D N' D' = (ltb 0 (up_a Z W H N D) && ltb 0 (lo_a Z W H)) && (leb (D' * D' * up_b Z W H N D) (N' * N' * up_a Z W H N D) && leb (D' * D' * lo_b Z W H) (N' * N' * lo_a Z W H))

module _ (Z W H a b s x n t : ℕ) (r : Round Z W H a b s x n t) where
  chain_up : (N D : ℕ) → a * D ≤ b * N → b * D ≤ a * N → up_a Z W H N D * (x * x) ≤ up_b Z W H N D * (t * t)
  unfolding up_a up_b
  chain_up N D p q =
      compose (2 * W * W * (2 * W * W) * (N * D)) ((W + 1) * (W + 1) * ((W + 1) * (W + 1)) * ((N + D) * (N + D))) (Z * (H * H)) (W * ((H + 1) * (H + 1))) (x * x) (a * b) (t * t)
      (compose (2 * W * W * (2 * W * W)) ((W + 1) * (W + 1) * ((W + 1) * (W + 1))) (N * D) ((N + D) * (N + D)) (x * x) ((a + b) * (a + b)) (a * b)
      (square (2 * W * W) ((W + 1) * (W + 1)) x (a + b) (compose (2 * W) (W + 1) W (W + 1) x s (a + b) r.half_hi r.sum_hi))
      (ratio a b N D p q))
      (compose Z W (H * H) ((H + 1) * (H + 1)) (a * b) n (t * t) r.prod_lo r.root_lo)

  chain_lo : lo_a Z W H * (t * t) ≤ lo_b Z W H * (x * x)
  unfolding lo_a lo_b
  chain_lo =
      compose (H * H * W * 4) ((H + 1) * (H + 1) * (W + 1) * 1) (Z * Z * (Z * Z)) (W * (2 * W) * (W * (2 * W))) (t * t) ((a + b) * (a + b)) (x * x)
      (compose (H * H * W) ((H + 1) * (H + 1) * (W + 1)) 4 1 (t * t) (a * b) ((a + b) * (a + b))
      (compose (H * H) ((H + 1) * (H + 1)) W (W + 1) (t * t) n (a * b) r.root_hi r.prod_hi)
      (means a b))
      (square (Z * Z) (W * (2 * W)) (a + b) x (compose Z W Z (2 * W) (a + b) s x r.sum_lo r.half_lo))

  -- the ratio after the round
  pub next : (N D N' D' : ℕ) → T (rung Z W H N D N' D') → a * D ≤ b * N → b * D ≤ a * N → (x * D' ≤ t * N') × (t * D' ≤ x * N')
  unfolding rung
  next N D N' D' g p q =
      let A = up_a Z W H N D in
      let B = up_b Z W H N D in
      let A' = lo_a Z W H in
      let B' = lo_b Z W H in
      let g0 = and_l (ltb 0 A && ltb 0 A') (leb (D' * D' * B) (N' * N' * A) && leb (D' * D' * B') (N' * N' * A')) g in
      let g1 = and_r (ltb 0 A && ltb 0 A') (leb (D' * D' * B) (N' * N' * A) && leb (D' * D' * B') (N' * N' * A')) g in
      let u : D' * x ≤ N' * t =
      root_le D' N' x t (finish A B (D' * D') (N' * N') (x * x) (t * t) (ltb→lt 0 A (and_l (ltb 0 A) (ltb 0 A') g0)) (chain_up N D p q)
      (leb→le (D' * D' * B) (N' * N' * A) (and_l (leb (D' * D' * B) (N' * N' * A)) (leb (D' * D' * B') (N' * N' * A')) g1))) in
      let v : D' * t ≤ N' * x =
      root_le D' N' t x (finish A' B' (D' * D') (N' * N') (t * t) (x * x) (ltb→lt 0 A' (and_r (ltb 0 A) (ltb 0 A') g0)) chain_lo
      (leb→le (D' * D' * B') (N' * N' * A') (and_r (leb (D' * D' * B) (N' * N' * A)) (leb (D' * D' * B') (N' * N' * A')) g1))) in
      (le_trans (le_of_eq (mul_comm x D')) (le_trans u (le_of_eq (mul_comm N' t))), le_trans (le_of_eq (mul_comm t D')) (le_trans v (le_of_eq (mul_comm N' x))))

-- ---- what "off by one part" says, as bounds A * x ≤ B * y
pub near_hi : (W n g : ℕ) → W * g ≤ W * n + n → W * g ≤ (W + 1) * n
near_hi W n g h = omega arith

pub near_lo : (Z n g : ℕ) → (Z + 1) * n ≤ (Z + 1) * g + n → Z * n ≤ (Z + 1) * g
near_lo Z n g h = omega arith

-- a factor U on both sides
pub cancel : (A B x y U : ℕ) → 0 < U → A * (x * U) ≤ B * (y * U) → A * x ≤ B * y
cancel A B x y U h p = let q : A * x * U ≤ B * y * U = omega arith in le_of_mul-le-mul_right q h
