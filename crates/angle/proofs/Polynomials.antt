-- Polynomials as lists of coefficients, lowest first, at a fraction a / b: `at cs N` is b^N times the value. Assumes nothing.
use mathlib.Core.Path.{◌≡◌, refl, sym, ap, ap₂, ◌∙◌, subst}
use mathlib.Core.List.{List, [], ◌∷◌}
use Prim.Native.Nat.{ℕ, zero, suc, ◌+◌, ◌-◌, ◌*◌, ◌^◌, ◌≤◌, zero-le}
use native.Mathlib.Nat.{le_refl, le_trans, le_of_eq, mul-le-mul, mul-le-mul_left, mul-add, add-mul, mul_assoc, mul_comm, mul_left_comm, mul-zero, zero-mul, zero-add, suc-add, one-mul, pow-suc, pow-zero, le_of_suc-le-suc, not-suc-le-zero}
use native.Mathlib.Omega.{arith}
use lib.ListN.{length}

ruleset sorted = (mul-add, add-mul, mul_assoc, mul_comm, mul_left_comm)

unfoldable pub add : List ℕ → List ℕ → List ℕ
add [] g = g
add (x ∷ f) [] = x ∷ f
add (x ∷ f) (y ∷ g) = (x + y) ∷ add f g

unfoldable pub scale : ℕ → List ℕ → List ℕ
scale c [] = []
scale c (x ∷ f) = (c * x) ∷ scale c f

unfoldable pub mul : List ℕ → List ℕ → List ℕ
unfolding add scale
mul [] g = []
mul (c ∷ f) g = add (scale c g) (0 ∷ mul f g)

-- what the coefficients of f have beyond those of g
unfoldable pub beyond : List ℕ → List ℕ → List ℕ
beyond [] g = []
beyond (x ∷ f) [] = x ∷ f
beyond (x ∷ f) (y ∷ g) = (x - y) ∷ beyond f g

-- the value at a whole number
unfoldable pub value : ℕ → List ℕ → ℕ
value x [] = 0
value x (c ∷ f) = c + x * value x f

unfoldable pub at : ℕ → ℕ → List ℕ → ℕ → ℕ
at a b [] N = 0
at a b (c ∷ f) zero = c
at a b (c ∷ f) (suc N) = c * b ^ suc N + a * at a b f N

module _ (a b : ℕ) where
  pub at-add : (f g : List ℕ) (N : ℕ) → at a b (add f g) N ≡ at a b f N + at a b g N
  unfolding at add
  at-add [] g N = sym (zero-add (at a b g N))
  at-add (x ∷ f) [] zero = omega arith
  at-add (x ∷ f) [] (suc N) = omega arith
  at-add (x ∷ f) (y ∷ g) zero = refl
  at-add (x ∷ f) (y ∷ g) (suc N) = go x y (b ^ suc N) (at a b f N) (at a b g N) (at a b (add f g) N) (at-add f g N)
    where
      go : (x y w u v z : ℕ) → z ≡ u + v → (x + y) * w + a * z ≡ x * w + a * u + (y * w + a * v)
      go x y w u v z e = ap (λ (z : ℕ). (x + y) * w + a * z) e ∙ simp sorted (omega arith)

  pub at-scale : (c : ℕ) (f : List ℕ) (N : ℕ) → at a b (scale c f) N ≡ c * at a b f N
  unfolding at scale
  at-scale c [] N = sym (mul-zero c)
  at-scale c (x ∷ f) zero = refl
  at-scale c (x ∷ f) (suc N) = go x (b ^ suc N) (at a b f N) (at a b (scale c f) N) (at-scale c f N)
    where
      go : (x w u z : ℕ) → z ≡ c * u → c * x * w + a * z ≡ c * (x * w + a * u)
      go x w u z e = ap (λ (z : ℕ). c * x * w + a * z) e ∙ simp sorted (omega arith)

  pub at_raise : (f : List ℕ) (N : ℕ) → length f ≤ suc N → at a b f (suc N) ≡ b * at a b f N
  unfolding at
  at_raise [] N h = omega arith
  at_raise (c ∷ []) zero h = ap (λ (z : ℕ). c * z + a * 0) (pow-suc b 0 ∙ ap (λ (z : ℕ). z * b) (pow-zero b)) ∙ omega arith
  at_raise (c ∷ x ∷ f) zero h = absurd (not-suc-le-zero (le_of_suc-le-suc h))
  at_raise (c ∷ f) (suc N) h =
      ap₂ (λ (y z : ℕ). c * y + a * z) (pow-suc b (suc N)) (at_raise f N (le_of_suc-le-suc h)) ∙ go (b ^ suc N) (at a b f N)
    where
      go : (w u : ℕ) → c * (w * b) + a * (b * u) ≡ b * (c * w + a * u)
      go w u = simp sorted (omega arith)

  at_raises : (f : List ℕ) (K N : ℕ) → length f ≤ suc N → at a b f (K + N) ≡ b ^ K * at a b f N
  at_raises f zero N h = ap (at a b f) (zero-add N) ∙ sym (ap (λ (z : ℕ). z * at a b f N) (pow-zero b) ∙ one-mul (at a b f N))
  at_raises f (suc K) N h =
      ap (at a b f) (suc-add K N) ∙ at_raise f (K + N) (more h) ∙ ap (λ (z : ℕ). b * z) (at_raises f K N h)
      ∙ sym (mul_assoc b (b ^ K) (at a b f N)) ∙ ap (λ (z : ℕ). z * at a b f N) (mul_comm b (b ^ K) ∙ sym (pow-suc b K))
    where
      more : length f ≤ suc N → length f ≤ suc (K + N)
      more h = omega arith

  pub at_mul : (f g : List ℕ) (M N : ℕ) → length f ≤ suc M → length g ≤ suc N → at a b (mul f g) (M + N) ≡ at a b f M * at a b g N
  unfolding at mul
  at_mul [] g M N h k = sym (zero-mul (at a b g N))
  at_mul (c ∷ []) g zero N h k =
      ap (at a b (add (scale c g) (0 ∷ []))) (zero-add N) ∙ at-add (scale c g) (0 ∷ []) N ∙ ap₂ (λ (y z : ℕ). y + z) (at-scale c g N) (none N) ∙ omega arith
    where
      none : (N : ℕ) → at a b (0 ∷ []) N ≡ 0
      none zero = refl
      none (suc N) = omega arith
  at_mul (c ∷ x ∷ f) g zero N h k = absurd (not-suc-le-zero (le_of_suc-le-suc h))
  at_mul (c ∷ f) g (suc M) N h k =
      ap (at a b (add (scale c g) (0 ∷ mul f g))) (suc-add M N) ∙ at-add (scale c g) (0 ∷ mul f g) (suc (M + N))
      ∙ ap₂ (λ (y z : ℕ). y + (0 * b ^ suc (M + N) + a * z))
      (at-scale c g (suc (M + N)) ∙ ap (λ (z : ℕ). c * z) (ap (at a b g) (sym (suc-add M N)) ∙ at_raises g (suc M) N k))
      (at_mul f g M N (le_of_suc-le-suc h) k)
      ∙ go (b ^ suc M) (at a b g N) (b ^ suc (M + N)) (at a b f M)
    where
      go : (w u z v : ℕ) → c * (w * u) + (0 * z + a * (v * u)) ≡ (c * w + a * v) * u
      go w u z v = simp sorted (omega arith)

  -- coefficient by coefficient
  pub at-beyond : (f g : List ℕ) (N : ℕ) → at a b f N ≤ at a b g N + at a b (beyond f g) N
  unfolding at beyond
  at-beyond [] g N = zero-le
  at-beyond (x ∷ f) [] zero = omega arith
  at-beyond (x ∷ f) [] (suc N) = omega arith
  at-beyond (x ∷ f) (y ∷ g) zero = omega arith
  at-beyond (x ∷ f) (y ∷ g) (suc N) = go (b ^ suc N) (at a b f N) (at a b g N) (at a b (beyond f g) N) (at-beyond f g N)
    where
      le : x ≤ y + (x - y)
      le = omega arith

      go : (w u v z : ℕ) → u ≤ v + z → x * w + a * u ≤ y * w + a * v + ((x - y) * w + a * z)
      go w u v z h =
          let p : x * w ≤ (y + (x - y)) * w = mul-le-mul le (le_refl w) in
          let q : a * u ≤ a * (v + z) = mul-le-mul_left a h in
          omega arith

  -- at its largest argument
  pub at_most : (x : ℕ) → a ≤ x * b → (f : List ℕ) (N : ℕ) → at a b f N ≤ value x f * b ^ N
  unfolding at value
  at_most x h [] N = zero-le
  at_most x h (c ∷ f) zero = le_trans (go c (x * value x f)) (le_of_eq (sym (ap (λ (z : ℕ). (c + x * value x f) * z) (pow-zero b))))
    where
      go : (c y : ℕ) → c ≤ (c + y) * 1
      go c y = omega arith
  at_most x h (c ∷ f) (suc N) =
      let p : a * at a b f N ≤ x * b * (value x f * b ^ N) = mul-le-mul h (at_most x h f N) in
      subst (λ (w : ℕ). c * w + a * at a b f N ≤ (c + x * value x f) * w) (sym (pow-suc b N)) (go (b ^ N) (at a b f N) (value x f) p)
    where
      go : (w u v : ℕ) → a * u ≤ x * b * (v * w) → c * (w * b) + a * u ≤ (c + x * v) * (w * b)
      go w u v p = simp sorted (omega (arith, simp sorted at p))
