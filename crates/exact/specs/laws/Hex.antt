-- A number that takes many limbs: its digits are those of what stands above its lowest limb, then all 16 of that limb. Assumes nothing.
use Rattle.std.specs.Prelude.{◌≡◌, ℕ, zero, suc, ◌+◌, ◌*◌, ◌-◌, ◌/◌, ◌%◌, ◌^◌, ◌≤◌, ◌<◌, Bool, true, false, cond, ◌&&◌, ◌||◌, List, [], ◌∷◌, ◌++◌, take, drop, get_or, ltb}
use Rattle.std.proofs.Math.Path.{refl}
use Rattle.std.proofs.Common.{sym, ap, ◌∙◌, pow-suc, mul-pos, mul-suc, add-suc, add-zero, mul_assoc, le-mul_of_pos_right, div-lt_iff_lt-mul, add-one, append_assoc, append-nil, length-append, drop-cons, lt-ltb, le-ltb, ltb-true, ltb-false, subst, pow-add}
use Rattle.std.proofs.Math.Nat.{pow-succ', pow-zero, one-le-pow, add-mul-div_left, add-mul-mod_self_left}
use native.Mathlib.Omega.{arith}
use Rattle.std.proofs.Math.ListN.{length}
use Rattle.std.proofs.Math.Seq.{drop-length}
use Rattle.total.specs.Total.{val}
use Rattle.total.specs.Carry.{W}
use Rattle.total.specs.laws.Limbs.{Fit, W-pos, val_next, fit_first}
use Rattle.text.specs.Text.{glyph_of, digits_of}
use Rattle.text.specs.laws.Digits.{enough, digits-length}
use Rattle.exact.specs.Exact.{hex_of, limb_of, sign_of, signed_hex}

-- ---- one digit more
one_more_digit : (base k n : ℕ) → base ≤ n → digits_of false base (suc k) n ≡ digits_of false base k (n / base) ++ (glyph_of (n % base) ∷ [])
unfolding digits_of
one_more_digit base k n h = simp (le-ltb n base h)

one_of_all : (base k n : ℕ) → digits_of true base (suc k) n ≡ digits_of true base k (n / base) ++ (glyph_of (n % base) ∷ [])
unfolding digits_of
one_of_all base k n = refl

no_digit : (all : Bool) (base n : ℕ) → digits_of all base 0 n ≡ []
unfolding digits_of
no_digit all base n = refl

-- the digits of a + base ^ j · v, where v is not zero and a has j digits
pub joined : (base : ℕ) → 0 < base → (k j v a : ℕ) → 0 < v → a < base ^ j
    → digits_of false base (k + j) (a + base ^ j * v) ≡ digits_of false base k v ++ digits_of true base j a
joined base some k zero v a pos less =
    let e : base ^ 0 ≡ 1 = pow-zero base in
    let f : a + base ^ 0 * v ≡ v = rw e (omega (arith, rw e at less)) in
    rw (f, add-zero k, no_digit true base a) (sym (append-nil (digits_of false base k v)))
joined base some k (suc j) v a pos less =
    let m : ℕ = base ^ j * v in
    let e : base ^ suc j * v ≡ base * m = ap (λ (x : ℕ). x * v) (pow-succ' base j) ∙ mul_assoc base (base ^ j) v in
    let above : base ≤ a + base * m = omega (arith, le-mul_of_pos_right base (mul-pos (one-le-pow j base some) pos)) in
    let less' : a / base < base ^ j = (div-lt_iff_lt-mul {k = base} some).1 (rw (← pow-suc base j) less) in
    rw (
      e,
      add-suc k j,
      one_more_digit base (k + j) (a + base * m) above,
      add-mul-div_left a m some,
      add-mul-mod_self_left a base m,
      joined base some k j v (a / base) pos less',
      one_of_all base j a,
    ) (append_assoc (digits_of false base k v) (digits_of true base j (a / base)) (glyph_of (a % base) ∷ []))

-- and all digits of it, whether it is zero or not
pub all-joined : (base : ℕ) → 0 < base → (k j v a : ℕ) → a < base ^ j → digits_of true base (k + j) (a + base ^ j * v) ≡ digits_of true base k v ++ digits_of true base j a
all-joined base some k zero v a less =
    let e : base ^ 0 ≡ 1 = pow-zero base in
    let f : a + base ^ 0 * v ≡ v = rw e (omega (arith, rw e at less)) in
    rw (f, add-zero k, no_digit true base a) (sym (append-nil (digits_of true base k v)))
all-joined base some k (suc j) v a less =
    let m : ℕ = base ^ j * v in
    let e : base ^ suc j * v ≡ base * m = ap (λ (x : ℕ). x * v) (pow-succ' base j) ∙ mul_assoc base (base ^ j) v in
    let less' : a / base < base ^ j = (div-lt_iff_lt-mul {k = base} some).1 (rw (← pow-suc base j) less) in
    rw (
      e,
      add-suc k j,
      one_of_all base (k + j) (a + base * m),
      add-mul-div_left a m some,
      add-mul-mod_self_left a base m,
      all-joined base some k j v (a / base) less',
      one_of_all base j a,
    ) (append_assoc (digits_of true base k v) (digits_of true base j (a / base)) (glyph_of (a % base) ∷ []))

-- ---- a limb below what stands above it
-- whether a number is not zero
pub some_next : (x v : ℕ) → (ltb 0 v || ltb 0 x) ≡ ltb 0 (x + 0x1_0000_0000_0000_0000 * v)
some_next x v = by_tests (ltb 0 v) (ltb 0 x) refl refl where
  by_tests : (t u : Bool) → ltb 0 v ≡ t → ltb 0 x ≡ u → (t || u) ≡ ltb 0 (x + 0x1_0000_0000_0000_0000 * v)
  by_tests true u e f = let h : 0 < v = ltb-true 0 v e in sym (lt-ltb 0 (x + 0x1_0000_0000_0000_0000 * v) (omega arith))
  by_tests false true e f = let h : 0 < x = ltb-true 0 x f in sym (lt-ltb 0 (x + 0x1_0000_0000_0000_0000 * v) (omega arith))
  by_tests false false e f =
      let h : v ≤ 0 = ltb-false 0 v e in
      let k : x ≤ 0 = ltb-false 0 x f in
      sym (le-ltb 0 (x + 0x1_0000_0000_0000_0000 * v) (omega arith))

-- the digits of a limb and of what stands above it
pub hex_next : (k x v : ℕ) → x < 0x1_0000_0000_0000_0000 → hex_of (k + 16) (x + 0x1_0000_0000_0000_0000 * v) ≡ hex_of k v ++ limb_of (ltb 0 v) x
unfolding hex_of limb_of
hex_next k x v small = rw (← (some_next x v)) (by_tests (ltb 0 v) (ltb 0 x) refl refl) where
  by_tests : (t u : Bool) → ltb 0 v ≡ t → ltb 0 x ≡ u
      → cond (t || u) (digits_of false 16 (k + 16) (x + 0x1_0000_0000_0000_0000 * v)) [] ≡ cond t (digits_of false 16 k v) [] ++ cond (t || u) (digits_of t 16 16 x) []
  by_tests true u e f = joined 16 (omega arith) k 16 v x (ltb-true 0 v e) small
  by_tests false true e f =
      let h : v ≡ 0 = omega (arith, ltb-false 0 v e) in
      let g : x + 0x1_0000_0000_0000_0000 * v ≡ x = omega arith in
      rw (g, add-suc k 15) (enough 16 (omega arith) (k + 15) 15 x (omega arith) small)
  by_tests false false e f = refl

no_more : (t : Bool) → (t || false) ≡ t
no_more true = refl
no_more false = refl

-- ---- the whole number

-- the number that the k highest limbs stand for
abbrev pub upper : List ℕ → ℕ → ℕ
upper l k = val (drop (length l - k) l)

-- the limb after them
abbrev pub after : List ℕ → ℕ → ℕ
after l k = get_or l (length l - 1 - k) 0

module _ (l : List ℕ) where
  -- a limb, and what stands above it
  limb_at : (i : ℕ) → i < length l → val (drop i l) ≡ get_or l i 0 + 0x1_0000_0000_0000_0000 * val (drop (suc i) l)
  unfolding val
  limb_at i h = rw (drop-cons l i 0 h)

  -- a limb that is zero changes nothing of whether the number is; one that is not decides it
  pub zero_limb : (i : ℕ) → i < length l → get_or l i 0 ≤ 0 → ltb 0 (val (drop i l)) ≡ ltb 0 (val (drop (i + 1) l))
  zero_limb i h z =
      let e : get_or l i 0 ≡ 0 = omega arith in
      rw (add-one, limb_at i h, e, ← (some_next 0 (val (drop (suc i) l)))) (no_more (ltb 0 (val (drop (suc i) l))))

  pub some_limb : (i : ℕ) → i < length l → 0 < get_or l i 0 → ltb 0 (val (drop i l)) ≡ true
  some_limb i h z = rw (limb_at i h) (lt-ltb 0 (get_or l i 0 + 0x1_0000_0000_0000_0000 * val (drop (suc i) l)) (omega arith))

  -- one limb more
  next_limb : (k : ℕ) → k < length l → upper l (suc k) ≡ after l k + 0x1_0000_0000_0000_0000 * upper l k
  next_limb k h =
      let e : length l - suc k ≡ length l - 1 - k = omega arith in
      let f : length l - k ≡ suc (length l - 1 - k) = omega arith in
      rw (e, f) (limb_at (length l - 1 - k) (omega arith))

  pub some_more : (k : ℕ) → k < length l → (ltb 0 (upper l k) || ltb 0 (after l k)) ≡ ltb 0 (upper l (suc k))
  some_more k h = rw (next_limb k h) (some_next (after l k) (upper l k))

  pub hex_more : (k : ℕ) → k < length l → after l k < 0x1_0000_0000_0000_0000
      → hex_of (16 * suc k) (upper l (suc k)) ≡ hex_of (16 * k) (upper l k) ++ limb_of (ltb 0 (upper l k)) (after l k)
  hex_more k h small = rw (next_limb k h, mul-suc 16 k) (hex_next (16 * k) (after l k) (upper l k) small)

  -- no limb, and all of them
  pub upper-none : upper l 0 ≡ 0
  unfolding val
  upper-none = let e : length l - 0 ≡ length l = omega arith in rw (e, drop-length) refl

  pub upper-all : upper l (length l) ≡ val l
  upper-all = let e : length l - length l ≡ 0 = omega arith in rw e

-- ---- the highest limb that is not zero, and the limbs below it
W-hex : (n : ℕ) → W n ≡ 16 ^ (16 * n)
unfolding W
W-hex zero = refl
W-hex (suc n) =
    let e : 16 * suc n ≡ 16 + 16 * n = omega arith in
    rw (W-hex n, e) (sym (pow-add 16 16 (16 * n)))

pub some_highest : (l : List ℕ) (t : ℕ) → t < length l → val (take (t + 1) l) ≡ val l → 0 < get_or l t 0 → 0 < val l
some_highest l t h e pos = omega (arith, e, val_next l t h, mul-pos (W-pos t) pos)

pub highest_first : (l : List ℕ) (t : ℕ) → t < length l → length l ≤ 34 → Fit l → val (take (t + 1) l) ≡ val l → 0 < get_or l t 0
    → digits_of false 16 16 (get_or l t 0) ++ digits_of true 16 (16 * t) (val (take t l)) ≡ hex_of 544 (val l)
unfolding hex_of
highest_first l t h most f e pos =
    let x = get_or l t 0 in
    let a = val (take t l) in
    let v : val l ≡ a + 16 ^ (16 * t) * x = sym e ∙ val_next l t h ∙ ap (λ (w : ℕ). a + w * x) (W-hex t) in
    let below : a < 16 ^ (16 * t) = subst (λ (w : ℕ). a < w) (W-hex t) (fit_first l t (omega arith) f) in
    let k : 16 * (t + 1) ≡ suc (15 + 16 * t) = omega arith in
    let whole : val l < 16 ^ suc (15 + 16 * t) = subst (λ (n : ℕ). val l < 16 ^ n) k (subst (λ (w : ℕ). val l < w) (W-hex (t + 1)) (subst (λ (n : ℕ). n < W (t + 1)) e (fit_first l (t + 1) (omega arith) f))) in
    let some : 0 < val l = some_highest l t h e pos in
    let j : suc (15 + 16 * t) ≡ 16 + 16 * t = omega arith in
    simp (lt-ltb 0 (val l) some)
    (sym (joined 16 (omega arith) 16 (16 * t) x a pos below)
    ∙ ap (digits_of false 16 (16 + 16 * t)) (sym v)
    ∙ ap (λ (n : ℕ). digits_of false 16 n (val l)) (sym j)
    ∙ sym (enough 16 (omega arith) 543 (15 + 16 * t) (val l) (omega arith) whole))

-- ---- zero, and the sign
pub hex_none : (k : ℕ) → hex_of k 0 ≡ []
unfolding hex_of
hex_none k = refl

zero_digit : (k : ℕ) → digits_of false 16 (suc k) 0 ≡ 48 ∷ []
unfolding digits_of glyph_of
zero_digit k = refl

pub signed : (negative : Bool) (n : ℕ) → ltb 0 n ≡ true → sign_of negative ++ hex_of 544 n ≡ signed_hex negative n
unfolding sign_of hex_of signed_hex
signed true n e = simp e
signed false n e = simp e

pub unsigned : (negative : Bool) (n : ℕ) → ltb 0 n ≡ false → 48 ∷ [] ≡ signed_hex negative n
unfolding signed_hex
unsigned negative n e =
    let z : n ≡ 0 = omega (arith, ltb-false 0 n e) in
    rw z (by_sign negative)
  where
    by_sign : (t : Bool) → 48 ∷ [] ≡ cond (t && false) (45 ∷ digits_of false 16 544 0) (digits_of false 16 544 0)
    by_sign true = sym (zero_digit 543)
    by_sign false = sym (zero_digit 543)

-- how long it is, with its sign and the byte after it
pub whole-most : (negative : Bool) (n after : ℕ) → length (signed_hex negative n ++ (after ∷ [])) ≤ 546
unfolding signed_hex
whole-most negative n after = go (negative && ltb 0 n)
  where
    go : (b : Bool) → length (cond b (45 ∷ digits_of false 16 544 n) (digits_of false 16 544 n) ++ (after ∷ [])) ≤ 546
    go true = simp length-append (omega (arith, digits-length false 16 544 n))
    go false = simp length-append (omega (arith, digits-length false 16 544 n))
