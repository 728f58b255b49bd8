-- Limbs and the number that they stand for: each has one of the other, modulo N. Assumes nothing.
use Rattle.std.specs.Prelude.{◌≡◌, ℕ, zero, suc, ◌+◌, ◌*◌, ◌/◌, ◌%◌, ◌^◌, ◌<◌, ◌≤◌, List, [], ◌∷◌, length, take, slice_index, slice_set, refl}
use Rattle.std.proofs.Common.{ap, ◌∙◌, sym, subst, mod-lt, mod-eq_of_lt, zero-add, mul_comm, mul-add, mul_assoc, le_of_suc-le-suc, not-suc-le-zero, add-one, arith, pow_pos, pow-add, lit<, length-set, length-take-le, get_or-set_same}
use Rattle.std.proofs.Math.Nat.{add-mul-mod_self_left, add-mul-div_left, div-eq_of_lt, mod-one}
use Rattle.std.proofs.lemmas.Nat.{mod-pow-add}
use Rattle.std.proofs.lemmas.List.{take-set-le}
use Rattle.total.specs.Total.{val, lowest, limbs_of, N}
use Rattle.total.specs.Carry.{W}

-- each limb is below 2^64
abbrev pub Fit : List ℕ → Type 0
Fit l = (i : ℕ) → slice_index l i < 0x1_0000_0000_0000_0000

-- ---- weights
pub W-pow : (n : ℕ) → W n ≡ 2 ^ (64 * n)
unfolding W
W-pow zero = refl
W-pow (suc n) = rw (W-pow n) (sym (ap (λ (t : ℕ). 2 ^ t) (let h : 64 * suc n ≡ 64 + 64 * n = omega arith in h) ∙ pow-add 2 64 (64 * n)))

pub W-next : (i : ℕ) → W (i + 1) ≡ 0x1_0000_0000_0000_0000 * W i
unfolding W
W-next i = rw add-one

pub W-pos : (n : ℕ) → 0 < W n
W-pos n = rw (W-pow n) (pow_pos (64 * n))

pub W-34 : W 34 ≡ N
unfolding W N
W-34 = refl

pub N-pos : 0 < N
unfolding N
N-pos = pow_pos 2176

-- ---- a number's limbs
pub length-lowest : (k n : ℕ) → length (lowest k n) ≡ k
unfolding lowest
length-lowest zero n = refl
length-lowest (suc k) n = ap suc (length-lowest k (n / 0x1_0000_0000_0000_0000))

pub fit_lowest : (k n : ℕ) → Fit (lowest k n)
unfolding lowest
fit_lowest zero n i = lit< tt
fit_lowest (suc k) n zero = mod-lt n (lit< tt)
fit_lowest (suc k) n (suc i) = fit_lowest k (n / 0x1_0000_0000_0000_0000) i

pub val-lowest : (k n : ℕ) → val (lowest k n) ≡ n % W k
unfolding val lowest W
val-lowest zero n = sym (mod-one n)
val-lowest (suc k) n =
    let q = n / 0x1_0000_0000_0000_0000 in
    let r = n % 0x1_0000_0000_0000_0000 in
    let w : 0x1_0000_0000_0000_0000 * W k ≡ 2 ^ (64 * k + 64) = rw (W-pow k, pow-add 2 (64 * k) 64) (mul_comm 0x1_0000_0000_0000_0000 (2 ^ (64 * k))) in
    let e : n % (0x1_0000_0000_0000_0000 * W k) ≡ q % W k * 0x1_0000_0000_0000_0000 + r = rw (w, W-pow k) (mod-pow-add n (64 * k) 64) in
    rw (val-lowest k q, e) (join (q % W k) r)
  where
    join : (m r : ℕ) → r + 0x1_0000_0000_0000_0000 * m ≡ m * 0x1_0000_0000_0000_0000 + r
    join m r = omega arith

pub lowest-val : (l : List ℕ) → Fit l → lowest (length l) (val l) ≡ l
unfolding val lowest
lowest-val [] f = refl
lowest-val (x ∷ xs) f =
    let a : (x + 0x1_0000_0000_0000_0000 * val xs) % 0x1_0000_0000_0000_0000 ≡ x = add-mul-mod_self_left x 0x1_0000_0000_0000_0000 (val xs) ∙ mod-eq_of_lt (f zero) in
    let b : (x + 0x1_0000_0000_0000_0000 * val xs) / 0x1_0000_0000_0000_0000 ≡ val xs = add-mul-div_left x (val xs) (lit< tt) ∙ ap (λ (z : ℕ). z + val xs) (div-eq_of_lt (f zero)) ∙ zero-add (val xs) in
    rw (a, b, lowest-val xs (λ i. f (suc i)))

pub val-below : (l : List ℕ) → Fit l → val l < W (length l)
val-below l f =
    let e : val l ≡ val l % W (length l) = sym (ap val (lowest-val l f)) ∙ val-lowest (length l) (val l) in
    rw e (mod-lt (val l) (W-pos (length l)))

-- ---- modulo N
pub val_limbs : (n : ℕ) → val (limbs_of n) ≡ n % N
unfolding limbs_of
val_limbs n = val-lowest 34 n ∙ ap (λ (w : ℕ). n % w) W-34

pub limbs_val : (l : List ℕ) → length l ≡ 34 → Fit l → l ≡ limbs_of (val l)
unfolding limbs_of
limbs_val l e f = sym (lowest-val l f) ∙ ap (λ (k : ℕ). lowest k (val l)) e

pub limbs_mod : (n : ℕ) → limbs_of (n % N) ≡ limbs_of n
unfolding limbs_of
limbs_mod n =
    ap limbs_of (sym (val_limbs n))
    ∙ sym (limbs_val (lowest 34 n) (length-lowest 34 n) (fit_lowest 34 n))

pub same-mod : (x y c d : ℕ) → x + N * c ≡ y + N * d → x % N ≡ y % N
same-mod x y c d e = sym (add-mul-mod_self_left x N c) ∙ ap (λ (t : ℕ). t % N) e ∙ add-mul-mod_self_left y N d

pub same_limbs : (x y : ℕ) → x % N ≡ y % N → limbs_of x ≡ limbs_of y
same_limbs x y e = sym (limbs_mod x) ∙ ap limbs_of e ∙ limbs_mod y

pub val-lt : (l : List ℕ) → length l ≡ 34 → Fit l → val l < N
val-lt l e f = subst (λ (w : ℕ). val l < w) (ap W e ∙ W-34) (val-below l f)

-- ---- the number of the first limbs, and one limb more
one_more_lem : (l : List ℕ) (i : ℕ) → i < length l → val (take (suc i) l) ≡ val (take i l) + W i * slice_index l i
unfolding val W
one_more_lem [] i h = absurd (not-suc-le-zero h)
one_more_lem (x ∷ xs) zero h = omega arith
one_more_lem (x ∷ xs) (suc i) h = rw (one_more_lem xs i (le_of_suc-le-suc h), mul-add, mul_assoc) (omega arith)

pub val_next : (l : List ℕ) (i : ℕ) → i < length l → val (take (i + 1) l) ≡ val (take i l) + W i * slice_index l i
val_next l i h = rw add-one (one_more_lem l i h)

pub val-set_next : (l : List ℕ) (i z : ℕ) → i < length l → val (take (i + 1) (slice_set l i z)) ≡ val (take i l) + W i * z
val-set_next l i z h =
    rw (add-one, one_more_lem (slice_set l i z) i (omega (arith, length-set l i z)), take-set-le i l i z (omega arith), get_or-set_same l i z 0 h)

-- ---- the first limbs alone: they fit, and so they are below the next weight
pub fit_take : (l : List ℕ) (n : ℕ) → Fit l → Fit (take n l)
fit_take l zero f i = lit< tt
fit_take [] (suc n) f i = lit< tt
fit_take (x ∷ xs) (suc n) f zero = f zero
fit_take (x ∷ xs) (suc n) f (suc i) = fit_take xs n (λ k. f (suc k)) i

pub fit_first : (l : List ℕ) (n : ℕ) → n ≤ length l → Fit l → val (take n l) < W n
fit_first l n h f = subst (λ (k : ℕ). val (take n l) < W k) (length-take-le n l h) (val-below (take n l) (fit_take l n f))
