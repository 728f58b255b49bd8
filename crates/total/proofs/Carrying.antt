-- A carry, or a borrow, goes up the limbs: what is left to carry is always in balance with what was asked. Assumes nothing.
use Rattle.std.proofs.Common.{◌≡◌, ℕ, zero, suc, ◌+◌, ◌-◌, ◌*◌, ◌/◌, ◌%◌, ◌^◌, ◌<◌, ◌≤◌, Bool, true, false, List, [], ◌∷◌, length, get_or, set, sym, refl, ap, ◌∙◌, subst, le_trans, le_of_eq, le_of_suc-le-suc, not-suc-le-zero, le_of_lt, lt_of_lt_of_le, mul_assoc, mul_comm, le_antisymm, mul-le-mul_left, mul-zero, mul-add, arith, pow_pos, pow_mono, pow-add, shl_lt, shr-shr, shr_lt}
use native.Mathlib.Nat.{mod-add-mod, mod-add-div, mul-div-mul_right}
use Rattle.total.specs.Total.{val, limbs_of, complement, N}
use Rattle.total.specs.Carry.{W, Balance}
use Rattle.total.specs.laws.Limbs.{Fit, W-pow, W-next, W-34, limbs_val, val_limbs, same-mod, same_limbs}
use Rattle.total.specs.laws.Units.{times-lt}

-- ---- one limb set
pub val-set : (l : List ℕ) (i z : ℕ) → i < length l → val (set l i z) + W i * get_or l i 0 ≡ val l + W i * z
unfolding val W
val-set [] i z h = absurd (not-suc-le-zero h)
val-set (x ∷ xs) zero z h = omega arith
val-set (x ∷ xs) (suc i) z h =
    omega (arith, simp mul-add at (ap (λ (t : ℕ). 0x1_0000_0000_0000_0000 * t) (val-set xs i z (le_of_suc-le-suc h))), mul_assoc 0x1_0000_0000_0000_0000 (W i) z, mul_assoc 0x1_0000_0000_0000_0000 (W i) (get_or xs i 0))

pub fit_set : (l : List ℕ) (i z : ℕ) → Fit l → z < 0x1_0000_0000_0000_0000 → Fit (set l i z)
fit_set [] i z f h j = f j
fit_set (x ∷ xs) zero z f h zero = h
fit_set (x ∷ xs) zero z f h (suc j) = f (suc j)
fit_set (x ∷ xs) (suc i) z f h zero = f zero
fit_set (x ∷ xs) (suc i) z f h (suc j) = fit_set xs i z (λ k. f (suc k)) h j

-- ---- a step at limb i, and the end
balanced : (away : Bool) (o o' t k w x y z c : ℕ) → o' + w * x ≡ o + w * z → Balance away z x y (0x1_0000_0000_0000_0000 * c) → Balance away o t k (w * y)
    → Balance away o' t k (0x1_0000_0000_0000_0000 * w * c)
balanced true o o' t k w x y z c s e b = let m = simp mul-add at (ap (λ (n : ℕ). w * n) e) in omega (arith, m)
balanced false o o' t k w x y z c s e b = let m = simp mul-add at (ap (λ (n : ℕ). w * n) e) in omega (arith, m)

pub next : (away : Bool) (l : List ℕ) (t k i y z c : ℕ) → i < length l → Balance away z (get_or l i 0) y (0x1_0000_0000_0000_0000 * c) → Balance away (val l) t k (W i * y)
    → Balance away (val (set l i z)) t k (W (i + 1) * c)
next away l t k i y z c h e b = rw (W-next i) (balanced away (val l) (val (set l i z)) t k (W i) (get_or l i 0) y z c (val-set l i z h) e b)

same : (away : Bool) (v t k c : ℕ) → k ≤ N → Balance away v t k (N * c) → v % N ≡ (t + complement away k) % N
unfolding complement
same true v t k c h b = same-mod v (t + (N - k)) 1 c (omega arith)
same false v t k c h b = same-mod v (t + k) c 0 (omega arith)

done : (away : Bool) (l : List ℕ) (t k c : ℕ) → length l ≡ 34 → Fit l → k ≤ N → Balance away (val l) t k (N * c) → l ≡ limbs_of (t + complement away k)
done away l t k c e f h b = limbs_val l e f ∙ same_limbs (val l) (t + complement away k) (same away (val l) t k c h b)

-- the carry is spent
pub spent : (away : Bool) (l : List ℕ) (t k i y : ℕ) → length l ≡ 34 → Fit l → k ≤ N → y ≡ 0 → Balance away (val l) t k (W i * y) → l ≡ limbs_of (t + complement away k)
spent away l t k i y e f h z b =
    done away l t k 0 e f h (subst (λ (n : ℕ). Balance away (val l) t k n) (ap (λ (n : ℕ). W i * n) z ∙ mul-zero (W i) ∙ sym (mul-zero N)) b)

-- or it leaves the last limb
pub gone : (away : Bool) (l : List ℕ) (t k i y : ℕ) → length l ≡ 34 → Fit l → k ≤ N → i ≤ 34 → 34 ≤ i → Balance away (val l) t k (W i * y) → l ≡ limbs_of (t + complement away k)
gone away l t k i y e f h p q b =
    done away l t k y e f h (subst (λ (n : ℕ). Balance away (val l) t k (n * y)) (ap W (le_antisymm p q) ∙ W-34) b)

-- a word at limb i is below N
pub reach : (i y : ℕ) → i < 34 → y < 0x1_0000_0000_0000_0000 → W i * y ≤ N
reach i y h b =
    let a : W i * y ≤ W i * 0x1_0000_0000_0000_0000 = mul-le-mul_left (W i) (le_of_lt b) in
    let m : W (i + 1) ≤ W 34 = rw (W-pow (i + 1), W-pow 34) (pow_mono (let g : 64 * (i + 1) ≤ 64 * 34 = omega arith in g)) in
    le_trans a (le_trans (le_of_eq (mul_comm (W i) 0x1_0000_0000_0000_0000 ∙ sym (W-next i))) (le_trans m (le_of_eq W-34)))

-- ---- three words, moved one after the other
moved_twice : (away : Bool) (t j k : ℕ) → j + k ≤ N → (t + complement away j + complement away k) % N ≡ (t + complement away (j + k)) % N
unfolding complement
moved_twice true t j k h = same-mod (t + (N - j) + (N - k)) (t + (N - (j + k))) 0 1 (omega arith)
moved_twice false t j k h = ap (λ (n : ℕ). n % N) (let e : t + j + k ≡ t + (j + k) = omega arith in e)

both : (away : Bool) (t j k n : ℕ) (l r : List ℕ) → j + k ≡ n → n ≤ N → l ≡ limbs_of (t + complement away j) → r ≡ limbs_of (val l + complement away k) → r ≡ limbs_of (t + complement away n)
both away t j k n l r e h a b =
    b ∙ same_limbs (val l + complement away k) (t + complement away n)
    (ap (λ (v : ℕ). (v + complement away k) % N) (ap val a ∙ val_limbs (t + complement away j))
    ∙ mod-add-mod (t + complement away j) N (complement away k)
    ∙ moved_twice away t j k (rw e h)
    ∙ ap (λ (m : ℕ). (t + complement away m) % N) e)

pub three : (away : Bool) (t i j k n : ℕ) (l m r : List ℕ) → i + j + k ≡ n → n ≤ N
    → l ≡ limbs_of (t + complement away i) → m ≡ limbs_of (val l + complement away j) → r ≡ limbs_of (val m + complement away k) → r ≡ limbs_of (t + complement away n)
three away t i j k n l m r e h a b c = both away t (i + j) k n m r e h (both away t i j (i + j) l m refl (omega arith) a b) c

-- ---- the words: a product of 128 digits, shifted by less than a limb
-- what a shift leaves above the digits
above : (p by : ℕ) → by < 64 → p / 2 / 2 ^ (127 - by) ≡ p * 2 ^ by / 2 ^ 128
above p by h = shr-shr p 1 (127 - by) ∙ up (127 - by) (omega arith)
  where
    up : (rest : ℕ) → 1 + rest + by ≡ 128 → p / 2 ^ (1 + rest) ≡ p * 2 ^ by / 2 ^ 128
    up rest e = sym (ap (λ (z : ℕ). p * 2 ^ by / z) (ap (λ (z : ℕ). 2 ^ z) (sym e) ∙ pow-add 2 (1 + rest) by) ∙ mul-div-mul_right p (2 ^ (1 + rest)) (pow_pos by))

pub words_are : (p by n : ℕ) → by < 64 → p ≡ n → val (p * 2 ^ by % 2 ^ 128 % 2 ^ 64 ∷ p * 2 ^ by % 2 ^ 128 / 2 ^ 64 ∷ p / 2 / 2 ^ (127 - by) ∷ []) ≡ n * 2 ^ by
unfolding val
words_are p by n h q = rw (← q, above p by h)
    (join 0x1_0000_0000_0000_0000 _ _ (p * 2 ^ by / 2 ^ 128) (p * 2 ^ by % 2 ^ 128) (p * 2 ^ by) (mod-add-div (p * 2 ^ by % 2 ^ 128) (2 ^ 64)) (mod-add-div (p * 2 ^ by) (2 ^ 128)))
  where
    join : (w low middle high x n : ℕ) → low + w * middle ≡ x → x + w * w * high ≡ n → low + w * (middle + w * (high + w * 0)) ≡ n
    join w low middle high x n e f = omega arith

-- the third word is below the shift
pub third_fits : (p by : ℕ) → by < 64 → p < 2 ^ 128 → p / 2 / 2 ^ (127 - by) < 2 ^ 64
third_fits p by h f =
    rw (shr-shr p 1 (127 - by))
    (lt_of_lt_of_le (shr_lt by (1 + (127 - by)) (subst (λ (z : ℕ). p < 2 ^ z) (let g : 128 ≡ by + (1 + (127 - by)) = omega arith in g) f)) (pow_mono (le_of_lt h)))

-- ---- and at their place
pub placed : (at by e k d : ℕ) (w : List ℕ) → length w ≡ 3 → 64 * at + by ≡ e → val w ≡ k * d * 2 ^ by → W at * get_or w 0 0 + W (at + 1) * get_or w 1 0 + W (at + 2) * get_or w 2 0 ≡ k * (d * 2 ^ e)
unfolding val
placed at by e k d [] n p v = absurd (omega arith)
placed at by e k d (x ∷ []) n p v = absurd (omega arith)
placed at by e k d (x ∷ y ∷ []) n p v = absurd (omega arith)
placed at by e k d (x ∷ y ∷ z ∷ (u ∷ us)) n p v = absurd (omega arith)
placed at by e k d (x ∷ y ∷ z ∷ []) n p v =
    weigh 0x1_0000_0000_0000_0000 (W at) (W (at + 1)) (W (at + 2)) x y z (k * d * 2 ^ by) (W-next at) (ap W (let g : at + 2 ≡ at + 1 + 1 = omega arith in g) ∙ W-next (at + 1)) v
    ∙ raise (W at) k d (2 ^ by) (2 ^ e) (ap (λ (w : ℕ). w * 2 ^ by) (W-pow at) ∙ sym (pow-add 2 (64 * at) by) ∙ ap (λ (n : ℕ). 2 ^ n) p)
  where
    weigh : (b w w' w'' x y z n : ℕ) → w' ≡ b * w → w'' ≡ b * w' → x + b * (y + b * (z + b * 0)) ≡ n → w * x + w' * y + w'' * z ≡ w * n
    weigh b w w' w'' x y z n e f g = rw (f, e, sym g) (omega arith)

    raise : (w k d p q : ℕ) → w * p ≡ q → w * (k * d * p) ≡ k * (d * q)
    raise w k d p q e = rw (sym e) (omega arith)

-- and they are below N
pub small : (k d e : ℕ) → k < 2 ^ 16 → d < 2 ^ 53 → e ≤ 2045 → k * (d * 2 ^ e) ≤ N
unfolding N
small k d e b h g = le_trans (le_of_lt (times-lt k (d * 2 ^ e) (53 + e) b (shl_lt 53 e h))) (pow_mono (let m : 16 + (53 + e) ≤ 2176 = omega arith in m))
