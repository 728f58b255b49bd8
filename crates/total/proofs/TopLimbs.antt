-- The highest limbs are what the one rounding is handed. Assumes nothing.
use Rattle.std.proofs.Common.{◌≡◌, ℕ, zero, suc, ◌+◌, ◌-◌, ◌*◌, ◌^◌, ◌<◌, ◌≤◌, Bool, true, false, cond, ltb, leb, List, [], ◌∷◌, Option, None, Some, MatchOption, unwrap_or, max, length, get_or, take, sym, refl, ap, ◌∙◌, subst, le_trans, le_of_eq, lt_of_lt_of_le, mod-eq_of_lt, mul-le-mul_left, arith, lit<, lit≤, take_all, pow_pos}
use Rattle.std.specs.Option.{is_some as has_some}
use Rattle.laws.specs.laws.Flags.{is_some, is_none}
use borrow.Author.Tests.{lt-leb}
use lib.Ieee.{round, binary64}
use Rattle.bits.specs.Rounded.{Kept, rounded_of}
use Rattle.bits.specs.laws.Keeping.{kept-digits, kept_self, kept_scaled}
use Rattle.bits.specs.laws.Once.{rounded_kept, rounded_exact, round-shift}
use Rattle.total.specs.Total.{val, N, Half, limbs_of, complement, size_of_total, round_total}
use Rattle.total.specs.Carry.{W}
use Rattle.total.specs.laws.Limbs.{Fit, W-pow, W-next, val-lt, val_limbs, val_next, fit_first}
use Rattle.total.proofs.FirstLimbs.{val-none, some_at}

take-most : (n : ℕ) (l : List ℕ) → val (take n l) ≤ val l
unfolding val
take-most zero l = omega arith
take-most (suc n) [] = omega arith
take-most (suc n) (x ∷ xs) = omega (arith, take-most n xs)

-- ---- to the one rounding
-- the two lowest limbs, which are exact
round_exact : (s : Bool) (l : List ℕ) → 1 < length l → val (take 2 l) ≡ val l → rounded_of s (get_or l 1 0 * 2 ^ 64 + get_or l 0 0) false 1266 ≡ round binary64 s (val l) (2 ^ 1074)
unfolding W
round_exact s l h e =
    let x = get_or l 1 0 in
    let y = get_or l 0 0 in
    let w = x * 2 ^ 64 + y in
    let two : val (take 2 l) ≡ val (take 1 l) + W 1 * x = val_next l 1 h in
    let one : val (take 1 l) ≡ val (take 0 l) + W 0 * y = val_next l 0 (omega arith) in
    let v : val l ≡ w = omega (arith, e, two, one, val-none l) in
    rounded_exact s (w * 2 ^ 1266) w 1266 (kept_self w 1266)
    ∙ round-shift binary64 s w 1074 1266
    ∙ ap (λ (n : ℕ). round binary64 s n (2 ^ 1074)) (sym v)

-- two limbs, and those below
round-two : (s : Bool) (l : List ℕ) (t : ℕ) (more : Bool) → 0 < t → t < length l → Fit l → val (take (t + 1) l) ≡ val l → 0 < get_or l t 0 → more ≡ ltb 0 (val (take (t - 1) l))
    → rounded_of s (get_or l t 0 * 2 ^ 64 + get_or l (t - 1) 0) more (64 * (t - 1) + 1266) ≡ round binary64 s (val l) (2 ^ 1074)
round-two s l t more p h f e top m =
    let j = t - 1 in
    let x = get_or l t 0 in
    let y = get_or l j 0 in
    let w = x * 2 ^ 64 + y in
    let r = val (take j l) in
    let tj : t ≡ j + 1 = omega arith in
    let a : val l ≡ val (take t l) + W t * x = sym e ∙ val_next l t h in
    let b : val (take t l) ≡ r + W j * y = ap (λ (n : ℕ). val (take n l)) tj ∙ val_next l j (omega arith) in
    let c : W t ≡ 0x1_0000_0000_0000_0000 * W j = ap W tj ∙ W-next j in
    let v : val l ≡ w * 2 ^ (64 * j) + r = a ∙ (λ i. b i + c i * x) ∙ join r (W j) y x ∙ ap (λ (n : ℕ). w * n + r) (W-pow j) in
    let k : Kept (val l) w (64 * j) more = kept-digits (val l) w (64 * j) r more v (subst (λ (n : ℕ). r < n) (W-pow j) (fit_first l j (omega arith) f)) (sym m) in
    rounded_kept s (val l * 2 ^ 1266) w (64 * j + 1266) more (kept_scaled (val l) w (64 * j) 1266 more k) (le_trans (lit≤ tt) (enough x y top))
    ∙ round-shift binary64 s (val l) 1074 1266
  where
    join : (r w y x : ℕ) → r + w * y + 0x1_0000_0000_0000_0000 * w * x ≡ (x * 2 ^ 64 + y) * w + r
    join r w y x = omega arith

    enough : (x y : ℕ) → 0 < x → 2 ^ 64 ≤ x * 2 ^ 64 + y
    enough x y h = omega arith

-- what the search for the highest limb finds
abbrev pub Found : List ℕ → Option ℕ → Type 0
Found l r = MatchOption r (val l ≡ 0) (λ at. (at < length l) × (val (take (at + 1) l) ≡ val l) × (0 < get_or l at 0))

-- whether it finds one says whether the number is not zero
pub found_some : (l : List ℕ) (r : Option ℕ) → Found l r → has_some r ≡ ltb 0 (val l)
found_some l None z = sym (is_none (val l) (le_of_eq z))
found_some l (Some at) h =
    let v : 0 < val (take (at + 1) l) = some_at l at (at + 1) (omega arith) h.2 in
    sym (is_some (val l) (subst (λ (n : ℕ). 0 < n) h.1 v))

-- limb t and the one below it, and whether more is left, round as the number does
abbrev pub Rounds : Bool → List ℕ → ℕ → Bool → Type 0
Rounds s l t more = rounded_of s (get_or l t 0 * 2 ^ 64 + get_or l (t - 1) 0) more (64 * (t - 1) + 1266) ≡ round binary64 s (val l) (2 ^ 1074)

-- the limb that it finds, or one above it, is the higher of two
pub round_found : (s : Bool) (l : List ℕ) (r : Option ℕ) (t : ℕ) (more : Bool) → length l ≡ 34 → Fit l → Found l r → t ≡ max (unwrap_or r 0) 1 → more ≡ ltb 0 (val (take (t - 1) l))
    → Rounds s l t more
round_found s l r t more e f h k m = by_place r h k
  where
    at-one : t ≡ 1 → val (take 1 l) ≡ val l → Rounds s l t more
    at-one z v =
        let two : val (take 2 l) ≡ val l = omega (arith, v, val_next l 1 (omega arith), take-most 2 l) in
        let none : more ≡ false = m ∙ ap (λ (n : ℕ). ltb 0 (val (take (n - 1) l))) z ∙ is_none (val (take 0 l)) (le_of_eq (val-none l)) in
        subst (λ (n : ℕ). Rounds s l n more) (sym z) (subst (λ (b : Bool). Rounds s l 1 b) (sym none) (round_exact s l (omega arith) two))

    by_place : (r : Option ℕ) → Found l r → t ≡ max (unwrap_or r 0) 1 → Rounds s l t more
    by_place None z k = at-one k (let low = take-most 1 l in omega (arith, low, z))
    by_place (Some zero) h k = at-one k h.1
    by_place (Some (suc j)) h k =
        let z : t ≡ suc j = omega arith in
        round-two s l t more (omega arith) (omega arith) f (subst (λ (n : ℕ). val (take (n + 1) l) ≡ val l) (sym z) h.1) (subst (λ (n : ℕ). 0 < get_or l n 0) (sym z) h.2) m

-- ---- the sign
at_least : (w h H x a : ℕ) → w * h ≡ H → h ≤ x → H ≤ a + w * x
at_least w h H x a e l = let m : w * h ≤ w * x = mul-le-mul_left w l in omega arith

at_most : (w h H x a : ℕ) → w * h ≡ H → a < w → x < h → a + w * x < H
at_most w h H x a e b l = let m : w * (x + 1) ≤ w * h = mul-le-mul_left w (let k : x + 1 ≤ h = omega arith in k) in omega arith

half_is : W 33 * 0x8000_0000_0000_0000 ≡ Half
unfolding W Half
half_is = refl

top_of : (l : List ℕ) → length l ≡ 34 → val l ≡ val (take 33 l) + W 33 * get_or l 33 0
top_of l e = ap val (sym (take_all 34 l (le_of_eq e))) ∙ val_next l 33 (subst (λ (n : ℕ). 33 < n) (sym e) (lit< tt))

-- below zero, by the highest limb
pub plus : (l : List ℕ) → length l ≡ 34 → Fit l → get_or l 33 0 < 0x8000_0000_0000_0000 → leb Half (val l) ≡ false
plus l e f h =
    lt-leb Half (val l)
    (subst (λ (v : ℕ). v < Half) (sym (top_of l e)) (at_most (W 33) 0x8000_0000_0000_0000 Half (get_or l 33 0) (val (take 33 l)) half_is (fit_first l 33 (subst (λ (n : ℕ). 33 ≤ n) (sym e) (lit≤ tt)) f) h))

pub minus : (l : List ℕ) → length l ≡ 34 → 0x8000_0000_0000_0000 ≤ get_or l 33 0 → Half ≤ val l
minus l e h = subst (λ (v : ℕ). Half ≤ v) (sym (top_of l e)) (at_least (W 33) 0x8000_0000_0000_0000 Half (get_or l 33 0) (val (take 33 l)) half_is h)

half_pos : 0 < Half
unfolding Half
half_pos = pow_pos 2175

-- then the size is N less it
pub size_minus : (l m : List ℕ) → length l ≡ 34 → Fit l → Half ≤ val l → m ≡ limbs_of (N - val l) → val m ≡ N - val l
size_minus l m e f a k = ap val k ∙ val_limbs (N - val l) ∙ mod-eq_of_lt (less N (val l) (lt_of_lt_of_le half_pos a) (val-lt l e f))
  where
    less : (n v : ℕ) → 0 < v → v < n → n - v < n
    less n v p h = omega arith

-- a sign and a size are what is rounded
pub round-signed : (v : ℕ) → round binary64 (leb Half v) (size_of_total v) (2 ^ 1074) ≡ round_total v
unfolding size_of_total round_total
round-signed v = go (leb Half v)
  where
    go : (b : Bool) → round binary64 b (cond b (N - v) v) (2 ^ 1074) ≡ cond b (round binary64 true (N - v) (2 ^ 1074)) (round binary64 false v (2 ^ 1074))
    go true = refl
    go false = refl

-- ---- digits turned over, and 1 added
pub less_from_turned : (t v : ℕ) (r : List ℕ) → t + v + 1 ≡ N → r ≡ limbs_of (t + complement false (W 0 * 1)) → r ≡ limbs_of (N - v)
unfolding complement W
less_from_turned t v r e h = h ∙ ap limbs_of (omega arith)
