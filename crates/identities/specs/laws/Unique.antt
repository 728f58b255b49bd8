-- One solution: a value has one set of parts, and a number one pair of limbs. Assumes nothing.
use Rattle.std.specs.Prelude.{◌≡◌, refl, Bool, true, false, ℕ, ◌+◌, ◌-◌, ◌*◌, ◌^◌, ◌≤◌, ◌<◌, Float}
use Rattle.std.proofs.Common.{sym, ap, ◌∙◌, mul_assoc, mul-le-mul, arith, pow-add, pow_pos, pow_mono}
use Rattle.std.proofs.Math.Nat.{eq_of_mul-eq-mul_right}
use Rattle.std.specs.Float.{nan, inf, fin}
use Rattle.std.specs.Float.Ieee.{down}
use Rattle.std.specs.Float.Ieee.Fits.{down_pos}
use Rattle.std.specs.Float.Ieee.Exact.{HasValue}
use Rattle.std.specs.Float.Ieee.Scale.{finite}
use Rattle.bits.specs.Wide.{Halves}
use Rattle.bits.specs.Parts.{Decoded, PartsOf}

-- ---- two limbs
pub halves_unique : (n h l h' l' : ℕ) → Halves n h l → Halves n h' l' → (h ≡ h') × (l ≡ l')
halves_unique n h l h' l' a b = let x = a.whole in let y = b.whole in let p = a.low_fits in let q = b.low_fits in (omega arith, omega arith)

-- ---- the parts
same-value : (x : Float) (s t : Bool) (a b c : ℕ) → 0 < c → HasValue x s a c → HasValue x t b c → (s ≡ t) × (a ≡ b)
same-value (fin u m e) s t a b c C h k = (sym h.0 ∙ k.0, eq_of_mul-eq-mul_right (down e) (down_pos e) a b (sym h.1 ∙ k.1))
same-value nan s t a b c C h k = elim h [ ]
same-value (inf _) s t a b c C h k = elim h [ ]

-- a smaller exponent would leave the larger one's leading digit no room
no_smaller : (d e d' e' : ℕ) → d < 2 ^ 53 → 2 ^ 52 ≤ d' → e < e' → d * 2 ^ e ≡ d' * 2 ^ e' → ⊥
no_smaller d e d' e' a b l q =
    let j = e' - e in
    let x : d ≡ d' * 2 ^ j = eq_of_mul-eq-mul_right (2 ^ e) (pow_pos e) d (d' * 2 ^ j) (q ∙ ap (λ (y : ℕ). d' * 2 ^ y) (let z : e' ≡ j + e = omega arith in z) ∙ ap (λ (y : ℕ). d' * y) (pow-add 2 j e) ∙ sym (mul_assoc d' (2 ^ j) (2 ^ e))) in
    let y : 2 ^ 52 * 2 ^ 1 ≤ d' * 2 ^ j = mul-le-mul b (pow_mono (let z : 1 ≤ j = omega arith in z)) in
    omega arith

above : (i j : ℕ) → i < j → 0 < j
above i j h = omega arith

same_exponent : (d e d' e' : ℕ) → d < 2 ^ 53 → d' < 2 ^ 53 → (0 < e → 2 ^ 52 ≤ d) → (0 < e' → 2 ^ 52 ≤ d') → d * 2 ^ e ≡ d' * 2 ^ e' → e ≡ e'
same_exponent d e d' e' a a' b b' q =
    let x : e < e' → ⊥ = λ l. no_smaller d e d' e' a (b' (above e e' l)) l q in
    let y : e' < e → ⊥ = λ l. no_smaller d' e' d e a' (b (above e' e l)) l (sym q) in
    omega arith

pub decoded_unique : (x : Float) (s s' : Bool) (d e d' e' : ℕ) → Decoded x s d e → Decoded x s' d' e' → (s ≡ s') × (d ≡ d') × (e ≡ e')
decoded_unique x s s' d e d' e' p q =
    let v = same-value x s s' (d * 2 ^ e) (d' * 2 ^ e') (2 ^ 1074) (pow_pos 1074) p.value q.value in
    let w = same_exponent d e d' e' p.digits q.digits p.lead q.lead v.1 in
    (v.0, eq_of_mul-eq-mul_right (2 ^ e') (pow_pos e') d d' (ap (λ (y : ℕ). d * 2 ^ y) (sym w) ∙ v.1), w)

pub parts_unique : (x : Float) (f f' s s' : Bool) (d e d' e' : ℕ) → PartsOf x f s d e → PartsOf x f' s' d' e' → (f ≡ f') × (s ≡ s') × (d ≡ d') × (e ≡ e')
parts_unique x f f' s s' d e d' e' p q = go (finite x) refl
  where
    go : (b : Bool) → finite x ≡ b → (f ≡ f') × (s ≡ s') × (d ≡ d') × (e ≡ e')
    go true h = let u = decoded_unique x s s' d e d' e' (p.decoded h) (q.decoded h) in (p.kind ∙ sym q.kind, u.0, u.1, u.2)
    go false h = let u = p.nothing h in let v = q.nothing h in (p.kind ∙ sym q.kind, u.0 ∙ sym v.0, u.1 ∙ sym v.1, u.2 ∙ sym v.2)
