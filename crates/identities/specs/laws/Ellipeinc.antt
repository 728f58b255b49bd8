-- Identities of ellipeinc that hold bit for bit: E(0, m) = 0, E(φ, 0) = φ, and E(-φ, m) = -E(φ, m) unless φ is a zero. Assumes nothing.
use Rattle.std.specs.Prelude.{◌≡◌, refl, ℕ, zero, suc, ◌+◌, ◌*◌, ◌<◌, Bool, true, false, not, cond, ◌&&◌, ◌||◌, ℤ, T, eqb, ltb, Float, Result, Ok, Err}
use Rattle.std.proofs.Common.{sym, ap, ap₂, ◌∙◌, arith, true≢false, ne_eqb, eqb→eq}
use Rattle.std.proofs.Math.Arith.{le→nltb}
use Rattle.std.specs.Float.{nan, inf, fin, binary64}
use Rattle.std.specs.Float.Ieee.{up, down, neg, mul, div, lt, le, eq, ne, of_bits, is_nan}
use Rattle.std.specs.Float.Ieee.Bits.{is_false}
use Rattle.std.specs.Float.Ieee.Scale.{finite}
use Rattle.laws.specs.Arithmetic.{◌⊗◌, ◌⊘◌, ◌<·◌, ◌≤·◌, ◌=·◌, ◌≠·◌, +0, +∞, -∞, π, 1·0, 2·0}
use Rattle.laws.specs.laws.Flags.{is_some}
use Rattle.laws.specs.Ladder.{held, passed}
use Rattle.answer.specs.Answer.{value_of}
use Rattle.answer.specs.declared.Answer.{Answer}
use Rattle.answer.specs.declared.Refusal.{Refusal}
use Rattle.answer.specs.declared.Answer.TheVariants.{One, Infinite}
use Rattle.answer.specs.declared.Refusal.TheVariants.{NotANumber, AboveOne}
use Rattle.whole.specs.Whole.{magnitude_of}
use Rattle.angle.specs.Sine.{sine_of}
use Rattle.legendre.specs.Domain.{by_domain}
use Rattle.legendre.specs.Ellipe.{ellipe_within, ellipe_of}
use Rattle.incomplete.specs.declared.Fold.{Fold}
use Rattle.answer.specs.Settle.{handed_of, unasked_of}
use Rattle.answer.specs.declared.Counted.{Counted}
use Rattle.incomplete.specs.Period.{far_out, folded_of}
use Rattle.ellipeinc.specs.Ellipeinc.{sign_of, itself_of, far_of, line_of, own_of, with_periods_of, by_recipe_of, reduced_of, on_size_of, counted_of, ellipeinc_of}
use Rattle.identities.specs.laws.Magnitude.{magnitude_nan, magnitude_neg}
use Rattle.identities.specs.laws.Signs.{mul-neg}
use Rattle.laws.specs.laws.Kinds.{differs_is}
use Rattle.identities.specs.Turned.{turn_of, turned_of}
use Rattle.identities.specs.laws.Odd.{same_kind, one-turned, after, rung, handed_odd}

abbrev answer : Counted → Result Answer Refusal
answer c = c.answer

-- ---- E(0, m) = 0 and E(φ, 0) = φ
pub at_origin : (φ m : Float) → (φ =· +0) ≡ true → ellipeinc_of φ m ≡ Ok (One +0)
unfolding ellipeinc_of counted_of
at_origin φ m h = ap answer (sym (held _ _ h refl))

own-answer : (φ : Float) → T (finite φ) → itself_of φ ≡ Ok (One φ)
unfolding itself_of handed_of is_nan
own-answer (fin s m e) h = sym (passed _ _ (differs_is (fin s m e)) refl)
own-answer nan h = elim h [ ]
own-answer (inf _) h = elim h [ ]

pub no_parameter : (φ m : Float) → (φ =· +0) ≡ false → T (finite φ) → (m =· +0) ≡ true → ellipeinc_of φ m ≡ Ok (One φ)
unfolding ellipeinc_of counted_of
no_parameter φ m h k z = ap answer (sym (passed _ _ h (held _ _ z refl))) ∙ own-answer φ k

-- ---- what -φ shares with φ
record Mirrored (φ : Float) : Type 0 where
  still : (neg φ =· +0) ≡ false
  sides : (neg φ <· +0) ≡ not (φ <· +0)

above_zero : (a z : ℕ) (b : Bool) → z ≡ 0 → (eqb a z && (b || eqb a 0)) ≡ false → 0 < a
above_zero (suc a) z b e h = omega arith
above_zero zero zero true e h = absurd (true≢false h)
above_zero zero zero false e h = absurd (true≢false h)
above_zero zero (suc z) b e h = absurd (let n : ⊥ = omega (arith, e) in n)

unequal : (a z : ℕ) (b : Bool) → 0 < a → z ≡ 0 → (eqb a z && b) ≡ false
unequal a z b h e = go (eqb a z) (eqb→eq a z)
  where
    go : (t : Bool) → (T t → a ≡ z) → (t && b) ≡ false
    go true f = let k = f tt in absurd (let n : ⊥ = omega (arith, e) in n)
    go false f = refl

not-below : (a z : ℕ) → z ≡ 0 → ltb a z ≡ false
not-below a z e = is_false (ltb a z) (le→nltb a z (omega (arith, e)))

mirrored_fin : (s : Bool) (m : ℕ) (e : ℤ) → (fin s m e =· +0) ≡ false → Mirrored (fin s m e)
unfolding eq lt neg of_bits
mirrored_fin true m e h =
    let z : 0 * 1 * down e ≡ 0 = omega arith in
    let p : 0 < m * up e * 1 = above_zero (m * up e * 1) (0 * 1 * down e) false z h in
    record { still = unequal _ _ _ p z; sides = not-below _ _ z ∙ sym (ap not (is_some _ (more (m * up e * 1) (0 * 1 * down e) p))) }
  where
    more : (a z : ℕ) → 0 < a → 0 < a + z
    more a z h = omega arith
mirrored_fin false m e h =
    let z : 0 * 1 * down e ≡ 0 = omega arith in
    let p : 0 < m * up e * 1 = above_zero (m * up e * 1) (0 * 1 * down e) true z h in
    record { still = unequal _ _ _ p z; sides = is_some _ (more (m * up e * 1) (0 * 1 * down e) p) ∙ sym (ap not (not-below _ _ z)) }
  where
    more : (a z : ℕ) → 0 < a → 0 < a + z
    more a z h = omega arith

mirrored_inf : (s : Bool) → Mirrored (inf s)
unfolding eq lt neg of_bits
mirrored_inf s = record { still = refl; sides = refl }

other_sign : (φ : Float) → (neg φ <· +0) ≡ not (φ <· +0) → sign_of (neg φ) ≡ neg (sign_of φ)
unfolding sign_of
other_sign φ h = ap (λ (b : Bool). cond b (neg 1·0) 1·0) h ∙ one-turned (φ <· +0)

itself_odd : (φ : Float) → itself_of (neg φ) ≡ turn_of (itself_of φ)
unfolding itself_of turn_of
itself_odd φ = rung turn_of _ (φ ≠· φ) _ _ _ _ (same_kind φ) refl (handed_odd _ φ refl)

far_odd : (sign size m : Float) → far_of (neg sign) size m ≡ turn_of (far_of sign size m)
unfolding far_of turn_of
far_odd sign size m = rung turn_of (1·0 <· m) (1·0 <· m) _ _ _ _ refl refl (handed_odd _ _ (mul-neg binary64 sign _))

line_odd : (sign size : Float) → line_of (neg sign) size ≡ turn_of (line_of sign size)
unfolding line_of
line_odd sign size = handed_odd _ _ (mul-neg binary64 sign _)

periods_odd : (sign m mm : Float) (met : Bool) (v : Float) → with_periods_of (neg sign) m mm met v ≡ turn_of (with_periods_of sign m mm met v)
unfolding with_periods_of turn_of
periods_odd sign m mm met v =
    rung turn_of (mm ≠· +0 && 1·0 <· m) (mm ≠· +0 && 1·0 <· m) _ _ _ _ refl refl
    (rung turn_of (not met) (not met) _ _ _ _ refl refl
    (rung turn_of (mm ≠· +0) (mm ≠· +0) _ _ _ _ refl (handed_odd _ _ (mul-neg binary64 sign _)) (handed_odd _ _ (mul-neg binary64 sign _))))

recipe_odd : (sign m : Float) (f : Fold) → by_recipe_of (neg sign) m f ≡ turned_of (by_recipe_of sign m f)
unfolding by_recipe_of turn_of
recipe_odd sign m f =
    let s = value_of (sine_of f.angle) in
    rung turned_of (1·0 ≤· m ⊗ (s ⊗ s)) (1·0 ≤· m ⊗ (s ⊗ s)) _ _ _ _ refl refl (after _ (periods_odd sign m _ _ _))

reduced_odd : (sign size m : Float) → reduced_of (neg sign) size m ≡ turned_of (reduced_of sign size m)
unfolding reduced_of
reduced_odd sign size m =
    let f = folded_of size in
    rung turned_of (own_of f.angle m) (own_of f.angle m) _ _ _ _ refl (after 0 (periods_odd sign m _ _ _)) (recipe_odd sign m f)

size_odd : (sign size m : Float) → on_size_of (neg sign) size m ≡ turned_of (on_size_of sign size m)
unfolding on_size_of
size_odd sign size m =
    rung turned_of (far_out <· size) (far_out <· size) _ _ _ _ refl (after 0 (far_odd sign size m))
    (rung turned_of (m =· 1·0) (m =· 1·0) _ _ _ _ refl (after 0 (line_odd sign size)) (reduced_odd sign size m))

-- ---- oddness, after as many rounds
odd_of : (φ m : Float) → (φ =· +0) ≡ false → Mirrored φ → counted_of (neg φ) m ≡ turned_of (counted_of φ m)
unfolding counted_of turn_of
odd_of φ m h k =
    sym (passed _ _ k.still refl)
    ∙ rung turned_of (m =· +0) (m =· +0) _ _ _ _ refl (after 0 (itself_odd φ))
    (rung turned_of _ (magnitude_of φ =· +∞) _ _ _ _ (ap (λ (a : Float). a =· +∞) (magnitude_neg φ)) (after 0 (ap (λ (s : Bool). Ok (Infinite s)) k.sides))
    (rung turned_of _ (φ ≠· φ && 1·0 <· m) _ _ _ _ (ap (λ (b : Bool). b && 1·0 <· m) (same_kind φ)) refl
    (rung turned_of _ (φ ≠· φ || m ≠· m) _ _ _ _ (ap (λ (b : Bool). b || m ≠· m) (same_kind φ)) refl
    (rung turned_of (m =· -∞) (m =· -∞) _ _ _ _ refl (after 0 (ap (λ (s : Bool). Ok (Infinite s)) k.sides))
    (ap₂ (λ (s a : Float). on_size_of s a m) (other_sign φ k.sides) (magnitude_neg φ) ∙ size_odd (sign_of φ) (magnitude_of φ) m)))))
    ∙ ap turned_of (passed _ _ h refl)

-- NaN is refused, whatever m is
abbrev refusals : Float → Counted
refusals m = cond (m =· +0) (unasked_of (Err NotANumber)) (cond (1·0 <· m) (unasked_of (Err AboveOne)) (unasked_of (Err NotANumber)))

nan_refused : (m : Float) → counted_of nan m ≡ refusals m
unfolding counted_of itself_of ne eq le lt of_bits
nan_refused m = ap (λ (a : Float). cond (m =· +0) (unasked_of (Err NotANumber)) (cond (a =· +∞) (unasked_of (Ok (Infinite false))) (cond (1·0 <· m) (unasked_of (Err AboveOne)) (unasked_of (Err NotANumber))))) magnitude_nan

odd_nan : (m : Float) → counted_of (neg nan) m ≡ turned_of (counted_of nan m)
unfolding neg turn_of
odd_nan m = nan_refused m ∙ rung turned_of (m =· +0) (m =· +0) _ _ _ _ refl refl (rung turned_of (1·0 <· m) (1·0 <· m) _ _ _ _ refl refl refl) ∙ sym (ap turned_of (nan_refused m))

pub counted_odd : (φ m : Float) → (φ =· +0) ≡ false → counted_of (neg φ) m ≡ turned_of (counted_of φ m)
counted_odd nan m h = odd_nan m
counted_odd (inf s) m h = odd_of (inf s) m h (mirrored_inf s)
counted_odd (fin s k e) m h = odd_of (fin s k e) m h (mirrored_fin s k e h)

pub odd : (φ m : Float) → (φ =· +0) ≡ false → ellipeinc_of (neg φ) m ≡ turn_of (ellipeinc_of φ m)
unfolding ellipeinc_of
odd φ m h = ap answer (counted_odd φ m h)

-- ---- the rule for m = -∞ may stand before step 5 or after it: E(-∞) is +∞, and so is what step 5 makes of it
infinite_e : value_of (ellipe_of -∞) ≡ inf false
unfolding value_of ellipe_of ellipe_within by_domain ne eq lt of_bits
infinite_e = refl

-- a size above 2^52 times +∞, with the sign of φ
far_product : (size : Float) → (far_out <· size) ≡ true → (s : Bool) → handed_of (cond s (neg 1·0) 1·0 ⊗ (size ⊗ (2·0 ⊗ inf false ⊘ π))) ≡ Ok (Infinite s)
unfolding handed_of mul div lt neg of_bits
far_product nan h s = absurd (true≢false (sym h))
far_product (inf true) h s = absurd (true≢false (sym h))
far_product (inf false) h true = refl
far_product (inf false) h false = refl
far_product (fin true m e) h s = absurd (true≢false (sym h))
far_product (fin false zero e) h s = absurd (no_room e h)
  where
    no_room : (e : ℤ) → ltb (1 * 4503599627370496 * down e) (0 * up e * 1) ≡ true → ⊥
    no_room e h = true≢false (sym h ∙ is_false (ltb (1 * 4503599627370496 * down e) (0 * up e * 1)) (le→nltb (1 * 4503599627370496 * down e) (0 * up e * 1) (omega arith)))
far_product (fin false (suc m) e) h s = ap (λ (b : Bool). handed_of (cond s (neg 1·0) 1·0 ⊗ cond b nan (inf false))) (ne_eqb (suc m) 0 (λ z. omega arith)) ∙ go s
  where
    go : (s : Bool) → handed_of (cond s (neg 1·0) 1·0 ⊗ inf false) ≡ Ok (Infinite s)
    go true = refl
    go false = refl

pub far-at_minus_infinity : (φ : Float) → (far_out <· magnitude_of φ) ≡ true → far_of (sign_of φ) (magnitude_of φ) -∞ ≡ Ok (Infinite (φ <· +0))
unfolding far_of sign_of lt of_bits
far-at_minus_infinity φ h = ap (λ (e : Float). handed_of (cond (φ <· +0) (neg 1·0) 1·0 ⊗ (magnitude_of φ ⊗ (2·0 ⊗ e ⊘ π)))) infinite_e ∙ far_product (magnitude_of φ) h (φ <· +0)
