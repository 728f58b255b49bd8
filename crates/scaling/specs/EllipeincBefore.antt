-- ellipeinc as it was before it scaled, with the steps of 02's [7] and the rounds of [3]; where it does not scale it is the same. Definitions only.
use Rattle.std.specs.Prelude.{◌+◌, ◌≡◌, true, false, cond, ◌||◌, ◌&&◌, T, Float, Ok, Err}
use Rattle.std.specs.Float.{binary64}
use Rattle.std.specs.Float.Ieee.{fits}
use Rattle.laws.specs.Arithmetic.{◌⊕◌, ◌⊖◌, ◌⊗◌, ◌⊘◌, ◌<·◌, ◌≤·◌, ◌=·◌, ◌≠·◌, +0, +∞, -∞, 1·0, 3·0}
use Rattle.laws.specs.Ladder.{when◌gives◌else◌}
use Rattle.whole.specs.Whole.{magnitude_of}
use Rattle.root.specs.Root.{root_of}
use Rattle.rd.specs.Rd.{rd_of}
use Rattle.answer.specs.Answer.{value_of}
use Rattle.answer.specs.Settle.{unasked_of}
use Rattle.answer.specs.declared.Answer.TheVariants.{One, Infinite}
use Rattle.answer.specs.declared.Refusal.TheVariants.{NotANumber, AboveOne, Beyond}
use Rattle.answer.specs.declared.Counted.{Counted}
use Rattle.answer.specs.declared.Term.{Term}
use Rattle.angle.specs.Sine.{sine_of}
use Rattle.angle.specs.Cosine.{cosine_of}
use Rattle.incomplete.specs.Period.{far_out, folded_of}
use Rattle.incomplete.specs.Scaling.{large_of}
use Rattle.incomplete.specs.declared.Fold.{Fold}
use Rattle.ellipeinc.specs.Ellipeinc.{sign_of, itself_of, far_of, line_of, own_of, two_terms_from, two_terms_of, cancelling, above_of, with_periods_of, counted_of}
use Rattle.scaling.specs.Before.{rf_before, angle_of, C, C1, Given}

-- for m < 0, the two terms (DLMF 19.25.9)
unfoldable pub two_terms_before : Float → Float → Float → Term
two_terms_before m c c1 =
    let f = rf_before c1 (c ⊖ m) c in
    let d = rd_of c1 (c ⊖ m) c in
    two_terms_from m f d d.value

-- for m > 0, the three (DLMF 19.25.10)
unfoldable pub above_before : Float → Float → Float → Term
above_before m c c1 =
    let f = rf_before c1 c (c ⊖ m) in
    let d = rd_of c1 c (c ⊖ m) in
    record { value = (1·0 ⊖ m) ⊗ f.value ⊕ m ⊗ (1·0 ⊖ m) ⊗ d.value ⊘ 3·0 ⊕ m ⊗ root_of (c1 ⊘ (c ⊗ (c ⊖ m))); met = f.met && d.met; rounds = f.rounds + d.rounds }

unfoldable pub recipe_before : Float → Float → Float → Term
recipe_before m s2 c2 = cond (m <· +0) (two_terms_before m (1·0 ⊘ s2) (c2 ⊘ s2)) (above_before m (1·0 ⊘ s2) (c2 ⊘ s2))

unfoldable pub by_recipe_before : Float → Float → Fold → Counted
by_recipe_before sign m f =
    let s = value_of (sine_of f.angle) in
    let c = value_of (cosine_of f.angle) in
    let e = recipe_before m (s ⊗ s) (c ⊗ c) in
    when 1·0 ≤· m ⊗ (s ⊗ s) gives unasked_of (Err Beyond) else
    record { answer = with_periods_of sign m f.mm e.met (f.s ⊗ e.value); rounds = e.rounds }

unfoldable pub reduced_before : Float → Float → Float → Counted
reduced_before sign size m =
    let f = folded_of size in
    when own_of f.angle m gives unasked_of (with_periods_of sign m f.mm true (f.s ⊗ f.angle)) else
    by_recipe_before sign m f

unfoldable pub on_size_before : Float → Float → Float → Counted
on_size_before sign size m =
    when far_out <· size gives unasked_of (far_of sign size m) else
    when m =· 1·0 gives unasked_of (line_of sign size) else
    reduced_before sign size m

unfoldable pub ellipeinc_before : Float → Float → Counted
ellipeinc_before φ m =
    when φ =· +0 gives unasked_of (Ok (One +0)) else
    when m =· +0 gives unasked_of (itself_of φ) else
    when magnitude_of φ =· +∞ gives unasked_of (Ok (Infinite (φ <· +0))) else
    when φ ≠· φ && 1·0 <· m gives unasked_of (Err AboveOne) else
    when φ ≠· φ || m ≠· m gives unasked_of (Err NotANumber) else
    when m =· -∞ gives unasked_of (Ok (Infinite (φ <· +0))) else
    on_size_before (sign_of φ) (magnitude_of φ) m

-- ---- where nothing is scaled, every bit, every refusal and every number of rounds is as before

-- ellipeinc does not scale: m is not above 2^12, and for m < 0 neither C nor |m| is above 2^200
pub record Unscaled (φ m : Float) : Type 0 where
  pub not-above : cancelling <· m ≡ false
  pub not_large : m <· +0 ≡ true → large_of m (C φ) ≡ false

pub record EllipeincAsBefore : Type 0 where
  -- the terms, under the hypotheses of AsBefore
  pub two_terms : (φ m : Float) → Given φ m → large_of m (C φ) ≡ false → two_terms_of m (C φ) (C1 φ) ≡ two_terms_before m (C φ) (C1 φ)
  pub three_terms : (φ m : Float) → Given φ m → own_of (angle_of φ) m ≡ false → (m <· +0 || cancelling <· m) ≡ false → above_of m (C φ) (C1 φ) ≡ above_before m (C φ) (C1 φ)
  -- the answer, with its rounds
  pub ellipeinc : (φ m : Float) → T (fits binary64 m) → Unscaled φ m → counted_of φ m ≡ ellipeinc_before φ m
