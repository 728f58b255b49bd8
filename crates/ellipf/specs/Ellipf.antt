-- ellipf (02, [1]): the operations of ellipf.rs, in its order, and the rounds of the recipe that it asks ([3]). Definitions only.
use Rattle.std.specs.Prelude.{Bool, cond, not, ◌||◌, ◌&&◌, Float, Result, Ok, Err}
use Rattle.std.specs.Float.{nan, inf, fin}
use Rattle.std.specs.Float.Ieee.{neg}
use Rattle.laws.specs.Arithmetic.{◌⊕◌, ◌⊖◌, ◌⊗◌, ◌⊘◌, ◌<·◌, ◌≤·◌, ◌=·◌, ◌≠·◌, dec, +0, +∞, -∞, π/2, 1·0}
use Rattle.laws.specs.Ladder.{when◌gives◌else◌}
use Rattle.answer.specs.Answer.{value_of}
use Rattle.answer.specs.declared.Answer.{Answer}
use Rattle.answer.specs.declared.Refusal.{Refusal}
use Rattle.answer.specs.declared.Answer.TheVariants.{One}
use Rattle.answer.specs.declared.Refusal.TheVariants.{NotANumber, Beyond}
use Rattle.whole.specs.Whole.{magnitude_of}
use Rattle.angle.specs.Sine.{sine_of}
use Rattle.angle.specs.Cosine.{cosine_of}
use Rattle.legendre.specs.Ellipk.{k_unchecked_of}
use Rattle.rf.specs.Rf.{rf_of}
use Rattle.answer.specs.Settle.{infinite_of, settled_of, handed_of, unasked_of}
use Rattle.answer.specs.declared.Counted.{Counted}
use Rattle.incomplete.specs.Period.{far_out, folded_of}
use Rattle.incomplete.specs.Scaling.{λ4, √λ, large_of}
use Rattle.answer.specs.declared.Term.{Term}

-- the Rust's `signum`, by the sign bit: -0 has -1 (NaN is refused before)
unfoldable pub signum_of : Float → Float
signum_of nan = 1·0
signum_of (inf s) = cond s (neg 1·0) 1·0
signum_of (fin s m e) = cond s (neg 1·0) 1·0

-- the reduction must not hide a pole: m ≥ 1 with |φ| ≥ π/2 or m·sin²φ ≥ 1
unfoldable pub pole_of : Float → Float → Bool
pole_of φ m =
    let s = value_of (sine_of φ) in
    1·0 ≤· m && (π/2 ≤· magnitude_of φ || 1·0 ≤· m ⊗ (s ⊗ s))

-- |φ| > 2^52
unfoldable pub far_of : Float → Float → Float → Result Answer Refusal
far_of sign size m =
    when size =· +∞ gives handed_of (sign ⊗ +∞) else
    handed_of (sign ⊗ size ⊗ (k_unchecked_of m ⊘ π/2))

-- the file's `arg2`, which is c - m; its test for m = 0 is decided before
unfoldable pub middle_of : Float → Float → Float → Float
middle_of m c c1 =
    let cross = magnitude_of (c ⊘ m) in
    cond (dec 9 1 <· cross && cross <· dec 11 1) (c1 ⊕ 1·0 ⊖ m) (c ⊖ m)

-- the homogeneous form where c = 1 / sin² is infinite; else DLMF 19.25.5, c1 = cos² / sin² being c - 1. RF has the degree -1/2: of arguments divided by λ it is √λ times as large
unfoldable pub recipe_of : Float → Float → Float → Float → Term
recipe_of s m sine cosine =
    let s2 = sine ⊗ sine in
    let c2 = cosine ⊗ cosine in
    let c = 1·0 ⊘ s2 in
    let c1 = c2 ⊘ s2 in
    let tiny = rf_of c2 (1·0 ⊖ m ⊗ sine ⊗ sine) 1·0 in
    let y = middle_of m c c1 in
    let plain = rf_of c1 y c in
    let scaled = rf_of (c1 ⊘ λ4) (y ⊘ λ4) (c ⊘ λ4) in
    when infinite_of c gives record { value = s ⊗ sine ⊗ tiny.value; met = tiny.met; rounds = tiny.rounds } else
    when large_of m c gives record { value = s ⊗ (scaled.value ⊘ √λ); met = scaled.met; rounds = scaled.rounds } else
    record { value = s ⊗ plain.value; met = plain.met; rounds = plain.rounds }

-- F(φ, -∞) = 0 where there is no finite answer; else 5, and then 6
unfoldable pub closed_of : Float → Bool → Float → Result Answer Refusal
closed_of m met v =
    when m =· -∞ && (not met || (v ≠· v || infinite_of v)) gives Ok (One +0) else
    settled_of met v

-- the period term, and the sign
unfoldable pub with_periods_of : Float → Float → Float → Term → Result Answer Refusal
with_periods_of sign m mm t =
    when mm ≠· +0 gives closed_of m t.met (sign ⊗ (t.value ⊕ mm ⊗ k_unchecked_of m)) else
    closed_of m t.met (sign ⊗ t.value)

unfoldable pub reduced_of : Float → Float → Float → Counted
reduced_of sign size m =
    let f = folded_of size in
    let sine = value_of (sine_of f.angle) in
    let cosine = value_of (cosine_of f.angle) in
    let t = recipe_of f.s m sine cosine in
    when 1·0 ≤· m ⊗ (sine ⊗ sine) gives unasked_of (Err Beyond) else
    record { answer = with_periods_of sign m f.mm t; rounds = t.rounds }

-- the answer, and the rounds of the recipe asked for it
unfoldable pub counted_of : Float → Float → Counted
counted_of φ m =
    when φ ≠· φ || m ≠· m gives unasked_of (Err NotANumber) else
    when m =· +0 gives unasked_of (handed_of φ) else
    when pole_of φ m gives unasked_of (Err Beyond) else
    when far_out <· magnitude_of φ gives unasked_of (far_of (signum_of φ) (magnitude_of φ) m) else
    reduced_of (signum_of φ) (magnitude_of φ) m

unfoldable pub ellipf_of : Float → Float → Result Answer Refusal
ellipf_of φ m = (counted_of φ m).answer
