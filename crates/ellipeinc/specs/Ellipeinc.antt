-- ellipeinc (01, "ellipeinc, in this order", with 02, [7]); each step has the operations of ellipeinc.rs, in its order, and the rounds of the recipes that it asks (02, [3]). Definitions only.
use Rattle.std.specs.Prelude.{◌+◌, Bool, true, cond, not, ◌||◌, ◌&&◌, Float, Result, Ok, Err}
use Rattle.std.specs.Float.Ieee.{neg}
use Rattle.laws.specs.Arithmetic.{◌⊕◌, ◌⊖◌, ◌⊗◌, ◌⊘◌, ◌<·◌, ◌≤·◌, ◌=·◌, ◌≠·◌, +0, +∞, -∞, π, ε, 1·0, 2·0, 3·0, float}
use Rattle.laws.specs.Ladder.{when◌gives◌else◌}
use Rattle.answer.specs.Answer.{value_of}
use Rattle.answer.specs.declared.Answer.{Answer}
use Rattle.answer.specs.declared.Refusal.{Refusal}
use Rattle.answer.specs.declared.Answer.TheVariants.{One, Infinite}
use Rattle.answer.specs.declared.Refusal.TheVariants.{NotANumber, AboveOne, Beyond, Unmet}
use Rattle.root.specs.Root.{root_of}
use Rattle.whole.specs.Whole.{magnitude_of, round_of}
use Rattle.angle.specs.Sine.{sine_of}
use Rattle.angle.specs.Cosine.{cosine_of}
use Rattle.legendre.specs.Ellipe.{ellipe_of}
use Rattle.carlson.specs.Series.{trusted_of}
use Rattle.carlson.specs.declared.Outcome.{Outcome}
use Rattle.rf.specs.Rf.{rf_of}
use Rattle.rd.specs.Rd.{rd_of}
use Rattle.answer.specs.Settle.{handed_of, unasked_of}
use Rattle.answer.specs.declared.Counted.{Counted}
use Rattle.incomplete.specs.Period.{far_out, folded_of}
use Rattle.incomplete.specs.Scaling.{λ4, √λ, large_of}
use Rattle.answer.specs.declared.Term.{Term}
use Rattle.incomplete.specs.declared.Fold.{Fold}

-- the file's `invert`
unfoldable pub sign_of : Float → Float
sign_of φ = cond (φ <· +0) (neg 1·0) 1·0

-- step 2
unfoldable pub itself_of : Float → Result Answer Refusal
itself_of φ =
    when φ ≠· φ gives Err NotANumber else
    handed_of φ

-- step 5: φ·(2·E(m)/π), φ's sign put back last
unfoldable pub far_of : Float → Float → Float → Result Answer Refusal
far_of sign size m =
    when 1·0 <· m gives Err AboveOne else
    handed_of (sign ⊗ (size ⊗ (2·0 ⊗ value_of (ellipe_of m) ⊘ π)))

-- step 7: mm is the rounded |φ| / π
abbrev pub half_turns : Float → Float
half_turns size = round_of (size ⊘ π)

abbrev pub line_rest : Float → Float
line_rest size = size ⊖ half_turns size ⊗ π

unfoldable pub line_of : Float → Float → Result Answer Refusal
line_of sign size = handed_of (sign ⊗ (2·0 ⊗ half_turns size ⊕ value_of (sine_of (line_rest size))))

-- step 8: the angle stands for its own integral
unfoldable pub own_of : Float → Float → Bool
own_of angle m = angle =· +0 || magnitude_of m ⊗ angle ⊗ angle <· ε

-- c = 1 / sin² and c1 = cos² / sin², which is c - 1 (DLMF 19.25.9): the two terms, of what RF and RD gave; v is RD's value as it is taken
abbrev pub two_terms_from : Float → Outcome → Outcome → Float → Term
two_terms_from m f d v = record { value = f.value ⊖ m ⊗ v ⊘ 3·0; met = f.met && d.met; rounds = f.rounds + d.rounds }

unfoldable pub two_terms_of : Float → Float → Float → Term
two_terms_of m c c1 =
    let f = rf_of c1 (c ⊖ m) c in
    let d = rd_of c1 (c ⊖ m) c in
    two_terms_from m f d d.value

-- of arguments that were scaled: RD's value is tested. Where nothing is scaled they are at most 2^201, and no term of RD can be lost for want of range (scaling, RdTerms)
unfoldable pub trusted_terms_of : Float → Float → Float → Term
trusted_terms_of m c c1 =
    let f = rf_of c1 (c ⊖ m) c in
    let d = rd_of c1 (c ⊖ m) c in
    two_terms_from m f d (trusted_of d.value)

-- 2^12: above it the three terms below, of the size m·φ, would cancel to φ and lose more than twelve digits
abbrev pub cancelling : Float
cancelling = float 0x40b0_0000_0000_0000

-- for m < 0, and for m > 2^12. It has the degree -1/2 in m, c and c1: divided by λ they give √λ times as much
unfoldable pub below_of : Float → Float → Float → Term
below_of m c c1 =
    let t = trusted_terms_of (m ⊘ λ4) (c ⊘ λ4) (c1 ⊘ λ4) in
    cond (large_of m c || cancelling <· m) (record { value = t.value ⊘ √λ; met = t.met; rounds = t.rounds }) (two_terms_of m c c1)

-- for 0 < m ≤ 2^12 (DLMF 19.25.10)
unfoldable pub above_of : Float → Float → Float → Term
above_of m c c1 =
    let f = rf_of c1 c (c ⊖ m) in
    let d = rd_of c1 c (c ⊖ m) in
    record { value = (1·0 ⊖ m) ⊗ f.value ⊕ m ⊗ (1·0 ⊖ m) ⊗ d.value ⊘ 3·0 ⊕ m ⊗ root_of (c1 ⊘ (c ⊗ (c ⊖ m))); met = f.met && d.met; rounds = f.rounds + d.rounds }

unfoldable pub recipe_of : Float → Float → Float → Term
recipe_of m s2 c2 = cond (m <· +0 || cancelling <· m) (below_of m (1·0 ⊘ s2) (c2 ⊘ s2)) (above_of m (1·0 ⊘ s2) (c2 ⊘ s2))

-- the refusals that come with a period term, the term itself, and the sign
unfoldable pub with_periods_of : Float → Float → Float → Bool → Float → Result Answer Refusal
with_periods_of sign m mm met v =
    when mm ≠· +0 && 1·0 <· m gives Err AboveOne else
    when not met gives Err Unmet else
    when mm ≠· +0 gives handed_of (sign ⊗ (v ⊕ mm ⊗ value_of (ellipe_of m))) else
    handed_of (sign ⊗ v)

unfoldable pub by_recipe_of : Float → Float → Fold → Counted
by_recipe_of sign m f =
    let s = value_of (sine_of f.angle) in
    let c = value_of (cosine_of f.angle) in
    let e = recipe_of m (s ⊗ s) (c ⊗ c) in
    when 1·0 ≤· m ⊗ (s ⊗ s) gives unasked_of (Err Beyond) else
    record { answer = with_periods_of sign m f.mm e.met (f.s ⊗ e.value); rounds = e.rounds }

unfoldable pub reduced_of : Float → Float → Float → Counted
reduced_of sign size m =
    let f = folded_of size in
    when own_of f.angle m gives unasked_of (with_periods_of sign m f.mm true (f.s ⊗ f.angle)) else
    by_recipe_of sign m f

-- steps 5, 7 and 8, on |φ|; sign is φ's
unfoldable pub on_size_of : Float → Float → Float → Counted
on_size_of sign size m =
    when far_out <· size gives unasked_of (far_of sign size m) else
    when m =· 1·0 gives unasked_of (line_of sign size) else
    reduced_of sign size m

-- steps 1 to 4, and 6 (02, [7]): only an infinite φ is infinite by itself, and m = -∞ makes every other φ so. The answer, and the rounds of all recipes asked for it
unfoldable pub counted_of : Float → Float → Counted
counted_of φ m =
    when φ =· +0 gives unasked_of (Ok (One +0)) else
    when m =· +0 gives unasked_of (itself_of φ) else
    when magnitude_of φ =· +∞ gives unasked_of (Ok (Infinite (φ <· +0))) else
    when φ ≠· φ && 1·0 <· m gives unasked_of (Err AboveOne) else
    when φ ≠· φ || m ≠· m gives unasked_of (Err NotANumber) else
    when m =· -∞ gives unasked_of (Ok (Infinite (φ <· +0))) else
    on_size_of (sign_of φ) (magnitude_of φ) m

unfoldable pub ellipeinc_of : Float → Float → Result Answer Refusal
ellipeinc_of φ m = (counted_of φ m).answer
