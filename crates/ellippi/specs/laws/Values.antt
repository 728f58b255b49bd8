-- What the answers of ellippi can be, for every argument. Assumes nothing.
use Rattle.std.specs.Prelude.{[], ◌∷◌, Bool, true, false, cond, ◌&&◌, ◌||◌, T, Float, Ok}
use Rattle.std.specs.Float.{binary64}
use Rattle.std.specs.Float.Ieee.{fits, of_bits}
use Rattle.std.specs.Float.Ieee.Fits.{add-fits, mul-fits, div-fits}
use Rattle.laws.specs.Arithmetic.{◌⊖◌, ◌<·◌, ◌=·◌, ◌≠·◌, +0, -∞, 1·0}
use Rattle.answer.specs.declared.Refusal.TheVariants.{NotANumber, AboveOne, CharacteristicOne}
use Rattle.answer.specs.Answer.{value_of}
use Rattle.answer.specs.declared.Counted.{Counted}
use Rattle.answer.specs.declared.Answer.TheVariants.{Infinite}
use Rattle.answer.specs.declared.Term.{Term}
use Rattle.answer.specs.Settle.{unasked_of}
use Rattle.answer.specs.laws.Fair.{May, Fair, FairOf, among, refused, answered, rung, settled_fair}
use Rattle.legendre.specs.Ellipk.{ellipk_of}
use Rattle.ellippi.specs.Ellippi.{from_rest_of, principal_of, both_below_of, first_below_of, first_zero_of, diagonal_of, arms_of, counted_of, ellippi_of}

abbrev pub ellippi_may : Bool → May
ellippi_may one = record { tests = 1 ∷ 2 ∷ 4 ∷ []; infinite = one }

-- ---- infinite only where m is 1
at_one : (t s : Bool) (c : Counted) → FairOf (ellippi_may false) c → FairOf (ellippi_may t) (cond t (unasked_of (Ok (Infinite s))) c)
unfolding Fair
at_one true s c h = tt
at_one false s c h = h

Fits : Term → Type 0
Fits t = T (fits binary64 t.value)

arms_fit : (n m : Float) → T (fits binary64 (value_of (ellipk_of m))) → Fits (arms_of n m)
unfolding arms_of principal_of both_below_of first_below_of first_zero_of diagonal_of from_rest_of Fits of_bits fits
arms_fit n m K =
    rung Fits (1·0 <· n) _ _ (mul-fits binary64 _ _)
    (rung Fits (n <· +0 && m <· +0) _ _ (rung Fits (m =· n) _ _ (div-fits binary64 _ _) (add-fits binary64 _ _))
    (rung Fits (n <· +0) _ _ (add-fits binary64 _ _)
    (rung Fits (n =· +0) _ _ (rung Fits (m =· +0) _ _ tt K)
    (rung Fits (m =· n) _ _ (mul-fits binary64 _ _)
    (add-fits binary64 _ _)))))

pub ellippi_fair : (n m : Float) → T (fits binary64 (value_of (ellipk_of m))) → Fair (ellippi_may (m =· 1·0)) (ellippi_of n m)
unfolding ellippi_of counted_of Fits of_bits fits among
ellippi_fair n m K =
    let one = m =· 1·0 in
    let may = ellippi_may one in
    let no = ellippi_may false in
    rung (FairOf may) (n ≠· n || m ≠· m) _ _ (refused may NotANumber tt)
    (rung (FairOf may) (1·0 <· m) _ _ (refused may AboveOne tt)
    (rung (FairOf may) (n =· 1·0) _ _ (refused may CharacteristicOne tt)
    (at_one one (1·0 ⊖ n <· +0) _
    (rung (FairOf no) (n =· -∞ || m =· -∞) _ _ (answered no +0 tt) (settled_fair no _ _ (arms_fit n m K))))))
