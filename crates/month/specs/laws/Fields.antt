-- Each field of a report goes its own way, leg by leg. Assumes nothing.
use Rattle.std.specs.Prelude.{◌≡◌, ◌+◌, ◌^◌, ◌<◌, Bool, true, false, cond, List, [], ◌∷◌}
use Rattle.std.proofs.Math.Path.{refl, sym, ap}
use Rattle.std.proofs.Common.{◌∙◌, mod-eq_of_lt, arith}
use Rattle.month.specs.declared.parts.Report.{Report}
use Rattle.month.specs.Month.{Leg, legs_of, fold, share_on, leg_on, legs_on, sheet_on, added_of}
use Rattle.month.specs.Files.{File, taken, month_on, legs_in, all_legs, sheets_in}
use Rattle.month.specs.laws.Lists.{fold-append}

module _ {X : Type 0} (field : Report → X) (step : X → Leg → X) (leg : (r : Report) (l : Leg) → field (leg_on r l) ≡ step (field r) l) where
  over_legs : (r : Report) (ls : List Leg) → field (fold leg_on r ls) ≡ fold step (field r) ls
  unfolding fold
  over_legs r [] = refl
  over_legs r (l ∷ ls) = over_legs (leg_on r l) ls ∙ ap (λ (x : X). fold step x ls) (leg r l)

  -- where a sheet more leaves it as it is
  module _ (sheet : (r : Report) → field (sheet_on r) ≡ field r) where
    over_file : (r : Report) (f : File) → field (added_of r f.number f.bytes) ≡ fold step (field r) (legs_in f)
    unfolding added_of legs_on legs_in fold
    over_file r f = go (taken f.bytes)
      where
        ls : List Leg
        ls = legs_of f.number f.bytes

        go : (b : Bool) → field (cond b (fold leg_on (sheet_on r) ls) r) ≡ fold step (field r) (cond b ls [])
        go true = over_legs (sheet_on r) ls ∙ ap (λ (x : X). fold step x ls) (sheet r)
        go false = refl

    pub over_files : (r : Report) (fs : List File) → field (month_on r fs) ≡ fold step (field r) (all_legs fs)
    unfolding month_on all_legs fold
    over_files r [] = refl
    over_files r (f ∷ fs) =
        over_files (added_of r f.number f.bytes) fs
        ∙ ap (λ (x : X). fold step x (all_legs fs)) (over_file r f)
        ∙ sym (fold-append step (field r) (legs_in f) (all_legs fs))

-- ---- the sheets
unmoved : (r : Report) (ls : List Leg) → (fold leg_on r ls).sheets ≡ r.sheets
unfolding fold leg_on share_on
unmoved r [] = refl
unmoved r (l ∷ ls) = unmoved (leg_on r l) ls

pub sheets_on : (r : Report) (fs : List File) → r.sheets + sheets_in fs < 2 ^ 64 → (month_on r fs).sheets ≡ r.sheets + sheets_in fs
unfolding month_on sheets_in added_of legs_on sheet_on
sheets_on r [] h = omega arith
sheets_on r (f ∷ fs) h =
    let e = go (taken f.bytes) h in
    sheets_on (added_of r f.number f.bytes) fs (omega (arith, e)) ∙ omega (arith, e)
  where
    go : (b : Bool) → r.sheets + (cond b 1 0 + sheets_in fs) < 2 ^ 64 → (cond b (fold leg_on (sheet_on r) (legs_of f.number f.bytes)) r).sheets ≡ r.sheets + cond b 1 0
    go true g = unmoved (sheet_on r) (legs_of f.number f.bytes) ∙ mod-eq_of_lt (omega arith)
    go false g = omega arith
