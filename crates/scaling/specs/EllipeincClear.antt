-- Where the two terms for m < 0 lose no digits to the ends of the range. Definitions only.
use Rattle.std.specs.Prelude.{not, T, Float}
use Rattle.std.specs.Float.{binary64}
use Rattle.std.specs.Float.Ieee.{fits}
use Rattle.std.specs.Float.Ieee.Scale.{finite}
use Rattle.laws.specs.Arithmetic.{◌⊖◌, ◌⊗◌, ◌⊘◌, ◌<·◌, 3·0}
use Rattle.scaling.specs.Clear.{ClearDifference, ClearProduct, ClearQuotient}
use Rattle.carlson.specs.Series.{least}
use Rattle.rf.specs.Rf.{rf_of}
use Rattle.scaling.specs.RfClear.{ClearRf}
use Rattle.rd.specs.Rd.{rd_of}
use Rattle.scaling.specs.RdClear.{ClearRd}
use Rattle.incomplete.specs.Scaling.{λ4}

pub record ClearTerms (m c c1 : Float) : Type 0 where
  pub middle : ClearDifference c m
  pub first : ClearRf c1 (c ⊖ m) c
  pub second : ClearRd c1 (c ⊖ m) c
  pub product : ClearProduct m (rd_of c1 (c ⊖ m) c).value
  pub third : ClearQuotient (m ⊗ (rd_of c1 (c ⊖ m) c).value) 3·0
  pub value : ClearDifference (rf_of c1 (c ⊖ m) c).value (m ⊗ (rd_of c1 (c ⊖ m) c).value ⊘ 3·0)

-- neither they nor those of m, c and c1 over λ, where RD's value stands the test
pub record ClearBoth (m c c1 : Float) : Type 0 where
  pub finite_m : T (finite m)
  pub finite_c : T (finite c)
  pub finite_c1 : T (finite c1)
  pub fits_m : T (fits binary64 m)
  pub fits-c : T (fits binary64 c)
  pub fits_c1 : T (fits binary64 c1)
  pub m_over : ClearQuotient m λ4
  pub c_over : ClearQuotient c λ4
  pub c1_over : ClearQuotient c1 λ4
  pub scaled : ClearTerms (m ⊘ λ4) (c ⊘ λ4) (c1 ⊘ λ4)
  pub trusted : T (not ((rd_of (c1 ⊘ λ4) (c ⊘ λ4 ⊖ m ⊘ λ4) (c ⊘ λ4)).value <· least))
  pub plain : ClearTerms m c c1
