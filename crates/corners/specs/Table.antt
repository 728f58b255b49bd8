-- Document 01's corner table: the rows marked P, as one fact. Assumes nothing.
use Rattle.corners.specs.laws.Root.{RootCorners, root_corners}
use Rattle.corners.specs.laws.Fused.{FusedCorner, fused_corner}
use Rattle.corners.specs.laws.Whole.{WholeCorners, whole_corners}
use Rattle.corners.specs.laws.Complete as complete
use Rattle.corners.specs.laws.Ellippi as ellippi
use Rattle.corners.specs.laws.Ellipeinc as ellipeinc

pub record CornerTable : Type 0 where
  -- √2, √(2^-1074), √-0
  pub root : RootCorners
  -- the multiply-add of 1 + 2^-52, 1 - 2^-52 and -1
  pub fused : FusedCorner
  -- 2.5 and -2.5 rounded
  pub whole : WholeCorners
  -- the piece of 0.85; ellipke at 1, -∞, 1 + 2^-52 and NaN
  pub complete_integrals : complete.Corners
  -- ellippi at (1, 1), (2, 1), (0.5, 1)
  pub third_kind : ellippi.Corners
  -- ellipeinc at (0, NaN) and (2^-1000, -∞), and where 02's [7] put its limits right
  pub second_kind : ellipeinc.Corners

pub corner_table : CornerTable
corner_table = record { root = root_corners; fused = fused_corner; whole = whole_corners; complete_integrals = complete.corners; third_kind = ellippi.corners; second_kind = ellipeinc.corners }
