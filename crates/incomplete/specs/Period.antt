-- The period reduction that ellipeinc and ellipf share; the operations of ellipeinc.rs and ellipf.rs, in their order. Definitions only.
use Rattle.std.specs.Prelude.{cond, Float}
use Rattle.std.specs.Float.Ieee.{neg}
use Rattle.laws.specs.Arithmetic.{◌⊕◌, ◌⊖◌, ◌⊘◌, ◌%%◌, ◌<·◌, float, π/2, ½, 1·0, 2·0}
use Rattle.whole.specs.Whole.{round_of}
use Rattle.incomplete.specs.declared.Fold.{Fold}

-- 2^52: a larger |φ| is not reduced
abbrev pub far_out : Float
far_out = float 0x4330_0000_0000_0000

-- the remainder by π/2, and parity
unfoldable pub folded_of : Float → Fold
folded_of size =
    let rest = size %% π/2 in
    let mm = round_of ((size ⊖ rest) ⊘ π/2) in
    cond (½ <· mm %% 2·0) (record { angle = π/2 ⊖ rest; mm = mm ⊕ 1·0; s = neg 1·0 }) (record { angle = rest; mm = mm; s = 1·0 })
