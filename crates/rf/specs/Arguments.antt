-- What RF, RD and RJ share: a round takes the roots of x, y and z, and moves them by L. Definitions only.
use Rattle.std.specs.Prelude.{Float}
use Rattle.laws.specs.Arithmetic.{◌⊕◌, ◌⊘◌, 4·0}
use Rattle.rf.specs.Rf.{spread_of, roots_of}
use Rattle.rf.specs.declared.Roots.{Roots}

pub record Arguments : Type 0 where
  pub x : Float
  pub y : Float
  pub z : Float

abbrev pub roots_at : Arguments → Roots
roots_at a = roots_of a.x a.y a.z

-- each becomes (itself + L) / 4
abbrev pub moved : Arguments → Arguments
moved a =
    let l = spread_of a.x a.y a.z in
    record { x = (a.x ⊕ l) ⊘ 4·0; y = (a.y ⊕ l) ⊘ 4·0; z = (a.z ⊕ l) ⊘ 4·0 }
