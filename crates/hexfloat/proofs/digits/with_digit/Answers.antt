-- The test of the code is the definition's.
use mathlib.Core.Path.{refl}
use borrow.Author.Tests.{lt-ltb, le-ltb}
use Rattle.hexfloat.specs.Steps.{with_digit}
use Rattle.hexfloat.proofs.digits.with_digit.Goals as goal

pub returns-then-h-lt-ROOM : goal.returns-then-h-lt-ROOM
unfolding with_digit
returns-then-h-lt-ROOM c = rw (lt-ltb _ _ c.if-h-lt-ROOM.true, c.from.ensures) refl

pub returns : goal.returns
unfolding with_digit
returns c = rw (le-ltb _ _ c.if-h-lt-ROOM.false) refl
