-- The buffer has room for the words.
use native.Mathlib.Omega.{arith}
use Rattle.monthly.specs.Monthly.{unread_text}
use Rattle.monthly.proofs.put_unread.Goals as goal

pub returns : goal.returns
unfolding unread_text
returns c = let p = c.put_bytes.ensures.put (omega arith) in record { put = p; upper_bound = omega (arith, p.next) }
