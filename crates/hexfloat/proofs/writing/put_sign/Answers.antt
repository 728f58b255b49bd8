-- A sign, or nothing.
use native.Mathlib.Omega.{arith}
use borrow.Author.Tests.{le-leb, lt-leb}
use Rattle.text.specs.laws.Writing.{put_none}
use Rattle.hexfloat.specs.Spelled.{sign_text}
use Rattle.hexfloat.proofs.writing.put_sign.Goals as goal

pub returns-then-p-ge9223372036854775808 : goal.returns-then-p-ge9223372036854775808
unfolding sign_text
returns-then-p-ge9223372036854775808 c =
    let p = c.put_bytes.ensures.put c.requires in
    record { put = rw (le-leb _ _ c.if-p-ge9223372036854775808.true) p; upper_bound = omega (arith, p.next) }

pub returns : goal.returns
unfolding sign_text
returns c = record { put = rw (lt-leb _ _ c.if-p-ge9223372036854775808.false) (put_none _ _); upper_bound = omega arith }
