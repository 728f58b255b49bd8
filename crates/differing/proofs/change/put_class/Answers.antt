-- The words of the class.
use native.Mathlib.Omega.{arith}
use Rattle.std.proofs.Common.{◌≡◌, Some, rules}
use Rattle.ledger.specs.declared.row.Class.TheVariants.{Blank, Finite, PlusInfinity, MinusInfinity, Refused}
use Rattle.laws.specs.Ascii.{ascii}
use Rattle.differing.specs.Differing.{class_text}
use Rattle.differing.proofs.Pieces.{words_put}
use Rattle.differing.proofs.change.put_class.Goals as goal

pub returns-in-Some-Blank-clause-put : goal.returns-in-Some-Blank-clause-put
unfolding class_text
returns-in-Some-Blank-clause-put c =
    let e : c.args.class ≡ Some Blank = search rules in
    rw e (words_put _ _ 7 (ascii "blank") (omega arith) (omega arith) c.put_bytes.ensures).0

pub returns-in-Some-Finite-clause-put : goal.returns-in-Some-Finite-clause-put
unfolding class_text
returns-in-Some-Finite-clause-put c =
    let e : c.args.class ≡ Some Finite = search rules in
    rw e (words_put _ _ 7 (ascii "finite") (omega arith) (omega arith) c.put_bytes-in-Some-Finite.ensures).0

pub returns-in-Some-PlusInfinity-clause-put : goal.returns-in-Some-PlusInfinity-clause-put
unfolding class_text
returns-in-Some-PlusInfinity-clause-put c =
    let e : c.args.class ≡ Some PlusInfinity = search rules in
    rw e (words_put _ _ 7 (ascii "+inf") (omega arith) (omega arith) c.put_bytes-in-Some-PlusInfinity.ensures).0

pub returns-in-Some-MinusInfinity-clause-put : goal.returns-in-Some-MinusInfinity-clause-put
unfolding class_text
returns-in-Some-MinusInfinity-clause-put c =
    let e : c.args.class ≡ Some MinusInfinity = search rules in
    rw e (words_put _ _ 7 (ascii "-inf") (omega arith) (omega arith) c.put_bytes-in-Some-MinusInfinity.ensures).0

pub returns-in-Some-Refused-clause-put : goal.returns-in-Some-Refused-clause-put
unfolding class_text
returns-in-Some-Refused-clause-put c =
    let e : c.args.class ≡ Some Refused = search rules in
    rw e (words_put _ _ 7 (ascii "refused") (omega arith) (omega arith) c.put_bytes-in-Some-Refused.ensures).0

pub returns-in-None-clause-put : goal.returns-in-None-clause-put
unfolding class_text
returns-in-None-clause-put c = rw c.in-None.is (words_put _ _ 7 (ascii "none") (omega arith) (omega arith) c.put_bytes-in-None.ensures).0
