-- By recursion on the places left: one digit, then the rest.
use Rattle.std.proofs.Common.{arith}
use Rattle.hexfloat.proofs.Written.{no_place, no_rest, digit_lt, rest_lt, one_digit, more_digits}
use Rattle.hexfloat.proofs.writing.+put_digits.Goals as goal

pub returns-then-k-eq0-clause-put : goal.returns-then-k-eq0-clause-put
returns-then-k-eq0-clause-put t c = no_place c.args.k c.args.n c.args.out.now c.args.at c.if-k-eq0.true

pub returns-then-n-eq0-clause-put : goal.returns-then-n-eq0-clause-put
returns-then-n-eq0-clause-put t c = no_rest c.args.k c.args.n c.args.out.now c.args.at c.if-n-eq0.true

pub put_digits-requires : goal.put_digits-requires
put_digits-requires t c =
    let p = rw (one_digit _ (digit_lt c.args.n c.requires.0)) at (c.put_hex-next.ensures.put (omega arith)) in
    (omega arith, (rest_lt c.args.n, omega (arith, p.next)))

pub returns-clause-put : goal.returns-clause-put
returns-clause-put t c =
    let a = c.args in
    let p = c.put_hex-next.ensures.put (omega arith) in
    let e = rw (one_digit _ (digit_lt a.n c.requires.0)) at p in
    let q = c.put_digits.ensures in
    more_digits a.k a.n a.out.now a.at c.if-k-eq0.false c.if-n-eq0.false c.requires.0 (omega (arith, e.next, q.upper_bound)) p q.put

pub returns-clause-upper_bound : goal.returns-clause-upper_bound
returns-clause-upper_bound t c =
    let e = rw (one_digit _ (digit_lt c.args.n c.requires.0)) at (c.put_hex-next.ensures.put (omega arith)) in
    omega (arith, e.next, c.put_digits.ensures.upper_bound)
