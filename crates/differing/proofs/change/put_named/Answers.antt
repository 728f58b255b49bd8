-- The words, then the class.
use native.Mathlib.Omega.{arith}
use lib.ListN.{length}
use Rattle.text.specs.laws.Writing.{placed}
use Rattle.differing.specs.Differing.{class_text, named_class}
use Rattle.differing.proofs.Pieces.{words_put, two_put}
use Rattle.differing.proofs.change.put_named.Goals as goal

pub put_class-requires : goal.put_class-requires
put_class-requires c =
    let a = c.args in
    let n = length a.words.now in
    let p = placed a.out.now a.at n n a.words.now (omega arith) (omega arith) (omega arith) c.put_bytes-a.ensures in
    omega (arith, p.1, p.2)

pub returns : goal.returns
unfolding named_class
returns c =
    let a = c.args in
    let n = length a.words.now in
    let p = words_put a.out.now a.at n a.words.now (omega arith) (omega arith) c.put_bytes-a.ensures in
    let q = c.put_class.ensures in
    let w = two_put a.out.now a.at n 7 a.words.now (class_text a.class) (omega arith) p.0 p.1 q.put q.upper_bound in
    record { put = w.0; upper_bound = omega (arith, w.1) }
