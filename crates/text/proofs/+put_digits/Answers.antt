use Rattle.std.proofs.Common.{◌≡◌, true, false, not, ◌&&◌, ltb, arith, lt-ltb, le-ltb}
use Rattle.text.proofs.Digits.{no_digits_lem, one_digit, more_digits}
use Rattle.text.proofs.+put_digits.Goals.{else-not-form-via-then-not-form+else-n-form, else-not-form-via-else-not-form}
use Rattle.text.proofs.+put_digits.Goals as goal

pub returns-then-k-eq0-clause-put : goal.returns-then-k-eq0-clause-put
returns-then-k-eq0-clause-put t c =
    let f = c.args.form.now in
    no_digits_lem f.zeros f.base c.args.n c.args.out.now c.args.at c.args.k c.if-k-eq0.true

pub returns-then-n-form-clause-put : goal.returns-then-n-form-clause-put
returns-then-n-form-clause-put t c =
    let f = c.args.form.now in
    let alone : (not f.zeros && ltb c.args.n f.base) ≡ true = let less = lt-ltb c.args.n f.base c.if-n-form.true in cc in
    one_digit f.zeros f.base c.args.n c.args.out.now c.args.at c.args.k _ c.if-k-eq0.false alone c.glyph.ensures c.put_byte.ensures

pub returns-clause-put : goal.returns-clause-put
returns-clause-put t c =
    let f = c.args.form.now in
    let more : (not f.zeros && ltb c.args.n f.base) ≡ false = elim c.else-not-form.branch [
      | else-not-form-via-then-not-form+else-n-form w ↦ rw w.if-not-form.true (le-ltb c.args.n f.base w.if-n-form.false)
      | else-not-form-via-else-not-form w ↦ rw w.if-not-form.false
    ] in
    more_digits f.zeros f.base c.args.n c.args.out.now c.args.at c.args.k _ c.if-k-eq0.false more
    c.glyph-last.ensures (omega (arith, c.put_byte-2.ensures.next)) c.put_digits-next.ensures.put c.put_byte-2.ensures
