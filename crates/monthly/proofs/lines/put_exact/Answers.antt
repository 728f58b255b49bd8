-- The word, then the total's sign and size.
use mathlib.Core.Path.{ap}
use mathlib.Core.List.{◌++◌, append_assoc}
use native.Mathlib.Omega.{arith}
use lib.Dec.{leb}
use Rattle.laws.specs.Ascii.{ascii}
use Rattle.total.specs.declared.rounding.Signed.{Signed}
use Rattle.total.specs.Total.{val, Half, size_of_total, signed_of}
use Rattle.text.specs.Text.{end}
use Rattle.exact.specs.Exact.{signed_hex}
use Rattle.exact.specs.laws.Hex.{whole-most}
use Rattle.monthly.specs.Monthly.{exact_text}
use Rattle.placing.specs.laws.Placing.{piece, follow}
use Rattle.monthly.proofs.lines.put_exact.Goals as goal

pub returns : goal.returns
unfolding exact_text signed_of
returns c = let a = c.args in
    let s = a.out.now in
    let v = val a.total.limbs in
    let z = c.size-size.ensures in
    let sign = ap (λ (x : Signed). x.negative) z.0 in
    let size = z.1 in
    let p = piece s a.at 6 (ascii "exact ") (omega arith) (omega arith) c.put_bytes-a.ensures in
    let q = follow s a.at 6 546 (ascii "exact ") (signed_hex (leb Half v) (size_of_total v) ++ end) (whole-most (leb Half v) (size_of_total v) 10) (omega arith) p (rw (sign, size) at c.put_whole.ensures) in
    simp append_assoc q
