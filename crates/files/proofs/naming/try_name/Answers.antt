-- The name is text.
use Rattle.std.proofs.Common.{◌+◌, take, set, rules}
use Rattle.std.specs.Prelude.{IsUtf8}
use Rattle.std.proofs.Math.Nat.{sub-zero}
use Rattle.files.proofs.NewName.{digit_put}
use Rattle.files.proofs.Utf8.{digit_text}
use Rattle.files.proofs.naming.try_name.Goals as goal

pub unreachable-requires : goal.unreachable-requires
unreachable-requires c =
    let named = digit_put c.args.path.now c.args.at (48 + c.args.k) (search rules) in
    let u : IsUtf8 (take (c.args.at + 1) (set c.args.path.now c.args.at (48 + c.args.k))) = rw named (digit_text c.args.k (search rules) (search rules)) in
    c.in_default.ensures.cases.0 (rw sub-zero u)
