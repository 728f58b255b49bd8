-- No file was made, or it takes the name.
use Rattle.std.proofs.Common.{◌≡◌, ◌+◌, take}
use Rattle.std.specs.Prelude.{Some}
use Rattle.std.specs.Fd.{file_raw_fd}
use Rattle.std.proofs.Math.Nat.{sub-zero}
use Rattle.files.specs.Save.{Tries, unmade}
use Rattle.files.proofs.Utf8.{stem_text, made_text}
use Rattle.files.proofs.saving.make_and_replace.Goals as goal

pub try_names-requires : goal.try_names-requires
try_names-requires c = (c.requires.0, stem_text c.args.name.now c.utf8.name c.requires.1)

pub returns-in_default : goal.returns-in_default
returns-in_default c = unmade c.requires.1.number (take (c.args.at + 1) c.try_names.new.path) (rw c.requires.1.is at c.in_default.ensures)

pub unreachable-requires : goal.unreachable-requires
unreachable-requires c =
    let tries : Tries (take c.args.at c.args.path.now) (take (c.args.at + 1) c.try_names.new.path) (Some (file_raw_fd c.in-Some.file)) = c.in-Some.ensures in
    c.in_default-from_utf8.ensures.cases.0 (rw sub-zero (made_text (stem_text c.args.name.now c.utf8.name c.requires.1) tries))

pub replace-requires : goal.replace-requires
replace-requires c =
    let tries : Tries (take c.args.at c.args.path.now) (take (c.args.at + 1) c.try_names.new.path) (Some (file_raw_fd c.in-Some.file)) = c.in-Some.ensures in
    let is : c.in-Ok.new.now ≡ take (c.args.at + 1) c.try_names.new.path = (rw sub-zero at c.in-Ok.ensures.cases).0 in
    rw is (record { number = c.requires.1.number; tries = rw c.requires.1.is at tries })
