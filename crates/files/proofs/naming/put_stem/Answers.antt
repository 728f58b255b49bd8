-- Three pieces, one after the other.
use Rattle.files.proofs.NewName.{stem_put}
use Rattle.files.proofs.naming.put_stem.Goals as goal

pub returns : goal.returns
returns c =
    let it = stem_put c.args.folder.now c.args.path.now c.args.number c.requires.0 c.requires.1 c.put_bytes-a.ensures c.put_bytes-b.ensures c.put_decimal.ensures in
    record { path_after = it.0; result_nonzero = it.1 }
