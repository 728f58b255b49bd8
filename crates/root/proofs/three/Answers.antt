-- `three` meets its contract, from what its parts ensure.
use Rattle.root.proofs.three.Goals as goal

pub returns : goal.returns
returns c =
    let a = c.args in
    (c.finished.ensures a.x c.made_ready-a.ensures, c.finished-2.ensures a.y c.made_ready-b.ensures, c.finished-3.ensures a.z c.made_ready-c.ensures)
