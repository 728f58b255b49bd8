-- Not read, or what comes of its bytes.
use Rattle.std.proofs.Common.{refl}
use Rattle.turning.specs.Turning.{unread, read}
use Rattle.turning.proofs.turn.Goals as goal

pub returns-in_default : goal.returns-in_default
returns-in_default c = record { text = _; turned = unread c.in_default.ensures.load refl; wrote = c.unread.ensures }

pub returns : goal.returns
returns c =
    let s = c.settle in
    record { text = s.ensures.text; turned = read c.in-Some.ensures.load s.ensures.settled; wrote = s.ensures.wrote }
