-- The input fails, or the text is taken.
use Rattle.reading.specs.Taken.{failed, read}
use Rattle.reading.proofs.read_input.Goals as goal

pub returns-in-Err : goal.returns-in-Err
returns-in-Err c = failed c.in-Err.ensures.brought (rw (c.line_ends.ensures, c.begin-out.ensures) at c.put_number.ensures)

pub returns-in-Ok : goal.returns-in-Ok
returns-in-Ok c = read c.in-Ok.ensures.brought c.take_text.ensures
