-- What the read brought is handed on as it is.
use Rattle.files.specs.Calls.{read}
use Rattle.runner.proofs.reading.read_part.Goals as goal

pub returns : goal.returns
returns c =
    let call = c.read_some-got in
    let came = call.ensures.left_value c.requires in
    record { left_value = came.0; one_read = record { read = read call.result call.new.part; came = came.1; led = c.take_part.ensures } }
