-- `output::number_line` meets its contract.
use Rattle.text_writer.proofs.Sinks.{after}
use Rattle.output.specs.Lines.{number_line}
use Rattle.output.proofs.number_line.Goals as goal

pub returns : goal.returns
unfolding number_line
returns c =
    after (after c.put_bytes-p.ensures.0 c.put_number-q.ensures.0) c.put_bytes.ensures.0
