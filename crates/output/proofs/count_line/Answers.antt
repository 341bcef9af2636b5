-- `output::count_line` meets its contract.
use Rattle.text_writer.proofs.Sinks.{after}
use Rattle.output.specs.Lines.{count_line}
use Rattle.output.proofs.count_line.Goals as goal

pub returns : goal.returns
unfolding count_line
returns c =
    after (after c.put_bytes-p.ensures.0 c.put_whole-q.ensures.0) c.put_bytes.ensures.0
