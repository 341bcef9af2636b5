-- `output::term_line` meets its contract.
use Rattle.text_writer.proofs.Sinks.{after}
use Rattle.output.specs.Lines.{term_line}
use Rattle.output.proofs.term_line.Goals as goal

pub returns : goal.returns
unfolding term_line
returns c =
    after (after c.put_bytes-p.ensures.0 c.put_literals-q.ensures.0) c.put_bytes.ensures.0
