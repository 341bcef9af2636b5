-- `output::refusal_line` meets its contract.
use Rattle.text_writer.proofs.Sinks.{after}
use Rattle.output.specs.Lines.{refusal_line}
use Rattle.output.proofs.refusal_line.Goals as goal

pub returns : goal.returns
unfolding refusal_line
returns c =
    after (after (after (after c.put_bytes-p.ensures.0 c.put_number-q.ensures.0)
    c.put_bytes-t.ensures.0) c.put_whole-u.ensures.0) c.put_bytes.ensures.0
