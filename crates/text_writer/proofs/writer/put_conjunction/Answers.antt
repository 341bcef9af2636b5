-- `text_writer::writer::put_conjunction` meets its contract.
use native.Mathlib.Omega.{arith}
use Rattle.text.specs.Syntax.{print_form}
use Rattle.text_writer.proofs.Sinks.{after}
use Rattle.text_writer.proofs.writer.put_conjunction.Goals as goal

pub returns : goal.returns
unfolding print_form
returns c = (
  after (after c.put_bytes-p.ensures.0 c.put_children-q.ensures.0) c.put_bytes.ensures.0,
  omega (arith, c.put_bytes-p.ensures.1, c.put_children-q.ensures.1, c.put_bytes.ensures.1),
)
