-- `text_writer::writer::put_line` meets its contract.
use native.Mathlib.Omega.{arith}
use Rattle.text_writer.proofs.Sinks.{after}
use Rattle.text_writer.proofs.writer.put_line.Goals as goal

pub returns : goal.returns
returns c = (
  after c.put_form-p.ensures.0 c.put_bytes.ensures.0,
  omega (arith, c.put_form-p.ensures.1, c.put_bytes.ensures.1),
)
