-- `text_writer::writer::put_numbered` meets its contract.
use native.Mathlib.Omega.{arith}
use Rattle.text_writer.proofs.Sinks.{after}
use Rattle.text_writer.proofs.writer.put_numbered.Goals as goal

pub returns : goal.returns
returns c = (
  after (after c.put_bytes-p.ensures.0 c.put_number-q.ensures.0) c.put_bytes.ensures.0,
  omega (arith, c.put_bytes-p.ensures.1, c.put_number-q.ensures.1, c.put_bytes.ensures.1),
)
