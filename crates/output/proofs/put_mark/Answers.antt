-- `output::put_mark` meets its contract.
use native.Mathlib.Omega.{arith}
use Rattle.text_writer.proofs.Sinks.{after}
use Rattle.output.proofs.put_mark.Goals as goal

pub returns-then-here : goal.returns-then-here
returns-then-here c = (
  rw c.if-here.true (after c.put_bytes-p.ensures.0 c.put_number.ensures.0),
  omega (arith, c.put_bytes-p.ensures.1, c.put_number.ensures.1),
)
