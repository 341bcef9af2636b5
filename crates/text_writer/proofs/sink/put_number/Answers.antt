-- `text_writer::sink::put_number` meets its contract.
use native.Mathlib.Omega.{arith}
use Rattle.text.specs.Syntax.{decimal}
use Rattle.text_writer.proofs.Sinks.{after}
use Rattle.text_writer.proofs.sink.put_number.Goals as goal

pub returns : goal.returns
unfolding decimal
returns c = (
  after (after (after c.put_digit-p.ensures.0 c.put_digit-q.ensures.0)
      c.put_digit-t.ensures.0) c.put.ensures.0,
  omega (
    arith,
    c.put_digit-p.ensures.1,
    c.put_digit-q.ensures.1,
    c.put_digit-t.ensures.1,
    c.put.ensures.1,
  ),
)
