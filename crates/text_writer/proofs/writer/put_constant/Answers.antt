-- `text_writer::writer::put_constant` meets its contract.
use Rattle.text.specs.Syntax.{print_form}
use Rattle.text_writer.proofs.writer.put_constant.Goals as goal

pub returns-then-v : goal.returns-then-v
unfolding print_form
returns-then-v c = rw c.if-v.true c.put_bytes.ensures

pub returns : goal.returns
unfolding print_form
returns c = rw c.if-v.false c.put_bytes-2.ensures
