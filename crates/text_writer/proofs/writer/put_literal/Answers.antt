-- `text_writer::writer::put_literal` meets its contract.
use Rattle.text.specs.Syntax.{print_form}
use Rattle.text_writer.proofs.writer.put_literal.Goals as goal

pub returns-then-sign : goal.returns-then-sign
unfolding print_form
returns-then-sign c = rw c.if-sign.true c.put_numbered.ensures

pub returns : goal.returns
unfolding print_form
returns c = rw c.if-sign.false c.put_numbered-2.ensures
