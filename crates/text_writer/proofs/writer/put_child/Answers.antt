-- `text_writer::writer::put_child` meets its contract.
use Rattle.text.specs.Syntax.{print_form}
use Rattle.text_writer.proofs.writer.put_child.Goals as goal

pub returns : goal.returns
unfolding print_form
returns c = c.put_numbered.ensures
