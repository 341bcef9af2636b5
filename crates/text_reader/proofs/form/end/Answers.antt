-- `text_reader::form::end` meets its contract.
use Rattle.std.proofs.Common.{rules}
use Rattle.text.specs.Read.{end_at}
use Rattle.text_reader.proofs.form.end.Goals as goal

pub returns-then-children-lt-LEAST_FORMS : goal.returns-then-children-lt-LEAST_FORMS
unfolding end_at
returns-then-children-lt-LEAST_FORMS c = search rules

pub returns : goal.returns
unfolding end_at
returns c = search rules
