-- `text::head::line_word` meets its contract.
use Rattle.std.proofs.Common.{rules}
use Rattle.text.specs.Read.{word_at}
use Rattle.text.proofs.head.line_word.Goals as goal

pub returns-in-OwnForm : goal.returns-in-OwnForm
unfolding word_at
returns-in-OwnForm c = search rules

pub returns-in-Argument : goal.returns-in-Argument
unfolding word_at
returns-in-Argument c = search rules
