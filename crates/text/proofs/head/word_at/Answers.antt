-- `text::head::word_at` meets its contract.
use Rattle.std.proofs.Common.{rules}
use Rattle.text.specs.Read.{word_at}
use Rattle.text.proofs.head.word_at.Goals as goal

pub returns : goal.returns
unfolding word_at
returns c = search rules
