-- `text::head::tail` meets its contract.
use Rattle.std.proofs.Common.{rules}
use Rattle.text.specs.Read.{tail_at}
use Rattle.text.proofs.head.tail.Goals as goal

pub returns-in_err-v-in-Pick : goal.returns-in_err-v-in-Pick
unfolding tail_at
returns-in_err-v-in-Pick c = search rules

pub returns-in_err-k-in-Line : goal.returns-in_err-k-in-Line
unfolding tail_at
returns-in_err-k-in-Line c = search rules

pub returns-in-False : goal.returns-in-False
unfolding tail_at
returns-in-False c = search rules

pub returns-in-True : goal.returns-in-True
unfolding tail_at
returns-in-True c = search rules

pub returns-in-Yes : goal.returns-in-Yes
unfolding tail_at
returns-in-Yes c = search rules

pub returns-in-No : goal.returns-in-No
unfolding tail_at
returns-in-No c = search rules

pub returns-in_ok-v-in-Pick : goal.returns-in_ok-v-in-Pick
unfolding tail_at
returns-in_ok-v-in-Pick c = search rules

pub returns-in-Both : goal.returns-in-Both
unfolding tail_at
returns-in-Both c = search rules

pub returns-in_ok-k-in-Line : goal.returns-in_ok-k-in-Line
unfolding tail_at
returns-in_ok-k-in-Line c = search rules
