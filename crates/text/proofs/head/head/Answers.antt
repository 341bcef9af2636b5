-- `text::head::head` meets its contract.
use Rattle.std.proofs.Common.{rules}
use Rattle.text.specs.Read.{head_at}
use Rattle.text.proofs.head.head.Goals as goal

pub returns-then-byte_at-ne-OPEN : goal.returns-then-byte_at-ne-OPEN
unfolding head_at
returns-then-byte_at-ne-OPEN c = search rules

pub returns-in-Err : goal.returns-in-Err
unfolding head_at
returns-in-Err c = search rules

pub returns-in-Ok : goal.returns-in-Ok
unfolding head_at
returns-in-Ok c = search rules
