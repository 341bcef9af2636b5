-- `text_assignment::assignment::closed` meets its contract.
use Rattle.std.proofs.Common.{rules}
use Rattle.text_assignment.specs.Members.{closed_at}
use Rattle.text_assignment.proofs.assignment.closed.Goals as goal

pub returns-then-byte_at-ne-NEWLINE : goal.returns-then-byte_at-ne-NEWLINE
unfolding closed_at
returns-then-byte_at-ne-NEWLINE c = search rules

pub returns-then-byte_at-ne-END : goal.returns-then-byte_at-ne-END
unfolding closed_at
returns-then-byte_at-ne-END c = search rules

pub returns : goal.returns
unfolding closed_at
returns c = search rules
