-- `text_assignment::assignment::next_member` meets its contract.
use Rattle.std.proofs.Common.{rules, sym, arith}
use Rattle.text_assignment.specs.Members.{member_at}
use Rattle.text.proofs.Laws.{inside}
use Rattle.text_assignment.proofs.assignment.next_member.Goals as goal

pub returns-then-c-eq-CLOSE : goal.returns-then-c-eq-CLOSE
unfolding member_at
returns-then-c-eq-CLOSE c = let l = inside c.args.s.now c.args.at (omega (arith, sym c.byte_at-c.ensures)) in search rules

pub returns-then-c-ne-SPACE : goal.returns-then-c-ne-SPACE
unfolding member_at
returns-then-c-ne-SPACE c = search rules

pub returns-in_default : goal.returns-in_default
unfolding member_at
returns-in_default c = search rules

pub returns-then-d-ne-CLOSE : goal.returns-then-d-ne-CLOSE
unfolding member_at
returns-then-d-ne-CLOSE c = search rules

pub returns-then-v-low : goal.returns-then-v-low
unfolding member_at
returns-then-v-low c = search rules

pub returns : goal.returns
unfolding member_at
returns c = search rules
