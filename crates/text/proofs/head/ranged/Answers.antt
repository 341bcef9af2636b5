-- `text::head::ranged` meets its contract.
use Rattle.std.proofs.Common.{rules, sym, arith}
use Rattle.text.specs.Read.{ranged_at}
use Rattle.text.proofs.Laws.{inside}
use Rattle.text.proofs.head.ranged.Goals as goal

pub returns-in_default : goal.returns-in_default
unfolding ranged_at
returns-in_default c = search rules

pub returns-then-byte_at-next : goal.returns-then-byte_at-next
unfolding ranged_at
returns-then-byte_at-next c = search rules

pub returns-then-v-low : goal.returns-then-v-low
unfolding ranged_at
returns-then-v-low c = search rules

pub returns-then-high-v : goal.returns-then-high-v
unfolding ranged_at
returns-then-high-v c = search rules

pub returns : goal.returns
unfolding ranged_at
returns c = let l = inside c.args.s.now c.in-Some.p (omega (arith, sym c.byte_at.ensures, c.requires.1)) in search rules
