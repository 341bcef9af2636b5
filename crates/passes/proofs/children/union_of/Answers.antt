use mathlib.Core.Path.{sym, ap, ◌∙◌}
use native.Mathlib.Omega.{arith}
use lib.ListN.{get_or}
use lib.Bits.{bit_or}
use borrow.Author.Rules.{rules}
use Rattle.circuits.specs.Function.{union}
use Rattle.passes.proofs.ChildBefore.{child-before}
use Rattle.passes.proofs.children.union_of.Goals as goal

pub loop-k-preserved : goal.loop-k-preserved
loop-k-preserved c =
    let one = child-before c.args.children c.requires (search rules) c.loop-k.k (omega arith) (omega arith) in
    ap (bit_or _) c.loop-k.invariant ∙ sym (ap (union (λ x. get_or c.args.masks.now x 0)) one)
