use Prim.Native.Nat.{ℕ, ◌-◌}
use mathlib.Core.Path.{sym, subst}
use mathlib.Core.Bool.{true}
use mathlib.Core.List.{List}
use native.Mathlib.Omega.{arith}
use lib.ListN.{get_or, set, drop}
use borrow.Author.Rules.{rules}
use Rattle.table.specs.Gate.{child_list}
use Rattle.passes.proofs.ChildBefore.{child-before}
use Rattle.checks.specs.Children.{Marked}
use Rattle.checks.proofs.Rules.{marked_more}
use Rattle.checks.proofs.children.mark.Goals as goal

pub loop-k-preserved : goal.loop-k-preserved
loop-k-preserved c =
    let cs = c.args.children in
    let k = c.loop-k.k in
    let a : ℕ = get_or cs.nodes (k - 1) 0 in
    let one = child-before cs c.requires.1 (search rules) k (omega arith) (omega arith) in
    subst (λ (z : List ℕ). Marked c.args.marked.now z (set c.loop-k.marked a true)) (sym one)
    (marked_more c.args.marked.now c.loop-k.marked a (drop k (child_list cs)) (c.requires.1.each (k - 1) (omega arith)) c.loop-k.invariant)
