use Prim.Native.Nat.{ℕ, ◌-◌}
use mathlib.Core.Path.{sym, ap, ap₂, ◌∙◌}
use mathlib.Core.Bool.{◌&&◌}
use native.Mathlib.Omega.{arith}
use lib.Bits.{bit_or}
use lib.ListN.{get_or}
use borrow.Author.Rules.{rules}
use Rattle.masks.specs.Mask.{disjoint}
use Rattle.circuits.specs.Check.{all_disjoint}
use Rattle.circuits.specs.Function.{union}
use Rattle.passes.proofs.ChildBefore.{child-before}
use Rattle.checks.proofs.children.are_disjoint.Goals as goal

pub loop-k-preserved : goal.loop-k-preserved
loop-k-preserved c =
    let v : ℕ → ℕ = λ x. get_or c.args.masks.now x 0 in
    let a : ℕ = v (get_or c.args.children.nodes (c.loop-k.k - 1) 0) in
    let one = child-before c.args.children c.requires (search rules) c.loop-k.k (omega arith) (omega arith) in (
      ap (bit_or a) c.loop-k.invariant.0 ∙ sym (ap (union v) one),
      ap₂ ◌&&◌ (c.is_disjoint-apart.ensures ∙ ap (disjoint a) c.loop-k.invariant.0) c.loop-k.invariant.1
          ∙ sym (ap (all_disjoint v) one),
    )
