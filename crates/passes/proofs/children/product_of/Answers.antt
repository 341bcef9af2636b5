use Prim.Native.Nat.{ℕ, ◌-◌, ◌*◌, ◌/◌, ◌^◌, ◌<◌, ◌≤◌}
use mathlib.Core.Path.{◌≡◌, sym, ap, ap₂, subst, ◌∙◌}
use mathlib.Core.List.{List}
use native.Mathlib.Omega.{arith}
use lib.ListN.{length, get_or, drop}
use borrow.Author.Rules.{rules}
use Rattle.masks.specs.Mask.{size}
use Rattle.table.specs.Gate.{child_list, ChildrenBelow}
use Rattle.table.specs.Layout.{max_children}
use Rattle.table.specs.Node.{max_nodes}
use Rattle.table.specs.declared.layout.Children.{Children}
use Rattle.passes.specs.Models.{product_of}
use Rattle.passes.proofs.ChildBefore.{child-before}
use Rattle.passes.proofs.children.product_of.Goals as goal

-- the product of some children
abbrev product : ℕ → List ℕ → List ℕ → List ℕ → ℕ
product V M S cs = product_of V (λ c. get_or M c 0) (λ c. get_or S c 0) cs

-- the product of the child at the place before k with those after it
more : (V : ℕ) (M S : List ℕ) (cs : Children) → ChildrenBelow max_nodes cs → length cs.nodes ≡ max_children → (k : ℕ) → 0 < k
    → k ≤ cs.count → (all : ℕ) → all ≡ product V M S (drop k (child_list cs))
    → let c : ℕ = get_or cs.nodes (k - 1) 0 in
    (own : ℕ) → own ≡ size (get_or S c 0)
    → get_or M c 0 / 2 ^ (V - own) * (all / 2 ^ own) ≡ product V M S (drop (k - 1) (child_list cs))
more V M S cs b long k p q all f own e =
    let c : ℕ = get_or cs.nodes (k - 1) 0 in
    ap₂ (λ (k m : ℕ). get_or M c 0 / 2 ^ (V - k) * (m / 2 ^ k)) e f
    ∙ sym (ap (product V M S) (child-before cs b long k p q))

pub product-all-requires : goal.product-all-requires
product-all-requires c =
    let cs = c.args.children in
    let below = c.requires.children_below.0 in
    let k = c.loop-k.k in
    let long : length cs.nodes ≡ max_children = search rules in
    let own = c.count_bits-own.ensures in
    let all = c.requires.multiplied in (
      c.requires.children_below.1,
      subst (λ (z : ℕ). z ≤ c.args.variables) (sym own)
          (all.own (k - 1) (get_or cs.nodes (k - 1) 0) (drop k (child_list cs)) (child-before cs below long k (omega arith) (omega arith))),
      subst (λ (z : ℕ). z ≤ 2 ^ 40)
          (sym (more c.args.variables c.args.models.now c.args.supports.now cs below long k (omega arith) (omega arith) _ c.loop-k.invariant
          c.count_bits-own.result own))
          (all.low (k - 1)),
    )

pub loop-k-preserved : goal.loop-k-preserved
loop-k-preserved c =
    let cs = c.args.children in
    let long : length cs.nodes ≡ max_children = search rules in
    c.product-all.ensures
    ∙ more c.args.variables c.args.models.now c.args.supports.now cs c.requires.children_below.0 long c.loop-k.k (omega arith)
    (omega arith) _ c.loop-k.invariant c.count_bits-own.result c.count_bits-own.ensures
