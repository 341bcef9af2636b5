-- The children of a node from a place on, for loops that go from the last child down.
use Prim.Native.Nat.{ℕ, ◌-◌, ◌<◌, ◌≤◌}
use mathlib.Core.Path.{◌≡◌}
use mathlib.Core.List.{◌∷◌}
use native.Mathlib.Omega.{arith}
use lib.ListN.{length, get_or, drop}
use Rattle.table.specs.Gate.{child_list, ChildrenBelow}
use Rattle.table.specs.Layout.{max_children}
use Rattle.table.specs.declared.layout.Children.{Children}
use Rattle.table.proofs.ChildLists.{one_more}

-- the child at the place before k, and those after it
pub child-before : (cs : Children) {m : ℕ} → ChildrenBelow m cs → length cs.nodes ≡ max_children → (k : ℕ) → 0 < k → k ≤ cs.count
    → drop (k - 1) (child_list cs) ≡ get_or cs.nodes (k - 1) 0 ∷ drop k (child_list cs)
child-before cs b long k p q = let few = b.few in one_more cs (omega arith) k p q
