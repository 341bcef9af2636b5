-- `table::words::children_fit` meets its contract. The invariant: the child words before place k fit.
use Prim.Native.Nat.{ℕ, ◌-◌, ◌≤◌}
use mathlib.Core.Path.{◌≡◌}
use mathlib.Core.Bool.{Bool, true}
use mathlib.Core.List.{List}
use lib.Dec.{ltb}
use lib.ListN.{get_or}
use Rattle.masks.specs.Numbers.{every}
use Rattle.table.specs.Layout.{max_children}
use Rattle.table.specs.Words.{word_fits}
use Rattle.table.proofs.words.children_fit.Given as goal

-- the child word at place j fits
abbrev pub place_fits : ℕ → ℕ → List ℕ → ℕ → Bool
place_fits i count nodes j = word_fits (ltb j count) i (get_or nodes j 0)

abbrev pub invariant-loop-k : goal.invariant-loop-k
invariant-loop-k l = (l.k ≤ max_children) × (every l.k (place_fits l.parent l.count l.nodes) ≡ true)

abbrev pub decreases-loop-k : goal.decreases-loop-k
decreases-loop-k l = max_children - l.k
