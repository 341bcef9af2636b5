-- What the marks of the children say. No public contract rests on this.
use Rattle.std.specs.Prelude.{ℕ, ◌≡◌, Bool, false, ◌||◌, List, eqb, length, get_or}
use Rattle.table.specs.Node.{max_nodes}
use Rattle.terms.specs.Lists.{any}
use Rattle.passes.specs.Tables.{Holds}

-- the marks l with those of the children cs
pub record Marked (l : List Bool) (cs : List ℕ) (m : List Bool) : Type 0 where
  pub long : length m ≡ max_nodes
  pub marks : Holds false (λ c. get_or l c false || any (eqb c) cs) max_nodes m
