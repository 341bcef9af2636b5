-- `settling::strike::strike` meets its contract. The invariant: t is a join inside the first; it loses literals.
use mathlib.Core.Path.{◌≡◌}
use mathlib.Core.Bool.{true}
use mathlib.Core.List.{Memᴰ}
use Rattle.terms.specs.Joins.{joins}
use Rattle.terms.specs.Term.{literals, inside}
use Rattle.lists.specs.List.{terms_in}
use Rattle.settling.proofs.strike.strike.Given as goal

abbrev pub invariant-loop-k : goal.invariant-loop-k
invariant-loop-k l = Memᴰ l.t (joins (terms_in l.a) (terms_in l.b)) × (inside l.t l.initial.t ≡ true)

abbrev pub decreases-loop-k : goal.decreases-loop-k
decreases-loop-k l = literals l.t
