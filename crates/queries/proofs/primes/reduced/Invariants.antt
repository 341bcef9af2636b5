-- `queries::primes::reduced` meets its contract. The invariant: the literals of the variables below `k` were tried.
use mathlib.Core.Path.{◌≡◌}
use lib.Dec.{T}
use Rattle.terms.specs.Prime.{reduce}
use Rattle.terms.specs.Term.{is_term}
use Rattle.queries.specs.Queries.{circuit}
use Rattle.queries.proofs.primes.reduced.Given as goal

abbrev pub invariant-loop-k : goal.invariant-loop-k
invariant-loop-k l = (l.u ≡ reduce l.variables (circuit l.n l.words) l.initial.u l.k) × T (is_term l.variables l.u)
