-- `queries::primes::is_minimal` meets its contract. The invariant: no literal of a variable below `x` can be struck.
use mathlib.Core.Path.{◌≡◌}
use mathlib.Core.Bool.{true, not}
use Rattle.masks.specs.Numbers.{implied, every}
use Rattle.terms.specs.Prime.{implicant}
use Rattle.terms.specs.Term.{mentions, without}
use Rattle.queries.specs.Queries.{circuit}
use Rattle.queries.proofs.primes.is_minimal.Given as goal

abbrev pub invariant-loop-x : goal.invariant-loop-x
invariant-loop-x l = every l.x (λ x. implied (mentions l.t x) (not (implicant l.variables (circuit l.n l.words) (without l.t x)))) ≡ true
