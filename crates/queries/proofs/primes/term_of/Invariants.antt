-- `queries::primes::term_of` meets its contract. The invariant: the term has the literals of the variables below `k`.
use mathlib.Core.Path.{◌≡◌}
use Rattle.terms.specs.Prime.{assignment_term}
use Rattle.queries.proofs.primes.term_of.Given as goal

abbrev pub invariant-loop-k : goal.invariant-loop-k
invariant-loop-k l = l.t ≡ assignment_term l.assignment l.k
