-- The questions to a circuit: N variables, n nodes, the table w. Each is answered for an accepted table only, after 31 or 32.
use Rattle.std.specs.Prelude.{ℕ, pred, ◌^◌, Bool, cond, List}
use Rattle.masks.specs.Numbers.{count}
use Rattle.table.specs.Outcome.{after, Outcome, answered, refused}
use Rattle.terms.specs.Prime.{implicant, prime, assignment_term, reduce}
use Rattle.terms.specs.declared.Term.{Term}
use Rattle.circuits.specs.Check.{check}
use Rattle.circuits.specs.Function.{function}
use Rattle.checks.specs.Arguments.{check_assignment, check_term}

-- the function of the whole circuit: the last node's
abbrev pub circuit : ℕ → List ℕ → ℕ → Bool
circuit n w = function w (pred n)

-- the value at the assignment s ("verdict for a stow")
unfoldable pub evaluation : ℕ → ℕ → List ℕ → ℕ → Outcome Bool
evaluation N n w s = after (check_assignment N n w s) (answered (circuit n w s))

-- how many of the 2 ^ N assignments satisfy the circuit ("count of allowed stows")
unfoldable pub model_count : ℕ → ℕ → List ℕ → Outcome ℕ
model_count N n w = after (check N n w) (answered (count (2 ^ N) (circuit n w)))

-- whether the term is an implicant ("implies")
unfoldable pub implicant_test : ℕ → ℕ → List ℕ → Term → Outcome Bool
implicant_test N n w t = after (check_term N n w t) (answered (implicant N (circuit n w) t))

-- whether the term is a prime implicant ("is a clearance")
unfoldable pub prime_test : ℕ → ℕ → List ℕ → Term → Outcome Bool
prime_test N n w t = after (check_term N n w t) (answered (prime N (circuit n w) t))

-- the prime implicant left of a satisfying assignment ("strike down"); 33: it does not satisfy the circuit
unfoldable pub reduction : ℕ → ℕ → List ℕ → ℕ → Outcome Term
reduction N n w s =
    after (check_assignment N n w s)
    (cond (circuit n w s) (answered (reduce N (circuit n w) (assignment_term s N) N)) (refused 33 0))
