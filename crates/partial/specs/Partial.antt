-- The question of a partial assignment ("half-known stow") to a circuit: N variables, n nodes, the table w.
use Rattle.std.specs.Prelude.{ℕ, Bool, not, List}
use Rattle.table.specs.Outcome.{after, Outcome, answered}
use Rattle.terms.specs.Completions.{models_under, status}
use Rattle.terms.specs.declared.Term.{Term}
use Rattle.measurements.specs.Measurement.{entries, measured_term, check_measurements, Measurements}
use Rattle.checks.specs.Arguments.{check_term}
use Rattle.queries.specs.Queries.{circuit}

-- the status of the term, and how many of its completions make f true ("allowed") and false ("forbidden")
unfoldable pub judgement : ℕ → (ℕ → Bool) → Term → ℕ × (ℕ × ℕ)
judgement N f t = (status N f t, (models_under N f t, models_under N (λ s. not (f s)) t))

-- the same of the circuit, with the measurements' literals added to the term; after 21 to 25, 32 for the term as given, and 53
unfoldable pub partial_evaluation : ℕ → ℕ → List ℕ → Term → Measurements → Outcome (ℕ × (ℕ × ℕ))
partial_evaluation N n w t m =
    after (check_term N n w t)
    (after (check_measurements N t m) (answered (judgement N (circuit n w) (measured_term t m (entries m)))))
