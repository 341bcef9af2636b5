-- The answer of the code, in the scope's numbers.
use Rattle.std.specs.Prelude.{ℕ, Result, Ok, Err}
use Rattle.table.specs.Outcome.{Outcome, answered, refused}
use Rattle.terms.specs.declared.Term.{Term}

-- the term with the measurements' literals, or 53 with the measurement
abbrev pub measured_outcome : Result Term ℕ → Outcome Term
measured_outcome (Ok t) = answered t
measured_outcome (Err i) = refused 53 i
