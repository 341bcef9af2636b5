-- The check of a table together with an argument of a question.
use Rattle.std.specs.Prelude.{ℕ, cond, List}
use Rattle.masks.specs.Mask.{within}
use Rattle.table.specs.Outcome.{accepted, after, Outcome, refused}
use Rattle.terms.specs.Term.{is_term}
use Rattle.terms.specs.declared.Term.{Term}
use Rattle.circuits.specs.Check.{check}

-- 21 to 25, then 31: an assignment ("stow") with a bit at N or above
unfoldable pub check_assignment : ℕ → ℕ → List ℕ → ℕ → Outcome (Unit {0})
check_assignment N n w s = after (check N n w) (cond (within N s) accepted (refused 31 0))

-- 21 to 25, then 32: a bit at N or above, or in both masks, so that it is no term ("row") over N variables
unfoldable pub check_term : ℕ → ℕ → List ℕ → Term → Outcome (Unit {0})
check_term N n w t = after (check N n w) (cond (is_term N t) accepted (refused 32 0))
