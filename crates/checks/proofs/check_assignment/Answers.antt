-- `checks::check_assignment` meets its contract.
use Prim.Native.Nat.{◌≤◌}
use mathlib.Core.Path.{sym, ◌∙◌}
use native.Mathlib.Omega.{arith}
use Rattle.table.specs.Node.{max_variables}
use Rattle.table.specs.Outcome.{accepted, refused}
use Rattle.table.proofs.Outcomes.{goes_on, test-passed, test-failed}
use Rattle.circuits.proofs.Accepted.{accepted-e, variables-le}
use Rattle.checks.specs.Arguments.{check_assignment}
use Rattle.checks.proofs.Refusals.{refusal-handed}
use Rattle.checks.proofs.check_assignment.Goals as goal

pub returns-in_err-check : goal.returns-in_err-check
unfolding check_assignment
returns-in_err-check c = refusal-handed c.check.ensures c.in_err-check.was _ c.from_residual.ensures _

pub is_within-requires : goal.is_within-requires
is_within-requires c =
    let k : c.args.variables ≤ max_variables = variables-le (accepted-e _ _ _ (goes_on c.check.ensures c.in_ok-check.was)) in
    omega arith

pub returns-then-not-is_within : goal.returns-then-not-is_within
unfolding check_assignment
returns-then-not-is_within c =
    test-failed (goes_on c.check.ensures c.in_ok-check.was) accepted (refused 31 0) (sym c.is_within.ensures ∙ c.if-not-is_within.true)

pub returns : goal.returns
unfolding check_assignment
returns c = test-passed (goes_on c.check.ensures c.in_ok-check.was) accepted (refused 31 0) (sym c.is_within.ensures ∙ c.if-not-is_within.false)
