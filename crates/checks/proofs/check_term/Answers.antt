-- `checks::check_term` meets its contract.
use Prim.Native.Nat.{◌≤◌}
use mathlib.Core.Path.{sym, ◌∙◌}
use native.Mathlib.Omega.{arith}
use Rattle.table.specs.Node.{max_variables}
use Rattle.table.specs.Outcome.{accepted, refused}
use Rattle.table.proofs.Outcomes.{goes_on, test-passed, test-failed}
use Rattle.circuits.proofs.Accepted.{accepted-e, variables-le}
use Rattle.checks.specs.Arguments.{check_term}
use Rattle.checks.proofs.Refusals.{refusal-handed}
use Rattle.checks.proofs.check_term.Goals as goal

pub returns-in_err-check : goal.returns-in_err-check
unfolding check_term
returns-in_err-check c = refusal-handed c.check.ensures c.in_err-check.was _ c.from_residual.ensures _

pub is_term-requires : goal.is_term-requires
is_term-requires c =
    let k : c.args.variables ≤ max_variables = variables-le (accepted-e _ _ _ (goes_on c.check.ensures c.in_ok-check.was)) in
    omega arith

pub returns-then-not-is_term : goal.returns-then-not-is_term
unfolding check_term
returns-then-not-is_term c =
    test-failed (goes_on c.check.ensures c.in_ok-check.was) accepted (refused 32 0) (sym c.is_term.ensures ∙ c.if-not-is_term.true)

pub returns : goal.returns
unfolding check_term
returns c = test-passed (goes_on c.check.ensures c.in_ok-check.was) accepted (refused 32 0) (sym c.is_term.ensures ∙ c.if-not-is_term.false)
