-- `queries::evaluate` meets its contract.
use mathlib.Core.Path.{ap, ◌∙◌}
use Rattle.table.specs.Outcome.{answered}
use Rattle.table.proofs.Outcomes.{goes_on, after-accepted}
use Rattle.passes.proofs.ModelPass.{accepted-readable}
use Rattle.checks.proofs.Arguments.{assignment-e}
use Rattle.checks.proofs.Refusals.{refusal-handed}
use Rattle.queries.specs.Queries.{evaluation}
use Rattle.queries.proofs.evaluate.Goals as goal

pub value-requires : goal.value-requires
value-requires c =
    let e = goes_on c.check_assignment.ensures c.in_ok-check_assignment.was in
    accepted-readable _ _ _ (assignment-e _ _ _ _ e).0

pub returns-in_err-check_assignment : goal.returns-in_err-check_assignment
unfolding evaluation
returns-in_err-check_assignment c = refusal-handed c.check_assignment.ensures c.in_err-check_assignment.was _ c.from_residual.ensures _

pub returns : goal.returns
unfolding evaluation
returns c =
    ap answered c.value.ensures ∙ after-accepted (goes_on c.check_assignment.ensures c.in_ok-check_assignment.was) _
