-- `queries::implies` meets its contract.
use mathlib.Core.Path.{ap, ◌∙◌}
use Rattle.table.specs.Outcome.{answered}
use Rattle.table.proofs.Outcomes.{goes_on, after-accepted}
use Rattle.passes.proofs.ModelPass.{accepted-readable}
use Rattle.checks.proofs.Arguments.{term-e}
use Rattle.checks.proofs.Refusals.{refusal-handed}
use Rattle.queries.specs.Queries.{implicant_test}
use Rattle.queries.proofs.Accepted.{implied-circuit}
use Rattle.queries.proofs.implies.Goals as goal

pub implied-requires : goal.implied-requires
implied-requires c =
    let e = goes_on c.check_term.ensures c.in_ok-check_term.was in accepted-readable _ _ _ (term-e _ _ _ _ e).0

pub returns-in_err-check_term : goal.returns-in_err-check_term
unfolding implicant_test
returns-in_err-check_term c = refusal-handed c.check_term.ensures c.in_err-check_term.was _ c.from_residual.ensures _

pub returns : goal.returns
unfolding implicant_test
returns c =
    let e = goes_on c.check_term.ensures c.in_ok-check_term.was in
    let (a, b) = term-e _ _ _ _ e in
    ap answered (c.implied.ensures ∙ implied-circuit _ _ _ a _ b) ∙ after-accepted e _
