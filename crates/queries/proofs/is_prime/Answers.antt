-- `queries::is_prime` meets its contract.
use mathlib.Core.Path.{ap, ◌∙◌}
use Rattle.table.specs.Outcome.{answered}
use Rattle.table.proofs.Outcomes.{goes_on, after-accepted}
use Rattle.checks.proofs.Arguments.{term-e}
use Rattle.checks.proofs.Refusals.{refusal-handed}
use Rattle.queries.specs.Queries.{prime_test}
use Rattle.queries.proofs.is_prime.Goals as goal

pub is_prime_of-requires : goal.is_prime_of-requires
is_prime_of-requires c =
    let e = goes_on c.check_term.ensures c.in_ok-check_term.was in term-e _ _ _ _ e

pub returns-in_err-check_term : goal.returns-in_err-check_term
unfolding prime_test
returns-in_err-check_term c = refusal-handed c.check_term.ensures c.in_err-check_term.was _ c.from_residual.ensures _

pub returns : goal.returns
unfolding prime_test
returns c =
    let e = goes_on c.check_term.ensures c.in_ok-check_term.was in
    ap answered c.is_prime_of.ensures ∙ after-accepted e _
