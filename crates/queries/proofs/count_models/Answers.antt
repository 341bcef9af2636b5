-- `queries::count_models` meets its contract.
use Prim.Native.Nat.{◌^◌}
use mathlib.Core.Path.{ap, ◌∙◌}
use Rattle.masks.specs.Numbers.{count}
use Rattle.table.specs.Outcome.{answered}
use Rattle.table.proofs.Outcomes.{goes_on, after-accepted}
use Rattle.terms.specs.Term.{empty}
use Rattle.terms.proofs.Terms.{empty-IsTerm, is_term-i}
use Rattle.checks.proofs.Refusals.{refusal-handed}
use Rattle.queries.specs.Queries.{circuit, model_count}
use Rattle.queries.proofs.Accepted.{models-empty}
use Rattle.queries.proofs.count_models.Goals as goal

pub models_under-requires : goal.models_under-requires
models_under-requires c =
    let e = goes_on c.check.ensures c.in_ok-check.was in
    (e, is_term-i c.args.variables empty (empty-IsTerm c.args.variables))

pub returns-in_err-check : goal.returns-in_err-check
unfolding model_count
returns-in_err-check c = refusal-handed c.check.ensures c.in_err-check.was _ c.from_residual.ensures _

pub returns : goal.returns
unfolding model_count
returns c =
    let e = goes_on c.check.ensures c.in_ok-check.was in
    ap answered
    (c.models_under.ensures ∙ models-empty c.args.variables (circuit c.args.nodes c.args.words.now))
    ∙ after-accepted e (answered (count (2 ^ c.args.variables) (circuit c.args.nodes c.args.words.now)))
