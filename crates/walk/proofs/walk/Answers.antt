-- `walk::walk` meets its contract.
use mathlib.Core.Path.{sym, ap, subst, ◌∙◌}
use Rattle.table.specs.Outcome.{outcome}
use Rattle.table.proofs.Outcomes.{goes_on}
use Rattle.checks.proofs.Refusals.{handed}
use Rattle.steps.specs.Steps.{steps_in}
use Rattle.listing.specs.Listing.{lent}
use Rattle.walk.specs.Answers.{steps_outcome, WalkResult}
use Rattle.walk.specs.Walk.{walk_lent, WalkLent}
use Rattle.walk.proofs.Answers.{walks-refused, walks-fault}
use Rattle.walk.proofs.walk.Goals as goal

pub walk_accepted-requires : goal.walk_accepted-requires
walk_accepted-requires c =
    (goes_on c.check.ensures c.in_ok-check.was, sym c.check_steps.ensures ∙ ap steps_outcome c.in_ok-check_steps.was)

pub returns-in_err-check : goal.returns-in_err-check
returns-in_err-check c =
    let x = c.args in
    let b : WalkLent = walk_lent (lent x.positives.now x.negatives.now x.counts.now) x.statuses.now x.compatibles.now in
    subst (WalkResult x.weights.now x.variables x.nodes x.words.now x.capacity (steps_in x.columns x.k) b b)
    (sym (handed _ _ c.from_residual.ensures))
    (walks-refused x.weights.now x.variables x.nodes x.words.now x.capacity (steps_in x.columns x.k) b _
    (sym (ap outcome c.in_err-check.was) ∙ c.check.ensures))

pub returns-in_err-check_steps : goal.returns-in_err-check_steps
returns-in_err-check_steps c =
    let x = c.args in
    let b : WalkLent = walk_lent (lent x.positives.now x.negatives.now x.counts.now) x.statuses.now x.compatibles.now in
    subst (WalkResult x.weights.now x.variables x.nodes x.words.now x.capacity (steps_in x.columns x.k) b b)
    (sym (handed _ _ c.from_residual-in_err-check_steps.ensures))
    (walks-fault x.weights.now x.variables x.nodes x.words.now x.capacity (steps_in x.columns x.k) b
    (goes_on c.check.ensures c.in_ok-check.was) _ (sym (ap steps_outcome c.in_err-check_steps.was) ∙ c.check_steps.ensures))
