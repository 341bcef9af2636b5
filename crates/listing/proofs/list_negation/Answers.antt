-- `listing::list_negation` meets its contract.
use mathlib.Core.Path.{sym, ap, subst, ◌∙◌}
use mathlib.Core.Bool.{false}
use Rattle.table.specs.Outcome.{outcome}
use Rattle.listing.specs.Listing.{lent, Lent, ListResult}
use Rattle.checks.proofs.Refusals.{handed}
use Rattle.listing.proofs.Answers.{lists-refused}
use Rattle.listing.proofs.list_negation.Goals as goal

pub returns-in_err-check : goal.returns-in_err-check
returns-in_err-check c =
    let x = c.args in
    let b : Lent = lent x.positives.now x.negatives.now x.counts.now in
    subst (ListResult false x.weights.now x.variables x.nodes x.words.now x.capacity b b) (sym (handed _ _ c.from_residual.ensures))
    (lists-refused false x.weights.now x.variables x.nodes x.words.now x.capacity b _
    (sym (ap outcome c.in_err-check.was) ∙ c.check.ensures))
