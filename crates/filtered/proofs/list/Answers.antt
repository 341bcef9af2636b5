-- `filtered::list` meets its contract.
use mathlib.Core.Path.{sym, ap, subst, ◌∙◌}
use Rattle.table.specs.Outcome.{outcome}
use Rattle.table.proofs.Outcomes.{goes_on}
use Rattle.checks.proofs.Refusals.{handed}
use Rattle.exclusions.specs.Exclusions.{exclusions}
use Rattle.listing.specs.Listing.{lent}
use Rattle.filtered.specs.Filtered.{filtered_lent, filtered_table, FilteredLent, Gives}
use Rattle.filtered.proofs.Answers.{gives-refused, gives-accepted}
use Rattle.filtered.proofs.list.Goals as goal

pub list_accepted-requires : goal.list_accepted-requires
list_accepted-requires c = goes_on c.check.ensures c.in_ok-check.was

pub returns-in_err-check : goal.returns-in_err-check
returns-in_err-check c =
    let x = c.args in
    let b : FilteredLent =
    filtered_lent (lent x.positives.now x.negatives.now x.counts.now) x.shown_positives.now x.shown_negatives.now in
    let e = exclusions x.firsts.now x.seconds.now in
    subst (Gives (filtered_table x.weights.now e x.variables x.nodes x.words.now x.capacity b) b) (sym (handed _ _ c.from_residual.ensures))
    (gives-refused x.weights.now e x.variables x.nodes x.words.now x.capacity b _ (sym (ap outcome c.in_err-check.was) ∙ c.check.ensures))

pub returns : goal.returns
returns c =
    let x = c.args in
    let l = c.list_accepted.new in
    gives-accepted x.weights.now (exclusions x.firsts.now x.seconds.now) x.variables x.nodes x.words.now x.capacity
    (filtered_lent (lent x.positives.now x.negatives.now x.counts.now) x.shown_positives.now x.shown_negatives.now)
    (goes_on c.check.ensures c.in_ok-check.was)
    (filtered_lent (lent l.positives l.negatives l.counts) l.shown_positives l.shown_negatives) c.list_accepted.result
    c.list_accepted.ensures
