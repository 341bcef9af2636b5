-- `quelbrift::scripts::quelbrift_walk` meets its contract: what is said of the columns of the steps holds of their list.
use Rattle.std.proofs.Common.{◌∙◌, length, subst}
use Rattle.steps.specs.Steps.{steps_in}
use Rattle.steps.specs.declared.Columns.{Columns}
use Rattle.listing.specs.Listing.{lent}
use Rattle.walk.specs.Answers.{WalkResult}
use Rattle.walk.specs.Walk.{walk_lent, WalkLent}
use Rattle.quelbrift.proofs.ScriptAnswers.{told-walk, walked-columns}
use Rattle.quelbrift.proofs.scripts.quelbrift_walk.Goals as goal

pub returns : goal.returns
returns c =
    let x = c.args in
    let y = c.walk.new in
    let before : WalkLent =
    walk_lent (lent x.positives.now x.negatives.now x.counts.now) x.statuses.now x.compatibles.now in
    let after : WalkLent = walk_lent (lent y.positives y.negatives y.counts) y.statuses y.compatibles in
    let walked =
    subst
    (λ (z : Columns).
    WalkResult x.weights.now x.variables x.nodes x.words.now x.capacity (steps_in z (length x.list.now)) before after c.walk.result)
    c.columns_of.ensures c.walk.ensures in
    let h = walked-columns x.weights.now x.variables x.nodes x.words.now x.capacity x.list.now {b = before} {b' = after} walked in
    (c.answer_to.ensures ∙ told-walk c.walk.result ∙ h.0, h.1)
