-- `listing::list_accepted` meets its contract.
use mathlib.Core.Path.{sym, ◌∙◌}
use Rattle.circuits.proofs.Accepted.{accepted-e, nodes-le}
use Rattle.listing.specs.Listing.{lent}
use Rattle.listing.proofs.Answers.{lists-short, lists-unweighed, lists-all, lists-lack}
use Rattle.listing.proofs.list_accepted.Goals as goal

pub is_enough-requires : goal.is_enough-requires
is_enough-requires c =
    let x = c.args in nodes-le (accepted-e x.shape.variables x.shape.nodes x.words.now c.requires)

pub returns-then-not-is_enough : goal.returns-then-not-is_enough
returns-then-not-is_enough c =
    let x = c.args in
    lists-short x.shape.sign x.weights.now x.shape.variables x.shape.nodes x.words.now x.shape.capacity
    (lent x.positives.now x.negatives.now x.counts.now) c.requires (sym c.is_enough.ensures ∙ c.if-not-is_enough.true)

pub returns-then-not-fit : goal.returns-then-not-fit
returns-then-not-fit c =
    let x = c.args in
    lists-unweighed x.shape.sign x.weights.now x.shape.variables x.shape.nodes x.words.now x.shape.capacity
    (lent x.positives.now x.negatives.now x.counts.now) c.requires (sym c.is_enough.ensures ∙ c.if-not-is_enough.false)
    (sym c.fit.ensures ∙ c.if-not-fit.true)

pub list_ready-requires : goal.list_ready-requires
list_ready-requires c = record {
  words_value = (c.requires, sym c.fit.ensures ∙ c.if-not-fit.false);
  counts_value = sym c.is_enough.ensures ∙ c.if-not-is_enough.false;
}

pub returns-then-list_ready : goal.returns-then-list_ready
returns-then-list_ready c =
    let x = c.args in
    let l = c.list_ready.new in
    lists-all x.shape.sign x.weights.now x.shape.variables x.shape.nodes x.words.now x.shape.capacity
    (lent x.positives.now x.negatives.now x.counts.now) c.requires (sym c.is_enough.ensures ∙ c.if-not-is_enough.false)
    (sym c.fit.ensures ∙ c.if-not-fit.false) (lent l.positives l.negatives l.counts) c.list_ready.result c.list_ready.ensures
    c.if-list_ready.true

pub returns : goal.returns
returns c =
    let x = c.args in
    let l = c.list_ready.new in
    lists-lack x.shape.sign x.weights.now x.shape.variables x.shape.nodes x.words.now x.shape.capacity
    (lent x.positives.now x.negatives.now x.counts.now) c.requires (sym c.is_enough.ensures ∙ c.if-not-is_enough.false)
    (sym c.fit.ensures ∙ c.if-not-fit.false) (lent l.positives l.negatives l.counts) c.list_ready.result c.list_ready.ensures
    c.if-list_ready.false
