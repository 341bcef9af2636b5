-- `decisions::side::list_one` meets its contract.
use mathlib.Core.Path.{◌≡◌, ap, subst, ◌∙◌}
use mathlib.Core.Bool.{Bool}
use mathlib.Core.List.{List}
use Prim.Native.Nat.{ℕ}
use Rattle.terms.specs.Term.{extend}
use Rattle.terms.specs.declared.Term.{Term}
use Rattle.lists.specs.List.{nth, slots}
use Rattle.subsumption.specs.Ahead.{FoundInside}
use Rattle.settling.specs.Growth.{Keeps}
use Rattle.decisions.proofs.OneSide.{one_kept, one-extended, one-over}
use Rattle.decisions.proofs.side.list_one.Goals as goal
use Rattle.decisions.proofs.side.list_one.Goals.{After-extend-u}

-- the term with the literal
wide : (c : After-extend-u) → let x = c.args in
    c.extend-u.result ≡ extend (nth x.a x.one.at) x.literal.variable x.literal.sign
wide c = c.extend-u.ensures ∙ ap (λ (t : Term). extend t c.args.literal.variable c.args.literal.sign) c.at-t.ensures

pub returns-in_err-listed-in-None-clause-made : goal.returns-in_err-listed-in-None-clause-made
returns-in_err-listed-in-None-clause-made c =
    let x = c.args in
    let none = subst (FoundInside x.b (nth x.a x.one.at)) c.in-None.is c.requires.at_in_bounds.1 in
    rw c.from_residual.ensures
    (one-over c.requires.extending x.literal.sign x.one.at c.requires.at_in_bounds.0 none
    (slots c.insert.new.list) c.extend-u.result (wide
    (goal.at.returns-in_err-listed-in-None-clause-made c).After-extend-u)
    c.in_err-listed-in-None.ensures.made)

pub returns-in-Some-clause-made : goal.returns-in-Some-clause-made
returns-in-Some-clause-made c =
    let x = c.args in
    let s' : Bool → List ℕ = slots c.keep.new.list in
    let found = subst (FoundInside x.b (nth x.a x.one.at)) c.in-Some.is c.requires.at_in_bounds.1 in
    one_kept c.requires.extending x.literal.sign x.one.at c.requires.at_in_bounds.0 s' c.keep.new.kept c.keep.result _ found
    (subst (λ (t : Term). Keeps t (slots x.list.now) x.kept.now x.counts s' c.keep.new.kept c.keep.result)
    c.at-t.ensures c.keep.ensures.made)

pub returns-in_ok-listed-in-None-clause-made : goal.returns-in_ok-listed-in-None-clause-made
returns-in_ok-listed-in-None-clause-made c =
    let x = c.args in
    let none = subst (FoundInside x.b (nth x.a x.one.at)) c.in-None.is c.requires.at_in_bounds.1 in
    one-extended c.requires.extending x.literal.sign x.one.at c.requires.at_in_bounds.0 none
    (slots c.insert.new.list) c.extend-u.result c.in_ok-listed-in-None.listed x.counts.cost
    (wide (goal.at.returns-in_ok-listed-in-None-clause-made c).After-extend-u) c.in_ok-listed-in-None.ensures.made
