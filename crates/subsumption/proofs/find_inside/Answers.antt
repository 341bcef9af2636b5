-- `subsumption::find_inside` meets its contract.
use mathlib.Core.Path.{sym, ap, ◌∙◌}
use native.Mathlib.Omega.{arith}
use Rattle.terms.specs.Term.{inside}
use Rattle.terms.specs.declared.Term.{Term}
use Rattle.subsumption.proofs.Searched.{found-itself, found_before}
use Rattle.subsumption.proofs.find_inside.Goals as goal

pub returns-then-inside : goal.returns-then-inside
returns-then-inside c =
    let x = c.args in
    (omega (arith, c.if-guess-len.true), sym (ap (λ (u : Term). inside u x.t) c.at.ensures) ∙ sym c.inside.ensures ∙ c.if-inside.true)

pub returns-in-Ok : goal.returns-in-Ok
returns-in-Ok c =
    let x = c.args in
    found-itself x.list x.end x.t c.requires c.in-Ok.k c.in-Ok.ensures

pub returns-in-Err : goal.returns-in-Err
returns-in-Err c =
    let x = c.args in
    found_before x.list x.end x.t c.requires c.in-Err.field-0 c.in-Err.ensures c.scan.result c.scan.ensures
