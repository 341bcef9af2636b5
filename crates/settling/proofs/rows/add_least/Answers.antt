-- `settling::rows::add_least` meets its contract.
use mathlib.Core.List.{List}
use Rattle.terms.specs.declared.Term.{Term}
use Rattle.lists.specs.List.{slots}
use Rattle.settling.specs.Sides.{least_between, Covered}
use Rattle.settling.proofs.Grows.{kept-grown}
use Rattle.settling.proofs.rows.add_least.Goals as goal

pub returns-clause-made : goal.returns-clause-made
returns-clause-made c =
    let x = c.args in
    let least : List Term = least_between x.a x.b in
    kept-grown c.requires.growing least c.strike-m.result c.strike-m.ensures.0 c.strike-m.ensures.0
    (slots c.keep.new.list) c.keep.new.kept (λ l. Covered least l x.q) c.keep.result
    (λ l i. record { term = c.strike-m.result; is-listed = i; is-least = c.strike-m.ensures.0; is-inside = c.strike-m.ensures.1 })
    c.keep.ensures.made
