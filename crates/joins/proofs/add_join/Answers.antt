-- `joins::add_join` meets its contract.
use Prim.Native.Nat.{ℕ}
use mathlib.Core.Path.{sym, subst, ◌∙◌}
use mathlib.Core.Bool.{Bool, true, false}
use mathlib.Core.List.{List, [], ◌∷◌}
use Rattle.std.specs.Prelude.{Some}
use Rattle.terms.specs.declared.Term.{Term}
use Rattle.terms.proofs.Built.{with-one}
use Rattle.lists.specs.List.{slots}
use Rattle.insertion.proofs.Parts.{even-slots, filled_none}
use Rattle.joins.specs.Added.{Added}
use Rattle.joins.proofs.add_join.Goals as goal

pub returns-then-conflict-clause-made : goal.returns-then-conflict-clause-made
returns-then-conflict-clause-made c =
    let x = c.args in
    subst (λ (l : List Term). Added l (slots x.list.now) x.count (slots x.list.now)
    (Some x.count))
    (sym (with-one x.t x.u true (sym c.conflict.ensures ∙ c.if-conflict.true)))
    (filled_none (slots x.list.now) (even-slots x.list.now) x.count c.requires.0)

pub returns-clause-made : goal.returns-clause-made
returns-clause-made c =
    let x = c.args in
    let s' : Bool → List ℕ = slots c.insert.new.list in
    subst (λ (l : List Term). Added l (slots x.list.now) x.count s' c.insert.result)
    (sym (with-one x.t x.u false (sym c.conflict.ensures ∙ c.if-conflict.false)))
    (subst (λ (t : Term). Added (t ∷ []) (slots x.list.now) x.count s' c.insert.result) c.join.ensures
    c.insert.ensures.made)
