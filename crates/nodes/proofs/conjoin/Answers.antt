-- `nodes::conjoin` meets its contract.
use mathlib.Core.Path.{sym, subst}
use mathlib.Core.Bool.{Bool}
use mathlib.Core.List.{List, []}
use Rattle.terms.specs.Joins.{conjunction_terms}
use Rattle.terms.specs.Lists.{sort}
use Rattle.terms.specs.Order.{before}
use Rattle.terms.specs.declared.Term.{Term}
use Rattle.lists.specs.List.{slots, terms_in}
use Rattle.insertion.specs.Filled.{Filled}
use Rattle.nodes.proofs.Both.{both-made}
use Rattle.nodes.proofs.conjoin.Goals as goal

pub returns-then-sign-clause-made : goal.returns-then-sign-clause-made
returns-then-sign-clause-made c =
    let x = c.args in
    let after : Bool → List _ = slots c.conjunction.new.list in
    subst
    (λ (sign : Bool).
    Filled (sort (before []) (conjunction_terms sign (terms_in x.a) (terms_in x.b))) (slots x.list.now) after c.conjunction.result)
    (sym c.if-sign.true)
    (subst (λ (l : List Term). Filled l (slots x.list.now) after c.conjunction.result) (both-made c.requires.sides)
    c.conjunction.ensures.made)
