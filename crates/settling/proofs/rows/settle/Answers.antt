-- `settling::rows::settle` meets its contract.
use mathlib.Core.Path.{sym, ap₂, subst, ◌∙◌}
use mathlib.Core.Logic.{inr}
use mathlib.Core.List.{List, Memᴰ}
use Rattle.terms.specs.Joins.{joins}
use Rattle.terms.specs.Term.{join}
use Rattle.terms.specs.declared.Term.{Term}
use Rattle.lists.specs.List.{nth, terms_in}
use Rattle.settling.specs.Sides.{least_between, Covered, Settled}
use Rattle.settling.proofs.Down.{low-in, high-in}
use Rattle.settling.proofs.Growth.{grew_none}
use Rattle.settling.proofs.Grows.{recounted, grown-so}
use Rattle.settling.proofs.Least.{joined}
use Rattle.settling.proofs.rows.settle.Goals as goal

pub returns-then-tried-clause-made : goal.returns-then-tried-clause-made
returns-then-tried-clause-made c =
    let g = c.requires.growing in
    (grew_none g.front, g.keeps, g.room, c.requires.settled.0 c.if-tried.true)

pub add_least-requires : goal.add_least-requires
add_least-requires c =
    let x = c.args in
    let h = c.requires.growing.at in record {
      growing = recounted c.requires.growing x.tried.cost;
      fact = subst (λ (q : Term). Memᴰ q (joins (terms_in x.a) (terms_in x.b)))
          (sym (c.join-q.ensures ∙ ap₂ join c.at.ensures c.at-2.ensures))
          (joined h.sides _ _ (low-in h x.pair.low c.requires.low_in_bounds.0) (high-in h x.pair.high c.requires.low_in_bounds.1)
          (c.requires.settled.1 c.if-tried.false));
    }

pub returns-clause-made : goal.returns-clause-made
returns-clause-made c =
    let x = c.args in
    let least : List Term = least_between x.a x.b in
    grown-so least least (λ l. Covered least l c.join-q.result)
    (λ l. Settled least l (nth x.a x.pair.low) (nth x.b x.pair.high)) _ _ _ _
    c.add_least.result
    (λ l d. inr (subst (Covered least l) (c.join-q.ensures ∙ ap₂ join c.at.ensures c.at-2.ensures) d)) c.add_least.ensures.made
