-- The terms of a conjunction of two: all joins, in whichever order they are made; of its negation: two lists in order.
use mathlib.Core.Path.{◌≡◌, subst, ◌∙◌}
use mathlib.Core.List.{List, [], Memᴰ}
use Rattle.terms.specs.Joins.{joins}
use Rattle.terms.specs.Lists.{sort}
use Rattle.terms.specs.Order.{before}
use Rattle.terms.specs.Term.{join, IsTerm}
use Rattle.terms.specs.declared.Term.{Term}
use Rattle.terms.proofs.Built.{joins-in, joins-out, joined_free, JoinOf}
use Rattle.joins.specs.Added.{insert_all}
use Rattle.joins.proofs.Members.{inserted-sorted}
use Rattle.unions.specs.Ordered.{Ordered}
use Rattle.settling.specs.Sides.{Sides}
use Rattle.settling.proofs.Least.{join-comm, turned, joins-terms}

-- the joins the other way round
swapped : {a b : List Term} → Sides a b → (t : Term) → Memᴰ t (joins b a) → Memᴰ t (joins a b)
swapped {a} {b} h t m =
    let j : JoinOf b a t = joins-out a b t m in
    let e : t ≡ join j.right j.left = j.is ∙ join-comm j.left j.right in
    joins-in b a j.right j.left t j.in_right j.in_left
    (joined_free h.variables h.wide j.right j.left (subst (IsTerm h.variables) e (joins-terms (turned h) t m))) e

pub both-made : {a b : List Term} → Sides a b → insert_all (joins b a) [] ≡ sort (before []) (joins a b)
both-made {a} {b} h =
    inserted-sorted h.variables (joins b a) (joins a b) (joins-terms (turned h)) (swapped h) (swapped (turned h))

pub in_order : {a b : List Term} → Sides a b → Ordered a b
in_order h =
    record {
      variables = h.variables;
      terms-low = λ t m. (h.lists-low.only t m).is_term;
      terms-high = λ t m. (h.lists-high.only t m).is_term;
      rising-low = h.rising-low;
      rising-high = h.rising-high;
    }
