use Prim.Native.Nat.{ℕ}
use mathlib.Core.Path.{refl, ◌≡◌, subst, ◌∙◌}
use mathlib.Core.Bool.{Bool}
use mathlib.Core.List.{List}
use native.Mathlib.Omega.{arith}
use lib.ListN.{length}
use Rattle.std.specs.Prelude.{Some, None}
use Rattle.terms.specs.declared.Term.{Term}
use Rattle.lists.specs.List.{slots}
use Rattle.insertion.proofs.Parts.{Even, even-slots}
use Rattle.joins.specs.Added.{Added}
use Rattle.joins.proofs.Turns.{all_made, turn-start, turn-length, turn-fits, turn_end, turn-full, turn-next, joining_one, Steps}
use Rattle.joins.proofs.join_each.Goals as goal
use Rattle.joins.proofs.join_each.Goals.{At-loop-k}

-- a turn: what the slices held at first, what they hold, and all that they are to hold
module _ (c : At-loop-k) where
  abbrev steps : Steps
  steps = joining_one c.args.t

  abbrev first : Bool → List ℕ
  first = slots c.args.list.now

  abbrev now : Bool → List ℕ
  now = slots c.loop-k.list

  abbrev whole : List Term
  whole = all_made steps c.args.others.positives.now c.args.others.negatives.now first c.args.start

  evens : Even first
  evens = even-slots c.args.list.now

  sizes : (b : Bool) → length (now b) ≡ length (first b)
  sizes =
      turn-length steps c.args.others.positives.now c.args.others.negatives.now c.args.others.same_length whole first now evens c.loop-k.count c.loop-k.k c.loop-k.invariant.0

pub loop-k-init : goal.loop-k-init
loop-k-init c =
    let x = c.args in (
      turn-start (joining_one x.t) x.others.positives.now x.others.negatives.now (slots x.list.now)
          (even-slots x.list.now) x.start c.requires.0 c.requires.1,
      (refl, refl, refl),
    )

pub add_join-requires : goal.add_join-requires
add_join-requires c =
    let l = (goal.at.add_join-requires c).At-loop-k in (
      turn-fits (steps l) c.args.others.positives.now c.args.others.negatives.now c.args.others.same_length (whole l) (first l) (now l) (evens l) c.loop-k.count
          c.loop-k.k c.loop-k.invariant.0,
      c.loop-k.invariant.0.rising,
    )

pub loop-k-preserved : goal.loop-k-preserved
loop-k-preserved c =
    let l = (goal.at.loop-k-preserved c).At-loop-k in
    let i = c.loop-k.invariant.1 in
    let s = c.add_join.ensures.same_loan in
    let x = c.args in
    let then : Bool → List ℕ = slots c.add_join.new.list in (
      turn-next (steps l) x.others.positives.now x.others.negatives.now c.args.others.same_length (whole l) (first l) (now l) (evens l) c.loop-k.count c.loop-k.k
          c.loop-k.invariant.0
          (omega (arith, c.loop-k-test.true)) then c.in_ok-count.count
          (subst (λ (t : Term). Added ((steps l).one t) (now l) c.loop-k.count then (Some c.in_ok-count.count)) c.at.ensures
          c.in_ok-count.ensures.made),
      (s.0 ∙ i.0, s.1 ∙ i.1, s.2 ∙ i.2),
    )

pub returns-in_err-count-clause-made : goal.returns-in_err-count-clause-made
returns-in_err-count-clause-made c =
    let l = (goal.at.returns-in_err-count-clause-made c).At-loop-k in
    let x = c.args in
    let then : Bool → List ℕ = slots c.add_join.new.list in
    rw c.from_residual.ensures
    (turn-full (steps l) x.others.positives.now x.others.negatives.now c.args.others.same_length (whole l) (first l) (now l) (evens l) c.loop-k.count c.loop-k.k
    c.loop-k.invariant.0
    (omega (arith, c.loop-k-test.true)) then then
    (subst (λ (t : Term). Added ((steps l).one t) (now l) c.loop-k.count then None) c.at.ensures c.in_err-count.ensures.made))

pub returns-clause-made : goal.returns-clause-made
returns-clause-made c =
    let l = (goal.at.returns-clause-made c).At-loop-k in
    turn_end (steps l) c.args.others.positives.now c.args.others.negatives.now c.args.others.same_length (whole l) (first l) (now l) (evens l) c.loop-k.count c.loop-k.k
    c.loop-k.invariant.0 (omega arith)
