use Prim.Native.Nat.{ℕ, suc, ◌-◌}
use mathlib.Core.Path.{◌≡◌, refl, ap, subst}
use mathlib.Core.Bool.{Bool}
use mathlib.Core.List.{List}
use native.Mathlib.Omega.{arith}
use Rattle.std.specs.Prelude.{Some, None}
use Rattle.lists.specs.List.{by_sign}
use Rattle.nodes.proofs.Making.{last-below, making-start, making-few, making-end, Making}
use Rattle.nodes.proofs.Making.{making-more, making-full, turn-rooms, turn-given}
use Rattle.nodes.proofs.fill_turns.Goals as goal
use Rattle.nodes.proofs.fill_turns.Goals.{Start, At-loop-k, In-loop-k}

abbrev lent : Start → Bool → List ℕ
lent s = by_sign s.args.positives.now s.args.negatives.now

abbrev now : At-loop-k → Bool → List ℕ
now l = by_sign l.loop-k.positives l.loop-k.negatives

-- a turn is at the place before that of the loop
this : (l : In-loop-k) → let x = l.args in
    Making (by_sign x.positives.now x.negatives.now) x.counts.now x.part (suc (l.loop-k.k - 1))
    (by_sign l.loop-k.positives l.loop-k.negatives) l.loop-k.made
this l =
    let x = l.args in
    let place : l.loop-k.k ≡ suc (l.loop-k.k - 1) = omega arith in
    subst
    (λ (k : ℕ). Making (by_sign x.positives.now x.negatives.now) x.counts.now x.part k
    (by_sign l.loop-k.positives l.loop-k.negatives) l.loop-k.made) place l.loop-k.invariant.0

pub overflow_sub-last : goal.overflow_sub-last
overflow_sub-last c = omega (arith, c.places-last.ensures, c.requires.laid.1.two)

pub child_at-made-requires : goal.child_at-made-requires
child_at-made-requires c =
    let s = (goal.at.child_at-made-requires c).Start in
    let h = c.requires.laid in
    let b = last-below (lent s) c.args.counts.now c.args.part h.0 h.1 in
    let e = c.places-last.ensures in
    record {
      k_lt_max_children = (omega arith, h.0.words (c.places-last.result - 1));
      counts_len_bound = (h.0.nodes, h.0.small);
    }

pub loop-k-init : goal.loop-k-init
loop-k-init c =
    let s = (goal.at.loop-k-init c).Start in
    let h = c.requires.laid in (
      making-start (lent s) c.args.counts.now c.args.part h.0 h.1 (c.places-last.result - 1) c.child_at-made.result
          (ap (λ (n : ℕ). n - 1) c.places-last.ensures) c.child_at-made.ensures.0 c.child_at-made.ensures.1,
      c.requires.has_place.0,
      c.requires.has_place.1,
    )

pub child_at-requires : goal.child_at-requires
child_at-requires c =
    let s = (goal.at.child_at-requires c).Start in
    let l = (goal.at.child_at-requires c).At-loop-k in
    let h = c.requires.laid in
    let few = making-few (lent s) c.args.counts.now c.args.part h.0 h.1 c.loop-k.k (now l) c.loop-k.made c.loop-k.invariant.0 in
    record {
      k_lt_max_children = (omega arith, h.0.words (c.loop-k.k - 1));
      counts_len_bound = (h.0.nodes, h.0.small);
    }

pub fill_part-requires : goal.fill_part-requires
fill_part-requires c =
    let s = (goal.at.fill_part-requires c).Start in
    let l = (goal.at.fill_part-requires c).At-loop-k in
    let j = this (goal.at.fill_part-requires c).In-loop-k in
    let h = c.requires.laid in
    let low = c.child_at.result in
    let f = c.child_at.ensures.0 in
    let n = c.child_at.ensures.1 in
    let r =
    turn-rooms (lent s) c.args.counts.now c.args.part h.0 h.1 (c.loop-k.k - 1) (now l) c.loop-k.made j low f n in
    record {
      given = turn-given (lent s) c.args.counts.now c.args.part h.0 h.1 (c.loop-k.k - 1) (now l) c.loop-k.made j low f n;
      room = (h.0.small, r.0, r.1, r.2, r.3, r.4, r.5);
      has_place = (c.loop-k.invariant.1, c.loop-k.invariant.2);
    }

pub returns-in_err-count : goal.returns-in_err-count
returns-in_err-count c =
    let s = (goal.at.returns-in_err-count c).Start in
    let l = (goal.at.returns-in_err-count c).At-loop-k in
    let j = this (goal.at.returns-in_err-count c).In-loop-k in
    let h = c.requires.laid in
    rw c.from_residual.ensures
    (making-full (lent s) c.args.counts.now c.args.part h.0 h.1 (c.loop-k.k - 1) (now l) c.loop-k.made j c.child_at.result
    c.child_at.ensures.0 c.child_at.ensures.1 (by_sign c.fill_part.new.positives c.fill_part.new.negatives) None
    c.in_err-count.ensures.made refl)

pub loop-k-preserved : goal.loop-k-preserved
loop-k-preserved c =
    let s = (goal.at.loop-k-preserved c).Start in
    let l = (goal.at.loop-k-preserved c).At-loop-k in
    let j = this (goal.at.loop-k-preserved c).In-loop-k in
    let h = c.requires.laid in
    let n : ℕ = c.in_ok-count.count in (
      making-more (lent s) c.args.counts.now c.args.part h.0 h.1 (c.loop-k.k - 1) (now l) c.loop-k.made j c.child_at.result
          c.child_at.ensures.0 c.child_at.ensures.1 (by_sign c.fill_part.new.positives c.fill_part.new.negatives) (Some n)
          c.in_ok-count.ensures.made n refl,
      c.fill_part.ensures.has_place.0,
      c.fill_part.ensures.has_place.1,
    )

pub returns : goal.returns
returns c =
    let s = (goal.at.returns c).Start in
    let l = (goal.at.returns c).At-loop-k in
    let x = c.args in
    let h = c.requires.laid in
    let none : c.loop-k.k ≡ 0 = omega arith in
    making-end (lent s) x.counts.now x.part h.0 h.1 (now l) c.loop-k.made
    (subst (λ (k : ℕ). Making (lent s) x.counts.now x.part k (now l) c.loop-k.made) none c.loop-k.invariant.0)
