use Prim.Native.Nat.{ℕ, suc, ◌-◌, ◌+◌, ◌*◌, ◌≤◌, zero-le}
use mathlib.Core.Path.{◌≡◌, refl, sym, ap, subst, ◌∙◌}
use mathlib.Core.Bool.{Bool, true, false}
use mathlib.Core.List.{List, [], ◌++◌}
use native.Mathlib.Nat.{le_trans, le_of_eq, suc-mul, mul-le-mul_right}
use native.Mathlib.Omega.{arith}
use native.Mathlib.Numerals.{add-one}
use lib.ListN.{length, get_or, take, drop, length-drop}
use lib.Seq.{length-take-le}
use Rattle.masks.proofs.Numbers.{product_le}
use Rattle.table.specs.Node.{max_nodes}
use Rattle.lists.specs.Capacity.{max_capacity}
use Rattle.terms.specs.Lists.{sort}
use Rattle.terms.specs.Order.{before}
use Rattle.terms.specs.Term.{terms_of}
use Rattle.lists.specs.List.{by_sign}
use Rattle.insertion.specs.Filled.{masks_of}
use Rattle.weighing.specs.Weights.{Bounded}
use Rattle.weighing.proofs.Sums.{summed-weight}
use Rattle.weighing.proofs.Weights.{weight-most, fitting-length, fitting-most}
use Rattle.arranging.specs.Arranged.{Light, Weighs, Arrangeable}
use Rattle.listing.specs.Exact.{Holds}
use Rattle.listing.proofs.Arranged.{ArrangedTo, arranged-start, arranged-end, arranged-length, arranged-more}
use Rattle.listing.proofs.Arranged.{all-counted, counted, own-arrangeable}
use Rattle.listing.proofs.arrange.arrange_nodes.Goals as goal
use Rattle.listing.proofs.arrange.arrange_nodes.Goals.{Start, In-loop-i}

-- ---- what is known at the start
module _ (s : Start) where
  abbrev R : ℕ
  R = s.args.shape.capacity

  abbrev n : ℕ
  n = s.args.shape.nodes

  abbrev m : List ℕ
  m = s.args.weights.now

  abbrev holds : Holds [] s.args.shape.variables n s.requires.unarranged.listed R (by_sign s.args.positives.now s.args.negatives.now)
      s.args.counts.now
  holds = s.requires.unarranged.holds

  bounded : Bounded m
  bounded = fitting-most s.args.shape.variables m s.requires.unarranged.weights

  few : length m ≤ 40
  few = omega (arith, fitting-length s.args.shape.variables m s.requires.unarranged.weights, s.requires.unarranged.variables-few)

  -- all parts together are not long
  short : n * R ≤ max_nodes * max_capacity
  short = product_le n R max_nodes max_capacity s.requires.unarranged.nodes-few s.requires.unarranged.small

-- ---- and at a turn
module _ (a : In-loop-i) where
  abbrev start : Start
  start = (goal.at.In-loop-i a).Start

  abbrev now : Bool → List ℕ
  now = by_sign a.loop-i.positives a.loop-i.negatives

  weighs : Weighs a.args.weights.now a.fill.new.sums
  weighs = summed-weight a.loop-i.invariant.1 (few start)

  light : Light a.fill.new.sums
  light t = omega (arith, weighs t, weight-most (m start) (bounded start) (few start) t)

  -- the nodes below are in order
  state : ArrangedTo (m start) a.args.shape.variables a.requires.unarranged.listed (R start)
      (by_sign a.args.positives.now a.args.negatives.now) a.loop-i.i now
  state = a.loop-i.invariant.2 a.requires.unarranged.listed (holds start)

  sizes : (b : Bool) → length (now b) ≡ n start * R start
  sizes b = arranged-length (m start) (holds start) a.loop-i.i now a.loop-i.invariant.0 state b

  -- the node's part ends where the next begins, and its terms are in it
  abbrev at : ℕ
  at = a.loop-i.i * R start

  abbrev count : ℕ
  count = get_or a.args.counts.now a.loop-i.i 0

  ends : at + R start ≤ n start * R start
  ends =
      let k : suc a.loop-i.i * R start ≤ n start * R start = mul-le-mul_right (R start) a.loop-i-test.true in
      omega (arith, suc-mul a.loop-i.i (R start))

  fits : count ≤ R start
  fits = le_trans (le_of_eq (counted (m start) (holds start) a.loop-i.i a.loop-i-test.true)) ((holds start).fits a.loop-i.i a.loop-i-test.true)

  size : at + count - at ≡ count
  size = omega arith

  -- the terms of the part, as they are lent
  abbrev part : Bool → List ℕ
  part b = take (at + count - at) (drop at (now b))

  part-size : (b : Bool) → length (part b) ≡ count
  part-size b =
      ap (λ (k : ℕ). length (take k (drop at (now b)))) size
      ∙ length-take-le count (drop at (now b)) (rw (length-drop at (now b)) (omega (arith, sizes b, ends, fits)))

pub fill-requires : goal.fill-requires
fill-requires c = (refl, bounded (goal.at.fill-requires c).Start)

pub loop-i-init : goal.loop-i-init
loop-i-init c =
    let s = (goal.at.loop-i-init c).Start in
    (zero-le, c.fill.ensures, (λ F h. arranged-start (m s) h), (refl, refl, refl))

pub overflow_mul-at : goal.overflow_mul-at
overflow_mul-at c = let a = (goal.at.overflow_mul-at c).In-loop-i in omega (arith, ends a, short (start a))

pub bounds-counts-i : goal.bounds-counts-i
bounds-counts-i c =
    let s = (goal.at.bounds-counts-i c).Start in omega (arith, c.loop-i-test.true, all-counted (m s) (holds s))

pub overflow_add-end : goal.overflow_add-end
overflow_add-end c = let a = (goal.at.overflow_add-end c).In-loop-i in omega (arith, ends a, fits a, short (start a))

pub slice_bounds-arrange_in-end : goal.slice_bounds-arrange_in-end
slice_bounds-arrange_in-end c =
    let a = (goal.at.slice_bounds-arrange_in-end c).In-loop-i in omega (arith, ends a, fits a, sizes a true)

pub slice_bounds-arrange_in-end-in-loop-i : goal.slice_bounds-arrange_in-end-in-loop-i
slice_bounds-arrange_in-end-in-loop-i c =
    let a = (goal.at.slice_bounds-arrange_in-end-in-loop-i c).In-loop-i in omega (arith, ends a, fits a, sizes a false)

pub arrange_in-requires : goal.arrange_in-requires
arrange_in-requires c =
    let a = (goal.at.arrange_in-requires c).In-loop-i in
    let s = start a in record {
      arrangeable = (
        subst (λ (k : ℕ). Arrangeable (take k (drop (at a) (now a true))) (take k (drop (at a) (now a false)))) (sym (size a))
            (own-arrangeable (m s) (holds s) a.loop-i.i (now a) a.loop-i-test.true (state a) s.requires.unarranged.small),
        a.loop-i.invariant.1.size,
        light a,
      );
      in_bounds = (
        omega (arith, part-size a true, fits a, a.loop-i.invariant.3.0, s.requires.capacity_in_bounds.0),
        omega (arith, part-size a true, fits a, a.loop-i.invariant.3.1, s.requires.capacity_in_bounds.1),
        omega (arith, part-size a true, fits a, a.loop-i.invariant.3.2, s.requires.capacity_in_bounds.2),
      );
      same_length = part-size a false ∙ sym (part-size a true);
    }

pub loop-i-preserved : goal.loop-i-preserved
loop-i-preserved c =
    let a = (goal.at.loop-i-preserved c).In-loop-i in
    let s = start a in
    let k : ℕ = at a + count a - at a in
    let first : Bool → List ℕ = by_sign s.args.positives.now s.args.negatives.now in
    let then : Bool → List ℕ =
    by_sign (take (at a) (now a true) ++ (c.arrange_in.new.positives ++ drop k (drop (at a) (now a true))))
    (take (at a) (now a false) ++ (c.arrange_in.new.negatives ++ drop k (drop (at a) (now a false)))) in
    let Put : Bool → Type 0 =
    λ b. then b ≡ take (at a) (now a b)
    ++ (masks_of b (sort (before (m s)) (terms_of (part a true) (part a false))) ++ drop k (drop (at a) (now a b))) in
    let put : (b : Bool) → Put b =
    λ b. elim b as Put [
      | true ↦ ap (λ (z : List ℕ). take (at a) (now a true) ++ (z ++ drop k (drop (at a) (now a true))))
          (c.arrange_in.ensures (m s) (weighs a) true)
      | false ↦ ap (λ (z : List ℕ). take (at a) (now a false) ++ (z ++ drop k (drop (at a) (now a false))))
          (c.arrange_in.ensures (m s) (weighs a) false)
    ] in (
      omega (arith, c.loop-i-test.true),
      c.loop-i.invariant.1,
      (λ F h. subst (λ (j : ℕ). ArrangedTo (m s) s.args.shape.variables F (R s) first j then) (sym (add-one c.loop-i.i))
          (arranged-more (m s) h c.loop-i.i (now a) c.loop-i-test.true (c.loop-i.invariant.2 F h) k (size a) then put)),
      (
        c.arrange_in.auto.keys ∙ c.loop-i.invariant.3.0,
        c.arrange_in.auto.spare ∙ c.loop-i.invariant.3.1,
        c.arrange_in.auto.copy ∙ c.loop-i.invariant.3.2,
      ),
    )

pub returns : goal.returns
returns c =
    let s = (goal.at.returns c).Start in
    let e : c.loop-i.i ≡ n s = omega (arith, c.loop-i-test.false) in
    let first : Bool → List ℕ = by_sign c.args.positives.now c.args.negatives.now in
    let last : Bool → List ℕ = by_sign c.loop-i.positives c.loop-i.negatives in
    λ F h. arranged-end (m s) h last
    (subst (λ (k : ℕ). ArrangedTo (m s) c.args.shape.variables F (R s) first k last) e (c.loop-i.invariant.2 F h))
