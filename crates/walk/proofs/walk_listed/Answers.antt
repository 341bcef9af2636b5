-- `walk::walk_listed` meets its contract.
use Prim.Native.Nat.{ℕ, pred, ◌+◌, ◌-◌, ◌*◌, ◌≤◌}
use mathlib.Core.Path.{◌≡◌, ap, ap₂, ◌∙◌}
use mathlib.Core.Bool.{true, false}
use mathlib.Core.List.{List}
use native.Mathlib.Nat.{le_trans, le_of_eq}
use native.Mathlib.Omega.{arith}
use lib.ListN.{length, get_or, take, drop}
use Rattle.masks.proofs.Numbers.{product_le}
use Rattle.table.specs.Node.{max_nodes}
use Rattle.terms.specs.Term.{terms_of}
use Rattle.terms.specs.declared.Term.{Term}
use Rattle.circuits.proofs.Accepted.{accepted-e, nodes-some, nodes-le, Accepted}
use Rattle.lists.specs.Capacity.{max_capacity}
use Rattle.insertion.specs.Filled.{masks_of}
use Rattle.insertion.proofs.Parts.{length-masks, terms-masks}
use Rattle.listing.proofs.Last.{last-part}
use Rattle.walk.specs.Ready.{plan_primes}
use Rattle.walk.proofs.walk_listed.Goals as goal
use Rattle.walk.proofs.walk_listed.Goals.{Start}

module _ (s : Start) where
  abbrev n : ℕ
  n = s.args.plan.nodes

  abbrev R : ℕ
  R = s.args.capacity

  -- the prime implicants of the circuit, where they start, and how many they are
  abbrev rows : List Term
  rows = plan_primes s.requires.weights s.args.plan s.args.words.now

  abbrev from : ℕ
  from = (n - 1) * R

  abbrev size : ℕ
  size = get_or s.args.counts.now (n - 1) 0

  accepts : Accepted s.args.plan.variables n s.args.words.now
  accepts = accepted-e s.args.plan.variables n s.args.words.now s.requires.steps.accepts

  some : 1 ≤ n
  some = nodes-some accepts

  last : n - 1 ≡ pred n
  last = omega (arith, some)

  -- their part ends where the listing does, which is not far
  ends : from + R ≡ n * R
  ends = ap (λ (m : ℕ). m * R + R) last ∙ last-part n R some

  short : n * R ≤ max_nodes * max_capacity
  short = product_le n R max_nodes max_capacity (nodes-le accepts) s.requires.small

  counted : size ≡ length rows
  counted = ap (λ (m : ℕ). get_or s.args.counts.now m 0) last ∙ s.requires.count

  few : size ≤ R
  few = le_trans (le_of_eq counted) s.requires.few

  -- the part that is lent
  lent-part : (old l : List ℕ) → take (length rows) (drop (pred n * R) old) ≡ l → take (from + size - from) (drop from old) ≡ l
  lent-part old l e =
      let d : from + size - from ≡ size = omega arith in
      ap (λ (m : ℕ). take m (drop from old)) (d ∙ counted) ∙ ap (λ (m : ℕ). take (length rows) (drop (m * R) old)) last ∙ e

pub overflow_sub-last : goal.overflow_sub-last
overflow_sub-last c = some (goal.at.overflow_sub-last c).Start

pub overflow_mul-start : goal.overflow_mul-start
overflow_mul-start c = let s = (goal.at.overflow_mul-start c).Start in omega (arith, ends s, short s)

pub bounds-counts-last : goal.bounds-counts-last
bounds-counts-last c = omega (arith, some (goal.at.bounds-counts-last c).Start, c.requires.rows)

pub overflow_add-end : goal.overflow_add-end
overflow_add-end c = let s = (goal.at.overflow_add-end c).Start in omega (arith, few s, ends s, short s)

pub slice_bounds-list-end : goal.slice_bounds-list-end
slice_bounds-list-end c = let s = (goal.at.slice_bounds-list-end c).Start in omega (arith, few s, ends s, s.requires.rows)

pub judge_steps-requires : goal.judge_steps-requires
judge_steps-requires c =
    let s = (goal.at.judge_steps-requires c).Start in
    let l : List Term = rows s in
    let p = lent-part s c.args.positives.now (masks_of true l) c.requires.positives in
    let q = lent-part s c.args.negatives.now (masks_of false l) c.requires.negatives in
    record {
      steps = c.requires.steps;
      weights = c.requires.weights;
      terms = ap₂ terms_of p q ∙ terms-masks l;
      few = le_trans (le_of_eq (ap length p ∙ length-masks true l)) (le_trans c.requires.few c.requires.small);
    }
