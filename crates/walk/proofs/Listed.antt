-- A listing that is done: the part of the last node holds the prime implicants of the circuit.
use Prim.Native.Nat.{ℕ, pred, ◌*◌, ◌≤◌}
use mathlib.Core.Path.{◌≡◌, refl, sym, ap, ◌∙◌}
use mathlib.Core.Bool.{Bool, true, false}
use mathlib.Core.List.{List}
use native.Mathlib.Omega.{arith}
use lib.ListN.{length, get_or, take, drop}
use Rattle.masks.proofs.Tests.{along}
use Rattle.table.specs.Outcome.{accepted, answered}
use Rattle.terms.specs.Prime.{primes}
use Rattle.terms.specs.declared.Term.{Term}
use Rattle.weighing.specs.Weights.{fitting}
use Rattle.circuits.specs.Check.{check}
use Rattle.circuits.specs.Function.{signed_function}
use Rattle.queries.specs.Queries.{circuit}
use Rattle.lists.specs.List.{by_sign}
use Rattle.insertion.specs.Filled.{masks_of}
use Rattle.listing.specs.Listing.{suffices, exceeds, filled, list_table, ListResult, Lent, ListOut}
use Rattle.std.specs.Prelude.{Ok}
use Rattle.listing.proofs.Answers.{out-is}
use Rattle.listing.proofs.Bounds.{enough, Enough}
use Rattle.listing.proofs.Last.{last-few, last-count, last-masks}
use Rattle.walk.specs.Ready.{plan_primes, StepsReady, WalkReady}
use Rattle.walk.specs.declared.Plan.{Plan}

module _ (m : List ℕ) (N n : ℕ) (w : List ℕ) (R : ℕ) (b : Lent) (acc : check N n w ≡ accepted) where
  abbrev F : ℕ → ℕ → Bool
  F = signed_function true w

  abbrev out : ListOut
  out = list_table true m N n w R b

  abbrev rows : List Term
  rows = primes m N (circuit n w)

  module _ (done : out.answer ≡ answered tt) where
    -- the buffers are large enough, the weights fit, and the prime implicants of the circuit are at most R
    tests : (suffices n R b ≡ true) × (fitting N m ≡ true) × (exceeds m N n F R ≡ false)
    tests = by (suffices n R b) (fitting N m) (exceeds m N n F R) refl refl refl
      where
        by : (x y z : Bool) → suffices n R b ≡ x → fitting N m ≡ y → exceeds m N n F R ≡ z
            → (suffices n R b ≡ true) × (fitting N m ≡ true) × (exceeds m N n F R ≡ false)
        by true true true e f d =
            let o = ap (λ (z : ListOut). z.answer) (out-is true m N n w R b acc true true true e f d) in
            let z : ◌≡◌ {A = ℕ} 0 1 = cc in
            absurd (omega arith)
        by true true false e f d = (e, f, d)
        by true false y e f d =
            let o = ap (λ (z : ListOut). z.answer) (out-is true m N n w R b acc true false y e f d) in
            let z : ◌≡◌ {A = ℕ} 0 1 = cc in
            absurd (omega arith)
        by false x y e f d =
            let o = ap (λ (z : ListOut). z.answer) (out-is true m N n w R b acc false x y e f d) in
            let z : ◌≡◌ {A = ℕ} 0 1 = cc in
            absurd (omega arith)

    is-filled : out ≡ filled m N n F R b
    is-filled = out-is true m N n w R b acc true true false tests.0 tests.1 tests.2

    large : Enough n R b
    large = enough n R b (along (sym tests.0) tt)

    few : length rows ≤ R
    few = last-few true m N n w R acc tests.2

    count : get_or out.after.counts (pred n) 0 ≡ length rows
    count = ap (λ (z : ListOut). get_or z.after.counts (pred n) 0) is-filled ∙ last-count true m N n w R acc tests.2 b

    masks : (s : Bool) → take (length rows) (drop (pred n * R) (by_sign out.after.positives out.after.negatives s)) ≡ masks_of s rows
    masks s =
        ap (λ (z : ListOut). take (length rows) (drop (pred n * R) (by_sign z.after.positives z.after.negatives s))) is-filled
        ∙ last-masks true m N n w R acc tests.2 b s

-- what the walk needs of it
pub walk-ready : (m : List ℕ) (h : Plan) (w : List ℕ) (R k c : ℕ) (b b' : Lent) → StepsReady h w k c
    → ListResult true m h.variables h.nodes w R b b' (Ok tt) → length b'.positives ≡ length b.positives
    → length b'.negatives ≡ length b.negatives → length b'.counts ≡ length b.counts → WalkReady h w b' R k c
walk-ready m h w R k c b b' s r p q e =
    let N : ℕ = h.variables in
    let n : ℕ = h.nodes in
    let acc : check N n w ≡ accepted = s.accepts in
    let done = sym r.answer in
    let l : Enough n R b = large m N n w R b acc done in
    let size : ℕ = length (plan_primes m h w) in
    record {
      steps = s;
      weights = m;
      small = l.small;
      few = few m N n w R b acc done;
      rows = (omega (arith, l.positives), omega (arith, l.negatives), omega (arith, l.counts));
      count = ap (λ (z : List ℕ). get_or z (pred n) 0) r.counts ∙ count m N n w R b acc done;
      positives = ap (λ (z : List ℕ). take size (drop (pred n * R) z)) r.positives ∙ masks m N n w R b acc done true;
      negatives = ap (λ (z : List ℕ). take size (drop (pred n * R) z)) r.negatives ∙ masks m N n w R b acc done false;
    }
