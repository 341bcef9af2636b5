-- `filtered::list_accepted` meets its contract.
use Prim.Native.Nat.{ℕ, ◌≤◌}
use mathlib.Core.Path.{◌≡◌, refl, sym, ap, ap₂, ◌∙◌}
use mathlib.Core.Bool.{Bool, true, false, ◌&&◌, ◌||◌, not}
use mathlib.Core.List.{List}
use lib.Dec.{ltb}
use lib.ListN.{length, take}
use lib.Seq.{length-take-le}
use Rattle.exclusions.specs.Exclusions.{exclusions}
use Rattle.circuits.specs.Function.{signed_function}
use Rattle.circuits.proofs.Accepted.{accepted-e, nodes-le}
use Rattle.lists.specs.List.{by_sign}
use Rattle.listing.specs.Listing.{lent, suffices}
use Rattle.listing.specs.declared.Shape.{Shape}
use Rattle.listing.proofs.Bounds.{two-fit, two-fit-e}
use Rattle.filtered.specs.Filtered.{filtered_lent, suffices_shown, suffices_all, FilteredLent}
use Rattle.filtered.proofs.Answers.{gives-short, gives-unweighed, gives-improper, gives-exact}
use Rattle.filtered.proofs.list_accepted.Goals as goal

and-false : (b : Bool) → (b && false) ≡ false
and-false true = refl
and-false false = refl

-- a shape, the circuit's words and the lent buffers
module _ (h : Shape) (w : List ℕ) (b : FilteredLent) where
  abbrev N : ℕ
  N = h.variables

  abbrev n : ℕ
  n = h.nodes

  abbrev R : ℕ
  R = h.capacity

  abbrev listed : ℕ → ℕ → Bool
  listed = signed_function h.sign w

  -- what the test of the shown list's buffers said
  shown_by : (t : Bool) → (ltb (length b.positives) R || ltb (length b.negatives) R) ≡ t → suffices_shown R b ≡ not t
  shown_by = two-fit R (length b.positives) (length b.negatives)

  -- both buffer tests are passed
  all-room : suffices n R b.nodes ≡ true → (ltb (length b.positives) R || ltb (length b.negatives) R) ≡ false → suffices_all n R b ≡ true
  all-room e f = ap₂ ◌&&◌ e (shown_by false f)

  module _ (f : (ltb (length b.positives) R || ltb (length b.negatives) R) ≡ false) where
    room : (R ≤ length b.positives) × (R ≤ length b.negatives)
    room = two-fit-e R (length b.positives) (length b.negatives) (shown_by false f)

    -- the fronts that are lent
    front-positive : length (take R b.positives) ≡ R
    front-positive = length-take-le R b.positives room.0

    front-negative : length (take R b.negatives) ≡ R
    front-negative = length-take-le R b.negatives room.1

abbrev buffers : List ℕ → List ℕ → List ℕ → List ℕ → List ℕ → FilteredLent
buffers ps ns cs sp sn = filtered_lent (lent ps ns cs) sp sn

pub returns-then-shown_positives-capacity : goal.returns-then-shown_positives-capacity
returns-then-shown_positives-capacity c =
    let x = c.args in
    let h = x.shape in
    let b : FilteredLent = buffers x.positives.now x.negatives.now x.counts.now x.shown_positives.now x.shown_negatives.now in
    gives-short x.weights.now (exclusions x.firsts.now x.seconds.now) h.variables h.nodes (signed_function h.sign x.words.now) h.capacity b
    (ap (λ (v : Bool). suffices h.nodes h.capacity b.nodes && v)
    (shown_by h x.words.now b true c.if-shown_positives-capacity.true)
    ∙ and-false (suffices h.nodes h.capacity b.nodes))

pub is_enough-requires : goal.is_enough-requires
is_enough-requires c = let x = c.args in nodes-le (accepted-e x.shape.variables x.shape.nodes x.words.now c.requires)

pub returns-then-not-is_enough : goal.returns-then-not-is_enough
returns-then-not-is_enough c =
    let x = c.args in
    let h = x.shape in
    let b : FilteredLent = buffers x.positives.now x.negatives.now x.counts.now x.shown_positives.now x.shown_negatives.now in
    gives-short x.weights.now (exclusions x.firsts.now x.seconds.now) h.variables h.nodes (signed_function h.sign x.words.now) h.capacity b
    (ap (λ (v : Bool). v && suffices_shown h.capacity b) (sym c.is_enough.ensures ∙ c.if-not-is_enough.true))

pub returns-then-not-fit : goal.returns-then-not-fit
returns-then-not-fit c =
    let x = c.args in
    let h = x.shape in
    let b : FilteredLent = buffers x.positives.now x.negatives.now x.counts.now x.shown_positives.now x.shown_negatives.now in
    gives-unweighed x.weights.now (exclusions x.firsts.now x.seconds.now) h.variables h.nodes (signed_function h.sign x.words.now)
    h.capacity b (all-room h x.words.now b (sym c.is_enough.ensures ∙ c.if-not-is_enough.false) c.if-shown_positives-capacity.false)
    (sym c.fit.ensures ∙ c.if-not-fit.true)

pub returns-then-not-fit-2 : goal.returns-then-not-fit-2
returns-then-not-fit-2 c =
    let x = c.args in
    let h = x.shape in
    let b : FilteredLent = buffers x.positives.now x.negatives.now x.counts.now x.shown_positives.now x.shown_negatives.now in
    gives-improper x.weights.now (exclusions x.firsts.now x.seconds.now) h.variables h.nodes (signed_function h.sign x.words.now) h.capacity
    b (all-room h x.words.now b (sym c.is_enough.ensures ∙ c.if-not-is_enough.false) c.if-shown_positives-capacity.false)
    (sym c.fit.ensures ∙ c.if-not-fit.false) (sym c.fit-2.ensures ∙ c.if-not-fit-2.true)

pub slice_bounds-list_exact-end : goal.slice_bounds-list_exact-end
slice_bounds-list_exact-end c =
    let x = c.args in
    (room x.shape x.words.now (buffers x.positives.now x.negatives.now x.counts.now x.shown_positives.now x.shown_negatives.now)
    c.if-shown_positives-capacity.false).0

pub slice_bounds-list_exact-end-2 : goal.slice_bounds-list_exact-end-2
slice_bounds-list_exact-end-2 c =
    let x = c.args in
    sym (front-positive x.shape x.words.now
    (buffers x.positives.now x.negatives.now x.counts.now x.shown_positives.now x.shown_negatives.now)
    c.if-shown_positives-capacity.false)

pub slice_bounds-list_exact-end-3 : goal.slice_bounds-list_exact-end-3
slice_bounds-list_exact-end-3 c =
    let x = c.args in
    (room x.shape x.words.now (buffers x.positives.now x.negatives.now x.counts.now x.shown_positives.now x.shown_negatives.now)
    c.if-shown_positives-capacity.false).1

pub slice_bounds-list_exact-end-4 : goal.slice_bounds-list_exact-end-4
slice_bounds-list_exact-end-4 c =
    let x = c.args in
    sym (front-negative x.shape x.words.now
    (buffers x.positives.now x.negatives.now x.counts.now x.shown_positives.now x.shown_negatives.now)
    c.if-shown_positives-capacity.false)

pub list_exact-requires : goal.list_exact-requires
list_exact-requires c =
    let x = c.args in
    let b : FilteredLent = buffers x.positives.now x.negatives.now x.counts.now x.shown_positives.now x.shown_negatives.now in
    record {
      words_value = (c.requires, sym c.fit.ensures ∙ c.if-not-fit.false, sym c.fit-2.ensures ∙ c.if-not-fit-2.false);
      counts_value = (
        sym c.is_enough.ensures ∙ c.if-not-is_enough.false,
        front-positive x.shape x.words.now b c.if-shown_positives-capacity.false,
        front-negative x.shape x.words.now b c.if-shown_positives-capacity.false,
      );
    }

pub returns : goal.returns
returns c =
    let x = c.args in
    let h = x.shape in
    let b : FilteredLent = buffers x.positives.now x.negatives.now x.counts.now x.shown_positives.now x.shown_negatives.now in
    let l = c.list_exact.new in
    gives-exact x.weights.now (exclusions x.firsts.now x.seconds.now) h.variables h.nodes (signed_function h.sign x.words.now) h.capacity b
    (all-room h x.words.now b (sym c.is_enough.ensures ∙ c.if-not-is_enough.false) c.if-shown_positives-capacity.false)
    (sym c.fit.ensures ∙ c.if-not-fit.false) (sym c.fit-2.ensures ∙ c.if-not-fit-2.false)
    (lent l.positives l.negatives l.counts) (by_sign l.shown_positives l.shown_negatives) c.list_exact.result c.list_exact.ensures
