-- Where the listing with a shown list may be refused, and what it leaves in the buffers.
use Prim.Native.Nat.{ℕ, pred, ◌+◌, ◌-◌, ◌≤◌}
use mathlib.Core.Path.{◌≡◌, refl, sym, ap, ap₂, subst, ◌∙◌}
use mathlib.Core.Bool.{Bool, true, false, ◌&&◌, cond}
use mathlib.Core.Logic.{◌≢◌}
use mathlib.Core.List.{List, [], ◌∷◌, ◌++◌}
use native.Mathlib.Nat.{le_trans}
use native.Mathlib.Omega.{arith}
use lib.Dec.{leb, le→leb, not_T}
use lib.ListN.{length, drop, replicate, length-append, length-replicate}
use lib.Seq.{drop_at}
use borrow.Author.Tests.{ltb-false}
use Rattle.masks.proofs.Tests.{and_i, is_true, is_false}
use Rattle.table.specs.Outcome.{accepted, Outcome, answered, refused}
use Rattle.text.proofs.Readers.{value_not, same_number}
use Rattle.terms.specs.Lists.{keep}
use Rattle.terms.specs.declared.Term.{Term}
use Rattle.weighing.specs.Weights.{fitting}
use Rattle.exclusions.specs.Exclusions.{proper, respects, Exclusions}
use Rattle.exclusions.proofs.Respects.{proper-even, first_below, second_below, pair-distinct, proper-i}
use Rattle.circuits.specs.Check.{check}
use Rattle.circuits.specs.Function.{function}
use Rattle.insertion.specs.Filled.{masks_of}
use Rattle.insertion.proofs.Parts.{length-masks}
use Rattle.listing.specs.Listing.{node_primes, exceeds, cleared, filled, list_table, ListOut}
use Rattle.listing.specs.Guarded.{untouched}
use Rattle.listing.proofs.Answers.{out-is}
use Rattle.filtered.specs.Filtered.{shown_primes, shown_masks, suffices_shown, suffices_all, cleared_all, filled_all, filtered_table}
use Rattle.filtered.specs.Filtered.{FilteredLent, FilteredOut}
use Rattle.filtered.proofs.Answers.{filtered-is, table_is}
use Rattle.demands.specs.Demands.{At, Answers, table_refusals, Weights, ShownRoom, Pairs}
use Rattle.demands.proofs.Listing.{room-suffices, fits-weights, unfit-weights}
use Rattle.demands.proofs.Tests.{guarded-answers, guarded-kept, guarded-done, guarded-refused, guarded-unless}
use Rattle.demands.proofs.Tests.{lack-answers, lack-only, lack-full, done-fits}

keep-length : {A : Type 0} (p : A → Bool) (l : List A) → length (keep p l) ≤ length l
keep-length p [] = omega arith
keep-length {A} p (a ∷ l) = by (p a) (keep-length p l)
  where
    by : (x : Bool) → length (keep p l) ≤ length l → length (cond x (a ∷ keep p l) (keep p l)) ≤ length (a ∷ l)
    by true h = omega arith
    by false h = omega arith

-- room and pairs, as tests
pub shown-suffices : {N n : ℕ} {w : List ℕ} {R : ℕ} {b : FilteredLent} → ShownRoom N n w R b → suffices_all n R b ≡ true
shown-suffices {R = R} {b = b} r =
    let p : Bool = leb R (length b.positives) in
    let q : Bool = leb R (length b.negatives) in
    let shown : suffices_shown R b ≡ true =
    is_true (p && q) (and_i p q (le→leb R (length b.positives) r.positives) (le→leb R (length b.negatives) r.negatives)) in
    ap₂ ◌&&◌ (room-suffices r.nodes) shown

module _ (N : ℕ) (e : Exclusions) where
  pub proper-pairs : Pairs N e → proper N e ≡ true
  proper-pairs k = proper-i N e k.complete k.different

  improper-pairs : (Pairs N e → ⊥) → proper N e ≡ false
  improper-pairs none =
      is_false (proper N e)
      (not_T (proper N e)
      (λ t.
      let h : proper N e ≡ true = is_true (proper N e) t in
      none (record {
        complete = proper-even N e h;
        different = λ i l. (first_below N e h i l, second_below N e h i l, pair-distinct N e h i l);
      })))

-- a refusal of the one is the other's
same-refusal : (j k p : ℕ) → ◌≡◌ {A = Outcome ℕ} (refused j 0) (refused k p) → ◌≡◌ {A = Outcome (Unit {0})} (refused j 0) (refused k p)
same-refusal j k p h = let (a, c) = same_number j 0 k p h in ap₂ refused a c

module _ (m : List ℕ) (e : Exclusions) (N n : ℕ) (w : List ℕ) (R : ℕ) (b : FilteredLent) where
  abbrev F : ℕ → ℕ → Bool
  F = function w

  abbrev tests : List (Bool × ℕ)
  tests = (suffices_all n R b, 41) ∷ (fitting N m, 56) ∷ (proper N e, 57) ∷ []

  -- by whether there are more terms than the capacity
  abbrev lists : Bool → FilteredOut
  lists z = cond z (cleared_all n R b) (filled_all m e N n F R b)

  abbrev over : Bool
  over = exceeds m N n F R

  abbrev rows : List Term
  rows = shown_primes m e N n F

  abbrev out : FilteredOut
  out = filtered_table m e N n w R b

  pub filter-answers : Answers (table_refusals n ++ ((41, At 0) ∷ (56, At 0) ∷ (57, At 0) ∷ (42, At 0) ∷ [])) out.answer
  unfolding filtered_table
  filter-answers =
      guarded-answers N n w tests b (lists over) ((42, At 0) ∷ [])
      (lack-answers (cleared_all n R b) (filled_all m e N n F R b) (length rows) refl refl over)

  only-lack : (k p : ℕ) → k ≢ 42 → (lists over).answer ≡ refused k p → ⊥
  only-lack = lack-only (cleared_all n R b) (filled_all m e N n F R b) (length rows) refl refl over

  pub filter-kept : (k p : ℕ) → out.answer ≡ refused k p → k ≢ 42 → out.after ≡ b
  unfolding filtered_table
  filter-kept k p h other = guarded-kept N n w tests b (lists over) k p (λ g. absurd (only-lack k p other g)) h

  pub filter-zeroed : (p : ℕ) → out.answer ≡ refused 42 p → out.after ≡ (cleared_all n R b).after
  unfolding filtered_table
  filter-zeroed p h =
      let (acc, g) = guarded-refused N n w tests b (lists over) 42 p (omega arith) (omega arith) h in
      let z : over ≡ true =
      lack-full (cleared_all n R b) (filled_all m e N n F R b) (length rows) refl refl over p
      (sym (ap (λ (o : FilteredOut). o.answer) g) ∙ h) in
      ap (λ (o : FilteredOut). o.after) g ∙ ap (λ (x : Bool). (lists x).after) z

  -- ---- 56 and 57
  pub filter-weighed : (p : ℕ) → out.answer ≡ refused 56 p → Weights N m → ⊥
  unfolding filtered_table
  filter-weighed p h k =
      guarded-unless N n w tests b (lists over) 56 p (omega arith) (
        λ (g : 41 ≡ 56). absurd (omega arith),
        (λ (g : 56 ≡ 56). fits-weights N m k, (λ (g : 57 ≡ 56). absurd (omega arith), tt)),
      )
      (only-lack 56 p (omega arith)) h

  pub filter-paired : (p : ℕ) → out.answer ≡ refused 57 p → Pairs N e → ⊥
  unfolding filtered_table
  filter-paired p h k =
      guarded-unless N n w tests b (lists over) 57 p (omega arith) (
        λ (g : 41 ≡ 57). absurd (omega arith),
        (λ (g : 56 ≡ 57). absurd (omega arith), (λ (g : 57 ≡ 57). proper-pairs N e k, tt)),
      )
      (only-lack 57 p (omega arith)) h

  module _ (r : ShownRoom N n w R b) where
    -- by the tests that are left
    pub shown-is : (y z v : Bool) → fitting N m ≡ y → proper N e ≡ z → over ≡ v
        → out ≡ cond y (cond z (lists v) (untouched 57 0 b)) (untouched 56 0 b)
    shown-is y z v p q s = table_is m e N n w R b r.nodes.table ∙ filtered-is m e N n F R b true y z v (shown-suffices r) p q s

    pub filter-unweighed : (Weights N m → ⊥) → out.answer ≡ refused 56 0
    filter-unweighed none =
        ap (λ (o : FilteredOut). o.answer) (shown-is false (proper N e) over (unfit-weights N m none) refl refl)

    pub filter-unpaired : Weights N m → (Pairs N e → ⊥) → out.answer ≡ refused 57 0
    filter-unpaired k none =
        ap (λ (o : FilteredOut). o.answer) (shown-is true false over (fits-weights N m k) (improper-pairs N e none) refl)

  -- ---- a listing that is done
  pub shown-few : over ≡ false → length rows ≤ R
  unfolding exceeds shown_primes
  shown-few z =
      le_trans (keep-length (respects e) (node_primes m N F (pred n))) (ltb-false R (length (node_primes m N F (pred n))) z)

  pub shown-long : over ≡ false → (d : Bool) → length (shown_masks m e N n F R d) ≡ R
  shown-long z d =
      let few : length rows ≤ R = shown-few z in
      let size : length (masks_of d rows) ≡ length rows = length-masks d rows in
      length-append (masks_of d rows) (replicate (R - length (masks_of d rows)) 0)
      ∙ ap (λ (k : ℕ). length (masks_of d rows) + k) (length-replicate (R - length (masks_of d rows)) 0) ∙ omega arith

  abbrev KeptPast : FilteredOut → Type 0
  KeptPast o = (drop R o.after.positives ≡ drop R b.positives) × (drop R o.after.negatives ≡ drop R b.negatives)

  pub filter-done : (c : ℕ) → out.answer ≡ answered c → (check N n w ≡ accepted) × (over ≡ false) × (out ≡ filled_all m e N n F R b)
  unfolding filtered_table
  filter-done c h =
      let (acc, g) = guarded-done N n w tests b (lists over) c h in
      let z : over ≡ false =
      done-fits (cleared_all n R b) (filled_all m e N n F R b) (length rows) refl refl over c
      (sym (ap (λ (o : FilteredOut). o.answer) g) ∙ h) in
      (acc, z, g ∙ ap lists z)

  pub filter-rest : (c : ℕ) → out.answer ≡ answered c → KeptPast out
  filter-rest c h =
      let (acc, z, g) = filter-done c h in
      subst KeptPast (sym g) (
        drop_at (shown_masks m e N n F R true) (drop R b.positives) R (shown-long z true),
        drop_at (shown_masks m e N n F R false) (drop R b.negatives) R (shown-long z false),
      )

  -- ---- the nodes' buffers are those of the listing without a shown list
  abbrev plain : ListOut
  plain = list_table true m N n w R b.nodes

  abbrev Alike : FilteredOut → ListOut → Type 0
  Alike o l =
      (o.after.nodes ≡ l.after) × ((k p : ℕ) → o.answer ≡ refused k p → l.answer ≡ refused k p)
      × ((c : ℕ) → o.answer ≡ answered c → l.answer ≡ answered tt)

  -- by the weights and by whether there are more terms than the capacity
  abbrev shows : Bool → Bool → FilteredOut
  shows y v = cond y (lists v) (untouched 56 0 b)

  abbrev plainly : Bool → Bool → ListOut
  plainly y v = cond y (cond v (cleared n R b.nodes) (filled m N n F R b.nodes)) (untouched 56 0 b.nodes)

  alike : (y v : Bool) → Alike (shows y v) (plainly y v)
  alike true true = (refl, λ k p. same-refusal 42 k p, λ c h. absurd (value_not c 42 0 (sym h)))
  alike true false = (refl, λ k p h. absurd (value_not (length rows) k p h), λ c h. refl)
  alike false v = (refl, λ k p. same-refusal 56 k p, λ c h. absurd (value_not c 56 0 (sym h)))

  pub filter-nodes : ShownRoom N n w R b → Pairs N e → Alike out plain
  filter-nodes r k =
      let y : Bool = fitting N m in
      let f : out ≡ shows y over = shown-is r y true over refl (proper-pairs N e k) refl in
      let g : plain ≡ plainly y over =
      out-is true m N n w R b.nodes r.nodes.table true y over (room-suffices r.nodes) refl refl in
      subst (λ (o : FilteredOut). Alike o plain) (sym f) (subst (Alike (shows y over)) (sym g) (alike y over))
