-- Demand 3: the listing whole.
use Prim.Native.Nat.{ℕ, pred, ◌+◌, ◌-◌, ◌<◌, ◌≤◌}
use mathlib.Core.Path.{◌≡◌, refl, sym, ap, ap₂, subst, ◌∙◌}
use mathlib.Core.Bool.{Bool, true, false, cond}
use mathlib.Core.List.{List, ◌++◌, append_assoc, Memᴰ}
use native.Mathlib.Omega.{arith}
use lib.Dec.{ltb→lt}
use lib.ListN.{length, get_or, take, drop, replicate, get_or-append}
use lib.Seq.{get_or-append-add, take_at}
use borrow.Author.Tests.{lt-ltb, le-ltb}
use Rattle.buffers.proofs.Zeros.{zero-at}
use Rattle.masks.proofs.Tests.{along}
use Rattle.table.specs.Outcome.{answered, refused}
use Rattle.text.proofs.Readers.{value_not}
use Rattle.terms.specs.Lists.{Rising}
use Rattle.terms.specs.Order.{before}
use Rattle.terms.specs.Term.{terms_of}
use Rattle.terms.specs.declared.Term.{Term}
use Rattle.terms.proofs.Listed.{primes-lists, primes-rising}
use Rattle.terms.proofs.Sorted.{keep_out, keep-in, keep-rising}
use Rattle.exclusions.specs.Exclusions.{respects, Exclusions}
use Rattle.exclusions.proofs.Respects.{respects-e, respects-i}
use Rattle.circuits.specs.Function.{function, signed_function}
use Rattle.lists.specs.List.{by_sign}
use Rattle.insertion.specs.Filled.{masks_of}
use Rattle.insertion.proofs.Parts.{terms-masks, length-masks}
use Rattle.queries.specs.Queries.{circuit}
use Rattle.listing.specs.Listing.{node_primes, exceeds, cleared, filled, list_table, Lent, ListOut}
use Rattle.listing.proofs.Answers.{out-is}
use Rattle.filtered.specs.Filtered.{shown_primes, cleared_all, filled_all, filtered_table, FilteredLent, FilteredOut}
use Rattle.demands.specs.Demands.{Asked, ShownAsked, NodeListed, Listed, shown_entries, Shown, ShownListed}
use Rattle.demands.specs.Demands.{WholeListing}
use Rattle.demands.proofs.Entries.{node-listed}
use Rattle.demands.proofs.Filtering.{proper-pairs, shown-is, shown-few, shown-long, filter-nodes}
use Rattle.demands.proofs.Listing.{room-suffices, fits-weights}

module _ (c : Bool) (m : List ℕ) (N n : ℕ) (w : List ℕ) (R : ℕ) (lend : Lent) (asked : Asked m N n w R lend) where
  abbrev F : ℕ → ℕ → Bool
  F = signed_function c w

  last : ℕ
  last = length (node_primes m N F (pred n))

  result : ListOut
  result = list_table c m N n w R lend

  -- the answer and the buffers, by whether the last node's terms fit
  out : (b : Bool) → exceeds m N n F R ≡ b → result ≡ cond b (cleared n R lend) (filled m N n F R lend)
  unfolding result
  out b e = out-is c m N n w R lend asked.room.table true true b (room-suffices asked.room) (fits-weights N m asked.weights) e

  lacking : R < last → result.answer ≡ refused 42 0
  unfolding exceeds last
  lacking h = ap (λ (z : ListOut). z.answer) (out true (lt-ltb R last h))

  lack-by : (b : Bool) → exceeds m N n F R ≡ b → result.answer ≡ refused 42 0 → R < last
  unfolding exceeds last
  lack-by true e h = ltb→lt R last (along (sym e) tt)
  lack-by false e h = absurd (value_not tt 42 0 (sym (ap (λ (z : ListOut). z.answer) (out false e)) ∙ h))

  module _ (h : last ≤ R) where
    fits : exceeds m N n F R ≡ false
    unfolding exceeds last
    fits = le-ltb R last h

    is-filled : result ≡ filled m N n F R lend
    is-filled = out false fits

    done : result.answer ≡ answered tt
    done = ap (λ (z : ListOut). z.answer) is-filled

    node : (i : ℕ) → i < n → NodeListed m N n F R result.after i
    node i l =
        subst (λ (z : ListOut). NodeListed m N n F R z.after i) (sym is-filled)
        (node-listed c m N n w R lend asked.room.table fits i l asked.weights)

  listed : Listed m N n F R result.answer tt result.after
  unfolding last
  listed = record { lack = lack-by (exceeds m N n F R) refl; lacking = lacking; done = done; nodes = node }

-- ---- with a shown list
module _ (m : List ℕ) (e : Exclusions) (N n : ℕ) (w : List ℕ) (R : ℕ) (lend : FilteredLent) (asked : ShownAsked m e N n w R lend) where
  abbrev f : ℕ → Bool
  f = circuit n w

  abbrev rows' : List Term
  rows' = shown_primes m e N n (function w)

  abbrev shows : FilteredOut
  shows = filtered_table m e N n w R lend

  plain-asked : Asked m N n w R lend.nodes
  plain-asked = record { room = asked.room.nodes; weights = asked.weights }

  shows-by : (z : Bool) → exceeds m N n (function w) R ≡ z
      → shows ≡ cond z (cleared_all n R lend) (filled_all m e N n (function w) R lend)
  shows-by z h =
      shown-is m e N n w R lend asked.room true true z (fits-weights N m asked.weights) (proper-pairs N e asked.pairs) h

  as_plain : (o : ListOut) → Listed m N n (function w) R o.answer tt o.after → shows.after.nodes ≡ o.after
      → (shows.answer ≡ refused 42 0 → o.answer ≡ refused 42 0)
      → Listed m N n (function w) R shows.answer (length rows') shows.after.nodes
  unfolding exceeds
  as_plain o l same lacks =
      record {
        lack = λ h. l.lack (lacks h);
        lacking = λ h. ap (λ (z : FilteredOut). z.answer) (shows-by true (lt-ltb R (length (node_primes m N (function w) (pred n))) h));
        done = λ h. ap (λ (z : FilteredOut). z.answer) (shows-by false (le-ltb R (length (node_primes m N (function w) (pred n))) h));
        nodes = λ h i k. subst (λ (a : Lent). NodeListed m N n (function w) R a i) (sym same) (l.nodes h i k);
      }

  -- ---- the shown list
  module _ (fits : exceeds m N n (function w) R ≡ false) where
    old : Bool → List ℕ
    old = by_sign lend.positives lend.negatives

    zeros : Bool → List ℕ
    zeros d = replicate (R - length (masks_of d rows')) 0

    masks : (d : Bool) → by_sign shows.after.positives shows.after.negatives d ≡ (masks_of d rows' ++ zeros d) ++ drop R (old d)
    unfolding old zeros
    masks true = ap (λ (z : FilteredOut). z.after.positives) (shows-by false fits)
    masks false = ap (λ (z : FilteredOut). z.after.negatives) (shows-by false fits)

    front : (d : Bool) → take (length rows') (by_sign shows.after.positives shows.after.negatives d) ≡ masks_of d rows'
    front d =
        ap (take (length rows')) (masks d ∙ append_assoc (masks_of d rows') (zeros d) (drop R (old d)))
        ∙ take_at (masks_of d rows') (zeros d ++ drop R (old d)) (length rows') (length-masks d rows')

    shown-exact : shown_entries (length rows') shows.after ≡ rows'
    shown-exact = ap₂ terms_of (front true) (front false) ∙ terms-masks rows'

    long : (d : Bool) → length (masks_of d rows' ++ zeros d) ≡ R
    unfolding zeros
    long = shown-long m e N n w R lend fits

    zero-behind : (j : ℕ) → length rows' ≤ j → j < R → (d : Bool)
        → get_or (by_sign shows.after.positives shows.after.negatives d) j 0 ≡ 0
    unfolding zeros
    zero-behind j lo hi d =
        let size : length (masks_of d rows') ≡ length rows' = length-masks d rows' in
        let at : j ≡ length (masks_of d rows') + (j - length rows') = omega arith in
        let inside : j < length (masks_of d rows' ++ zeros d) = subst (λ (k : ℕ). j < k) (sym (long d)) hi in
        ap (λ (z : List ℕ). get_or z j 0) (masks d)
        ∙ get_or-append (masks_of d rows' ++ zeros d) (drop R (old d)) 0 j inside
        ∙ ap (λ (k : ℕ). get_or (masks_of d rows' ++ zeros d) k 0) at
        ∙ get_or-append-add (masks_of d rows') (zeros d) (j - length rows') 0
        ∙ zero-at (R - length (masks_of d rows')) (j - length rows')

    shown : Shown m e N f R shows.after (length rows')
    unfolding shown_primes
    shown =
        let all : List Term = node_primes m N (function w) (pred n) in
        record {
          entries = ap length shown-exact;
          fewer = shown-few m e N n w R lend fits;
          only = λ t k.
              let (in_all, ok) = keep_out (respects e) all t (subst (Memᴰ t) shown-exact k) in
              ((primes-lists m N f).only t in_all, respects-e e t ok);
          every = λ t p ok.
              subst (Memᴰ t) (sym shown-exact) (keep-in (respects e) all t ((primes-lists m N f).every t p) (respects-i e t ok));
          order = subst (Rising (before m)) (sym shown-exact) (keep-rising (respects e) (before m) all (primes-rising m N f));
          unused = λ j lo hi. (zero-behind j lo hi true, zero-behind j lo hi false);
        }

  shown-listed : (o : ListOut) → Listed m N n (function w) R o.answer tt o.after → shows.after.nodes ≡ o.after
      → (shows.answer ≡ refused 42 0 → o.answer ≡ refused 42 0) → ShownListed m e N n w R shows
  unfolding exceeds
  shown-listed o l same lacks =
      record {
        count = length rows';
        listed = as_plain o l same lacks;
        shown = λ h. shown (le-ltb R (length (node_primes m N (function w) (pred n))) h);
      }

pub whole-listing : WholeListing
unfolding result
whole-listing =
    record {
      functions = λ m e N n w R b asked.
          let (same, refusals, answers) = filter-nodes m e N n w R b asked.room asked.pairs in
          shown-listed m e N n w R b asked (list_table true m N n w R b.nodes)
          (listed true m N n w R b.nodes (plain-asked m e N n w R b asked)) same (refusals 42 0);
      negations = listed false;
      walked = listed true;
    }
