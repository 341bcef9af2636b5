-- The shown list of a listing: the last node's terms are read back, and filtered.
use Prim.Native.Nat.{ℕ, pred, ◌-◌, ◌*◌}
use mathlib.Core.Path.{◌≡◌, refl, sym, ap, ap₂, ◌∙◌}
use mathlib.Core.Bool.{Bool, true, false, not, cond}
use mathlib.Core.List.{List, ◌++◌}
use native.Mathlib.Nat.{le_of_eq, le_trans}
use lib.ListN.{length, get_or, take, drop, replicate}
use Rattle.table.specs.Outcome.{accepted, answered, refused}
use Rattle.table.specs.declared.Refusal.TheVariants.{Capacity}
use Rattle.terms.specs.Term.{terms_of}
use Rattle.terms.specs.declared.Term.{Term}
use Rattle.exclusions.specs.Exclusions.{Exclusions}
use Rattle.exclusions.specs.Partners.{respecting, Filtered}
use Rattle.circuits.specs.Check.{check}
use Rattle.circuits.specs.Function.{signed_function}
use Rattle.circuits.proofs.Accepted.{accepted-e, nodes-some, nodes-le}
use Rattle.lists.specs.List.{by_sign}
use Rattle.insertion.specs.Filled.{masks_of}
use Rattle.insertion.proofs.Parts.{terms-masks, length-masks}
use Rattle.listing.specs.Exact.{Attempted}
use Rattle.listing.specs.Listing.{node_primes, exceeds, cleared, filled, Lent}
use Rattle.listing.specs.declared.Shape.{Shape}
use Rattle.listing.proofs.Bounds.{not-flip, Enough}
use Rattle.listing.proofs.Last.{last-few, last-count, last-masks}
use Rattle.filtered.specs.Exact.{last_terms, LastHeld, FilteredExact}
use Rattle.filtered.specs.Filtered.{shown_primes, shown_masks}
use Rattle.std.specs.Prelude.{Ok, Err}

-- b' are the buffers b after a listing of the shape h, with the answer r
module _ (m : List ℕ) (e : Exclusions) (w : List ℕ) (h : Shape) (b b' : Lent) (r : Bool)
    (acc : check h.variables h.nodes w ≡ accepted)
    (t : Attempted m h.variables h.nodes (signed_function h.sign w) h.capacity b b' r) where
  abbrev N : ℕ
  N = h.variables

  abbrev n : ℕ
  n = h.nodes

  abbrev R : ℕ
  R = h.capacity

  abbrev F : ℕ → ℕ → Bool
  F = signed_function h.sign w

  -- the circuit's prime implicants
  abbrev rows : List Term
  rows = node_primes m N F (pred n)

  over : (v : Bool) → r ≡ v → exceeds m N n F R ≡ not v
  over v s = not-flip (exceeds m N n F R) v (sym t.answer ∙ s)

  nodes-by : (v : Bool) → exceeds m N n F R ≡ v → b' ≡ (cond v (cleared n R b) (filled m N n F R b)).after
  nodes-by v d = t.after ∙ by v (t.answer ∙ ap not d)
    where
      by : (v : Bool) → r ≡ not v
          → (cond r (filled m N n F R b) (cleared n R b)).after ≡ (cond v (cleared n R b) (filled m N n F R b)).after
      by true s = ap (λ (q : Bool). (cond q (filled m N n F R b) (cleared n R b)).after) s
      by false s = ap (λ (q : Bool). (cond q (filled m N n F R b) (cleared n R b)).after) s

  left : b' ≡ (cond (exceeds m N n F R) (cleared n R b) (filled m N n F R b)).after
  left = nodes-by (exceeds m N n F R) refl

  -- ---- done
  module _ (done : r ≡ true) where
    is-filled : b' ≡ (filled m N n F R b).after
    is-filled = nodes-by false (over true done)

    count : get_or b'.counts (pred n) 0 ≡ length rows
    count =
        ap (λ (z : Lent). get_or z.counts (pred n) 0) is-filled ∙ last-count h.sign m N n w R acc (over true done) b

    part : (d : Bool) → take (get_or b'.counts (pred n) 0) (drop (pred n * R) (by_sign b'.positives b'.negatives d)) ≡ masks_of d rows
    part d =
        ap₂ (λ (c : ℕ) (z : Lent). take c (drop (pred n * R) (by_sign z.positives z.negatives d))) count is-filled
        ∙ last-masks h.sign m N n w R acc (over true done) b d

    read_back : last_terms h b'.positives b'.negatives b'.counts ≡ rows
    read_back = ap₂ terms_of (part true) (part false) ∙ terms-masks rows

    -- the last node's part is there
    pub last-held : Enough n R b' → LastHeld h b'.positives b'.negatives b'.counts
    last-held l =
        let a = accepted-e N n w acc in
        record {
          some = nodes-some a;
          most = nodes-le a;
          small = l.small;
          positives = l.positives;
          negatives = l.negatives;
          counts = l.counts;
          few = le_trans (le_of_eq count) (last-few h.sign m N n w R acc (over true done));
        }

    -- its terms were filtered
    pub exact-filtered : (s : Bool → List ℕ) (k : ℕ) → Filtered e (last_terms h b'.positives b'.negatives b'.counts) R s k
        → FilteredExact m e N n F R b b' s (Ok k)
    unfolding shown_primes
    exact-filtered s k f =
        let kept : respecting e (last_terms h b'.positives b'.negatives b'.counts) ≡ shown_primes m e N n F =
        ap (respecting e) read_back in
        record {
          answer = ap answered (f.answer ∙ ap length kept)
              ∙ ap (λ (q : Bool). cond q (refused 42 0) (answered (length (shown_primes m e N n F)))) (sym (over true done));
          nodes = left;
          shown = λ d. f.masks d
              ∙ ap (λ (z : List Term). masks_of d z ++ replicate (R - length z) 0) kept
              ∙ ap (λ (c : ℕ). masks_of d (shown_primes m e N n F) ++ replicate (R - c) 0) (sym (length-masks d (shown_primes m e N n F)))
              ∙ ap (λ (q : Bool). cond q (replicate R 0) (shown_masks m e N n F R d)) (sym (over true done));
        }

  -- ---- 42
  pub exact-lack : (s : Bool → List ℕ) → r ≡ false → ((d : Bool) → s d ≡ replicate R 0)
      → FilteredExact m e N n F R b b' s (Err Capacity)
  exact-lack s none zeros =
      record {
        answer = ap (λ (q : Bool). cond q (refused 42 0) (answered (length (shown_primes m e N n F)))) (sym (over false none));
        nodes = left;
        shown = λ d. zeros d ∙ ap (λ (q : Bool). cond q (replicate R 0) (shown_masks m e N n F R d)) (sym (over false none));
      }
