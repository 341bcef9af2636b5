-- The listing of the prime implicants ("clearances") of every node, with the list of the last node's that respect the exclusions ("the
-- shown list") in buffers of its own. F is the function of each node, m has the weights and e the exclusions ("pairs").
use Rattle.std.specs.Prelude.{ℕ, pred, ◌≡◌, Bool, true, false, ◌&&◌, cond, List, [], ◌∷◌, ◌++◌, map, leb, length, drop, replicate, Result}
use Rattle.table.specs.Outcome.{Outcome, answered, refused, outcome}
use Rattle.table.specs.declared.Refusal.{Refusal}
use Rattle.terms.specs.Lists.{keep}
use Rattle.terms.specs.Term.{mask}
use Rattle.terms.specs.declared.Term.{Term}
use Rattle.weighing.specs.Weights.{fitting}
use Rattle.exclusions.specs.Exclusions.{proper, respects, Exclusions}
use Rattle.circuits.specs.Check.{check}
use Rattle.circuits.specs.Function.{function}
use Rattle.listing.specs.Listing.{node_primes, padded, suffices, exceeds, cleared, filled, Lent}
use Rattle.listing.specs.Guarded.{guarded, Out}

-- the prime implicants of the circuit, which is the last node, that respect the exclusions, in order
unfoldable pub shown_primes : List ℕ → Exclusions → ℕ → ℕ → (ℕ → ℕ → Bool) → List Term
shown_primes m e N n F = keep (respects e) (node_primes m N F (pred n))

-- the first R entries of a buffer of the shown list: the masks of sign b, and zeros
abbrev pub shown_masks : List ℕ → Exclusions → ℕ → ℕ → (ℕ → ℕ → Bool) → ℕ → Bool → List ℕ
shown_masks m e N n F R b = padded R (map (λ t. mask t b) (shown_primes m e N n F))

-- the lent buffers: those of the nodes, and the positive and the negative masks of the shown list
pub record FilteredLent : Type 0 where
  pub nodes : Lent
  pub positives : List ℕ
  pub negatives : List ℕ

abbrev pub filtered_lent : Lent → List ℕ → List ℕ → FilteredLent
filtered_lent ns ps qs = record { nodes = ns; positives = ps; negatives = qs }

-- not 41: both buffers of the shown list have R entries, and the nodes' buffers are large enough
abbrev pub suffices_shown : ℕ → FilteredLent → Bool
suffices_shown R b = leb R (length b.positives) && leb R (length b.negatives)

abbrev pub suffices_all : ℕ → ℕ → FilteredLent → Bool
suffices_all n R b = suffices n R b.nodes && suffices_shown R b

-- the answer, which is the number of shown terms, with the buffers afterwards
abbrev pub FilteredOut : Type 0
FilteredOut = Out ℕ FilteredLent

-- refused by 42: zeros in the nodes' entries and in the first R of the shown list's, the rest as it was
abbrev pub cleared_all : ℕ → ℕ → FilteredLent → FilteredOut
cleared_all n R b =
    record {
      answer = refused 42 0;
      after =
          filtered_lent (cleared n R b.nodes).after (replicate R 0 ++ drop R b.positives) (replicate R 0 ++ drop R b.negatives);
    }

-- done: every node's prime implicants, and the shown ones; the rest as it was
abbrev pub filled_all : List ℕ → Exclusions → ℕ → ℕ → (ℕ → ℕ → Bool) → ℕ → FilteredLent → FilteredOut
filled_all m e N n F R b =
    record {
      answer = answered (length (shown_primes m e N n F));
      after =
          filtered_lent (filled m N n F R b.nodes).after (shown_masks m e N n F R true ++ drop R b.positives)
          (shown_masks m e N n F R false ++ drop R b.negatives);
    }

-- by the answer of the check: 21 to 25, then 41, then 56, then 57, then 42, which is about all prime implicants
abbrev pub filtered_checked : List ℕ → Exclusions → ℕ → ℕ → (ℕ → ℕ → Bool) → ℕ → FilteredLent → Outcome (Unit {0}) → FilteredOut
filtered_checked m e N n F R b c =
    guarded c ((suffices_all n R b, 41) ∷ (fitting N m, 56) ∷ (proper N e, 57) ∷ []) b
    (cond (exceeds m N n F R) (cleared_all n R b) (filled_all m e N n F R b))

-- listing into the buffers b
unfoldable pub filtered_table : List ℕ → Exclusions → ℕ → ℕ → List ℕ → ℕ → FilteredLent → FilteredOut
filtered_table m e N n w R b = filtered_checked m e N n (function w) R b (check N n w)

-- the listing answers and leaves in each of the five buffers what the outcome o says
pub record Gives (o : FilteredOut) (b' : FilteredLent) (r : Result ℕ Refusal) : Type 0 where
  pub answer : outcome r ≡ o.answer
  pub after : b' ≡ o.after
