-- The listing of the prime implicants ("clearances") of every node, or of every node's negation ("blockers"), in lent buffers, and
-- the view of one node's. F is the function of each node that is listed, and m has the weights of the variables ("minutes").
use Rattle.std.specs.Prelude.{ℕ, pred, ◌-◌, ◌+◌, ◌*◌, ◌≡◌, Bool, true, false, ◌&&◌, cond, ltb, leb, length, take, drop, replicate, Result}
use mathlib.Core.List.{List, [], ◌∷◌, ◌++◌, map, flat_map}
use Rattle.masks.specs.Numbers.{below}
use Rattle.table.specs.Node.{max_nodes}
use Rattle.table.specs.Outcome.{Outcome, answered, refused, outcome}
use Rattle.terms.specs.Prime.{primes}
use Rattle.terms.specs.Term.{mask}
use Rattle.terms.specs.declared.Term.{Term}
use Rattle.weighing.specs.Weights.{fitting}
use Rattle.circuits.specs.Check.{check}
use Rattle.circuits.specs.Function.{signed_function}
use Rattle.lists.specs.Capacity.{max_capacity}
use Rattle.listing.specs.Guarded.{guarded, Out}
use Rattle.table.specs.declared.Refusal.{Refusal}

-- the prime implicants of node i over N variables, in order
abbrev pub node_primes : List ℕ → ℕ → (ℕ → ℕ → Bool) → ℕ → List Term
node_primes m N F i = primes m N (F i)

-- the masks of a node with zeros up to the capacity R ("room");
-- no node of a listing that is done has more than R, so nothing stands past R
abbrev pub padded : ℕ → List ℕ → List ℕ
padded R l = l ++ replicate (R - length l) 0

-- the first n × R entries of a row buffer: for each node in turn the masks of sign b of its prime implicants, in its own part
unfoldable pub listed_masks : List ℕ → ℕ → ℕ → (ℕ → ℕ → Bool) → ℕ → Bool → List ℕ
listed_masks m N n F R b = flat_map (λ i. padded R (map (λ t. mask t b) (node_primes m N F i))) (below n)

-- the first n counts
unfoldable pub listed_counts : List ℕ → ℕ → ℕ → (ℕ → ℕ → Bool) → List ℕ
listed_counts m N n F = map (λ i. length (node_primes m N F i)) (below n)

-- the lent buffers: the positive and the negative masks of the terms ("rows"), and the counts
pub record Lent : Type 0 where
  pub positives : List ℕ
  pub negatives : List ℕ
  pub counts : List ℕ

abbrev pub lent : List ℕ → List ℕ → List ℕ → Lent
lent ps ns cs = record { positives = ps; negatives = ns; counts = cs }

-- not 41: R is at most 4,096, both row buffers have n × R entries, and the counts are n
abbrev pub suffices : ℕ → ℕ → Lent → Bool
suffices n R b =
    leb R max_capacity && leb (n * R) (length b.positives) && leb (n * R) (length b.negatives) && leb n (length b.counts)

-- 42: the circuit, which is the last node, has more prime implicants than R ("lack of rows")
unfoldable pub exceeds : List ℕ → ℕ → ℕ → (ℕ → ℕ → Bool) → ℕ → Bool
exceeds m N n F R = ltb R (length (node_primes m N F (pred n)))

-- the answer, with the buffers afterwards
abbrev pub ListOut : Type 0
ListOut = Out (Unit {0}) Lent

-- refused by 42: zeros in the first n × R entries of both row buffers and in the first n counts, the rest as it was
abbrev pub cleared : ℕ → ℕ → Lent → ListOut
cleared n R b =
    record {
      answer = refused 42 0;
      after =
          lent (replicate (n * R) 0 ++ drop (n * R) b.positives) (replicate (n * R) 0 ++ drop (n * R) b.negatives)
          (replicate n 0 ++ drop n b.counts);
    }

-- done: the masks and counts that are listed, the rest as it was
abbrev pub filled : List ℕ → ℕ → ℕ → (ℕ → ℕ → Bool) → ℕ → Lent → ListOut
filled m N n F R b =
    record {
      answer = answered tt;
      after =
          lent (listed_masks m N n F R true ++ drop (n * R) b.positives) (listed_masks m N n F R false ++ drop (n * R) b.negatives)
          (listed_counts m N n F ++ drop n b.counts);
    }

-- by the answer of the check: 21 to 25, then 41, then 56, then 42
abbrev pub list_checked : List ℕ → ℕ → ℕ → (ℕ → ℕ → Bool) → ℕ → Lent → Outcome (Unit {0}) → ListOut
list_checked m N n F R b c =
    guarded c ((suffices n R b, 41) ∷ (fitting N m, 56) ∷ []) b (cond (exceeds m N n F R) (cleared n R b) (filled m N n F R b))

-- listing into the buffers b: the nodes' functions where the sign c is true, their negations where it is false
unfoldable pub list_table : Bool → List ℕ → ℕ → ℕ → List ℕ → ℕ → Lent → ListOut
list_table c m N n w R b = list_checked m N n (signed_function c w) R b (check N n w)

-- what the listing answers, and what it leaves in each buffer, for all inputs
pub record ListResult (c : Bool) (m : List ℕ) (N n : ℕ) (w : List ℕ) (R : ℕ) (b b' : Lent) (r : Result (Unit {0}) Refusal) : Type 0 where
  pub answer : outcome r ≡ (list_table c m N n w R b).answer
  pub positives : b'.positives ≡ (list_table c m N n w R b).after.positives
  pub negatives : b'.negatives ≡ (list_table c m N n w R b).after.negatives
  pub counts : b'.counts ≡ (list_table c m N n w R b).after.counts

-- the c entries of node i's part of a row buffer; none where i is above 1,023, R above 4,096, c above R, or they pass the end
abbrev pub viewed : List ℕ → ℕ → ℕ → ℕ → List ℕ
viewed s R i c =
    cond (ltb i max_nodes && leb R max_capacity && leb c R && leb (i * R + c) (length s)) (take c (drop (i * R) s)) []
