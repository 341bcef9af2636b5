-- What the inner functions of the filtered listing need, and what they leave. No public contract rests on these.
use Rattle.std.specs.Prelude.{ℕ, pred, ◌*◌, ◌≤◌, ◌≡◌, Bool, cond, List, length, get_or, take, drop, replicate, Result}
use Rattle.table.specs.Node.{max_nodes}
use Rattle.table.specs.Outcome.{answered, refused, outcome}
use Rattle.table.specs.declared.Refusal.{Refusal}
use Rattle.terms.specs.Term.{terms_of}
use Rattle.terms.specs.declared.Term.{Term}
use Rattle.exclusions.specs.Exclusions.{Exclusions}
use Rattle.lists.specs.Capacity.{max_capacity}
use Rattle.listing.specs.Listing.{exceeds, cleared, filled, Lent}
use Rattle.listing.specs.declared.Shape.{Shape}
use Rattle.filtered.specs.Filtered.{shown_primes, shown_masks}

-- the terms in the last node's part of a listing's buffers, as many as its count says
abbrev pub last_terms : Shape → List ℕ → List ℕ → List ℕ → List Term
last_terms h ps ns cs =
    let c : ℕ = get_or cs (pred h.nodes) 0 in
    let at : ℕ = pred h.nodes * h.capacity in
    terms_of (take c (drop at ps)) (take c (drop at ns))

-- the buffers have that part, and its terms are no more than the capacity
pub record LastHeld (h : Shape) (ps ns cs : List ℕ) : Type 0 where
  pub some : 1 ≤ h.nodes
  pub most : h.nodes ≤ max_nodes
  pub small : h.capacity ≤ max_capacity
  pub positives : h.nodes * h.capacity ≤ length ps
  pub negatives : h.nodes * h.capacity ≤ length ns
  pub counts : h.nodes ≤ length cs
  pub few : get_or cs (pred h.nodes) 0 ≤ h.capacity

-- a listing into the buffers b, and into buffers of just R entries for the shown list: they are b' and s then
pub record FilteredExact (m : List ℕ) (e : Exclusions) (N n : ℕ) (F : ℕ → ℕ → Bool) (R : ℕ) (b b' : Lent) (s : Bool → List ℕ)
    (r : Result ℕ Refusal) : Type 0 where
  pub answer : outcome r ≡ cond (exceeds m N n F R) (refused 42 0) (answered (length (shown_primes m e N n F)))
  pub nodes : b' ≡ (cond (exceeds m N n F R) (cleared n R b) (filled m N n F R b)).after
  pub shown : (d : Bool) → s d ≡ cond (exceeds m N n F R) (replicate R 0) (shown_masks m e N n F R d)
