-- What the listing's inner functions leave in buffers of just the needed length. No public contract rests on these.
use Rattle.std.specs.Prelude.{ℕ, ◌*◌, ◌≤◌, ◌<◌, ◌≡◌, Bool, true, not, cond, List, [], length, replicate}
use Rattle.table.specs.Node.{max_nodes, max_variables}
use Rattle.table.specs.Outcome.{accepted}
use Rattle.weighing.specs.Weights.{fitting}
use Rattle.circuits.specs.Check.{check}
use Rattle.lists.specs.Capacity.{max_capacity}
use Rattle.listing.specs.declared.Shape.{Shape}
use Rattle.listing.specs.Listing.{node_primes, listed_masks, listed_counts, exceeds, cleared, filled, Lent}

-- the circuit is accepted, and the buffers have zeros alone, as many as its nodes' parts have entries
pub record Zeroed (h : Shape) (w : List ℕ) (s : Bool → List ℕ) (cs : List ℕ) : Type 0 where
  pub accepts : check h.variables h.nodes w ≡ accepted
  pub small : h.capacity ≤ max_capacity
  pub masks : (b : Bool) → s b ≡ replicate (h.nodes * h.capacity) 0
  pub counts : cs ≡ replicate h.nodes 0

-- the parts of the nodes hold their prime implicants, in order by the weights m
pub record Holds (m : List ℕ) (N n : ℕ) (F : ℕ → ℕ → Bool) (R : ℕ) (s : Bool → List ℕ) (cs : List ℕ) : Type 0 where
  pub fits : (i : ℕ) → i < n → length (node_primes m N F i) ≤ R
  pub masks : (b : Bool) → s b ≡ listed_masks m N n F R b
  pub counts : cs ≡ listed_counts m N n F

-- the parts of the nodes were to be filled, in order without weights; s and cs are the buffers then, and r says whether all terms fit
pub record Tried (N n : ℕ) (F : ℕ → ℕ → Bool) (R : ℕ) (s : Bool → List ℕ) (cs : List ℕ) (r : Bool) : Type 0 where
  pub answer : r ≡ not (exceeds [] N n F R)
  pub holds : r ≡ true → Holds [] N n F R s cs

-- the parts hold the prime implicants of some functions, in order without weights, and there are fitting weights
pub record Unarranged (h : Shape) (m : List ℕ) (s : Bool → List ℕ) (cs : List ℕ) : Type 0 where
  pub variables-few : h.variables ≤ max_variables
  pub nodes-few : h.nodes ≤ max_nodes
  pub small : h.capacity ≤ max_capacity
  pub weights : fitting h.variables m ≡ true
  pub listed : ℕ → ℕ → Bool
  pub holds : Holds [] h.variables h.nodes listed h.capacity s cs

-- the parts, which were s, are s' then: in order by the weights m
abbrev pub Arranges : Shape → List ℕ → (Bool → List ℕ) → List ℕ → (Bool → List ℕ) → Type 0
Arranges h m s cs s' =
    (F : ℕ → ℕ → Bool) → Holds [] h.variables h.nodes F h.capacity s cs
    → Holds m h.variables h.nodes F h.capacity s' cs

-- the parts in order by the weights m, with zeros everywhere where the terms do not fit
pub record Exact (m : List ℕ) (N n : ℕ) (F : ℕ → ℕ → Bool) (R : ℕ) (s : Bool → List ℕ) (cs : List ℕ) (r : Bool) : Type 0 where
  pub answer : r ≡ not (exceeds m N n F R)
  pub masks : (b : Bool) → s b ≡ cond r (listed_masks m N n F R b) (replicate (n * R) 0)
  pub counts : cs ≡ cond r (listed_counts m N n F) (replicate n 0)

-- a listing into the buffers b, which are large enough, by weights that fit: they are b' then, and r says whether all terms fit
pub record Attempted (m : List ℕ) (N n : ℕ) (F : ℕ → ℕ → Bool) (R : ℕ) (b b' : Lent) (r : Bool) : Type 0 where
  pub answer : r ≡ not (exceeds m N n F R)
  pub after : b' ≡ (cond r (filled m N n F R b) (cleared n R b)).after
