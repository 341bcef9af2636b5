-- What the walk's inner functions need, and what they leave. No public contract rests on these.
use Rattle.std.specs.Prelude.{ℕ, pred, ◌*◌, ◌≤◌, ◌≡◌, true, false, List, length, get_or, take, drop}
use Rattle.table.specs.Outcome.{accepted}
use Rattle.steps.specs.Steps.{steps_in}
use Rattle.terms.specs.Completions.{status}
use Rattle.terms.specs.Prime.{primes}
use Rattle.terms.specs.declared.Term.{Term}
use Rattle.circuits.specs.Check.{check}
use Rattle.lists.specs.Capacity.{max_capacity}
use Rattle.lists.specs.List.{terms_in}
use Rattle.lists.specs.declared.list.TermList.{TermList}
use Rattle.insertion.specs.Filled.{masks_of}
use Rattle.queries.specs.Queries.{circuit}
use Rattle.listing.specs.Listing.{Lent}
use Rattle.walk.specs.Walk.{check_steps, compatible, after_each}
use Rattle.walk.specs.declared.Plan.{Plan}

-- the circuit is accepted, the first k steps are good, and the two buffers of the steps have k and c entries, the same number
pub record StepsReady (h : Plan) (w : List ℕ) (k c : ℕ) : Type 0 where
  pub accepts : check h.variables h.nodes w ≡ accepted
  pub good : check_steps h.variables 0 (steps_in h.columns k) ≡ accepted
  pub even : c ≡ k

-- the prime implicants of the circuit, in order by the weights m
abbrev pub plan_primes : List ℕ → Plan → List ℕ → List Term
plan_primes m h w = primes m h.variables (circuit h.nodes w)

-- the list has them, in order by some weights
pub record JudgeReady (h : Plan) (w : List ℕ) (list : TermList) (k c : ℕ) : Type 0 where
  pub steps : StepsReady h w k c
  pub weights : List ℕ
  pub terms : terms_in list ≡ plan_primes weights h w
  pub few : length list.positives.now ≤ max_capacity

-- they stand in the last node's part of the buffers b of a listing with room for R a node
pub record WalkReady (h : Plan) (w : List ℕ) (b : Lent) (R k c : ℕ) : Type 0 where
  pub steps : StepsReady h w k c
  pub weights : List ℕ
  pub small : R ≤ max_capacity
  pub few : length (plan_primes weights h w) ≤ R
  pub rows : (h.nodes * R ≤ length b.positives) × (h.nodes * R ≤ length b.negatives) × (h.nodes ≤ length b.counts)
  pub count : get_or b.counts (pred h.nodes) 0 ≡ length (plan_primes weights h w)
  pub positives : take (length (plan_primes weights h w)) (drop (pred h.nodes * R) b.positives)
      ≡ masks_of true (plan_primes weights h w)
  pub negatives : take (length (plan_primes weights h w)) (drop (pred h.nodes * R) b.negatives)
      ≡ masks_of false (plan_primes weights h w)

-- ss and cs are the entries of the first k steps
pub record Judged (h : Plan) (w : List ℕ) (k : ℕ) (ss cs : List ℕ) : Type 0 where
  pub statuses : ss ≡ after_each h.variables (status h.variables (circuit h.nodes w)) (steps_in h.columns k)
  pub compatibles : cs ≡ after_each h.variables (compatible h.variables (circuit h.nodes w)) (steps_in h.columns k)
