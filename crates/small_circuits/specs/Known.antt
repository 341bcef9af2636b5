-- What is known of a small circuit, and that the definitions of the public operations say so.
use Rattle.std.specs.Prelude.{ℕ, pred, ◌*◌, Bool, true, false, ◌&&◌, cond, List, [], ◌∷◌, eqb, take, replicate}
use Rattle.table.specs.Outcome.{Outcome, answered, refused}
use Rattle.terms.specs.Lists.{all}
use Rattle.terms.specs.Term.{term, terms_of}
use Rattle.terms.specs.declared.Term.{Term}
use Rattle.measurements.specs.Measurement.{measurements, Measurements}
use Rattle.exclusions.specs.Exclusions.{Exclusions}
use Rattle.circuits.specs.Check.{check}
use Rattle.circuits.specs.Function.{signed_function}
use Rattle.queries.specs.Queries.{model_count}
use Rattle.partial.specs.Partial.{partial_evaluation}
use Rattle.listing.specs.Listing.{node_primes, lent, list_table}
use Rattle.filtered.specs.Filtered.{filtered_lent, filtered_table, FilteredLent, FilteredOut}

-- prime implicants in order where every weight is 0, whether some capacities suffice, and their order by some weights
pub record Primes : Type 0 where
  pub terms : List Term
  pub capacities : List (ℕ × Bool)
  pub weighed : List (List ℕ × List Term)

-- a partial assignment, and its judgement: the status with both numbers of completions, or a refusal
pub record Question : Type 0 where
  pub given : Term
  pub measured : Measurements
  pub judgement : Outcome (ℕ × (ℕ × ℕ))

pub data Known : Type 0 where
  -- it is refused, with this number and node
  fault : ℕ → ℕ → Known
  -- its model count, its prime implicants, those of its negation, and judgements
  accepts : ℕ → Primes → Primes → List Question → Known
  -- with this capacity and these exclusions its shown list has these terms, or the listing is refused; and what else is known
  shows : ℕ → Exclusions → Outcome (List Term) → Known → Known

abbrev same_terms : List Term → List Term → Bool
same_terms [] [] = true
same_terms [] (u ∷ us) = false
same_terms (t ∷ ts) [] = false
same_terms (t ∷ ts) (u ∷ us) = eqb t.positive u.positive && eqb t.negative u.negative && same_terms ts us

abbrev refused_as : {A : Type 0} → ℕ → ℕ → Outcome A → Bool
refused_as k i (answered v) = false
refused_as k i (refused k' i') = eqb k k' && eqb i i'

abbrev is_accepted : Outcome (Unit {0}) → Bool
is_accepted (answered u) = true
is_accepted (refused k i) = false

abbrev is_count : ℕ → Outcome ℕ → Bool
is_count m (answered v) = eqb v m
is_count m (refused k i) = false

abbrev same_judgement : Outcome (ℕ × (ℕ × ℕ)) → Outcome (ℕ × (ℕ × ℕ)) → Bool
same_judgement (refused k i) o = refused_as k i o
same_judgement (answered v) (refused k i) = false
same_judgement (answered v) (answered u) = eqb v.0 u.0 && eqb v.1.0 u.1.0 && eqb v.1.1 u.1.1

abbrev judged_as : ℕ → ℕ → List ℕ → Question → Bool
judged_as N n w q = same_judgement q.judgement (partial_evaluation N n w q.given q.measured)

-- the answer of a listing by the weights m with this capacity, into buffers of just the needed length
abbrev listing : Bool → List ℕ → ℕ → ℕ → List ℕ → ℕ → Outcome (Unit {0})
listing c m N n w R = let rows : List ℕ = replicate (n * R) 7 in (list_table c m N n w R (lent rows rows (replicate n 7))).answer

-- it is done, or refused with 42; with a weight too many it is refused with 56
abbrev fits : Bool → ℕ → ℕ → List ℕ → ℕ → Bool → Bool
fits c N n w R enough =
    let answer : Outcome (Unit {0}) = listing c (replicate N 0) N n w R in
    cond enough (is_accepted answer) (refused_as 42 0 answer) && refused_as 56 0 (listing c (0 ∷ replicate N 0) N n w R)

-- the last node's prime implicants, or its negation's where c is false, are these in order by the weights m
abbrev ordered : Bool → List ℕ → ℕ → ℕ → List ℕ → List Term → Bool
ordered c m N n w ts = same_terms (node_primes m N (signed_function c w) (pred n)) ts

abbrev lists_as : Bool → ℕ → ℕ → List ℕ → Primes → Bool
lists_as c N n w ps =
    ordered c (replicate N 0) N n w ps.terms && all (λ r. fits c N n w r.0 r.1) ps.capacities
    && all (λ o. ordered c o.0 N n w o.1) ps.weighed

-- the shown list of a listing in which every weight is 0, by the number that is answered, into buffers of just the needed length
abbrev shown_terms : Outcome ℕ → FilteredLent → Outcome (List Term)
shown_terms (answered c) a = answered (terms_of (take c a.positives) (take c a.negatives))
shown_terms (refused k i) a = refused k i

abbrev shown_list : ℕ → Exclusions → ℕ → ℕ → List ℕ → Outcome (List Term)
shown_list R e N n w =
    let rows : List ℕ = replicate (n * R) 7 in
    let shown : List ℕ = replicate R 7 in
    let o : FilteredOut = filtered_table (replicate N 0) e N n w R (filtered_lent (lent rows rows (replicate n 7)) shown shown) in
    shown_terms o.answer o.after

abbrev same_shown : Outcome (List Term) → Outcome (List Term) → Bool
same_shown (refused k i) o = refused_as k i o
same_shown (answered ts) (refused k i) = false
same_shown (answered ts) (answered us) = same_terms ts us

-- of a table of n nodes over N variables; the circuit is the last node. 21 to 25 come before 32 and 53
abbrev pub holds : ℕ → ℕ → List ℕ → Known → Bool
holds N n w (fault k i) =
    refused_as k i (check N n w) && refused_as k i (partial_evaluation N n w (term 1 1) (measurements (N ∷ []) [] [] []))
holds N n w (accepts m ps qs js) =
    is_accepted (check N n w) && is_count m (model_count N n w) && lists_as true N n w ps && lists_as false N n w qs && all (judged_as N n w) js
holds N n w (shows R e o k) = let rest : Bool = holds N n w k in same_shown o (shown_list R e N n w) && rest
