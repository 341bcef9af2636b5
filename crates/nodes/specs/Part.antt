-- A node's part of the buffers, and what is made there. No public contract rests on these.
use Rattle.std.specs.Prelude.{ℕ, zero, suc, ◌+◌, ◌*◌, ◌≤◌, ◌<◌, ◌≡◌, Bool, true, false, cond, T, length, take, drop, get_or, Option}
use mathlib.Core.List.{List, [], ◌∷◌, ◌++◌, Memᴰ}
use Rattle.masks.specs.Mask.{width}
use Rattle.table.specs.Gate.{decoded_at}
use Rattle.table.specs.Layout.{max_children}
use Rattle.table.specs.Node.{max_nodes}
use Rattle.table.specs.declared.gates.Gate.{Gate}
use Rattle.table.specs.declared.gates.Gate.TheVariants.{Constant, Literal, Decision, Conjunction, Unknown}
use Rattle.terms.specs.Joins.{conjunction_terms, decision_terms}
use Rattle.terms.specs.Lists.{sort}
use Rattle.terms.specs.Order.{before}
use Rattle.terms.specs.Term.{empty, has, extend, terms_of}
use Rattle.terms.specs.declared.Term.{Term}
use Rattle.circuits.specs.Function.{signed}
use Rattle.lists.specs.Capacity.{max_capacity}
use Rattle.lists.specs.declared.list.TermList.{TermList}
use Rattle.insertion.specs.Filled.{masks_of, laid, kept_of}
use Rattle.settling.specs.Sides.{Sides, SidesAt, DecidedAt}
use Rattle.nodes.specs.declared.NodePart.{NodePart}
use Rattle.nodes.specs.declared.Terms.{Terms}

-- ---- two lists
-- what is made of a gate, or of its negation where the sign is false, from two lists: the terms of two children, or a child's and
-- what is made of those after it
abbrev pub gate_made : Bool → Gate → List Term → List Term → List Term
gate_made c (Constant b) l k = cond (signed c b) (empty ∷ []) []
gate_made c (Literal b x) l k = extend empty x (signed c b) ∷ []
gate_made c (Decision x a b) l k = sort (before []) (decision_terms x l k)
gate_made c Conjunction l k = sort (before []) (conjunction_terms c l k)
gate_made c Unknown l k = []

-- two lists of prime implicants in order, and x is in none of their terms
pub record Decided (x : ℕ) (a b : List Term) : Type 0 where
  pub sides : Sides a b
  pub below : x < sides.variables
  pub not_low : (t : Term) → Memᴰ t a → (c : Bool) → T (has t c x) → ⊥
  pub not-high : (t : Term) → Memᴰ t b → (c : Bool) → T (has t c x) → ⊥

-- what is taken for granted of two lists
abbrev pub PairGiven : Gate → List Term → List Term → Type 0
PairGiven (Constant c) a b = Unit {0}
PairGiven (Literal c x) a b = x < width
PairGiven (Decision x l h) a b = Decided x a b
PairGiven Conjunction a b = Sides a b
PairGiven Unknown a b = Unit {0}

-- the same of two lent lists
abbrev pub Given : Gate → TermList → TermList → Type 0
Given (Constant v) a b = Unit {0}
Given (Literal v x) a b = x < width
Given (Decision x l h) a b = DecidedAt x a b
Given Conjunction a b = SidesAt a b
Given Unknown a b = Unit {0}

-- the scratch has place for two lists of so many terms
abbrev pub HasPlace : ℕ → List ℕ → List ℕ → List ℕ → List ℕ → Type 0
HasPlace capacity ap an bp bn = (capacity ≤ length ap) × (capacity ≤ length an) × (capacity ≤ length bp) × (capacity ≤ length bn)

-- the count terms that stand from `at` on
abbrev pub terms_from : (Bool → List ℕ) → ℕ → ℕ → List Term
terms_from s at count = terms_of (take count (drop at (s true))) (take count (drop at (s false)))

-- the terms of which a place and a number are given
abbrev pub terms_at : (Bool → List ℕ) → Terms → List Term
terms_at s t = terms_from s t.from t.count

-- s with l over the front of its part of capacity entries from `at` on
abbrev pub laid_at : ℕ → ℕ → List ℕ → List ℕ → List ℕ
laid_at at capacity l s = take at s ++ (laid l (take capacity (drop at s)) ++ drop capacity (drop at s))

-- the list l was to be made in the part of capacity entries of s from `at` on
pub record PartFilled (l : List Term) (at capacity : ℕ) (s s' : Bool → List ℕ) (k : Option ℕ) : Type 0 where
  pub answer : k ≡ kept_of capacity l
  pub masks : length l ≤ capacity → (b : Bool) → s' b ≡ laid_at at capacity (masks_of b l) (s b)

-- ---- up to eight lists, v j being the terms of the child at place j
-- how many places of children are used: two, or as many as a conjunction has; the lists of a leaf's two are not looked at
abbrev pub places : Gate → ℕ → ℕ
places (Constant b) count = 2
places (Literal b x) count = 2
places (Decision x a b) count = 2
places Conjunction count = count
places Unknown count = 2

-- what is made of m places from j on, at least one: the last one's list, and then each with what is made of those after it
abbrev pub made_from : Bool → Gate → (ℕ → List Term) → ℕ → ℕ → List Term
made_from c g v j zero = []
made_from c g v j (suc zero) = v j
made_from c g v j (suc (suc m)) = gate_made c g (v j) (made_from c g v (suc j) (suc m))

-- what is made of a gate from the terms of its children; count is the number of a conjunction's
abbrev pub node_made : Bool → Gate → ℕ → (ℕ → List Term) → List Term
node_made c g count v = made_from c g v 0 (places g count)

-- where the terms of the child at place j start, and how many there are by the counts of all nodes
abbrev pub child_from : NodePart → ℕ → ℕ
child_from p j = get_or p.children.nodes j 0 * p.capacity

abbrev pub child_size : List ℕ → NodePart → ℕ → ℕ
child_size counts p j = get_or counts (get_or p.children.nodes j 0) 0

abbrev pub child_terms : (Bool → List ℕ) → List ℕ → NodePart → ℕ → List Term
child_terms s counts p j = terms_from s (child_from p j) (child_size counts p j)

-- what is taken for granted of a node's lists: each goes with what is made of those after it, and what is made is no more than the next
pub record NodeGiven (c : Bool) (g : Gate) (v : ℕ → List Term) (n : ℕ) : Type 0 where
  pub two : 2 ≤ n
  pub pairs : (k m : ℕ) → k + suc (suc m) ≡ n → PairGiven g (v k) (made_from c g v (suc k) (suc m))
  pub grows : (k m : ℕ) → k + suc (suc (suc m)) ≡ n
      → length (made_from c g v (suc k) (suc (suc m))) ≤ length (made_from c g v k (suc (suc (suc m))))

-- the part lies in the buffers, and its children's terms stand below it; a place of no child has the number 0
pub record Laid (s : Bool → List ℕ) (counts : List ℕ) (p : NodePart) : Type 0 where
  pub small : p.capacity ≤ max_capacity
  pub inside : p.at + p.capacity ≤ length (s true)
  pub even : length (s false) ≡ length (s true)
  pub few : p.children.count ≤ max_children
  pub sizes : (j : ℕ) → child_size counts p j ≤ p.capacity
  pub below : (j : ℕ) → j < p.children.count → child_from p j + p.capacity ≤ p.at
  pub nodes : length counts ≤ max_nodes
  pub words : (j : ℕ) → get_or p.children.nodes j 0 < length counts
  pub there : (j : ℕ) → child_from p j + p.capacity ≤ length (s true)

-- the part of node i of the table w, or of its negation
pub record IsPart (c : Bool) (w : List ℕ) (i capacity : ℕ) (p : NodePart) : Type 0 where
  pub sign-is : p.sign ≡ c
  pub node : record { gate = p.gate; children = p.children } ≡ decoded_at w i
  pub at : p.at ≡ i * capacity
  pub capacity-is : p.capacity ≡ capacity
