-- The check of a table: 21 to 25, in that order, each with its lowest node.
use Rattle.std.specs.Prelude.{ℕ, suc, Bool, true, false, ◌&&◌, ◌||◌, not, List, [], ◌∷◌, eqb, ltb}
use Rattle.masks.specs.Mask.{bit, disjoint}
use Rattle.masks.specs.Numbers.{some}
use Rattle.table.specs.Node.{node_at, children, Node, constant, literal, decision, conjunction, unknown}
use Rattle.table.specs.Outcome.{Outcome}
use Rattle.table.specs.Words.{malformed, check_by}
use Rattle.terms.specs.Lists.{any}
use Rattle.circuits.specs.Function.{union, support}

-- the node has the child c
abbrev pub has_child : ℕ → Node → Bool
has_child c y = any (eqb c) (children y)

-- some node below n has the child c
abbrev pub is_child : List ℕ → ℕ → ℕ → Bool
is_child w n c = some n (λ j. has_child c (node_at w j))

-- 23: node i of n, not the last, is nobody's child
unfoldable pub parentless : List ℕ → ℕ → ℕ → Bool
parentless w n i = ltb (suc i) n && not (is_child w n i)

-- no variable is in two of the masks: each is held against all those after it
abbrev pub all_disjoint : (ℕ → ℕ) → List ℕ → Bool
all_disjoint v [] = true
all_disjoint v (c ∷ cs) = disjoint (v c) (union v cs) && all_disjoint v cs

-- children whose variables v meet each other, or meet the decision's own
abbrev pub node_meets : (ℕ → ℕ) → Node → Bool
node_meets v (constant b) = false
node_meets v (literal b x) = false
node_meets v (decision x a b) = bit (v a) x || bit (v b) x
node_meets v (conjunction cs) = not (all_disjoint v cs)
node_meets v unknown = false

-- 24: a fact meets itself at node i, so that it is not decomposable
unfoldable pub undecomposable : List ℕ → ℕ → Bool
undecomposable w i = node_meets (support w) (node_at w i)

abbrev pub is_false : Node → Bool
is_false (constant b) = not b
is_false (literal b x) = false
is_false (decision x a b) = false
is_false (conjunction cs) = false
is_false unknown = false

-- a `both` with a `false` child, or a `pick` with two; p tells the `false` nodes
abbrev pub node_unreduced : (ℕ → Bool) → Node → Bool
node_unreduced p (constant b) = false
node_unreduced p (literal b x) = false
node_unreduced p (decision x a b) = p a && p b
node_unreduced p (conjunction cs) = any p cs
node_unreduced p unknown = false

-- 25: node i is not reduced in the sense of the article, section 2.1
unfoldable pub unreduced : List ℕ → ℕ → Bool
unreduced w i = node_unreduced (λ c. is_false (node_at w c)) (node_at w i)

-- the rules for the nodes, in their order: for well-formed nodes, and all
abbrev pub node_rules : ℕ → List ℕ → List (ℕ × (ℕ → Bool))
node_rules n w = (23, parentless w n) ∷ (24, undecomposable w) ∷ (25, unreduced w) ∷ []

abbrev pub rules : ℕ → ℕ → List ℕ → List (ℕ × (ℕ → Bool))
rules N n w = (22, malformed N w) ∷ node_rules n w

-- the check of a table of n nodes over N variables
unfoldable pub check : ℕ → ℕ → List ℕ → Outcome (Unit {0})
check N n w = check_by N n w (rules N n w)
