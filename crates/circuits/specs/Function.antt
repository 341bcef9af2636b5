-- What is computed of each node from its children's: the function of a node, and the variables under it.
use Rattle.std.specs.Prelude.{ℕ, zero, suc, Bool, true, false, not, cond, List, [], ◌∷◌, ◌++◌, get_or}
use Rattle.std.specs.Int.Bits.{bit_or}
use Rattle.masks.specs.Mask.{bit, put}
use Rattle.table.specs.Node.{node_at, Node, constant, literal, decision, conjunction, unknown}
use Rattle.terms.specs.Lists.{all}

-- f makes something of a node from what it makes of the node's children. `bottom_up n` is what it makes of the nodes below n,
-- node 0 first; d stands for a child that is not there
module _ {A : Type 0} (d : A) (f : Node → (ℕ → A) → A) (w : List ℕ) where
  unfoldable pub bottom_up : ℕ → List A
  bottom_up zero = []
  bottom_up (suc n) = let v : List A = bottom_up n in v ++ (f (node_at w n) (λ c. get_or v c d) ∷ [])

  -- what f makes of node i
  unfoldable pub of_node : ℕ → A
  of_node i = get_or (bottom_up (suc i)) i d

-- a truth value, or its negation where the sign is false
abbrev pub signed : Bool → Bool → Bool
signed true v = v
signed false v = not v

-- a node's value at the assignment s, from its children's values
abbrev pub node_value : ℕ → Node → (ℕ → Bool) → Bool
node_value s (constant b) v = b
node_value s (literal b x) v = signed b (bit s x)
node_value s (decision x a b) v = v (cond (bit s x) b a)
node_value s (conjunction cs) v = all v cs
node_value s unknown v = false

-- the function of node i: its value at each assignment
unfoldable pub function : List ℕ → ℕ → ℕ → Bool
function w i s = of_node false (node_value s) w i

-- the function of node i, or its negation where the sign is false: what is listed of each node
abbrev pub signed_function : Bool → List ℕ → ℕ → ℕ → Bool
signed_function c w i s = signed c (function w i s)

-- the variables of all masks
abbrev pub union : (ℕ → ℕ) → List ℕ → ℕ
union v [] = 0
union v (c ∷ cs) = bit_or (v c) (union v cs)

-- the variables named at a node or below it ("the facts under a node"), from its children's; kinds 2, 3 and 4 name one
abbrev pub node_support : Node → (ℕ → ℕ) → ℕ
node_support (constant b) v = 0
node_support (literal b x) v = put 0 x true
node_support (decision x a b) v = put (bit_or (v a) (v b)) x true
node_support (conjunction cs) v = union v cs
node_support unknown v = 0

unfoldable pub support : List ℕ → ℕ → ℕ
support w i = of_node 0 node_support w i
