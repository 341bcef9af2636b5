-- The nodes of a table, and the words that stand for them.
use Rattle.std.specs.Prelude.{ℕ, zero, suc, ◌-◌, Bool, true, false, List, [], ◌∷◌, ◌++◌, length, get_or, take, replicate}
use Rattle.table.specs.Layout.{max_children, words_at}
use Rattle.table.specs.declared.layout.Children.{Children}
use Rattle.table.specs.declared.layout.NodeWords.{NodeWords}

-- the kinds by their numbers: 0 `false`, 1 `true`, 2 `yes`, 3 `no`, 4 `pick`, 5 `both`
pub data Kind : Type 0 where
  constant_kind : Bool → Kind
  literal_kind : Bool → Kind
  decision_kind : Kind
  conjunction_kind : Kind
  unknown_kind : Kind

abbrev pub kind : ℕ → Kind
kind zero = constant_kind false
kind (suc zero) = constant_kind true
kind (suc (suc zero)) = literal_kind true
kind (suc (suc (suc zero))) = literal_kind false
kind (suc (suc (suc (suc zero)))) = decision_kind
kind (suc (suc (suc (suc (suc zero))))) = conjunction_kind
kind (suc (suc (suc (suc (suc (suc k)))))) = unknown_kind

-- the numbers of the known kinds
abbrev pub false_number : ℕ
false_number = 0

abbrev pub true_number : ℕ
true_number = 1

abbrev pub positive_number : ℕ
positive_number = 2

abbrev pub negative_number : ℕ
negative_number = 3

abbrev pub decision_number : ℕ
decision_number = 4

abbrev pub conjunction_number : ℕ
conjunction_number = 5

pub data Node : Type 0 where
  -- `false` or `true`
  constant : Bool → Node
  -- `yes` or `no`: the variable x, or its negation where the sign is false
  literal : Bool → ℕ → Node
  -- `pick`: the child a where x is no, b where it is yes
  decision : ℕ → ℕ → ℕ → Node
  -- `both`: all of the children
  conjunction : List ℕ → Node
  -- a kind above 5
  unknown : Node

-- how many nodes a table has at most, and over how many variables
abbrev pub max_nodes : ℕ
max_nodes = 1024

abbrev pub max_variables : ℕ
max_variables = 40

-- the node that its words stand for: child words past the number of children are unused
abbrev pub decode : Kind → ℕ → Children → Node
decode (constant_kind v) x cs = constant v
decode (literal_kind v) x cs = literal v x
decode decision_kind x cs = decision x (get_or cs.nodes 0 0) (get_or cs.nodes 1 0)
decode conjunction_kind x cs = conjunction (take cs.count cs.nodes)
decode unknown_kind x cs = unknown

abbrev pub decode_words : NodeWords → Node
decode_words y = decode (kind y.kind) y.variable y.children

-- node i of the table
unfoldable pub node_at : List ℕ → ℕ → Node
node_at w i = decode_words (words_at w i)

abbrev pub children : Node → List ℕ
children (constant v) = []
children (literal v x) = []
children (decision x a b) = a ∷ b ∷ []
children (conjunction cs) = cs
children unknown = []

-- ---- the words that stand for a node
-- children, with 0 in the unused words
abbrev pub children_words : List ℕ → Children
children_words cs = record { count = length cs; nodes = cs ++ replicate (max_children - length cs) 0 }

abbrev pub encoded : ℕ → ℕ → List ℕ → NodeWords
encoded k x cs = record { kind = k; variable = x; children = children_words cs }

-- a kind above 5 has no number of its own; none is ever encoded
abbrev pub encode : Node → NodeWords
encode (constant false) = encoded false_number 0 []
encode (constant true) = encoded true_number 0 []
encode (literal true x) = encoded positive_number x []
encode (literal false x) = encoded negative_number x []
encode (decision x a b) = encoded decision_number x (a ∷ b ∷ [])
encode (conjunction cs) = encoded conjunction_number 0 cs
encode unknown = encoded false_number 0 []
