-- A node as the code reads it.
use Rattle.std.specs.Prelude.{ℕ, ◌<◌, ◌≤◌, List, get_or, take}
use Rattle.table.specs.Layout.{max_children, words_at}
use Rattle.table.specs.Node.{kind, Kind, constant_kind, literal_kind, decision_kind, conjunction_kind, unknown_kind, Node, constant}
use Rattle.table.specs.Node.{literal, decision, conjunction, unknown}
use Rattle.table.specs.declared.gates.Decoded.{Decoded}
use Rattle.table.specs.declared.gates.Gate.{Gate}
use Rattle.table.specs.declared.gates.Gate.TheVariants.{Constant, Literal, Decision, Conjunction, Unknown}
use Rattle.table.specs.declared.layout.Children.{Children}
use Rattle.table.specs.declared.layout.NodeWords.{NodeWords}

-- the gate of a kind; a and b are its first two child words
abbrev pub gate : Kind → ℕ → ℕ → ℕ → Gate
gate (constant_kind v) x a b = Constant v
gate (literal_kind v) x a b = Literal v x
gate decision_kind x a b = Decision x a b
gate conjunction_kind x a b = Conjunction
gate unknown_kind x a b = Unknown

unfoldable pub gate_of : ℕ → ℕ → ℕ → ℕ → Gate
gate_of k x a b = gate (kind k) x a b

-- words as they are read
abbrev pub decoded : NodeWords → Decoded
decoded y =
    record {
      gate = gate_of y.kind y.variable (get_or y.children.nodes 0 0) (get_or y.children.nodes 1 0);
      children = y.children;
    }

-- node i as it is read
abbrev pub decoded_at : List ℕ → ℕ → Decoded
decoded_at w i = decoded (words_at w i)

-- the children that are used
abbrev pub child_list : Children → List ℕ
child_list cs = take cs.count cs.nodes

-- the node that a gate and its children stand for
abbrev pub gate_node : Gate → Children → Node
gate_node (Constant v) cs = constant v
gate_node (Literal v x) cs = literal v x
gate_node (Decision x a b) cs = decision x a b
gate_node Conjunction cs = conjunction (child_list cs)
gate_node Unknown cs = unknown

-- at most eight children, each below m: what a walk over the children takes for granted. No public contract rests on this
pub record ChildrenBelow (m : ℕ) (cs : Children) : Type 0 where
  pub few : cs.count ≤ max_children
  pub each : (k : ℕ) → k < cs.count → get_or cs.nodes k 0 < m
