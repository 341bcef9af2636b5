-- The implicant test of a term, node by node. No public contract rests on these.
use Rattle.std.specs.Prelude.{ℕ, Bool, true, false, ◌&&◌, cond, List}
use Rattle.table.specs.Node.{Node, constant, literal, decision, conjunction, unknown}
use Rattle.terms.specs.Lists.{all}
use Rattle.terms.specs.Term.{has}
use Rattle.terms.specs.declared.Term.{Term}
use Rattle.circuits.specs.Function.{of_node}

-- whether the term is an implicant of a node, from the same of its children
abbrev pub node_implied : Term → Node → (ℕ → Bool) → Bool
node_implied t (constant b) v = b
node_implied t (literal b x) v = has t b x
node_implied t (decision x a b) v = cond (has t true x) (v b) (cond (has t false x) (v a) (v a && v b))
node_implied t (conjunction cs) v = all v cs
node_implied t unknown v = false

unfoldable pub implied_at : List ℕ → Term → ℕ → Bool
implied_at w t i = of_node false (node_implied t) w i
