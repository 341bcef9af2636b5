-- The writing of a table as circuit text: node i as line i, each child as `(line K)`.
use Rattle.std.specs.Prelude.{ℕ, false, cond, List, [], ◌∷◌, ◌++◌, map, ltb, length, drop}
use Rattle.masks.specs.Numbers.{below}
use Rattle.table.specs.Node.{node_at, Node, constant, literal, decision, conjunction, unknown}
use Rattle.table.specs.Outcome.{Outcome, answered, refused}
use Rattle.table.specs.Words.{check_words}
use Rattle.text.specs.Syntax.{print, Tree, Form, Forms, constant_form, literal_form, inner_form, line_form, none, more}
use Rattle.text.specs.declared.head.Operator.TheVariants.{Decision, Conjunction}

-- children, each as the line of its node
abbrev pub line_forms : List ℕ → Forms
line_forms [] = none
line_forms (c ∷ cs) = more (line_form c) (line_forms cs)

-- a node's form
abbrev pub node_form : Node → Form
node_form (constant v) = constant_form v
node_form (literal v x) = literal_form v x
node_form (decision x a b) = inner_form (Decision x) (line_forms (a ∷ b ∷ []))
node_form (conjunction cs) = inner_form Conjunction (line_forms cs)
-- never written: 22 comes first
node_form unknown = constant_form false

-- the syntax tree of a table of n nodes over N variables
abbrev pub table_tree : ℕ → ℕ → List ℕ → Tree
table_tree N n w = record { variables = N; lines = map (λ i. node_form (node_at w i)) (below n) }

unfoldable pub table_text : ℕ → ℕ → List ℕ → List ℕ
table_text N n w = print (table_tree N n w)

-- the answer, the text's length, with the sink afterwards
pub record WriteOut : Type 0 where
  pub answer : Outcome ℕ
  pub sink : List ℕ

-- a text into a sink: 16 where it is too long; bytes past the text never change
abbrev pub write_text : List ℕ → List ℕ → WriteOut
write_text text sink =
    cond (ltb (length sink) (length text))
    (record { answer = refused 16 (length text); sink = sink })
    (record { answer = answered (length text); sink = text ++ drop (length text) sink })

abbrev pub write_checked : List ℕ → List ℕ → Outcome (Unit {0}) → WriteOut
write_checked text sink (answered u) = write_text text sink
write_checked text sink (refused k i) = record { answer = refused k i; sink = sink }

-- writing the table into a sink
unfoldable pub write_table : ℕ → ℕ → List ℕ → List ℕ → WriteOut
write_table N n w sink = write_checked (table_text N n w) sink (check_words N n w)
