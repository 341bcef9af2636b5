-- The scope's numbers, written out: limits, the words of a node, the values of an answer, and a text for each refusal of a text. Each is
-- proved by computation, so that none can change in a definition and in the code together unseen. The numbers of the other refusals, with
-- their order and places, those of a status and those of the acts stand in the demands.
use Rattle.std.specs.Prelude.{ℕ, zero, suc, ◌*◌, ◌<◌, true, false, List, [], ◌∷◌, ◌++◌, ◌≡◌, length}
use Rattle.steps.specs.Steps.{max_steps, no_step}
use Rattle.steps.specs.declared.Step.{Step}
use Rattle.table.specs.Layout.{max_children, node_words}
use Rattle.table.specs.Node.{node_at, max_nodes, max_variables, constant, literal, decision, conjunction, unknown}
use Rattle.table.specs.Outcome.{accepted, answered, refused}
use Rattle.text.specs.Ascii.{ascii}
use Rattle.text.specs.Limits.{max_bytes, max_depth}
use Rattle.text.specs.Read.{read_text}
use Rattle.text.specs.Syntax.{least_forms, most_forms}
use Rattle.text.specs.declared.head.Operator.{Operator}
use Rattle.text_assignment.specs.Line.{read_assignment}
use Rattle.text_script.specs.Script.{read_script}
use Rattle.terms.specs.declared.Term.{Term}
use Rattle.weighing.specs.Weights.{max_weight}
use Rattle.lists.specs.Capacity.{max_capacity}
use Rattle.program.specs.Program.{program_bytes, program_words, program_nodes, program_capacity, program_reading}
use Rattle.quelbrift.specs.Boundary.{answer_of, nothing, number, numbers, triple, truth, masks, placed}
use Rattle.quelbrift.specs.declared.answer.Answer.{Answer}

pub record Limits : Type 0 where
  pub variables : max_variables ≡ 40
  pub nodes : max_nodes ≡ 1024
  pub capacity : max_capacity ≡ 4096
  pub weight : max_weight ≡ 1000
  pub steps : max_steps ≡ 256
  -- a node has eleven words, of which eight are children
  pub words : node_words ≡ 11
  pub children : max_children ≡ 8
  -- a circuit text: its bytes, brackets open in one another, and the forms in a `pick` and in a `both`
  pub bytes : max_bytes ≡ 110000
  pub depth : max_depth ≡ 16
  pub least-forms : least_forms ≡ 2
  pub pick-forms : (x : ℕ) → most_forms (Operator.Decision x) ≡ 2
  pub both-forms : most_forms Operator.Conjunction ≡ 8
  -- the program: the bytes that it takes, the words that it reads into, the nodes that its buffers are made for, its capacity
  pub program-bytes : program_bytes ≡ 40000
  pub program-words : program_words ≡ 704
  pub program-nodes : program_nodes ≡ 64
  pub program-capacity : program_capacity ≡ 64

-- a node's words: kind, variable, number of children, children. Node 1 stands at word 11
pub record Kinds : Type 0 where
  pub always-false : (w : List ℕ) → node_at (0 ∷ w) 0 ≡ constant false
  pub always-true : (w : List ℕ) → node_at (1 ∷ w) 0 ≡ constant true
  pub positive : (x : ℕ) (w : List ℕ) → node_at (2 ∷ x ∷ w) 0 ≡ literal true x
  pub negative : (x : ℕ) (w : List ℕ) → node_at (3 ∷ x ∷ w) 0 ≡ literal false x
  -- the first child of a `pick` where x is no, the second where it is yes
  pub pick : (x a b : ℕ) (w : List ℕ) → node_at (4 ∷ x ∷ 2 ∷ a ∷ b ∷ w) 0 ≡ decision x a b
  pub both : (a b c : ℕ) (w : List ℕ) → node_at (5 ∷ 0 ∷ 3 ∷ a ∷ b ∷ c ∷ w) 0 ≡ conjunction (a ∷ b ∷ c ∷ [])
  pub above : (k : ℕ) (w : List ℕ) → 5 < k → node_at (k ∷ w) 0 ≡ unknown
  pub next : (k x n a b c d e f g h : ℕ) (w : List ℕ) → node_at (k ∷ x ∷ n ∷ a ∷ b ∷ c ∷ d ∷ e ∷ f ∷ g ∷ h ∷ w) 1 ≡ node_at w 0

-- the values of an answer as C sees them
abbrev values : ℕ → ℕ → ℕ → Answer
values a b c = record { number = 0; place = 0; first = a; second = b; third = c }

pub record Values : Type 0 where
  -- the check, and the listing of negations
  pub none : answer_of nothing accepted ≡ values 0 0 0
  -- the variables and nodes of a text that is read; 1 and the step that a walk names, or 0 and 0
  pub two : (a b : ℕ) → answer_of numbers (answered (a, b)) ≡ values a b 0
  -- a length, a model count, how many terms are shown, how many steps are read, an assignment
  pub one : (a : ℕ) → answer_of number (answered a) ≡ values a 0 0
  -- a verdict, and the tests of a term
  pub holds : answer_of truth (answered true) ≡ values 1 0 0
  pub fails : answer_of truth (answered false) ≡ values 0 0 0
  -- a reduction: its positive and its negative mask
  pub reduction : (t : Term) → answer_of masks (answered t) ≡ values t.positive t.negative 0
  -- a judgement: the status, and how many completions are allowed and forbidden
  pub judgement : (v a b : ℕ) → answer_of triple (answered (v, (a, b))) ≡ values v a b
  -- a view: the offset of node i's part, and its length
  pub view : (R i a : ℕ) (l : List ℕ) → answer_of (placed R i) (answered (a ∷ l)) ≡ values (i * R) (suc (length l)) 0
  pub no-view : (R i : ℕ) → answer_of (placed R i) (answered []) ≡ values 0 0 0
  -- a refusal has its number and its place, and no value; so for every kind of answer
  pub refusal : (k p : ℕ) → answer_of triple (refused k p) ≡ record { number = k; place = p; first = 0; second = 0; third = 0 }

-- a text with k brackets open in one another, and one more
abbrev deep : ℕ → List ℕ
deep zero = ascii "("
deep (suc k) = ascii "(pick 0 " ++ deep k

-- circuit texts with the number of lent words: a text for each refusal
pub record CircuitTexts : Type 0 where
  pub long : (s : List ℕ) (m : ℕ) → 110000 < length s → (read_text s m).answer ≡ refused 10 110000
  pub program-long : (s v : List ℕ) → 40000 < length s → (program_reading s v).answer ≡ refused 10 40000
  pub empty : (read_text [] 11).answer ≡ refused 11 0
  pub fifth-digit : (read_text (ascii "(circuit 10000)\n(true)\n") 11).answer ≡ refused 11 13
  pub form-alone : (read_text (ascii "(circuit 1)\n(both (true))\n") 33).answer ≡ refused 11 24
  pub no-variable : (read_text (ascii "(circuit 0)\n(true)\n") 11).answer ≡ refused 12 10
  pub many-variables : (read_text (ascii "(circuit 41)\n(true)\n") 11).answer ≡ refused 12 11
  pub variable : (read_text (ascii "(circuit 1)\n(yes 1)\n") 11).answer ≡ refused 12 18
  pub own_line : (read_text (ascii "(circuit 1)\n(both (line 0) (true))\n") 33).answer ≡ refused 13 25
  pub depth : (read_text (ascii "(circuit 1)\n" ++ deep 16) 11).answer ≡ refused 14 140
  pub no_room : (read_text (ascii "(circuit 1)\n(both (true) (true))\n") 32).answer ≡ refused 15 31
  pub room : (read_text (ascii "(circuit 1)\n(both (true) (true))\n") 33).answer ≡ answered (1, 3)

-- assignment lines over a number of variables
pub record LineTexts : Type 0 where
  pub few : read_assignment (ascii "(stow)\n") 0 ≡ refused 21 0
  pub many : read_assignment (ascii "(stow)\n") 41 ≡ refused 21 0
  pub shape : read_assignment (ascii "(stow 0 )\n") 2 ≡ refused 51 8
  pub variable : read_assignment (ascii "(stow 2)\n") 2 ≡ refused 52 7
  pub twice : read_assignment (ascii "(stow 1 1)\n") 2 ≡ refused 52 9
  pub line : read_assignment (ascii "(stow 0 2)\n") 3 ≡ answered 5

abbrev step : ℕ → ℕ → Step
step v a = record { variable = v; act = a }

-- loading scripts over a number of variables, with the lent list
pub record ScriptTexts : Type 0 where
  pub few : (list : List Step) → (read_script [] 0 list).answer ≡ refused 21 0
  pub shape : (read_script (ascii "(set 0 on)\n") 1 (no_step ∷ [])).answer ≡ refused 54 7
  pub no_room : (read_script (ascii "(drop 0)\n(drop 0)\n") 1 (no_step ∷ [])).answer ≡ refused 54 9
  pub variable : (read_script (ascii "(drop 1)\n") 1 (no_step ∷ [])).answer ≡ refused 55 7
  -- the acts: 0 for no, 1 for yes, 2 for drop
  pub acts : (read_script (ascii "(set 0 no)\n(set 1 yes)\n(drop 0)\n") 2 (no_step ∷ no_step ∷ no_step ∷ [])).steps
      ≡ step 0 0 ∷ step 1 1 ∷ step 0 2 ∷ []

pub record Numbers : Type 0 where
  pub limits : Limits
  pub kinds : Kinds
  pub values : Values
  pub circuit-texts : CircuitTexts
  pub line-texts : LineTexts
  pub script-texts : ScriptTexts
