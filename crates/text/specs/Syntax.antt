-- The grammar of circuit text: syntax trees, how they are printed, and the nodes that they stand for.
use Prim.Native.Char.{code}
use Rattle.std.specs.Prelude.{ℕ, suc, ◌+◌, ◌/◌, ◌%◌, ◌<◌, ◌≤◌, max, Bool, true, false, cond, List, [], ◌∷◌, ◌++◌, ◌≢◌, ltb, length, get_or}
use Rattle.table.specs.Layout.{max_children, word_list}
use Rattle.table.specs.Node.{encode, max_variables, Node, constant, literal, decision, conjunction}
use Rattle.text.specs.Ascii.{ascii}
use Rattle.text.specs.Limits.{max_bytes, max_depth}
use Rattle.text.specs.declared.head.Operator.{Operator}
use Rattle.text.specs.declared.head.Operator.TheVariants.{Decision, Conjunction}

-- ---- trees
mutual
  pub data Form : Type 0 where
    -- `(false)` or `(true)`
    constant_form : Bool → Form
    -- `(yes V)`, or `(no V)` where the sign is false
    literal_form : Bool → ℕ → Form
    -- `(pick V F F)` or `(both F F ...)`
    inner_form : Operator → Forms → Form
    -- `(line K)`
    line_form : ℕ → Form

  -- the forms in an inner form
  pub data Forms : Type 0 where
    none : Forms
    more : Form → Forms → Forms

abbrev pub count : Forms → ℕ
count none = 0
count (more f fs) = suc (count fs)

-- how many forms an operator takes, at least and at most
abbrev pub least_forms : ℕ
least_forms = 2

abbrev pub most_forms : Operator → ℕ
most_forms (Decision x) = 2
most_forms Conjunction = max_children

-- a whole text: the N of its header, and its lines
pub record Tree : Type 0 where
  pub variables : ℕ
  pub lines : List Form

-- ---- printing
-- the digit of v at a unit, where v has one there
abbrev pub digit_text : ℕ → ℕ → List ℕ
digit_text unit v = cond (ltb v unit) [] ((code "0" + v / unit % 10) ∷ [])

-- a number below 10,000 in base ten, with no leading zero
unfoldable pub decimal : ℕ → List ℕ
decimal v = digit_text 1000 v ++ digit_text 100 v ++ digit_text 10 v ++ ((code "0" + v % 10) ∷ [])

-- an inner form up to its first child
abbrev pub print_operator : Operator → List ℕ
print_operator (Decision x) = ascii "(pick " ++ decimal x
print_operator Conjunction = ascii "(both"

unfoldable mutual
  pub print_form : Form → List ℕ
  print_form (constant_form false) = ascii "(false)"
  print_form (constant_form true) = ascii "(true)"
  print_form (literal_form true x) = ascii "(yes " ++ decimal x ++ ascii ")"
  print_form (literal_form false x) = ascii "(no " ++ decimal x ++ ascii ")"
  print_form (inner_form op fs) = print_operator op ++ print_forms fs ++ ascii ")"
  print_form (line_form k) = ascii "(line " ++ decimal k ++ ascii ")"

  -- each form after a space
  pub print_forms : Forms → List ℕ
  print_forms none = []
  print_forms (more f fs) = ascii " " ++ print_form f ++ print_forms fs

unfoldable pub print_lines : List Form → List ℕ
print_lines [] = []
print_lines (f ∷ fs) = print_form f ++ ascii "\n" ++ print_lines fs

-- the header and one form a line
unfoldable pub print : Tree → List ℕ
print t = ascii "(circuit " ++ decimal t.variables ++ ascii ")\n" ++ print_lines t.lines

-- ---- which trees are texts of the grammar
abbrev pub OperatorFits : ℕ → Operator → Type 0
OperatorFits N (Decision x) = x < N
OperatorFits N Conjunction = Unit

-- each variable in the form is below N, each line number below k, and each inner form has as many forms as its operator takes
abbrev mutual
  pub FormFits : ℕ → ℕ → Form → Type 0
  FormFits N k (constant_form v) = Unit
  FormFits N k (literal_form v x) = x < N
  FormFits N k (inner_form op fs) = OperatorFits N op × (least_forms ≤ count fs) × (count fs ≤ most_forms op) × FormsFit N k fs
  FormFits N k (line_form j) = j < k

  pub FormsFit : ℕ → ℕ → Forms → Type 0
  FormsFit N k none = Unit
  FormsFit N k (more f fs) = FormFits N k f × FormsFit N k fs

-- a line's own form is not `line`
abbrev pub Own : Form → Type 0
Own (constant_form v) = Unit
Own (literal_form v x) = Unit
Own (inner_form op fs) = Unit
Own (line_form k) = ⊥

-- all numbers have at most four digits, and each operator has as many forms as it takes
abbrev pub GrammaticalLines : List Form → Type 0
GrammaticalLines [] = Unit
GrammaticalLines (f ∷ fs) = Own f × FormFits 10000 10000 f × GrammaticalLines fs

pub record Grammatical (t : Tree) : Type 0 where
  pub header : t.variables < 10000
  pub some : t.lines ≢ []
  pub each : GrammaticalLines t.lines

-- ---- the nodes of a tree
-- what a form or a list of lines makes: the words of its nodes, the number of all nodes after it, and the node that it means
pub record Compiled : Type 0 where
  pub words : List ℕ
  pub nodes : ℕ
  pub node : ℕ

-- what the forms in an inner form make, with the node that each means
pub record CompiledForms : Type 0 where
  pub words : List ℕ
  pub nodes : ℕ
  pub children : List ℕ

-- the last node, number n, after the words w of those before it
abbrev pub makes : List ℕ → ℕ → Node → Compiled
makes w n y = record { words = w ++ word_list (encode y); nodes = suc n; node = n }

abbrev pub operator_node : Operator → List ℕ → Node
operator_node (Decision x) cs = decision x (get_or cs 0 0) (get_or cs 1 0)
operator_node Conjunction cs = conjunction cs

-- the nodes of a form after n others, its children's first; `earlier` has the node that each earlier line means
unfoldable mutual
  pub compile_form : List ℕ → ℕ → Form → Compiled
  compile_form earlier n (constant_form v) = makes [] n (constant v)
  compile_form earlier n (literal_form v x) = makes [] n (literal v x)
  compile_form earlier n (inner_form op fs) =
      let a : CompiledForms = compile_forms earlier n fs in makes a.words a.nodes (operator_node op a.children)
  compile_form earlier n (line_form k) = record { words = []; nodes = n; node = get_or earlier k 0 }

  pub compile_forms : List ℕ → ℕ → Forms → CompiledForms
  compile_forms earlier n none = record { words = []; nodes = n; children = [] }
  compile_forms earlier n (more f fs) =
      let a : Compiled = compile_form earlier n f in
      let b : CompiledForms = compile_forms earlier a.nodes fs in
      record { words = a.words ++ b.words; nodes = b.nodes; children = a.node ∷ b.children }

unfoldable pub compile_lines : List ℕ → ℕ → List Form → Compiled
compile_lines earlier n [] = record { words = []; nodes = n; node = 0 }
compile_lines earlier n (f ∷ fs) =
    let a : Compiled = compile_form earlier n f in
    let b : Compiled = compile_lines (earlier ++ (a.node ∷ [])) a.nodes fs in
    record { words = a.words ++ b.words; nodes = b.nodes; node = a.node }

unfoldable pub compile : Tree → Compiled
compile t = compile_lines [] 0 t.lines

-- ---- the limits
-- how many brackets are open in one another, at most
abbrev mutual
  pub depth : Form → ℕ
  depth (constant_form v) = 1
  depth (literal_form v x) = 1
  depth (inner_form op fs) = suc (depths fs)
  depth (line_form k) = 1

  pub depths : Forms → ℕ
  depths none = 0
  depths (more f fs) = max (depth f) (depths fs)

-- lines from line k on: each V below N, each K an earlier line, brackets not too deep
abbrev pub LinesWithin : ℕ → ℕ → List Form → Type 0
LinesWithin N k [] = Unit
LinesWithin N k (f ∷ fs) = FormFits N k f × (depth f ≤ max_depth) × LinesWithin N (suc k) fs

pub record Within (room : ℕ) (t : Tree) : Type 0 where
  pub bytes : length (print t) ≤ max_bytes
  pub low : 1 ≤ t.variables
  pub high : t.variables ≤ max_variables
  pub each : LinesWithin t.variables 0 t.lines
  pub nodes : (compile t).nodes ≤ room
