-- The faults of a syntax tree: numbers 12 to 15 with their places, in the order of their bytes.
use Rattle.std.specs.Prelude.{ℕ, zero, suc, ◌+◌, ◌-◌, ◌≤◌, Bool, cond, List, [], ◌∷◌, ◌++◌, ltb, length}
use Rattle.table.specs.Words.{variables_fit}
use Rattle.text.specs.Limits.{max_depth}
use Rattle.text.specs.Syntax.{decimal, print_operator, print_form, Tree, Form, Forms, constant_form, literal_form, inner_form, line_form}
use Rattle.text.specs.Syntax.{none, more}
use Rattle.text.specs.declared.head.Operator.{Operator}
use Rattle.text.specs.declared.head.Operator.TheVariants.{Decision, Conjunction}

-- (k, p) where the test fails
abbrev pub unless : Bool → ℕ → ℕ → List (ℕ × ℕ)
unless b k p = cond b [] ((k, p) ∷ [])

-- how many nodes a form makes
abbrev mutual
  pub nodes_in : Form → ℕ
  nodes_in (constant_form v) = 1
  nodes_in (literal_form v x) = 1
  nodes_in (inner_form op fs) = nodes_in_all fs + 1
  nodes_in (line_form k) = 0

  pub nodes_in_all : Forms → ℕ
  nodes_in_all none = 0
  nodes_in_all (more f fs) = nodes_in f + nodes_in_all fs

-- the place of the closing bracket of a form that starts at a place
abbrev pub closing : ℕ → Form → ℕ
closing at f = at + length (print_form f) - 1

-- 12 at the byte after the variable
abbrev pub operator_faults : ℕ → ℕ → Operator → List (ℕ × ℕ)
operator_faults N p (Decision x) = unless (ltb x N) 12 p
operator_faults N p Conjunction = []

-- forms from a place on, each after a space; `form` has the faults of one
unfoldable pub forms_faults : (ℕ → ℕ → Form → List (ℕ × ℕ)) → ℕ → ℕ → Forms → List (ℕ × ℕ)
forms_faults form at n none = []
forms_faults form at n (more f fs) =
    form (at + 1) n f ++ forms_faults form (at + 1 + length (print_form f)) (n + nodes_in f) fs

-- a form at a place, over N variables, with k earlier lines and room for some nodes, of which n are taken;
-- d brackets may be open in one another
module _ (N k room : ℕ) where
  unfoldable pub form_faults : ℕ → ℕ → ℕ → Form → List (ℕ × ℕ)
  form_faults zero at n f = (14, at) ∷ []
  form_faults (suc d) at n (constant_form v) = unless (ltb n room) 15 (closing at (constant_form v))
  form_faults (suc d) at n (literal_form v x) =
      unless (ltb x N) 12 (closing at (literal_form v x)) ++ unless (ltb n room) 15 (closing at (literal_form v x))
  form_faults (suc d) at n (inner_form op fs) =
      let p : ℕ = at + length (print_operator op) in
      operator_faults N p op
      ++ (forms_faults (form_faults d) p n fs ++ unless (ltb (n + nodes_in_all fs) room) 15 (closing at (inner_form op fs)))
  form_faults (suc d) at n (line_form j) = unless (ltb j k) 13 (closing at (line_form j))

-- the lines from line k on, the first at a place and after n nodes
unfoldable pub lines_faults : ℕ → ℕ → ℕ → ℕ → ℕ → List Form → List (ℕ × ℕ)
lines_faults N room k at n [] = []
lines_faults N room k at n (f ∷ fs) =
    form_faults N k room max_depth at n f ++ lines_faults N room (suc k) (at + length (print_form f) + 1) (n + nodes_in f) fs

-- the whole text, with room for so many nodes
unfoldable pub tree_faults : ℕ → Tree → List (ℕ × ℕ)
tree_faults room t =
    let p : ℕ = 9 + length (decimal t.variables) in
    unless (variables_fit t.variables) 12 p ++ lines_faults t.variables room 0 (p + 2) 0 t.lines

-- places from lo to hi, none below the one before
abbrev pub Between : ℕ → ℕ → List (ℕ × ℕ) → Type 0
Between lo hi [] = lo ≤ hi
Between lo hi (e ∷ fs) = (lo ≤ e.1) × Between e.1 hi fs
