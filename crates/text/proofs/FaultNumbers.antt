-- Every fault of a tree is one of 12 to 15.
use Prim.Native.Nat.{ℕ, zero, suc, ◌+◌, ◌≤◌}
use mathlib.Core.Path.{◌≡◌, subst}
use mathlib.Core.Bool.{Bool, true, false, ◌&&◌}
use mathlib.Core.List.{List, [], ◌∷◌, ◌++◌}
use native.Mathlib.Omega.{arith}
use lib.Dec.{ltb, leb}
use lib.ListN.{length}
use Rattle.text.specs.Faults.{unless, nodes_in, nodes_in_all, closing, operator_faults, forms_faults, form_faults, lines_faults, tree_faults}
use Rattle.text.specs.Syntax.{decimal, print_operator, print_form, Tree, Form, Forms, constant_form, literal_form, inner_form, line_form}
use Rattle.text.specs.Syntax.{none, more}
use Rattle.text.specs.declared.head.Operator.{Operator}
use Rattle.text.specs.declared.head.Operator.TheVariants.{Decision, Conjunction}

abbrev pub Numbered : (ℕ → Type 0) → List (ℕ × ℕ) → Type 0
Numbered P [] = Unit {0}
Numbered P (e ∷ fs) = P e.0 × Numbered P fs

module _ (P : ℕ → Type 0) where
  pub numbered-append : (fs gs : List (ℕ × ℕ)) → Numbered P fs → Numbered P gs → Numbered P (fs ++ gs)
  numbered-append [] gs b c = c
  numbered-append (e ∷ fs) gs b c = (b.0, numbered-append fs gs b.1 c)

  pub numbered-unless : (b : Bool) (k p : ℕ) → P k → Numbered P (unless b k p)
  numbered-unless true k p h = tt
  numbered-unless false k p h = (h, tt)

  pub numbered-first : (fs gs : List (ℕ × ℕ)) (k p : ℕ) → Numbered P fs → fs ≡ (k, p) ∷ gs → P k
  numbered-first fs gs k p h e = let b : Numbered P ((k, p) ∷ gs) = subst (Numbered P) e h in b.0

-- every fault of a tree is one of 12 to 15
abbrev pub OfTree : ℕ → Type 0
OfTree k = (12 ≤ k) × (k ≤ 15)

operator-numbered : (N p : ℕ) (op : Operator) → Numbered OfTree (operator_faults N p op)
operator-numbered N p (Decision x) = numbered-unless OfTree (ltb x N) 12 p (omega arith)
operator-numbered N p Conjunction = tt

forms-numbered : (form : ℕ → ℕ → Form → List (ℕ × ℕ)) → ((at n : ℕ) (f : Form) → Numbered OfTree (form at n f))
    → (at n : ℕ) (fs : Forms) → Numbered OfTree (forms_faults form at n fs)
unfolding forms_faults
forms-numbered form ih at n none = tt
forms-numbered form ih at n (more f fs) =
    let q : ℕ = at + 1 + length (print_form f) in
    numbered-append OfTree (form (at + 1) n f) (forms_faults form q (n + nodes_in f) fs) (ih (at + 1) n f)
    (forms-numbered form ih q (n + nodes_in f) fs)

form-numbered : (N k room d at n : ℕ) (f : Form) → Numbered OfTree (form_faults N k room d at n f)
unfolding form_faults
form-numbered N k room zero at n f = (omega arith, tt)
form-numbered N k room (suc d) at n (constant_form v) = numbered-unless OfTree (ltb n room) 15 (closing at (constant_form v)) (omega arith)
form-numbered N k room (suc d) at n (literal_form v x) =
    let p : ℕ = closing at (literal_form v x) in
    numbered-append OfTree (unless (ltb x N) 12 p) (unless (ltb n room) 15 p) (numbered-unless OfTree (ltb x N) 12 p (omega arith))
    (numbered-unless OfTree (ltb n room) 15 p (omega arith))
form-numbered N k room (suc d) at n (inner_form op fs) =
    let p : ℕ = at + length (print_operator op) in
    let c : ℕ = closing at (inner_form op fs) in
    let all : List (ℕ × ℕ) = forms_faults (form_faults N k room d) p n fs in
    let own : List (ℕ × ℕ) = unless (ltb (n + nodes_in_all fs) room) 15 c in
    numbered-append OfTree (operator_faults N p op) (all ++ own) (operator-numbered N p op)
    (numbered-append OfTree all own (forms-numbered (form_faults N k room d) (form-numbered N k room d) p n fs)
    (numbered-unless OfTree (ltb (n + nodes_in_all fs) room) 15 c (omega arith)))
form-numbered N k room (suc d) at n (line_form j) = numbered-unless OfTree (ltb j k) 13 (closing at (line_form j)) (omega arith)

lines-numbered : (N room : ℕ) (fs : List Form) (k at n : ℕ) → Numbered OfTree (lines_faults N room k at n fs)
unfolding lines_faults
lines-numbered N room [] k at n = tt
lines-numbered N room (f ∷ fs) k at n =
    numbered-append OfTree (form_faults N k room 16 at n f) (lines_faults N room (suc k) (at + length (print_form f) + 1) (n + nodes_in f) fs)
    (form-numbered N k room 16 at n f) (lines-numbered N room fs (suc k) (at + length (print_form f) + 1) (n + nodes_in f))

pub tree-numbered : (room : ℕ) (t : Tree) → Numbered OfTree (tree_faults room t)
unfolding tree_faults
tree-numbered room t =
    let N : ℕ = t.variables in
    let p : ℕ = 9 + length (decimal N) in
    numbered-append OfTree (unless (leb 1 N && leb N 40) 12 p) (lines_faults N room 0 (p + 2) 0 t.lines)
    (numbered-unless OfTree (leb 1 N && leb N 40) 12 p (omega arith)) (lines-numbered N room t.lines 0 (p + 2) 0)
