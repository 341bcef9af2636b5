-- The faults of a tree are listed in the order of their places, so that the first stands at the lowest byte.
use Prim.Native.Nat.{ℕ, zero, suc, ◌+◌, ◌≤◌}
use mathlib.Core.Path.{◌≡◌, sym, ap, subst, ◌∙◌}
use mathlib.Core.Bool.{Bool, true, false, ◌&&◌}
use mathlib.Core.List.{List, [], ◌∷◌, ◌++◌}
use native.Mathlib.Omega.{arith}
use lib.Dec.{ltb, leb}
use lib.ListN.{length, length-append}
use Rattle.text.specs.Faults.{Between, unless, nodes_in, nodes_in_all, closing, operator_faults, forms_faults, form_faults, lines_faults}
use Rattle.text.specs.Faults.{tree_faults}
use Rattle.text.specs.Syntax.{decimal, print_operator, print_form, print_forms, print_lines, print, Tree, Form, Forms, constant_form}
use Rattle.text.specs.Syntax.{literal_form, inner_form, line_form, none, more}
use Rattle.text.specs.declared.head.Operator.{Operator}
use Rattle.text.specs.declared.head.Operator.TheVariants.{Decision, Conjunction}
use Rattle.text.proofs.Spelling.{constant-length, literal-length, line-length, inner-length, more-length, begins}
use Rattle.text.proofs.Texts.{header-flat}

lower : (lo mid hi : ℕ) (fs : List (ℕ × ℕ)) → lo ≤ mid → Between mid hi fs → Between lo hi fs
lower lo mid hi [] l b = omega arith
lower lo mid hi (e ∷ fs) l (m, b) = (omega arith, b)

between-append : (lo mid hi : ℕ) (fs gs : List (ℕ × ℕ)) → Between lo mid fs → Between mid hi gs → Between lo hi (fs ++ gs)
between-append lo mid hi [] gs b c = lower lo mid hi gs b c
between-append lo mid hi (e ∷ fs) gs (l, b) c = (l, between-append e.1 mid hi fs gs b c)

between-unless : (lo hi : ℕ) (b : Bool) (k p : ℕ) → lo ≤ p → p ≤ hi → Between lo hi (unless b k p)
between-unless lo hi true k p l m = omega arith
between-unless lo hi false k p l m = (l, m)

operator-ordered : (N p lo hi : ℕ) (op : Operator) → lo ≤ p → p ≤ hi → Between lo hi (operator_faults N p op)
operator-ordered N p lo hi (Decision x) l m = between-unless lo hi (ltb x N) 12 p l m
operator-ordered N p lo hi Conjunction l m = omega arith

-- forms from a place on, by the faults of one
forms-ordered : (form : ℕ → ℕ → Form → List (ℕ × ℕ)) → ((at n : ℕ) (f : Form) → Between at (closing at f) (form at n f))
    → (at n : ℕ) (fs : Forms) → Between at (at + length (print_forms fs)) (forms_faults form at n fs)
unfolding forms_faults print_form
forms-ordered form ih at n none = omega arith
forms-ordered form ih at n (more f fs) =
    let q : ℕ = at + 1 + length (print_form f) in
    let hi : ℕ = at + length (print_forms (more f fs)) in
    let e : q + length (print_forms fs) ≡ hi = omega (arith, more-length f fs) in
    let one : List (ℕ × ℕ) = form (at + 1) n f in
    let others : List (ℕ × ℕ) = forms_faults form q (n + nodes_in f) fs in
    let rest : Between q hi others = subst (λ (z : ℕ). Between q z others) e (forms-ordered form ih q (n + nodes_in f) fs) in
    let (x, i) = begins f in
    lower at (at + 1) hi (one ++ others) (omega arith)
    (between-append (at + 1) (closing (at + 1) f) hi one others (ih (at + 1) n f)
    (lower (closing (at + 1) f) q hi others (omega (arith, ap length i)) rest))

pub form-ordered : (N k room d at n : ℕ) (f : Form) → Between at (closing at f) (form_faults N k room d at n f)
unfolding form_faults
form-ordered N k room zero at n f = let (x, e) = begins f in (omega arith, omega (arith, ap length e))
form-ordered N k room (suc d) at n (constant_form v) =
    between-unless at (closing at (constant_form v)) (ltb n room) 15 (closing at (constant_form v)) (omega (arith, constant-length v))
    (omega arith)
form-ordered N k room (suc d) at n (literal_form v x) =
    let p : ℕ = closing at (literal_form v x) in
    between-append at p p (unless (ltb x N) 12 p) (unless (ltb n room) 15 p)
    (between-unless at p (ltb x N) 12 p (omega (arith, literal-length v x)) (omega arith))
    (between-unless p p (ltb n room) 15 p (omega arith) (omega arith))
form-ordered N k room (suc d) at n (inner_form op fs) =
    let p : ℕ = at + length (print_operator op) in
    let c : ℕ = closing at (inner_form op fs) in
    let e : p + length (print_forms fs) ≡ c = omega (arith, inner-length op fs) in
    let all : List (ℕ × ℕ) = forms_faults (form_faults N k room d) p n fs in
    let own : List (ℕ × ℕ) = unless (ltb (n + nodes_in_all fs) room) 15 c in
    let forms : Between p c all =
    subst (λ (z : ℕ). Between p z all) e (forms-ordered (form_faults N k room d) (form-ordered N k room d) p n fs) in
    between-append at p c (operator_faults N p op) (all ++ own) (operator-ordered N p at p op (omega arith) (omega arith))
    (between-append p c c all own forms (between-unless c c (ltb (n + nodes_in_all fs) room) 15 c (omega arith) (omega arith)))
form-ordered N k room (suc d) at n (line_form j) =
    between-unless at (closing at (line_form j)) (ltb j k) 13 (closing at (line_form j)) (omega (arith, line-length j)) (omega arith)

lines-ordered : (N room : ℕ) (fs : List Form) (k at n : ℕ)
    → Between at (at + length (print_lines fs)) (lines_faults N room k at n fs)
unfolding lines_faults print_lines
lines-ordered N room [] k at n = omega arith
lines-ordered N room (f ∷ fs) k at n =
    let q : ℕ = at + length (print_form f) + 1 in
    let hi : ℕ = at + length (print_form f ++ (10 ∷ []) ++ print_lines fs) in
    let e : hi ≡ q + length (print_lines fs) =
    omega (arith, length-append (print_form f ++ (10 ∷ [])) (print_lines fs), length-append (print_form f) (10 ∷ [])) in
    let rest : Between q (q + length (print_lines fs)) (lines_faults N room (suc k) q (n + nodes_in f) fs) =
    lines-ordered N room fs (suc k) q (n + nodes_in f) in
    subst (λ (z : ℕ). Between at z (form_faults N k room 16 at n f ++ lines_faults N room (suc k) q (n + nodes_in f) fs)) (sym e)
    (between-append at (closing at f) (q + length (print_lines fs)) (form_faults N k room 16 at n f)
    (lines_faults N room (suc k) q (n + nodes_in f) fs) (form-ordered N k room 16 at n f)
    (lower (closing at f) q (q + length (print_lines fs)) (lines_faults N room (suc k) q (n + nodes_in f) fs) (omega arith) rest))

pub tree-ordered : (room : ℕ) (t : Tree) → Between 0 (length (print t)) (tree_faults room t)
unfolding tree_faults
tree-ordered room t =
    let N : ℕ = t.variables in
    let p : ℕ = 9 + length (decimal N) in
    let e : length (print t) ≡ p + 2 + length (print_lines t.lines) =
    ap length (header-flat t) ∙ omega (arith, length-append (decimal N) (41 ∷ 10 ∷ print_lines t.lines)) in
    let faults : List (ℕ × ℕ) = lines_faults N room 0 (p + 2) 0 t.lines in
    subst (λ (z : ℕ). Between 0 z (unless (leb 1 N && leb N 40) 12 p ++ faults)) (sym e)
    (between-append 0 p (p + 2 + length (print_lines t.lines)) (unless (leb 1 N && leb N 40) 12 p) faults
    (between-unless 0 p (leb 1 N && leb N 40) 12 p (omega arith) (omega arith))
    (lower p (p + 2) (p + 2 + length (print_lines t.lines)) faults (omega arith) (lines-ordered N room t.lines 0 (p + 2) 0)))
