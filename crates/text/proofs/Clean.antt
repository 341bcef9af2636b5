-- A form or a tree has no fault exactly if it is within the limits.
use Prim.Native.Nat.{ℕ, zero, suc, ◌+◌, ◌<◌, ◌≤◌}
use mathlib.Core.Path.{◌≡◌, refl, sym, ap₂}
use mathlib.Core.Bool.{Bool, true, false, ◌&&◌}
use mathlib.Core.List.{List, [], ◌∷◌, ◌++◌, cons≢nil}
use native.Mathlib.Nat.{add-zero}
use native.Mathlib.Omega.{arith}
use lib.Dec.{T, ltb, leb, ltb→lt, lt→ltb, leb→le, le→leb}
use lib.ListN.{length, length-append}
use Rattle.masks.proofs.Tests.{and_i, and_l, and_r}
use Rattle.table.specs.Layout.{words_for}
use Rattle.text.specs.Faults.{unless, nodes_in, nodes_in_all, closing, operator_faults, forms_faults, form_faults, lines_faults, tree_faults}
use Rattle.text.specs.Limits.{max_bytes}
use Rattle.text.specs.Syntax.{decimal, print_operator, print_form, print, OperatorFits, FormFits, FormsFit, GrammaticalLines}
use Rattle.text.specs.Syntax.{compile_form, compile_lines, compile, depth, depths, LinesWithin, Tree, Compiled, Within, Grammatical}
use Rattle.text.specs.Syntax.{Form, Forms, constant_form, literal_form, inner_form, line_form, none, more}
use Rattle.text.specs.declared.head.Operator.{Operator}
use Rattle.text.specs.declared.head.Operator.TheVariants.{Decision, Conjunction}
use Rattle.text.proofs.CompiledWords.{compile-nodes, compile-length}

pub append-none : {A : Type 0} (xs ys : List A) → xs ++ ys ≡ [] → (xs ≡ []) × (ys ≡ [])
append-none [] ys e = (refl, e)
append-none (x ∷ xs) ys e = absurd (cons≢nil e)

pub none-append : {A : Type 0} (xs ys : List A) → xs ≡ [] → ys ≡ [] → xs ++ ys ≡ []
none-append xs ys e f = ap₂ ◌++◌ e f

pub unless-none : (b : Bool) (k p : ℕ) → unless b k p ≡ [] → T b
unless-none true k p e = tt
unless-none false k p e = absurd (cons≢nil e)

pub none-unless : (b : Bool) (k p : ℕ) → T b → unless b k p ≡ []
none-unless true k p t = refl
none-unless false k p t = absurd t

-- ---- forms
operator-clean : (N p : ℕ) (op : Operator) → operator_faults N p op ≡ [] → OperatorFits N op
operator-clean N p (Decision x) e = ltb→lt x N (unless-none (ltb x N) 12 p e)
operator-clean N p Conjunction e = tt

clean-operator : (N p : ℕ) (op : Operator) → OperatorFits N op → operator_faults N p op ≡ []
clean-operator N p (Decision x) b = none-unless (ltb x N) 12 p (lt→ltb x N b)
clean-operator N p Conjunction b = refl

module _ (N k room : ℕ) where
  -- within the limits: variables, lines, depth and nodes
  abbrev pub FormWithin : ℕ → ℕ → Form → Type 0
  FormWithin d n f = FormFits N k f × (depth f ≤ d) × (n + nodes_in f ≤ room)

  abbrev FormsWithin : ℕ → ℕ → Forms → Type 0
  FormsWithin d n fs = FormsFit N k fs × (depths fs ≤ d) × (n + nodes_in_all fs ≤ room)

  -- a form of the grammar without a fault is within the limits
  module _ (M j : ℕ) where
    abbrev Clean : ℕ → Type 0
    Clean d = (at n : ℕ) (f : Form) → FormFits M j f → n ≤ room → form_faults N k room d at n f ≡ [] → FormWithin d n f

    forms-clean : (d : ℕ) → Clean d → (at n : ℕ) (fs : Forms) → FormsFit M j fs → n ≤ room
        → forms_faults (form_faults N k room d) at n fs ≡ [] → FormsWithin d n fs
    unfolding forms_faults
    forms-clean d ih at n none b l e = (tt, omega arith, omega arith)
    forms-clean d ih at n (more f fs) (bf, bs) l e =
        let q : ℕ = at + 1 + length (print_form f) in
        let (e₁, e₂) = append-none (form_faults N k room d (at + 1) n f) (forms_faults (form_faults N k room d) q (n + nodes_in f) fs) e in
        let (wf, df, mf) = ih (at + 1) n f bf l e₁ in
        let (ws, ds, ms) = forms-clean d ih q (n + nodes_in f) fs bs mf e₂ in
        ((wf, ws), omega arith, omega arith)

    pub form-clean : (d : ℕ) → Clean d
    unfolding form_faults
    form-clean zero at n f b l e = absurd (cons≢nil e)
    form-clean (suc d) at n (constant_form v) b l e =
        let a : n < room = ltb→lt n room (unless-none (ltb n room) 15 (closing at (constant_form v)) e) in (tt, omega arith, omega arith)
    form-clean (suc d) at n (literal_form v x) b l e =
        let p : ℕ = closing at (literal_form v x) in
        let (e₁, e₂) = append-none (unless (ltb x N) 12 p) (unless (ltb n room) 15 p) e in
        let a : n < room = ltb→lt n room (unless-none (ltb n room) 15 p e₂) in
        (ltb→lt x N (unless-none (ltb x N) 12 p e₁), omega arith, omega arith)
    form-clean (suc d) at n (inner_form op fs) (bx, least, most, bs) l e =
        let p : ℕ = at + length (print_operator op) in
        let c : ℕ = closing at (inner_form op fs) in
        let all : List (ℕ × ℕ) = forms_faults (form_faults N k room d) p n fs in
        let own : List (ℕ × ℕ) = unless (ltb (n + nodes_in_all fs) room) 15 c in
        let (e₀, e₁) = append-none (operator_faults N p op) (all ++ own) e in
        let (e₂, e₃) = append-none all own e₁ in
        let (ws, ds, ms) = forms-clean d (form-clean d) p n fs bs l e₂ in
        let a : n + nodes_in_all fs < room = ltb→lt (n + nodes_in_all fs) room (unless-none (ltb (n + nodes_in_all fs) room) 15 c e₃) in
        ((operator-clean N p op e₀, least, most, ws), omega arith, omega arith)
    form-clean (suc d) at n (line_form i) b l e =
        (ltb→lt i k (unless-none (ltb i k) 13 (closing at (line_form i)) e), omega arith, omega arith)

  -- a form within the limits has no fault
  clean-forms : (d : ℕ) → ((at n : ℕ) (f : Form) → FormWithin d n f → form_faults N k room d at n f ≡ [])
      → (at n : ℕ) (fs : Forms) → FormsWithin d n fs → forms_faults (form_faults N k room d) at n fs ≡ []
  unfolding forms_faults
  clean-forms d ih at n none w = refl
  clean-forms d ih at n (more f fs) ((bf, bs), l, m) =
      let q : ℕ = at + 1 + length (print_form f) in
      none-append (form_faults N k room d (at + 1) n f) (forms_faults (form_faults N k room d) q (n + nodes_in f) fs)
      (ih (at + 1) n f (bf, omega arith, omega arith)) (clean-forms d ih q (n + nodes_in f) fs (bs, omega arith, omega arith))

  pub clean-form : (d at n : ℕ) (f : Form) → FormWithin d n f → form_faults N k room d at n f ≡ []
  unfolding form_faults
  clean-form zero at n (constant_form v) (b, l, m) = absurd (omega arith)
  clean-form zero at n (literal_form v x) (b, l, m) = absurd (omega arith)
  clean-form zero at n (inner_form op fs) (b, l, m) = absurd (omega arith)
  clean-form zero at n (line_form j) (b, l, m) = absurd (omega arith)
  clean-form (suc d) at n (constant_form v) (b, l, m) =
      none-unless (ltb n room) 15 (closing at (constant_form v)) (lt→ltb n room (omega arith))
  clean-form (suc d) at n (literal_form v x) (b, l, m) =
      let p : ℕ = closing at (literal_form v x) in
      none-append (unless (ltb x N) 12 p) (unless (ltb n room) 15 p) (none-unless (ltb x N) 12 p (lt→ltb x N b))
      (none-unless (ltb n room) 15 p (lt→ltb n room (omega arith)))
  clean-form (suc d) at n (inner_form op fs) ((bx, least, most, bs), l, m) =
      let p : ℕ = at + length (print_operator op) in
      let c : ℕ = closing at (inner_form op fs) in
      let all : List (ℕ × ℕ) = forms_faults (form_faults N k room d) p n fs in
      let own : List (ℕ × ℕ) = unless (ltb (n + nodes_in_all fs) room) 15 c in
      none-append (operator_faults N p op) (all ++ own) (clean-operator N p op bx)
      (none-append all own (clean-forms d (λ at n f w. clean-form d at n f (w.0, w.1, w.2)) p n fs (bs, omega arith, omega arith))
      (none-unless (ltb (n + nodes_in_all fs) room) 15 c (lt→ltb (n + nodes_in_all fs) room (omega arith))))
  clean-form (suc d) at n (line_form j) (b, l, m) = none-unless (ltb j k) 13 (closing at (line_form j)) (lt→ltb j k b)

-- ---- lines
-- how many nodes the lines make
abbrev pub lines_nodes : List Form → ℕ
lines_nodes [] = 0
lines_nodes (f ∷ fs) = nodes_in f + lines_nodes fs

pub lines-clean : (N room : ℕ) (fs : List Form) (k at n : ℕ) → GrammaticalLines fs → n ≤ room → lines_faults N room k at n fs ≡ []
    → LinesWithin N k fs × (n + lines_nodes fs ≤ room)
unfolding lines_faults
lines-clean N room [] k at n g l e = (tt, omega arith)
lines-clean N room (f ∷ fs) k at n (own, b, g) l e =
    let p : ℕ = at + length (print_form f) + 1 in
    let (e₁, e₂) = append-none (form_faults N k room 16 at n f) (lines_faults N room (suc k) p (n + nodes_in f) fs) e in
    let (bf, df, mf) = form-clean N k room 10000 10000 16 at n f b l e₁ in
    let (ws, ms) = lines-clean N room fs (suc k) p (n + nodes_in f) g mf e₂ in
    ((bf, df, ws), omega arith)

pub clean-lines : (N room : ℕ) (fs : List Form) (k at n : ℕ) → LinesWithin N k fs → n + lines_nodes fs ≤ room
    → lines_faults N room k at n fs ≡ []
unfolding lines_faults
clean-lines N room [] k at n w l = refl
clean-lines N room (f ∷ fs) k at n (bf, df, ws) l =
    let p : ℕ = at + length (print_form f) + 1 in
    none-append (form_faults N k room 16 at n f) (lines_faults N room (suc k) p (n + nodes_in f) fs)
    (clean-form N k room 16 at n f (bf, df, omega arith)) (clean-lines N room fs (suc k) p (n + nodes_in f) ws (omega arith))

pub lines-compiled : (e : List ℕ) (n : ℕ) (fs : List Form) → GrammaticalLines fs
    → ((compile_lines e n fs).nodes ≡ n + lines_nodes fs) × (length (compile_lines e n fs).words ≡ words_for (lines_nodes fs))
unfolding compile_lines
lines-compiled e n [] g = (sym (add-zero n), refl)
lines-compiled e n (f ∷ fs) (own, bf, g) =
    let c : Compiled = compile_form e n f in
    let (i, j) = lines-compiled (e ++ (c.node ∷ [])) c.nodes fs g in
    let a : c.nodes ≡ n + nodes_in f = compile-nodes e n f in
    let b : length c.words ≡ words_for (nodes_in f) = compile-length 10000 10000 e n f bf in
    let v : List ℕ = (compile_lines (e ++ (c.node ∷ [])) c.nodes fs).words in
    (omega arith, omega (arith, length-append c.words v))

-- ---- a whole tree
pub tree-clean : (room : ℕ) (t : Tree) → Grammatical t → length (print t) ≤ max_bytes → tree_faults room t ≡ [] → Within room t
unfolding tree_faults compile
tree-clean room t g l e =
    let N : ℕ = t.variables in
    let p : ℕ = 9 + length (decimal N) in
    let (e₁, e₂) = append-none (unless (leb 1 N && leb N 40) 12 p) (lines_faults N room 0 (p + 2) 0 t.lines) e in
    let b : T (leb 1 N && leb N 40) = unless-none (leb 1 N && leb N 40) 12 p e₁ in
    let (ws, ms) = lines-clean N room t.lines 0 (p + 2) 0 g.each (omega arith) e₂ in
    let (i, j) = lines-compiled [] 0 t.lines g.each in
    record {
      bytes = l;
      low = leb→le 1 N (and_l (leb 1 N) (leb N 40) b);
      high = leb→le N 40 (and_r (leb 1 N) (leb N 40) b);
      each = ws;
      nodes = omega arith;
    }

pub clean-tree : (room : ℕ) (t : Tree) → Grammatical t → Within room t → tree_faults room t ≡ []
unfolding tree_faults compile
clean-tree room t g w =
    let N : ℕ = t.variables in
    let p : ℕ = 9 + length (decimal N) in
    let (i, j) = lines-compiled [] 0 t.lines g.each in
    let m : (compile_lines [] 0 t.lines).nodes ≤ room = w.nodes in
    none-append (unless (leb 1 N && leb N 40) 12 p) (lines_faults N room 0 (p + 2) 0 t.lines)
    (none-unless (leb 1 N && leb N 40) 12 p (and_i (leb 1 N) (leb N 40) (le→leb 1 N w.low) (le→leb N 40 w.high)))
    (clean-lines N room t.lines 0 (p + 2) 0 w.each (omega arith))
