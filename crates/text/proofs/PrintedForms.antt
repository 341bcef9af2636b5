-- The reading of a printed inner form: its operator, the forms in it and its closing bracket.
use Prim.Native.Nat.{ℕ, zero, suc, ◌+◌, ◌<◌, ◌≤◌}
use mathlib.Core.Path.{◌≡◌, refl, sym, ap, ap₂, subst, ◌∙◌}
use mathlib.Core.Bool.{Bool, true, false, cond}
use mathlib.Core.Logic.{◌≢◌}
use mathlib.Core.List.{List, [], ◌∷◌, ◌++◌, append_assoc}
use native.Mathlib.Nat.{add-zero}
use native.Mathlib.Omega.{arith}
use native.Mathlib.Decide.{dec_lt}
use lib.Dec.{ltb}
use lib.ListN.{length, length-append}
use lib.Seq.{sets}
use borrow.Author.Tests.{eq-eqb, ne_eqb, lt-ltb, le-ltb}
use Rattle.table.specs.Layout.{words_for}
use Rattle.table.specs.declared.layout.Children.{Children}
use Rattle.text.specs.Ascii.{ascii}
use Rattle.text.specs.Faults.{unless, nodes_in, nodes_in_all, operator_faults, forms_faults, form_faults}
use Rattle.text.specs.Read.{byte_at, decision_of, tail_at, head_at, setting, no_children, with_child, operator_words, end_at}
use Rattle.text.specs.Read.{form_then, rest_with, form_at, Stepped, Setting}
use Rattle.text.specs.Syntax.{decimal, count, least_forms, most_forms, print_operator, print_form, print_forms, OperatorFits, FormFits}
use Rattle.text.specs.Syntax.{FormsFit, compile_form, compile_forms, Form, Forms, none, more}
use Rattle.text.specs.Words.{spelling}
use Rattle.text.specs.declared.answer.Fault.TheVariants.{Range}
use Rattle.text.specs.declared.head.Limits.{Limits}
use Rattle.text.specs.declared.head.Opening.TheVariants.{Inner}
use Rattle.text.specs.declared.head.Operator.{Operator}
use Rattle.text.specs.declared.head.Operator.TheVariants.{Decision, Conjunction}
use Rattle.text.specs.declared.head.Role.{Role}
use Rattle.text.specs.declared.head.Role.TheVariants.{Argument}
use Rattle.text.specs.declared.head.Word.TheVariants.{Pick, Both}
use Rattle.text.proofs.CompiledWords.{compile-nodes, compile-length, sets_behind, result, made, made_as, with_children, rest_result}
use Rattle.text.proofs.FirstFault.{StepRead, same_read}
use Rattle.text.proofs.Pieces.{Here, byte, past, next, opening}
use Rattle.text.proofs.PrintedLeaves.{range-read, close-read, by-head}
use Rattle.text.proofs.Spelling.{rest_text, decision-flat, more-flat, more-length}
use Rattle.std.specs.Prelude.{Result, Ok}
use Rattle.text.specs.declared.answer.Misread.{Misread}
use Rattle.text.specs.declared.answer.Formed.{Formed}
use Rattle.text.specs.Answers.{misread}

module _ (s : List ℕ) (N k room : ℕ) (lines : List ℕ) where
  abbrev lim : Limits
  lim = record { variables = N; room = room; earlier = k }

  abbrev G : Setting
  G = setting s lines lim

  -- a form's faults, then those of what follows it
  form-then : (go : ℕ → List ℕ → ℕ → ℕ → Stepped) (fs gs : List (ℕ × ℕ)) (a r good : Stepped) → StepRead fs a r
      → StepRead gs good (form_then go a.words a.step) → StepRead (fs ++ gs) good (form_then go r.words r.step)
  form-then go [] gs a r good e h = subst (λ (z : Stepped). StepRead gs good (form_then go z.words z.step)) (sym e) h
  form-then go (e ∷ fs) gs a r good (f, i, j) h = (f, i, ap (λ (t : Result Formed Misread). (form_then go r.words t).step) j)

  -- forms are read well with d brackets
  abbrev FormsRead : ℕ → Type 0
  FormsRead d =
      (f : Form) (at : ℕ) (w : List ℕ) (n : ℕ) (r : List ℕ) → FormFits 10000 10000 f → Here s at (print_form f ++ r)
      → StepRead (form_faults N k room d at n f) (result lines f at w n) (form_at d G Argument at w n)

  module _ (d : ℕ) where
    abbrev F : ℕ → List ℕ → ℕ → Stepped
    F = form_at d G Argument

    -- the faults of forms from a place on, and of their closing bracket
    abbrev pub rest_faults : Forms → ℕ → ℕ → List (ℕ × ℕ)
    rest_faults fs at n =
        forms_faults (form_faults N k room d) at n fs ++ unless (ltb (n + nodes_in_all fs) room) 15 (at + length (print_forms fs))

    -- no form follows
    rest_end : (op : Operator) (j at : ℕ) (w : List ℕ) (n : ℕ) (cs : Children) → byte_at s at ≢ 32
        → rest_with j F G op at w n cs ≡ end_at G op at w n cs
    unfolding rest_with
    rest_end op zero at w n cs h = refl
    rest_end op (suc j) at w n cs h = rw (ne_eqb (byte_at s at) 32 h)

    end_read : (op : Operator) (at : ℕ) (w : List ℕ) (n : ℕ) (cs : Children) (r : List ℕ) → least_forms ≤ cs.count → Here s at (41 ∷ r)
        → StepRead (unless (ltb n room) 15 at) (made at w n (operator_words op cs)) (end_at G op at w n cs)
    unfolding end_at
    end_read op at w n cs r l h = rw (le-ltb cs.count least_forms l) (close-read s N k room lines at w n (operator_words op cs) r h)

    pub rest_read : FormsRead d → (op : Operator) (fs : Forms) (j : ℕ) (cs : Children) (at : ℕ) (w : List ℕ) (n : ℕ) (r : List ℕ)
        → FormsFit 10000 10000 fs → count fs ≤ j → least_forms ≤ cs.count + count fs → Here s at (rest_text fs r)
        → StepRead (rest_faults fs at n) (rest_result lines op fs cs at w n) (rest_with j F G op at w n cs)
    unfolding rest_with forms_faults compile_form print_form
    rest_read ih op none j cs at w n r b l least h =
        let c : byte_at s at ≡ 41 = byte s at 41 r h in
        let e : byte_at s at ≢ 32 = (λ z. omega arith) in
        rw (add-zero n, add-zero at, rest_end op j at w n cs e) (end_read op at w n cs r (omega arith) h)
    rest_read ih op (more f fs) zero cs at w n r b l least h = absurd (omega arith)
    rest_read ih op (more f fs) (suc j) cs at w n r (bf, bs) l least h =
        let q : ℕ = at + 1 + length (print_form f) in
        let m : ℕ = n + nodes_in f in
        let a : ℕ = (compile_form lines n f).node in
        let u : List ℕ = (compile_form lines n f).words in
        let w₁ : List ℕ = sets w (words_for n) u in
        let ff : List (ℕ × ℕ) = form_faults N k room d (at + 1) n f in
        let fs_f : List (ℕ × ℕ) = forms_faults (form_faults N k room d) q m fs in
        let h₀ : Here s at (32 ∷ (print_form f ++ rest_text fs r)) = subst (Here s at) (more-flat f fs r) h in
        let h₁ : Here s (at + 1) (print_form f ++ rest_text fs r) = next s at 32 (print_form f ++ rest_text fs r) h₀ in
        let h₂ : Here s q (rest_text fs r) = past s (at + 1) (print_form f) (rest_text fs r) h₁ in
        let others = rest_read ih op fs j (with_child cs a) q w₁ m r bs (omega arith) (omega arith) h₂ in
        let both = form-then (λ p v i c. rest_with j F G op p v i (with_child cs c)) ff (rest_faults fs q m) (result lines f (at + 1) w n)
        (F (at + 1) w n) (rest_result lines op fs (with_child cs a) q w₁ m) (ih f (at + 1) w n (rest_text fs r) bf h₁) others in
        let nodes : m + nodes_in_all fs ≡ n + (nodes_in f + nodes_in_all fs) = omega arith in
        let place : q + length (print_forms fs) ≡ at + length (print_forms (more f fs)) = omega (arith, more-length f fs) in
        let faults : ff ++ rest_faults fs q m ≡ rest_faults (more f fs) at n =
        sym (append_assoc ff fs_f (unless (ltb (m + nodes_in_all fs) room) 15 (q + length (print_forms fs))))
        ∙ ap₂ (λ (y z : ℕ). (ff ++ fs_f) ++ unless (ltb y room) 15 z) nodes place in
        let e : m ≡ (compile_form lines n f).nodes = sym (compile-nodes lines n f) in
        let long : words_for m ≡ words_for n + length u = omega (arith, compile-length 10000 10000 lines n f bf) in
        let words : sets w₁ (words_for m) (compile_forms lines m fs).words ≡ sets w (words_for n) (compile_forms lines n (more f fs)).words =
        sets_behind w u (compile_forms lines m fs).words n m long
        ∙ ap (λ (z : ℕ). sets w (words_for n) (u ++ (compile_forms lines z fs).words)) e in
        let good : rest_result lines op fs (with_child cs a) q w₁ m ≡ rest_result lines op (more f fs) cs at w n =
        made_as place words nodes
        (ap (λ (z : ℕ). operator_words op (with_children (with_child cs a) (compile_forms lines z fs).children)) e) in
        rw (eq-eqb (byte_at s at) 32 (byte s at 32 (print_form f ++ rest_text fs r) h₀)) (same_read _ faults good both)

    -- the head of an inner form, and what follows it
    pub operator-then : (op : Operator) (role : Role) (at : ℕ) (w : List ℕ) (n : ℕ) (gs : List (ℕ × ℕ)) (good : Stepped) (r : List ℕ)
        → OperatorFits 10000 op → Here s at (print_operator op ++ (32 ∷ r))
        → let p : ℕ = at + length (print_operator op) in
        StepRead gs good (rest_with (most_forms op) F G op p w n no_children)
        → StepRead (operator_faults N p op ++ gs) good (form_at (suc d) G role at w n)
    unfolding tail_at
    operator-then Conjunction role at w n gs good r b h rest =
        let five : at + 1 + 4 ≡ at + 5 = omega arith in
        let e : head_at s at role lim ≡ Ok (Inner Conjunction (at + 5)) =
        opening s Both role at lim (32 ∷ r) tt h ∙ ap (λ (z : ℕ). Ok (Inner Conjunction z)) five in
        rw (by-head s N k room lines d role at w n (Ok (Inner Conjunction (at + 5))) e) rest
    operator-then (Decision x) role at w n gs good r b h rest = by (dec_lt x N)
      where
        p : ℕ
        p = at + length (print_operator (Decision x))

        q : ℕ
        q = at + 1 + 5

        h₁ : Here s at (40 ∷ (spelling Pick ++ (decimal x ++ (32 ∷ r))))
        h₁ = subst (Here s at) (decision-flat x (32 ∷ r)) h

        h₂ : Here s q (decimal x ++ (32 ∷ r))
        h₂ = past s (at + 1) (spelling Pick) (decimal x ++ (32 ∷ r)) (next s at 40 (spelling Pick ++ (decimal x ++ (32 ∷ r))) h₁)

        place : q + length (decimal x) ≡ p
        place = omega (arith, length-append (ascii "(pick ") (decimal x))

        head : head_at s at role lim ≡ decision_of (cond (ltb x N) (Ok (x, p)) (misread Range p))
        head =
            opening s Pick role at lim (decimal x ++ (32 ∷ r)) tt h₁
            ∙ ap decision_of (range-read s x N 32 q Range r b (omega arith) h₂)
            ∙ ap (λ (z : ℕ). decision_of (cond (ltb x N) (Ok (x, z)) (misread Range z))) place

        by : Dec (x < N) → StepRead (unless (ltb x N) 12 p ++ gs) good (form_at (suc d) G role at w n)
        by (no a) =
            let t : ltb x N ≡ false = le-ltb x N (omega arith) in
            let e : head_at s at role lim ≡ misread Range p =
            head ∙ ap (λ (z : Bool). decision_of (cond z (Ok (x, p)) (misread Range p))) t in
            rw (t, by-head s N k room lines d role at w n (misread Range p) e) (Range, refl, refl)
        by (yes a) =
            let t : ltb x N ≡ true = lt-ltb x N a in
            let e : head_at s at role lim ≡ Ok (Inner (Decision x) p) =
            head ∙ ap (λ (z : Bool). decision_of (cond z (Ok (x, p)) (misread Range p))) t in
            rw (t, by-head s N k room lines d role at w n (Ok (Inner (Decision x) p)) e) rest
