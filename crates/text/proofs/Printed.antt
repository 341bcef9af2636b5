-- The reading of a printed form: its first fault, or the nodes that it stands for.
use Prim.Native.Nat.{ℕ, zero, suc, ◌+◌}
use mathlib.Core.Path.{◌≡◌, refl, sym, ap, subst, ◌∙◌}
use mathlib.Core.Bool.{Bool, cond}
use mathlib.Core.List.{List, [], ◌∷◌, ◌++◌}
use native.Mathlib.Nat.{add-zero}
use native.Mathlib.Omega.{arith}
use lib.Dec.{ltb}
use lib.ListN.{length}
use lib.Seq.{sets}
use borrow.Author.Tests.{eq-eqb}
use Rattle.table.specs.Layout.{words_for, word_list, put_words}
use Rattle.table.specs.Node.{encode}
use Rattle.text.specs.Faults.{unless, nodes_in_all, operator_faults, closing, forms_faults, form_faults}
use Rattle.text.specs.Read.{byte_at, setting, no_children, form_at, Setting}
use Rattle.text.specs.Syntax.{decimal, count, most_forms, print_operator, print_form, print_forms, FormFits, operator_node, compile_form}
use Rattle.text.specs.Syntax.{compile_forms, Form, Forms, constant_form, literal_form, inner_form, line_form, none, more}
use Rattle.text.specs.Words.{spelling}
use Rattle.text.specs.declared.answer.Fault.TheVariants.{Shape, Depth}
use Rattle.text.specs.declared.head.Limits.{Limits}
use Rattle.text.specs.declared.head.Operator.{Operator}
use Rattle.text.specs.declared.head.Role.{Role}
use Rattle.text.specs.declared.head.Role.TheVariants.{OwnForm, Argument}
use Rattle.text.specs.declared.head.Word.TheVariants.{False, True, Yes, No}
use Rattle.text.proofs.CompiledWords.{compile-nodes-all, children-count, compile-length-all, sets_behind, result, made-same}
use Rattle.text.proofs.CompiledWords.{rest_result, operator-words}
use Rattle.text.proofs.FirstFault.{StepRead, same_read}
use Rattle.text.proofs.Pieces.{Here, byte, past}
use Rattle.text.proofs.PrintedForms.{rest_faults, rest_read, operator-then}
use Rattle.text.proofs.PrintedLeaves.{constant-read, literal-read, line_read}
use Rattle.text.proofs.Spelling.{rest_text, inner-flat, more-flat, constant-length, literal-length, line-length, inner-length, Stands}
use Rattle.text.proofs.Spelling.{begins}
use Rattle.text.specs.Answers.{misread}

module _ (s : List ℕ) (N k room : ℕ) (lines : List ℕ) where
  abbrev lim : Limits
  lim = record { variables = N; room = room; earlier = k }

  abbrev G : Setting
  G = setting s lines lim

  -- no more brackets may open
  deep-read : (f : Form) (role : Role) (at : ℕ) (w : List ℕ) (n : ℕ) (r : List ℕ) → Here s at (print_form f ++ r)
      → StepRead ((14, at) ∷ []) (result lines f at w n) (form_at zero G role at w n)
  unfolding form_at
  deep-read f role at w n r h =
      let (x, e) = begins f in
      let b : byte_at s at ≡ 40 = byte s at 40 (x ++ r) (subst (λ (z : List ℕ). Here s at (z ++ r)) e h) in
      (Depth, refl, ap (λ (t : Bool). misread (cond t Depth Shape) at) (eq-eqb (byte_at s at) 40 b))

  -- what is made of an operator and of the forms after it is the inner form's node
  inner-same : (op : Operator) (fs : Forms) (at : ℕ) (w : List ℕ) (n : ℕ) → FormFits 10000 10000 (inner_form op fs)
      → rest_result lines op fs no_children (at + length (print_operator op)) w n ≡ result lines (inner_form op fs) at w n
  unfolding put_words compile_form
  inner-same op fs at w n (bx, least, most, b) =
      let m : ℕ = n + nodes_in_all fs in
      let cs : List ℕ = (compile_forms lines n fs).children in
      let u : List ℕ = (compile_forms lines n fs).words in
      let c : length cs ≡ count fs = children-count lines n fs in
      let own = operator-words op cs (omega arith) (omega arith) in
      let long : words_for m ≡ words_for n + length u = omega (arith, compile-length-all 10000 10000 lines n fs b) in
      made-same (omega (arith, inner-length op fs)) (omega arith) (sym (compile-nodes-all lines n fs))
      (ap (λ y. put_words (sets w (words_for n) u) m y) own ∙ sets_behind w u (word_list (encode (operator_node op cs))) n m long)

  pub form-read : (d : ℕ) (f : Form) (role : Role) (at : ℕ) (w : List ℕ) (n : ℕ) (r : List ℕ) → FormFits 10000 10000 f → Stands role f
      → Here s at (print_form f ++ r)
      → StepRead (form_faults N k room d at n f) (result lines f at w n) (form_at d G role at w n)
  unfolding form_faults compile_form put_words
  form-read zero f role at w n r b l h = deep-read f role at w n r h
  form-read (suc d) (constant_form v) role at w n r b l h =
      let p : ℕ = at + 1 + length (spelling (cond v True False)) in
      let c : p ≡ closing at (constant_form v) = omega (arith, constant-length v) in
      same_read (form_at (suc d) G role at w n) (ap (unless (ltb n room) 15) c)
      (made-same (omega (arith, constant-length v)) refl refl refl) (constant-read s N k room lines d role at w n v r h)
  form-read (suc d) (literal_form v x) role at w n r b l h =
      let p : ℕ = at + 1 + length (spelling (cond v Yes No)) + length (decimal x) in
      let c : p ≡ closing at (literal_form v x) = omega (arith, literal-length v x) in
      same_read (form_at (suc d) G role at w n) (ap (λ (z : ℕ). unless (ltb x N) 12 z ++ unless (ltb n room) 15 z) c)
      (made-same (omega (arith, literal-length v x)) refl refl refl) (literal-read s N k room lines d role at w n v x r b h)
  form-read (suc d) (line_form j) OwnForm at w n r b l h = absurd l
  form-read (suc d) (line_form j) Argument at w n r b l h =
      let p : ℕ = at + 6 + length (decimal j) in
      let c : p ≡ closing at (line_form j) = omega (arith, line-length j) in
      same_read (form_at (suc d) G Argument at w n) (ap (unless (ltb j k) 13) c)
      (made-same (omega (arith, line-length j)) (sym (add-zero n)) refl refl) (line_read s N k room lines d Argument at w n j r b l h)
  form-read (suc d) (inner_form op none) role at w n r (bx, least, most, b) l h = absurd (omega arith)
  form-read (suc d) (inner_form op (more f fs)) role at w n r (bx, least, most, b) l h =
      let p : ℕ = at + length (print_operator op) in
      let all : Forms = more f fs in
      let h₁ : Here s at (print_operator op ++ rest_text all r) = subst (Here s at) (inner-flat op all r) h in
      let h₂ : Here s at (print_operator op ++ (32 ∷ (print_form f ++ rest_text fs r))) =
      subst (λ (z : List ℕ). Here s at (print_operator op ++ z)) (more-flat f fs r) h₁ in
      let c : p + length (print_forms all) ≡ closing at (inner_form op all) = omega (arith, inner-length op all) in
      let rest = rest_read s N k room lines d (λ f at w n r b h. form-read d f Argument at w n r b tt h) op all (most_forms op) no_children
      p w n r b most (omega arith) (past s at (print_operator op) (rest_text all r) h₁) in
      same_read (form_at (suc d) G role at w n)
      (ap (λ (z : ℕ).
      operator_faults N p op ++ (forms_faults (form_faults N k room d) p n all ++ unless (ltb (n + nodes_in_all all) room) 15 z)) c)
      (inner-same op all at w n (bx, least, most, b))
      (operator-then s N k room lines d op role at w n (rest_faults s N k room lines d all p n)
      (rest_result lines op all no_children p w n) (print_form f ++ rest_text fs r) bx h₂ rest)
