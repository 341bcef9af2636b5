-- The reading of printed lines: the first fault of theirs, or the nodes that they stand for.
use Prim.Native.Nat.{ℕ, zero, suc, ◌+◌, ◌<◌, ◌≤◌}
use mathlib.Core.Path.{◌≡◌, refl, sym, ap, ap₂, subst, ◌∙◌}
use mathlib.Core.Bool.{true, false}
use mathlib.Core.Logic.{⊎_elim, ◌≢◌}
use mathlib.Core.List.{List, [], ◌∷◌, ◌++◌, append-nil, append_assoc}
use native.Mathlib.Omega.{arith}
use native.Mathlib.Numerals.{add-one}
use lib.Dec.{eqb}
use lib.ListN.{length, get_or, set, length-append, length-set, get_or-append}
use lib.Seq.{get_or_at, sets, get_or-set_same, get_or-set_other}
use borrow.Author.Tests.{eq-eqb, ne_eqb}
use Rattle.masks.proofs.Tests.{same?}
use Rattle.table.specs.Layout.{words_for}
use Rattle.table.specs.Outcome.{answered, refused}
use Rattle.text.specs.Faults.{nodes_in, form_faults, lines_faults}
use Rattle.text.specs.Read.{byte_at, setting, form_at, answers, line_end, lines_at, Stepped, ReadOut}
use Rattle.text.specs.Syntax.{print_form, print_lines, FormFits, FormsFit, Own, GrammaticalLines, makes, operator_node, compile_form}
use Rattle.text.specs.Syntax.{compile_forms, compile_lines, Compiled, CompiledForms, Form, Forms, constant_form, literal_form}
use Rattle.text.specs.Syntax.{inner_form, line_form, none, more}
use Rattle.text.specs.declared.head.Role.TheVariants.{OwnForm}
use Rattle.text.proofs.Clean.{form-clean}
use Rattle.text.proofs.CompiledWords.{compile-nodes, compile-length, sets_behind}
use Rattle.text.proofs.FirstFault.{StepRead}
use Rattle.text.proofs.Pieces.{Here, byte, ended, past, next}
use Rattle.text.proofs.Printed.{form-read}
use Rattle.text.proofs.Spelling.{begins}
use Rattle.std.specs.Prelude.{Result}
use Rattle.text.specs.declared.answer.Misread.{Misread}
use Rattle.text.specs.declared.answer.Formed.{Formed}
use Rattle.text.specs.Answers.{formed}

-- what is read: the first of the faults, or else the good result
abbrev pub AnswerRead : List (ℕ × ℕ) → ReadOut → ReadOut → Type 0
AnswerRead [] good r = r ≡ good
AnswerRead (e ∷ fs) good r = r.answer ≡ refused e.0 e.1

-- ---- the nodes of earlier lines, in the reader's array and in the compiler's list
abbrev Agree : ℕ → List ℕ → List ℕ → Type 0
Agree k lines earlier = (j : ℕ) → j < k → get_or lines j 0 ≡ get_or earlier j 0

-- what a form makes, and then the forms after it
abbrev joined : Compiled → CompiledForms → CompiledForms
joined u v = record { words = u.words ++ v.words; nodes = v.nodes; children = u.node ∷ v.children }

mutual
  unfolding compile_form

  compile-agree : (N k n : ℕ) (lines earlier : List ℕ) (f : Form) → Agree k lines earlier → FormFits N k f
      → compile_form lines n f ≡ compile_form earlier n f
  compile-agree N k n lines earlier (constant_form v) a b = refl
  compile-agree N k n lines earlier (literal_form v x) a b = refl
  compile-agree N k n lines earlier (inner_form op fs) a (bx, least, most, b) =
      ap (λ (z : CompiledForms). makes z.words z.nodes (operator_node op z.children)) (all-agree N k n lines earlier fs a b)
  compile-agree N k n lines earlier (line_form j) a b = ap (λ (z : ℕ). record { words = []; nodes = n; node = z }) (a j b)

  all-agree : (N k n : ℕ) (lines earlier : List ℕ) (fs : Forms) → Agree k lines earlier → FormsFit N k fs
      → compile_forms lines n fs ≡ compile_forms earlier n fs
  all-agree N k n lines earlier none a b = refl
  all-agree N k n lines earlier (more f fs) a (bf, bs) =
      let c : Compiled = compile_form earlier n f in
      ap (λ (z : Compiled). joined z (compile_forms lines z.nodes fs)) (compile-agree N k n lines earlier f a bf)
      ∙ ap (joined c) (all-agree N k c.nodes lines earlier fs a bs)

more-agree : (k a : ℕ) (lines earlier : List ℕ) → k < length lines → length earlier ≡ k → Agree k lines earlier
    → Agree (k + 1) (set lines k a) (earlier ++ (a ∷ []))
more-agree k a lines earlier l e h j lj =
    ⊎_elim
    (λ (i : j ≡ k).
    subst (λ (z : ℕ). get_or (set lines k a) z 0 ≡ get_or (earlier ++ (a ∷ [])) z 0) (sym i)
    (get_or-set_same lines k a 0 l ∙ sym (get_or_at earlier a [] 0 k e)))
    (λ (i : j ≢ k).
    let m : j < k = omega arith in
    get_or-set_other lines k j a 0 i ∙ h j m ∙ sym (get_or-append earlier (a ∷ []) 0 j (subst (λ (z : ℕ). j < z) (sym e) m)))
    (same? j k)

-- ---- lines
own-makes : (f : Form) → Own f → 0 < nodes_in f
own-makes (constant_form v) o = omega arith
own-makes (literal_form v x) o = omega arith
own-makes (inner_form op fs) o = omega arith
own-makes (line_form j) o = absurd o

module _ (s : List ℕ) (N room : ℕ) (small : room ≤ 1024) where
  abbrev lines_good : List ℕ → List ℕ → ℕ → List Form → ReadOut
  lines_good earlier w n fs =
      answers (answered (N, (compile_lines earlier n fs).nodes)) (sets w (words_for n) (compile_lines earlier n fs).words)

  -- what follows a line whose own form is a good one
  abbrev after_line : ℕ → ℕ → ℕ → ℕ → List ℕ → List ℕ → Form → ReadOut
  after_line left k at n w lines f =
      line_end (λ p m a v. lines_at left s N room (set lines k a) (k + 1) p m v) s N (sets w (words_for n) (compile_form lines n f).words)
      (formed (at + length (print_form f)) (n + nodes_in f) (compile_form lines n f).node)

  line_read : (f : Form) (left k at n : ℕ) (w lines : List ℕ) (gs : List (ℕ × ℕ)) (good : ReadOut) (r : List ℕ)
      → FormFits 10000 10000 f → Own f → Here s at (print_form f ++ r)
      → (form_faults N k room 16 at n f ≡ [] → AnswerRead gs good (after_line left k at n w lines f))
      → AnswerRead (form_faults N k room 16 at n f ++ gs) good (lines_at (suc left) s N room lines k at n w)
  unfolding lines_at
  line_read f left k at n w lines gs good r nums own h rest =
      go (form_faults N k room 16 at n f) refl (form-read s N k room lines 16 f OwnForm at w n r nums own h)
    where
      x : Stepped
      x = form_at 16 (setting s lines (record { variables = N; room = room; earlier = k })) OwnForm at w n

      after : List ℕ → Result Formed Misread → ReadOut
      after v t = line_end (λ p m a v. lines_at left s N room (set lines k a) (k + 1) p m v) s N v t

      fine : Stepped
      fine =
          record {
            step = formed (at + length (print_form f)) (n + nodes_in f) (compile_form lines n f).node;
            words = sets w (words_for n) (compile_form lines n f).words;
          }

      go : (fs : List (ℕ × ℕ)) → form_faults N k room 16 at n f ≡ fs → StepRead fs fine x
          → AnswerRead (fs ++ gs) good (after x.words x.step)
      go [] e y = subst (λ (z : Stepped). AnswerRead gs good (after z.words z.step)) (sym y) (rest e)
      go (e ∷ fs) i (u, c, y) =
          ap (λ (t : Result Formed Misread). (after x.words t).answer) y ∙ ap (λ (z : ℕ). refused z e.1) c

  -- the words of a line, and then of the lines that follow it
  line-words : (f : Form) (earlier lines : List ℕ) (w v : List ℕ) (n : ℕ) → FormFits 10000 10000 f
      → compile_form lines n f ≡ compile_form earlier n f
      → sets (sets w (words_for n) (compile_form lines n f).words) (words_for (n + nodes_in f)) v
      ≡ sets w (words_for n) ((compile_form earlier n f).words ++ v)
  line-words f earlier lines w v n b e =
      let u : List ℕ = (compile_form lines n f).words in
      let l : length u ≡ words_for (nodes_in f) = compile-length 10000 10000 lines n f b in
      let i : words_for (n + nodes_in f) ≡ words_for n + length u = omega arith in
      sets_behind w u v n (n + nodes_in f) i
      ∙ ap (λ (z : Compiled). sets w (words_for n) (z.words ++ v)) e

  pub lines-read : (fs : List Form) (f : Form) (left k at n : ℕ) (w lines earlier : List ℕ) → k + left ≡ 1025 → k ≤ n → n ≤ room
      → length lines ≡ 1025 → length earlier ≡ k → Agree k lines earlier → GrammaticalLines (f ∷ fs)
      → Here s at (print_lines (f ∷ fs))
      → AnswerRead (lines_faults N room k at n (f ∷ fs)) (lines_good earlier w n (f ∷ fs)) (lines_at left s N room lines k at n w)
  unfolding lines_faults compile_lines print_lines
  lines-read fs f zero k at n w lines earlier ek lk ln el ee ag gr h = absurd (omega arith)
  lines-read [] f (suc left) k at n w lines earlier ek lk ln el ee ag (own, nums, gr) h =
      line_read f left k at n w lines [] (lines_good earlier w n (f ∷ [])) (10 ∷ []) nums own h₁
      (λ clean.
      let p : ℕ = at + length (print_form f) in
      let (bf, df, mf) = form-clean N k room 10000 10000 16 at n f nums ln clean in
      let e : compile_form lines n f ≡ compile_form earlier n f = compile-agree N k n lines earlier f ag bf in
      let h₂ : Here s p (10 ∷ []) = past s at (print_form f) (10 ∷ []) h₁ in
      let b₁ : eqb (byte_at s p) 10 ≡ true = eq-eqb (byte_at s p) 10 (byte s p 10 [] h₂) in
      let b₂ : eqb (byte_at s (p + 1)) 256 ≡ true = eq-eqb (byte_at s (p + 1)) 256 (ended s (p + 1) (next s p 10 [] h₂)) in
      let i : n + nodes_in f ≡ (compile_form earlier n f).nodes = sym (compile-nodes earlier n f) in
      let j : sets w (words_for n) (compile_form lines n f).words ≡ sets w (words_for n) ((compile_form earlier n f).words ++ []) =
      ap (λ (z : Compiled). sets w (words_for n) z.words) e
      ∙ ap (sets w (words_for n)) (sym (append-nil (compile_form earlier n f).words)) in
      rw (b₁, b₂) (ap₂ (λ (y : ℕ) (z : List ℕ). answers (answered (N, y)) z) i j))
    where
      h₁ : Here s at (print_form f ++ (10 ∷ []))
      h₁ = subst (Here s at) (append_assoc (print_form f) (10 ∷ []) []) h
  lines-read (g ∷ fs) f (suc left) k at n w lines earlier ek lk ln el ee ag (own, nums, gr) h =
      line_read f left k at n w lines (lines_faults N room (suc k) (p + 1) m (g ∷ fs)) (lines_good earlier w n (f ∷ g ∷ fs))
      (10 ∷ print_lines (g ∷ fs)) nums own h₁
      (λ clean.
      let (bf, df, mf) = form-clean N k room 10000 10000 16 at n f nums ln clean in
      let a : ℕ = (compile_form lines n f).node in
      let e : compile_form lines n f ≡ compile_form earlier n f = compile-agree N k n lines earlier f ag bf in
      let y : n < m = omega (arith, own-makes f own) in
      let rec : AnswerRead (lines_faults N room (k + 1) (p + 1) m (g ∷ fs))
      (lines_good (earlier ++ (a ∷ [])) (sets w (words_for n) (compile_form lines n f).words) m (g ∷ fs))
      (lines_at left s N room (set lines k a) (k + 1) (p + 1) m (sets w (words_for n) (compile_form lines n f).words)) =
      lines-read fs g left (k + 1) (p + 1) m (sets w (words_for n) (compile_form lines n f).words) (set lines k a) (earlier ++ (a ∷ []))
      (omega arith) (omega arith) mf (length-set lines k a ∙ el) (length-append earlier (a ∷ []) ∙ omega arith)
      (more-agree k a lines earlier (omega arith) ee ag) gr h₃ in
      rw (b₁, b₂)
      (subst (λ (z : ReadOut).
      AnswerRead (lines_faults N room (suc k) (p + 1) m (g ∷ fs)) z
      (lines_at left s N room (set lines k a) (k + 1) (p + 1) m (sets w (words_for n) (compile_form lines n f).words)))
      (same_good e)
      (subst (λ (z : ℕ).
      AnswerRead (lines_faults N room z (p + 1) m (g ∷ fs))
      (lines_good (earlier ++ (a ∷ [])) (sets w (words_for n) (compile_form lines n f).words) m (g ∷ fs))
      (lines_at left s N room (set lines k a) (k + 1) (p + 1) m (sets w (words_for n) (compile_form lines n f).words)))
      (add-one k) rec)))
    where
      p : ℕ
      p = at + length (print_form f)

      m : ℕ
      m = n + nodes_in f

      h₁ : Here s at (print_form f ++ (10 ∷ print_lines (g ∷ fs)))
      h₁ = subst (Here s at) (append_assoc (print_form f) (10 ∷ []) (print_lines (g ∷ fs))) h

      h₂ : Here s p (10 ∷ print_lines (g ∷ fs))
      h₂ = past s at (print_form f) (10 ∷ print_lines (g ∷ fs)) h₁

      h₃ : Here s (p + 1) (print_lines (g ∷ fs))
      h₃ = next s p 10 (print_lines (g ∷ fs)) h₂

      b₁ : eqb (byte_at s p) 10 ≡ true
      b₁ = eq-eqb (byte_at s p) 10 (byte s p 10 (print_lines (g ∷ fs)) h₂)

      -- the next line begins with its bracket
      b₂ : eqb (byte_at s (p + 1)) 256 ≡ false
      b₂ =
          let (x, e) = begins g in
          let b : byte_at s (p + 1) ≡ 40 =
          byte s (p + 1) 40 ((x ++ (10 ∷ [])) ++ print_lines fs)
          (subst (λ (z : List ℕ). Here s (p + 1) ((z ++ (10 ∷ [])) ++ print_lines fs)) e h₃) in
          ne_eqb (byte_at s (p + 1)) 256 (λ z. absurd (omega arith))

      -- the compiled lines after this one, with its node and its count read or compiled
      same_good : compile_form lines n f ≡ compile_form earlier n f
          → lines_good (earlier ++ ((compile_form lines n f).node ∷ [])) (sets w (words_for n) (compile_form lines n f).words) m (g ∷ fs)
          ≡ lines_good earlier w n (f ∷ g ∷ fs)
      same_good e =
          let c : Compiled = compile_form earlier n f in
          let i : m ≡ c.nodes = sym (compile-nodes earlier n f) in
          let b : Compiled = compile_lines (earlier ++ (c.node ∷ [])) c.nodes (g ∷ fs) in
          ap (λ (z : ℕ). lines_good (earlier ++ (z ∷ [])) (sets w (words_for n) (compile_form lines n f).words) m (g ∷ fs))
          (ap (λ (z : Compiled). z.node) e)
          ∙ ap (λ (z : ℕ).
          answers (answered (N, (compile_lines (earlier ++ (c.node ∷ [])) z (g ∷ fs)).nodes))
          (sets (sets w (words_for n) (compile_form lines n f).words) (words_for m)
          (compile_lines (earlier ++ (c.node ∷ [])) z (g ∷ fs)).words)) i
          ∙ ap (λ (z : List ℕ). answers (answered (N, b.nodes)) z) (line-words f earlier lines w b.words n nums e)
