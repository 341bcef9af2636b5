-- Where a reading is refused, some text of the grammar begins with the bytes before the place; a text that is read is one of the grammar.
use Prim.Native.Nat.{ℕ, zero, suc, ◌+◌, ◌<◌, ◌≤◌}
use mathlib.Core.Path.{◌≡◌, refl, sym, ap, subst, ◌∙◌}
use mathlib.Core.Logic.{◌⊎◌, inl, inr, ◌≢◌}
use mathlib.Core.List.{List, [], ◌∷◌, ◌++◌, append_assoc}
use native.Mathlib.Omega.{arith}
use lib.ListN.{take, set, replicate}
use lib.Seq.{take_all}
use borrow.Author.Tests.{eq-eqb, ne_eqb}
use Rattle.masks.proofs.Tests.{same?}
use Rattle.table.specs.Outcome.{Outcome, answered, refused}
use Rattle.text.specs.Ascii.{ascii}
use Rattle.text.specs.Language.{Begins}
use Rattle.text.specs.Limits.{max_lines}
use Rattle.text.specs.Meaning.{Bytes, IsText}
use Rattle.text.specs.Read.{byte_at, match_at, ranged_at, setting, form_at, line_end, lines_at, header_then, header_of, header_at, room_of}
use Rattle.text.specs.Read.{settled, body_of, Stepped, ReadOut}
use Rattle.text.specs.Syntax.{print, Grammatical}
use Rattle.text.specs.declared.answer.Fault.TheVariants.{Range}
use Rattle.text.specs.declared.head.Limits.{Limits}
use Rattle.text.specs.declared.head.Role.TheVariants.{OwnForm}
use Rattle.text.proofs.Grammar.{IsLines, one-digit, last_line, next-line, whole-text, true_text, true_text_lem}
use Rattle.text.proofs.NodeCount.{Grown, own-grown}
use Rattle.text.proofs.Spans.{viable_to, viable_at, one_byte, MatchSaid, match-said, RangedSaid, ranged-said, past_end}
use Rattle.text.proofs.Texts.{room_most, read_body}
use Rattle.text.proofs.ViableForms.{FormSaid, form-said}
use Rattle.std.specs.Prelude.{Result, Ok, Err}
use Rattle.text.specs.declared.answer.Misread.{Misread}
use Rattle.text.specs.declared.answer.Formed.{Formed}
use Rattle.text.specs.Answers.{formed}

module _ (s : List ℕ) where
  -- whatever lines follow the place, they complete a text
  abbrev Open : ℕ → Type 0
  Open at = (y : List ℕ) → IsLines y → IsText (take at s ++ y)

  abbrev pub Said : Outcome (ℕ × ℕ) → Type 0
  Said (refused k p) = Begins Grammatical print (take (viable_to k p) s)
  Said (answered v) = Bytes s → IsText s

  viable : (p : ℕ) (x t : List ℕ) → take p s ≡ x → IsText (x ++ t) → Begins Grammatical print (take p s)
  viable p x t e (tree, gr, i) = (tree, t, gr, ap (λ (z : List ℕ). z ++ t) e ∙ sym i)

  end_by : (N at : ℕ) (X : ℕ → ℕ → ℕ → List ℕ → ReadOut) → Open at → (n room : ℕ)
      → ((p m a : ℕ) (v : List ℕ) → Open p → n < m → m ≤ room → Said (X p m a v).answer)
      → (w : List ℕ) (x : Result Formed Misread) → FormSaid s OwnForm at x → Grown n room x → Said (line_end X s N w x).answer
  end_by N at X o n room rec w (Err e) (x, t, fx, sx) k =
      viable (viable_at e.0 e.1) (take at s ++ x) (t ++ (10 ∷ [])) sx
      (subst IsText (ap (λ (z : List ℕ). take at s ++ z) (append_assoc x t (10 ∷ [])) ∙ sym (append_assoc (take at s) x (t ++ (10 ∷ []))))
      (o ((x ++ t) ++ (10 ∷ [])) (last_line (x ++ t) fx)))
  end_by N at X o n room rec w (Ok d) (x, fx, sx) k = by (same? (byte_at s d.past) 10) (same? (byte_at s (d.past + 1)) 256)
    where
      -- the text with this line as the last
      ended_here : IsText ((take at s ++ x) ++ (10 ∷ []))
      ended_here = subst IsText (sym (append_assoc (take at s) x (10 ∷ []))) (o (x ++ (10 ∷ [])) (last_line x fx))

      line : byte_at s d.past ≡ 10 → take (d.past + 1) s ≡ (take at s ++ x) ++ (10 ∷ [])
      line e = one_byte s d.past 10 (omega arith) e ∙ ap (λ (z : List ℕ). z ++ (10 ∷ [])) sx

      go_on : byte_at s d.past ≡ 10 → Open (d.past + 1)
      go_on e y ly =
          subst IsText
          (sym (append_assoc (take at s) x (10 ∷ y)) ∙ sym (append_assoc (take at s ++ x) (10 ∷ []) y) ∙ ap (λ (z : List ℕ). z ++ y)
          (sym (line e)))
          (o (x ++ (10 ∷ y)) (next-line x y fx ly))

      by : (byte_at s d.past ≡ 10) ⊎ (byte_at s d.past ≢ 10) → (byte_at s (d.past + 1) ≡ 256) ⊎ (byte_at s (d.past + 1) ≢ 256)
          → Said (line_end X s N w (formed d.past d.nodes d.node)).answer
      by (inr e) z = rw (ne_eqb (byte_at s d.past) 10 e) (viable d.past (take at s ++ x) (10 ∷ []) sx ended_here)
      by (inl e) (inl z) =
          rw (eq-eqb (byte_at s d.past) 10 e, eq-eqb (byte_at s (d.past + 1)) 256 z)
          (λ b. subst IsText (sym (line e) ∙ take_all (d.past + 1) s (past_end s (d.past + 1) b z)) ended_here)
      by (inl e) (inr z) = rw (eq-eqb (byte_at s d.past) 10 e, ne_eqb (byte_at s (d.past + 1)) 256 z)
          (rec (d.past + 1) d.nodes d.node w (go_on e) k.0 k.1)

  lines-said : (more N room : ℕ) (lines : List ℕ) (k at n : ℕ) (w : List ℕ) → room ≤ 1024 → k + more ≡ 1025 → k ≤ n → n ≤ room
      → Open at → Said (lines_at more s N room lines k at n w).answer
  unfolding lines_at
  lines-said zero N room lines k at n w lr lm lk ln o = absurd (omega arith)
  lines-said (suc more) N room lines k at n w lr lm lk ln o =
      let g : Limits = record { variables = N; room = room; earlier = k } in
      let x : Stepped = form_at 16 (setting s lines g) OwnForm at w n in
      end_by N at (λ p m a v. lines_at more s N room (set lines k a) (k + 1) p m v) o n room
      (λ p m a v q l₁ l₂. lines-said more N room (set lines k a) (k + 1) p m v lr (omega arith) (omega arith) l₂ q)
      x.words x.step (form-said s lines g 16 OwnForm at w n) (own-grown s lines g 15 at w n)

  -- one line to go on with
  abbrev one_line : List ℕ
  one_line = ascii "(true)\n"

  one_line_lem : IsLines one_line
  one_line_lem = last_line true_text (true_text_lem OwnForm)

  abbrev HeaderSaid : Result (ℕ × ℕ) Misread → Type 0
  HeaderSaid (Err e) = Begins Grammatical print (take (viable_at e.0 e.1) s)
  HeaderSaid (Ok (v, p)) = Open p

  abbrev head_word : List ℕ
  head_word = ascii "(circuit "

  header-by : (p : ℕ) → take p s ≡ head_word → (y : Result (ℕ × ℕ) Misread) → RangedSaid s 41 p y → HeaderSaid (header_then s y)
  header-by p sp (Err m) (x, t, v, nv, e, sx) =
      let j : v ++ (41 ∷ 10 ∷ one_line) ≡ x ++ (t ++ (10 ∷ one_line)) =
      sym (append_assoc v (41 ∷ []) (10 ∷ one_line)) ∙ ap (λ (z : List ℕ). z ++ (10 ∷ one_line)) e ∙ append_assoc x t (10 ∷ one_line) in
      viable (viable_at m.0 m.1) (head_word ++ x) (t ++ (10 ∷ one_line)) (sx ∙ ap (λ (z : List ℕ). z ++ x) sp)
      (subst (λ (z : List ℕ). IsText (head_word ++ z)) j (whole-text v one_line nv one_line_lem))
  header-by p sp (Ok (v, q)) (x, nx, sx, b) = by (same? (byte_at s (q + 1)) 10)
    where
      closing-bracket : take (q + 1) s ≡ head_word ++ (x ++ (41 ∷ []))
      closing-bracket =
          one_byte s q 41 (omega arith) b ∙ ap (λ (z : List ℕ). z ++ (41 ∷ [])) (sx ∙ ap (λ (z : List ℕ). z ++ x) sp)
          ∙ append_assoc head_word x (41 ∷ [])

      two : q + 1 + 1 ≡ q + 2
      two = omega arith

      by : (byte_at s (q + 1) ≡ 10) ⊎ (byte_at s (q + 1) ≢ 10) → HeaderSaid (header_then s (Ok (v, q)))
      by (inr n) =
          rw (ne_eqb (byte_at s (q + 1)) 10 n)
          (viable (q + 1) (head_word ++ (x ++ (41 ∷ []))) (10 ∷ one_line) closing-bracket
          (subst (λ (z : List ℕ). IsText (head_word ++ z)) (sym (append_assoc x (41 ∷ []) (10 ∷ one_line)))
          (whole-text x one_line nx one_line_lem)))
      by (inl e) =
          rw (eq-eqb (byte_at s (q + 1)) 10 e)
          (λ y ly.
          subst IsText
          (ap (λ (z : List ℕ). head_word ++ z) (sym (append_assoc x (41 ∷ []) (10 ∷ y)))
          ∙ sym (append_assoc (head_word ++ (x ++ (41 ∷ []))) (10 ∷ []) y)
          ∙ ap (λ (z : List ℕ). (z ++ (10 ∷ [])) ++ y) (sym closing-bracket)
          ∙ ap (λ (z : List ℕ). z ++ y) (sym (one_byte s (q + 1) 10 (omega arith) e))
          ∙ ap (λ (k : ℕ). take k s ++ y) two)
          (whole-text x y nx ly))

  header-said : HeaderSaid (header_at s)
  unfolding header_at
  header-said = by (match_at s 0 head_word) (match-said s head_word 0 (omega arith))
    where
      by : (x : Result ℕ ℕ) → MatchSaid s head_word 0 x → HeaderSaid (header_of s x)
      by (Ok p) h = header-by p h (ranged_at s p 1 41 41 Range) (ranged-said s p 1 41 41 Range (omega arith) (omega arith))
      by (Err p) (x, t, e, sp) =
          let rest : List ℕ = 48 ∷ 41 ∷ 10 ∷ one_line in
          viable p x (t ++ rest) sp
          (subst IsText (ap (λ (z : List ℕ). z ++ rest) e ∙ append_assoc x t rest)
          (whole-text (48 ∷ []) one_line (0, one-digit 0 (omega arith)) one_line_lem))

  settled-said : (m : ℕ) (w : List ℕ) (x : Outcome (ℕ × ℕ)) → Said x → Said (settled m w x).answer
  settled-said m w (refused k p) h = h
  settled-said m w (answered v) h = h

  pub body-said : (m : ℕ) → Said (read_body s m).answer
  body-said m = by (header_at s) header-said
    where
      by : (x : Result (ℕ × ℕ) Misread) → HeaderSaid x → Said (body_of s m x).answer
      by (Err e) h = h
      by (Ok (N, p)) h =
          let r : ReadOut = lines_at max_lines s N (room_of m) (replicate max_lines 0) 0 p 0 (replicate m 0) in
          settled-said m r.words r.answer
          (lines-said max_lines N (room_of m) (replicate max_lines 0) 0 p 0 (replicate m 0) (room_most m) refl (omega arith) (omega arith) h)
