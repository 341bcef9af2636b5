use Prim.Native.Char.{code}
use Prim.Native.Nat.{ℕ, suc, ◌+◌, ◌-◌, ◌<◌, ◌≤◌}
use mathlib.Core.List.{List}
use mathlib.Core.Path.{◌≡◌, refl, sym, ◌∙◌}
use native.Mathlib.Omega.{arith}
use lib.ListN.{set, replicate, length-set}
use borrow.Author.Tests.{eq-eqb, ne_eqb}
use Rattle.table.specs.Outcome.{Outcome}
use Rattle.text.specs.Limits.{max_lines}
use Rattle.text.specs.Places.{ReadIs}
use Rattle.text.specs.Read.{end, byte_at, form_at, setting, lines_at, line_end, ReadOut, Stepped}
use Rattle.text.specs.declared.answer.Fault.TheVariants.{Shape, Nodes}
use Rattle.std.specs.Prelude.{Result, Ok, Err}
use Rattle.std.proofs.lemmas.Result.{err_from_is_err_and}
use Rattle.text.specs.Answers.{misread, formed}
use Rattle.text.specs.declared.answer.Formed.{Formed}
use Rattle.text.specs.declared.answer.Misread.{Misread}
use Rattle.text.specs.declared.head.Role.TheVariants.{OwnForm}
use Rattle.text.proofs.Laws.{inside}
use Rattle.text_reader.proofs.lines.lines.Goals as goal

-- what the rest answers, the whole answers
finish : (s : List ℕ) (N start : ℕ) (w₀ : List ℕ) (c room : ℕ) (rest : ReadOut) (a : Outcome (ℕ × ℕ)) (v : List ℕ) → c ≡ room
    → lines_at max_lines s N c (replicate max_lines 0) 0 start 0 w₀ ≡ rest → (a ≡ rest.answer) × (v ≡ rest.words)
    → (a ≡ (lines_at max_lines s N room (replicate max_lines 0) 0 start 0 w₀).answer)
    × (v ≡ (lines_at max_lines s N room (replicate max_lines 0) 0 start 0 w₀).words)
finish s N start w₀ c room rest a v e i h = rw (← e, i) h

module _ (s : List ℕ) (N c : ℕ) (nodes : List ℕ) (k at n : ℕ) (w : List ℕ) where
  abbrev here : Stepped
  here = form_at 16 (setting s nodes (record { variables = N; room = c; earlier = k })) OwnForm at w n

  abbrev rest : ReadOut
  rest = lines_at (max_lines - k) s N c nodes k at n w

  abbrev next : ℕ → ℕ → ℕ → List ℕ → ReadOut
  next p m a v = lines_at (max_lines - (k + 1)) s N c (set nodes k a) (k + 1) p m v

  none : max_lines ≤ k → ReadIs (misread Nodes at) w rest
  unfolding lines_at
  none h = let e : max_lines - k ≡ 0 = omega arith in rw e (refl, refl)

  module _ (h : k < max_lines) (v : List ℕ) (ev : v ≡ here.words) where
    turn : (r : Result Formed Misread) → r ≡ here.step → rest ≡ line_end next s N v r
    unfolding lines_at
    turn r er = let e : max_lines - k ≡ suc (max_lines - (k + 1)) = omega arith in rw (e, ← er, ← ev)

    stops : (e : Misread) → Err e ≡ here.step → ReadIs (Err e) v rest
    stops e er = rw (turn (Err e) er) (refl, refl)

    module _ (p m a b : ℕ) (er : formed p m a ≡ here.step) (eb : b ≡ byte_at s p) where
      unended : (b ≡ code "\n" → ⊥) → ReadIs (misread Shape p) v rest
      unended l = rw (turn (formed p m a) er, ← eb, ne_eqb b (code "\n") l) (refl, refl)

      module _ (l : b ≡ code "\n") (y : ℕ) (ey : y ≡ byte_at s (p + 1)) where
        last : y ≡ end → ReadIs (Ok (record { variables = N; nodes = m })) v rest
        last i = rw (turn (formed p m a) er, ← eb, eq-eqb b (code "\n") l, ← ey, eq-eqb y end i) (refl, refl)

        more : (y ≡ end → ⊥) → rest ≡ next (p + 1) m a v
        more i = turn (formed p m a) er ∙ rw (← eb, eq-eqb b (code "\n") l, ← ey, ne_eqb y end i)

pub returns-in_err-past : goal.returns-in_err-past
returns-in_err-past c =
    let p = err_from_is_err_and c.from_residual.result c.from_residual.ensures.1 in
    let h = c.in_err-past.ensures in
    rw (p.1, p.2)
    (finish _ _ _ _ _ _ _ _ _ c.room_of-room.ensures.0 c.loop-k.invariant.3 (stops _ _ _ _ _ _ _ _ c.loop-k-test.true _ h.1 _ h.0))

pub returns-then-byte_at-ne-NEWLINE : goal.returns-then-byte_at-ne-NEWLINE
returns-then-byte_at-ne-NEWLINE c =
    let h = c.in_ok-past.ensures in
    finish _ _ _ _ _ _ _ _ _ c.room_of-room.ensures.0 c.loop-k.invariant.3
    (unended _ _ _ _ _ _ _ _ c.loop-k-test.true _ h.1 _ _ _ _ h.0 c.byte_at.ensures c.if-byte_at-ne-NEWLINE.true)

pub returns-then-byte_at-eq-END : goal.returns-then-byte_at-eq-END
returns-then-byte_at-eq-END c =
    let h = c.in_ok-past.ensures in
    finish _ _ _ _ _ _ _ _ _ c.room_of-room.ensures.0 c.loop-k.invariant.3
    (last _ _ _ _ _ _ _ _ c.loop-k-test.true _ h.1 _ _ _ _ h.0 c.byte_at.ensures c.if-byte_at-ne-NEWLINE.false _
    c.byte_at-in-loop-k.ensures c.if-byte_at-eq-END.true)

pub loop-k-preserved : goal.loop-k-preserved
loop-k-preserved c =
    let h = c.in_ok-past.ensures in
    let i = inside c.args.s.now c.in_ok-past.field-0.past (omega (arith, sym c.byte_at.ensures)) in (
      omega arith,
      c.form.auto.words ∙ c.loop-k.invariant.1,
      length-set c.loop-k.known c.loop-k.k _ ∙ c.loop-k.invariant.2,
      c.loop-k.invariant.3
          ∙ more _ _ _ _ _ _ _ _ c.loop-k-test.true _ h.1 _ _ _ _ h.0 c.byte_at.ensures c.if-byte_at-ne-NEWLINE.false _
          c.byte_at-in-loop-k.ensures c.if-byte_at-eq-END.false,
    )

pub returns : goal.returns
returns c =
    finish _ _ _ _ _ _ _ _ _ c.room_of-room.ensures.0 c.loop-k.invariant.3 (none _ _ _ _ _ _ _ _ c.loop-k-test.false)
