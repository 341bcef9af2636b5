use Prim.Native.Nat.{ℕ, ◌+◌, ◌<◌, ◌≤◌}
use mathlib.Core.Path.{◌≡◌, refl, sym, ◌∙◌}
use mathlib.Core.Logic.{◌⊎◌, inl, inr}
use mathlib.Core.List.{List, [], ◌∷◌, ◌++◌}
use native.Mathlib.Omega.{arith}
use lib.ListN.{length, length-append}
use Rattle.std.specs.Prelude.{Result, Ok, Err}
use Rattle.std.proofs.lemmas.Result.{err_from_is_err_and}
use Rattle.steps.specs.Steps.{columns, put}
use Rattle.steps.specs.declared.Columns.{Columns}
use Rattle.steps.specs.declared.Step.{Step}
use Rattle.steps.proofs.ColumnLaws.{columns-none, columns-with}
use Rattle.table.specs.Outcome.{refused}
use Rattle.text.specs.Read.{byte_at}
use Rattle.text_script.specs.Lines.{line_then, Reads}
use Rattle.text_script.specs.Script.{with, line, opened}
use Rattle.text_script.specs.declared.answer.ScriptFault.{ScriptFault}
use Rattle.text_script.proofs.Reading.{on, end_is, full_is, closed_is, open_is, told-steps, told-refused}
use Rattle.text_script.proofs.script.read_lines.Invariants.{Past}
use Rattle.text_script.proofs.script.read_lines.Goals as goal

starts : (s : List ℕ) (N room : ℕ) (cs : Columns) → cs ≡ columns [] → Past s N room cs 0 0 []
starts s N room cs e = record { held = e; counted = refl; few = omega arith; inside = omega arith; left = refl }

-- one line more
goes_on : (s : List ℕ) (N room : ℕ) (cs ds : Columns) (count at : ℕ) (t : Step) (p : ℕ) (es : List Step) → Past s N room cs count at es
    → count < room → line_then s N room es (Ok (t, p)) ≡ on s N room (line es) at → p ≤ length s → ds ≡ put cs count t
    → Past s N room ds (count + 1) p (with es t.variable t.act)
goes_on s N room cs ds count at t p es h l e i d =
    let n : length (es ++ (t ∷ [])) ≡ length es + 1 = length-append es (t ∷ []) in
    record {
      held = d ∙ (λ j. put (h.held j) (h.counted j) t) ∙ columns-with es t;
      counted = omega (arith, h.counted);
      few = omega (arith, h.counted);
      inside = i;
      left = h.left ∙ sym e;
    }

-- there is no room for a line, or none begins
stuck_is : (s : List ℕ) (N room count at c : ℕ) (es : List Step) → count ≡ length es → c ≡ byte_at s at → (c ≡ 256 → ⊥)
    → (room ≤ count) ⊎ ((count < room) × (c ≡ 40 → ⊥)) → refused 54 at ≡ on s N room (line es) at
stuck_is s N room count at c es n e d (inl l) = full_is s N room es at (λ b. d (e ∙ b)) (omega (arith, n, l))
stuck_is s N room count at c es n e d (inr (l, o)) = closed_is s N room es at (λ b. d (e ∙ b)) (λ b. o (e ∙ b))

pub loop-columns-init : goal.loop-columns-init
loop-columns-init c = ([], starts _ _ _ _ (c.no_columns-columns.ensures ∙ columns-none))

-- what the line is read as
follows : (s : List ℕ) (N room at c : ℕ) (es : List Step) (r : Result (Step × ℕ) ScriptFault) → Reads s N opened (at + 1) r
    → length es < room → c ≡ byte_at s at → c ≡ 40 → line_then s N room es r ≡ on s N room (line es) at
follows s N room at c es r h l d b = h room es ∙ open_is s N room es at l (sym d ∙ b)

pub returns-then-c-eq-END : goal.returns-then-c-eq-END
returns-then-c-eq-END c =
    let p = c.loop-columns.invariant.1 in
    told-steps _ _ _ c.loop-columns.invariant.0 (end_is _ _ _ _ _ (sym c.byte_at-c.ensures ∙ c.if-c-eq-END.true) ∙ sym p.left)
    (λ i. Ok (record { columns = p.held i; count = p.counted i })) p.few

pub returns-then-room-count : goal.returns-then-room-count
returns-then-room-count c =
    let p = c.loop-columns.invariant.1 in
    told-refused _ _ _
    (stuck_is _ _ _ _ _ _ c.loop-columns.invariant.0 p.counted c.byte_at-c.ensures c.if-c-eq-END.false c.then-room-count.either
    ∙ sym p.left)

pub returns-in_err-step : goal.returns-in_err-step
returns-in_err-step c =
    let e = err_from_is_err_and c.from_residual.result c.from_residual.ensures.1 in
    let p = c.loop-columns.invariant.1 in
    rw (e.1, e.2)
    (told-refused _ _ _
    (follows _ _ _ _ _ c.loop-columns.invariant.0 (Err c.in_err-step.field-0.0) c.in_err-step.ensures.0
    (omega (arith, p.counted, c.if-room-count.false))
    c.byte_at-c.ensures c.if-c-ne-OPEN.false ∙ sym p.left))

pub loop-columns-preserved : goal.loop-columns-preserved
loop-columns-preserved c =
    let es = c.loop-columns.invariant.0 in
    let p = c.loop-columns.invariant.1 in
    let h = c.in_ok-step.ensures in (
      with es _ _,
      goes_on _ _ _ _ _ _ _ _ _ es p c.if-room-count.false
          (follows _ _ _ _ _ es (Ok (c.in_ok-step.step, c.in_ok-step.p)) h.0
          (omega (arith, p.counted, c.if-room-count.false)) c.byte_at-c.ensures c.if-c-ne-OPEN.false)
          h.1.1 c.with_step-columns.ensures,
    )
