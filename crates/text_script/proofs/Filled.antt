-- The steps that were read, stored in the lent list: past them, and where the script is refused, it is as it was.
use Prim.Native.Nat.{ℕ, ◌<◌, ◌≤◌}
use mathlib.Core.Path.{◌≡◌, refl}
use mathlib.Core.List.{List}
use native.Mathlib.Omega.{arith}
use native.Mathlib.Decide.{dec_lt}
use lib.ListN.{length}
use borrow.Author.Tests.{lt-ltb, le-ltb}
use Rattle.steps.specs.Steps.{stored}
use Rattle.steps.specs.declared.Step.{Step}
use Rattle.steps.proofs.ColumnLaws.{stored-all}
use Rattle.table.specs.Outcome.{Outcome, answered, refused}
use Rattle.text_script.specs.Answers.{script_outcome, Told}
use Rattle.text_script.specs.Script.{room_for, read_steps, filled, read_script}
use Rattle.text_script.specs.declared.answer.Script.{Script}
use Rattle.text_script.specs.declared.answer.ScriptFault.{ScriptFault}
use Rattle.std.specs.Prelude.{Result, Ok, Err}

room_fits : (l : ℕ) → (room_for l ≤ l) × (room_for l ≤ 256)
room_fits l = by (dec_lt l 256)
  where
    by : Dec (l < 256) → (room_for l ≤ l) × (room_for l ≤ 256)
    by (yes h) = rw (lt-ltb l 256 h) (omega arith, omega arith)
    by (no h) = rw (le-ltb l 256 (omega arith)) (omega arith, omega arith)

module _ (list : List Step) where
  -- what is left in the list
  abbrev pub kept : Result Script ScriptFault → List Step
  kept (Ok r) = stored r.columns r.count list
  kept (Err e) = list

  told-filled : (r : Result Script ScriptFault) (o : Outcome (List Step)) → Told (room_for (length list)) r o
      → (script_outcome r ≡ (filled list o).answer) × (kept r ≡ (filled list o).steps)
  told-filled r (answered es) (e, l) =
      let (i, j) = room_fits (length list) in rw e (refl, stored-all es list (omega arith) (omega arith))
  told-filled (Ok r) (refused k p) e = absurd (none e)
    where
      none : answered r.count ≡ refused k p → ⊥
      none e = cc
  told-filled (Err f) (refused k p) e = (e, refl)

  -- what the reading answers, and what is left in the list
  pub script-filled : (r : Result Script ScriptFault) (s : List ℕ) (N : ℕ) → Told (room_for (length list)) r (read_steps s N (length list))
      → (script_outcome r ≡ (read_script s N list).answer) × (kept r ≡ (read_script s N list).steps)
  unfolding read_script
  script-filled r s N h = told-filled r (read_steps s N (length list)) h
