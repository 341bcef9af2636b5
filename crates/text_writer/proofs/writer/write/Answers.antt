-- `text_writer::writer::write` meets its contract.
use Prim.Native.Nat.{ℕ}
use mathlib.Core.Path.{◌≡◌, refl, sym}
use mathlib.Core.List.{List}
use Rattle.std.specs.Prelude.{Result, Err}
use Rattle.std.proofs.lemmas.Result.{err_from_is_err_and}
use Rattle.table.specs.Outcome.{accepted, refused_by}
use Rattle.table.specs.Words.{check_words}
use Rattle.table.specs.declared.Refusal.{Refusal}
use Rattle.table.proofs.Checking.{words-sound}
use Rattle.text.specs.Write.{table_text, write_checked, write_table}
use Rattle.text_writer.specs.Sink.{WriteIs}
use Rattle.text_writer.specs.declared.fault.WriteFault.{WriteFault}
use Rattle.text_writer.specs.declared.fault.WriteFault.TheVariants.{Table}
use Rattle.text_writer.proofs.writer.write.Goals as goal

module _ (N n : ℕ) (w sink : List ℕ) where
  refuses : (why : Refusal) → refused_by why ≡ check_words N n w → WriteIs (Err (Table why)) sink (write_table N n w sink)
  unfolding write_table
  refuses why e = rw (← e) (refl, refl)

  goes : (r : Result ℕ WriteFault) (v : List ℕ) → accepted ≡ check_words N n w
      → WriteIs r v (write_checked (table_text N n w) sink accepted) → WriteIs r v (write_table N n w sink)
  unfolding write_table
  goes r v e h = rw (← e) h

pub returns-in_err-check_words : goal.returns-in_err-check_words
returns-in_err-check_words c =
    let p = err_from_is_err_and c.from_residual.result c.from_residual.ensures.1 in
    rw (p.1, p.2) (refuses _ _ _ _ _ c.in_err-check_words.ensures)

pub write_fitting-requires : goal.write_fitting-requires
write_fitting-requires c = (_, words-sound _ _ _ (sym c.in_ok-check_words.ensures))

pub returns : goal.returns
returns c = goes _ _ _ _ c.write_fitting.result _ c.in_ok-check_words.ensures c.write_fitting.ensures
