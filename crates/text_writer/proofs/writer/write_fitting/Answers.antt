-- `text_writer::writer::write_fitting` meets its contract.
use Prim.Native.Nat.{ℕ, ◌≤◌}
use mathlib.Core.Path.{◌≡◌, ap, ◌∙◌}
use mathlib.Core.List.{List, ◌++◌}
use native.Mathlib.Nat.{zero-add}
use native.Mathlib.Omega.{arith}
use lib.ListN.{length, drop}
use lib.Seq.{sets-eq}
use borrow.Author.Tests.{le-ltb}
use Rattle.table.specs.Outcome.{answered}
use Rattle.text.specs.Write.{table_text, write_text}
use Rattle.text_writer.specs.Sink.{WriteIs, Wrote}
use Rattle.std.specs.Prelude.{Ok}
use Rattle.text_writer.proofs.writer.write_fitting.Goals as goal

module _ (text sink : List ℕ) (m : ℕ) (e : m ≡ length text) where
  done : m ≤ length sink → (v : List ℕ) (p : ℕ) → Wrote sink 0 v p text → WriteIs (Ok p) v (write_text text sink)
  done k v p x =
      let q : p ≡ length text = x.place ∙ zero-add (length text) in
      let f : length text ≤ length sink = omega arith in
      rw (le-ltb (length sink) (length text) f) (
        ap answered q,
        x.sink ∙ sets-eq text sink 0 (rw (zero-add (length text)) f)
            ∙ ap (λ (z : ℕ). text ++ drop z sink) (zero-add (length text)),
      )

pub returns : goal.returns
returns c =
    done (table_text c.args.variables c.args.n c.args.words.now) c.args.sink.now c.measure-need.result
    c.measure-need.ensures c.if-sink-need.false _ c.put_table.result c.put_table.ensures
