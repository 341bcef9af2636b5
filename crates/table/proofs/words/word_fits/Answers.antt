-- `table::words::word_fits` meets its contract.
use mathlib.Core.Path.{sym, ap}
use mathlib.Core.Bool.{Bool}
use Rattle.table.specs.Words.{word_fits}
use Rattle.table.proofs.words.word_fits.Goals as goal

pub returns-then-used : goal.returns-then-used
returns-then-used c =
    let x = c.before.args in sym (ap (λ (t : Bool). word_fits t x.bound x.word) c.if-used.true)

pub returns-else-used : goal.returns-else-used
returns-else-used c =
    let x = c.before.args in sym (ap (λ (t : Bool). word_fits t x.bound x.word) c.if-used.false)
