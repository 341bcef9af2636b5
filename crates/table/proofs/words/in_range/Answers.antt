-- `table::words::in_range` meets its contract.
use Prim.Native.Nat.{ℕ}
use mathlib.Core.Path.{ap}
use mathlib.Core.Bool.{◌&&◌}
use lib.Dec.{leb}
use lib.ListN.{length}
use Rattle.table.specs.Node.{max_nodes}
use Rattle.table.specs.Words.{variables_fit}
use Rattle.table.proofs.words.in_range.Goals as goal

pub returns : goal.returns
returns c =
    let x = c.before.before.args in
    ap (λ (k : ℕ). variables_fit x.variables && leb 1 x.nodes && leb x.nodes max_nodes && leb k (length x.words.now))
    c.words_for.ensures
