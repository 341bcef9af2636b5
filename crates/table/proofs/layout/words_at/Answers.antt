-- `table::layout::words_at` meets its contract.
use Prim.Native.Nat.{ℕ, ◌+◌}
use mathlib.Core.Path.{◌≡◌}
use mathlib.Core.List.{List}
use lib.ListN.{get_or}
use Rattle.table.specs.Layout.{words_for, eight, words_at}
use Rattle.table.specs.declared.layout.NodeWords.{NodeWords}
use Rattle.table.specs.Layout.{words_at}
use Rattle.table.proofs.layout.words_at.Goals as goal

read_is : (w : List ℕ) (i : ℕ) (l : List ℕ) → l ≡ eight w (words_for i + 3)
    → ◌≡◌ {A = NodeWords}
    (record {
      kind = get_or w (words_for i) 0;
      variable = get_or w (words_for i + 1) 0;
      children = record { count = get_or w (words_for i + 2) 0; nodes = l };
    })
    (words_at w i)
unfolding words_at
read_is w i l e =
    λ d. record {
      kind = get_or w (words_for i) 0;
      variable = get_or w (words_for i + 1) 0;
      children = record { count = get_or w (words_for i + 2) 0; nodes = e d };
    }

pub returns : goal.returns
returns c = read_is _ _ _ c.eight_at-nodes.ensures
