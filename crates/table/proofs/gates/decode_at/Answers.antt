-- `table::gates::decode_at` meets its contract.
use Prim.Native.Nat.{ℕ}
use mathlib.Core.Path.{◌≡◌, ap, ◌∙◌}
use mathlib.Core.List.{List}
use Rattle.table.specs.Gate.{decoded, decoded_at}
use Rattle.table.specs.Layout.{words_at}
use Rattle.table.specs.declared.gates.Decoded.{Decoded}
use Rattle.table.specs.declared.gates.Gate.{Gate}
use Rattle.table.specs.declared.layout.NodeWords.{NodeWords}
use Rattle.table.proofs.gates.decode_at.Goals as goal

read_is : (w : List ℕ) (i : ℕ) (y : NodeWords) (g : Gate) → y ≡ words_at w i → g ≡ (decoded y).gate
    → ◌≡◌ {A = Decoded} (record { gate = g; children = y.children }) (decoded_at w i)
read_is w i y g e d =
    ap (λ (z : Gate). record { gate = z; children = y.children }) d ∙ ap decoded e

pub returns : goal.returns
returns c = read_is _ _ _ _ c.before.before.before.words_at-node.ensures c.gate_of-gate.ensures
