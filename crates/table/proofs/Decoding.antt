-- Laws that the code's reading of a node rests on: its kind, its gate and the node that it stands for.
use Prim.Native.Nat.{ℕ, zero, suc}
use mathlib.Core.Path.{◌≡◌, refl, sym, ap, ◌∙◌}
use mathlib.Core.Bool.{not}
use mathlib.Core.Logic.{◌≢◌}
use mathlib.Core.List.{List}
use lib.ListN.{get_or}
use Rattle.table.specs.Gate.{gate, gate_of, gate_node, decoded, decoded_at}
use Rattle.table.specs.Layout.{words_at}
use Rattle.table.specs.Node.{kind, decode, decode_words, node_at, Kind, constant_kind, literal_kind, decision_kind, conjunction_kind}
use Rattle.table.specs.Node.{unknown_kind}
use Rattle.table.specs.Words.{fits_kind, well_formed}
use Rattle.table.specs.declared.gates.Decoded.{Decoded}
use Rattle.table.specs.declared.gates.Gate.{Gate}
use Rattle.table.specs.declared.layout.NodeWords.{NodeWords}

-- the gate by the kind word that was read
pub gate-by : (k x a b : ℕ) (y : Kind) → kind k ≡ y → gate y x a b ≡ gate_of k x a b
unfolding gate_of
gate-by k x a b y e = ap (λ (z : Kind). gate z x a b) (sym e)

-- a number that is none of the six kinds
pub kind-above : (k : ℕ) → k ≢ 0 → k ≢ 1 → k ≢ 2 → k ≢ 3 → k ≢ 4 → k ≢ 5 → kind k ≡ unknown_kind
kind-above zero a b c d e f = absurd (a refl)
kind-above (suc zero) a b c d e f = absurd (b refl)
kind-above (suc (suc zero)) a b c d e f = absurd (c refl)
kind-above (suc (suc (suc zero))) a b c d e f = absurd (d refl)
kind-above (suc (suc (suc (suc zero)))) a b c d e f = absurd (e refl)
kind-above (suc (suc (suc (suc (suc zero))))) a b c d e f = absurd (f refl)
kind-above (suc (suc (suc (suc (suc (suc k)))))) a b c d e f = refl

-- whether words are well-formed, by the kind word that was read
pub fits_by : (N i : ℕ) (y : NodeWords) (k : Kind) → kind y.kind ≡ k
    → not (fits_kind N i k y.variable y.children) ≡ not (well_formed N i y)
fits_by N i y k e = ap (λ (z : Kind). not (fits_kind N i z y.variable y.children)) (sym e)

-- a gate with its children is the node that the words stand for
pub gate-node : (y : NodeWords) → gate_node (decoded y).gate y.children ≡ decode_words y
unfolding gate_of
gate-node y = same (kind y.kind)
  where
    low : ℕ
    low = get_or y.children.nodes 0 0

    high : ℕ
    high = get_or y.children.nodes 1 0

    same : (k : Kind) → gate_node (gate k y.variable low high) y.children ≡ decode k y.variable y.children
    same (constant_kind v) = refl
    same (literal_kind v) = refl
    same decision_kind = refl
    same conjunction_kind = refl
    same unknown_kind = refl

-- the node that was read, by its gate
pub node-read : (w : List ℕ) (i : ℕ) (r : Decoded) → r ≡ decoded_at w i → {h : Gate} → r.gate ≡ h
    → gate_node h r.children ≡ node_at w i
unfolding node_at
node-read w i r e {h} p =
    ap (λ (z : Gate). gate_node z r.children) (sym p) ∙ ap (λ (z : Decoded). gate_node z.gate z.children) e
    ∙ gate-node (words_at w i)
