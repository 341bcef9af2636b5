-- `checks::children::is_false` meets its contract.
use mathlib.Core.Path.{◌≡◌, refl, ap, ◌∙◌}
use mathlib.Core.Bool.{Bool, false}
use Rattle.table.specs.Gate.{gate_node}
use Rattle.table.specs.declared.gates.Gate.{Gate}
use Rattle.table.specs.declared.layout.Children.{Children}
use Rattle.table.proofs.Decoding.{node-read}
use Rattle.circuits.specs.Check.{is_false}
use Rattle.checks.proofs.children.is_false.Goals as goal

pub returns-in-Constant : goal.returns-in-Constant
returns-in-Constant c = ap is_false (node-read c.args.words.now c.args.i c.decode_at-node.result c.decode_at-node.ensures c.in-Constant.is)

-- only a constant is false
other : (g : Gate) (cs : Children) → ((b : Bool) → g ≡ Gate.Constant b → ⊥) → false ≡ is_false (gate_node g cs)
other (Gate.Constant b) cs n = absurd (n b refl)
other (Gate.Literal b x) cs n = refl
other (Gate.Decision x a b) cs n = refl
other Gate.Conjunction cs n = refl
other Gate.Unknown cs n = refl

pub returns-in_default : goal.returns-in_default
returns-in_default c =
    let r = c.decode_at-node.result in
    other r.gate r.children c.in_default.not-Constant
    ∙ ap is_false (node-read c.args.words.now c.args.i r c.decode_at-node.ensures refl)
