-- `checks::faults::is_undecomposable` meets its contract.
use mathlib.Core.Path.{ap, ap₂, ◌∙◌}
use mathlib.Core.Bool.{not, ◌||◌}
use Rattle.passes.proofs.Readable.{read-bounds, gate-bounds, reading}
use Rattle.checks.proofs.Rules.{meets-from}
use Rattle.checks.proofs.faults.is_undecomposable.Goals as goal

pub bounds-supports-a : goal.bounds-supports-a
bounds-supports-a c =
    let read = reading c.requires.0 c.requires.1 c.decode_at-node.ensures in
    (gate-bounds read c.in-Decision.is).1

pub has_bit-requires : goal.has_bit-requires
has_bit-requires c =
    let read = reading c.requires.0 c.requires.1 c.decode_at-node.ensures in
    (gate-bounds read c.in-Decision.is).0

pub bounds-supports-b : goal.bounds-supports-b
bounds-supports-b c =
    let read = reading c.requires.0 c.requires.1 c.decode_at-node.ensures in
    (gate-bounds read c.in-Decision.is).2

pub has_bit-requires-in-Decision : goal.has_bit-requires-in-Decision
has_bit-requires-in-Decision c = (gate-bounds (reading c.requires.0 c.requires.1 c.decode_at-node.ensures)
    c.in-Decision.is).0

pub are_disjoint-requires : goal.are_disjoint-requires
are_disjoint-requires c = read-bounds (reading c.requires.0 c.requires.1 c.decode_at-node.ensures)

pub returns-in-Constant : goal.returns-in-Constant
returns-in-Constant c =
    let read = reading c.requires.0 c.requires.1 c.decode_at-node.ensures in
    meets-from read c.in-Constant.is c.args.supports.now c.requires.2

pub returns-in-Literal : goal.returns-in-Literal
returns-in-Literal c =
    let read = reading c.requires.0 c.requires.1 c.decode_at-node.ensures in
    meets-from read c.in-Literal.is c.args.supports.now c.requires.2

pub returns-in-Decision : goal.returns-in-Decision
returns-in-Decision c =
    let read = reading c.requires.0 c.requires.1 c.decode_at-node.ensures in
    ap₂ ◌||◌ c.has_bit.ensures c.has_bit-in-Decision.ensures
    ∙ (meets-from read c.in-Decision.is c.args.supports.now c.requires.2)

pub returns-in-Conjunction : goal.returns-in-Conjunction
returns-in-Conjunction c =
    let read = reading c.requires.0 c.requires.1 c.decode_at-node.ensures in
    ap not c.are_disjoint.ensures ∙ (meets-from read c.in-Conjunction.is c.args.supports.now c.requires.2)

pub returns-in-Unknown : goal.returns-in-Unknown
returns-in-Unknown c =
    let read = reading c.requires.0 c.requires.1 c.decode_at-node.ensures in
    meets-from read c.in-Unknown.is c.args.supports.now c.requires.2
