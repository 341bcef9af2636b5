-- `passes::support_at` meets its contract.
use mathlib.Core.Path.{◌∙◌}
use Rattle.passes.proofs.Readable.{read-bounds, gate-bounds, support-from, reading}
use Rattle.passes.proofs.support_at.Goals as goal

pub with_bit-requires : goal.with_bit-requires
with_bit-requires c = gate-bounds (reading c.requires.0 c.requires.1 c.decode_at-node.ensures) c.in-Literal.is

pub bounds-supports-a : goal.bounds-supports-a
bounds-supports-a c =
    let read = reading c.requires.0 c.requires.1 c.decode_at-node.ensures in
    (gate-bounds read c.in-Decision.is).1

pub bounds-supports-b : goal.bounds-supports-b
bounds-supports-b c =
    let read = reading c.requires.0 c.requires.1 c.decode_at-node.ensures in
    (gate-bounds read c.in-Decision.is).2

pub with_bit-requires-in-Decision : goal.with_bit-requires-in-Decision
with_bit-requires-in-Decision c =
    let read = reading c.requires.0 c.requires.1 c.decode_at-node.ensures in
    (gate-bounds read c.in-Decision.is).0

pub union_of-requires : goal.union_of-requires
union_of-requires c = read-bounds (reading c.requires.0 c.requires.1 c.decode_at-node.ensures)

pub returns-in-Constant : goal.returns-in-Constant
returns-in-Constant c =
    let read = reading c.requires.0 c.requires.1 c.decode_at-node.ensures in
    support-from read c.in-Constant.is c.args.supports.now c.requires.2

pub returns-in-Literal : goal.returns-in-Literal
returns-in-Literal c =
    let read = reading c.requires.0 c.requires.1 c.decode_at-node.ensures in
    c.with_bit.ensures ∙ (support-from read c.in-Literal.is c.args.supports.now c.requires.2)

pub returns-in-Decision : goal.returns-in-Decision
returns-in-Decision c =
    let read = reading c.requires.0 c.requires.1 c.decode_at-node.ensures in
    c.with_bit-in-Decision.ensures
    ∙ (support-from read c.in-Decision.is c.args.supports.now c.requires.2)

pub returns-in-Conjunction : goal.returns-in-Conjunction
returns-in-Conjunction c =
    let read = reading c.requires.0 c.requires.1 c.decode_at-node.ensures in
    c.union_of.ensures ∙ support-from read c.in-Conjunction.is c.args.supports.now c.requires.2

pub returns-in-Unknown : goal.returns-in-Unknown
returns-in-Unknown c =
    let read = reading c.requires.0 c.requires.1 c.decode_at-node.ensures in
    support-from read c.in-Unknown.is c.args.supports.now c.requires.2
