-- `passes::implied_at` meets its contract.
use mathlib.Core.Path.{◌∙◌}
use Rattle.passes.proofs.Readable.{read-bounds, gate-bounds, implied-from, reading}
use Rattle.passes.proofs.implied_at.Goals as goal

pub has_literal-requires : goal.has_literal-requires
has_literal-requires c =
    let read = reading c.requires.0 c.requires.1 c.decode_at-node.ensures in
    gate-bounds read c.in-Literal.is

pub bounds-implied-a : goal.bounds-implied-a
bounds-implied-a c =
    let read = reading c.requires.0 c.requires.1 c.decode_at-node.ensures in
    (gate-bounds read c.in-Decision.is).1

pub bounds-implied-b : goal.bounds-implied-b
bounds-implied-b c =
    let read = reading c.requires.0 c.requires.1 c.decode_at-node.ensures in
    (gate-bounds read c.in-Decision.is).2

pub both_sides-requires : goal.both_sides-requires
both_sides-requires c =
    let read = reading c.requires.0 c.requires.1 c.decode_at-node.ensures in
    (gate-bounds read c.in-Decision.is).0

pub all_of-requires : goal.all_of-requires
all_of-requires c = read-bounds (reading c.requires.0 c.requires.1 c.decode_at-node.ensures)

pub returns-in-Constant : goal.returns-in-Constant
returns-in-Constant c =
    let read = reading c.requires.0 c.requires.1 c.decode_at-node.ensures in
    implied-from read c.in-Constant.is c.args.t c.args.implied.now c.requires.2

pub returns-in-Literal : goal.returns-in-Literal
returns-in-Literal c =
    let read = reading c.requires.0 c.requires.1 c.decode_at-node.ensures in
    c.has_literal.ensures ∙ implied-from read c.in-Literal.is c.args.t c.args.implied.now c.requires.2

pub returns-in-Decision : goal.returns-in-Decision
returns-in-Decision c =
    let read = reading c.requires.0 c.requires.1 c.decode_at-node.ensures in
    c.both_sides.ensures ∙ implied-from read c.in-Decision.is c.args.t c.args.implied.now c.requires.2

pub returns-in-Conjunction : goal.returns-in-Conjunction
returns-in-Conjunction c =
    let read = reading c.requires.0 c.requires.1 c.decode_at-node.ensures in
    c.all_of.ensures ∙ implied-from read c.in-Conjunction.is c.args.t c.args.implied.now c.requires.2

pub returns-in-Unknown : goal.returns-in-Unknown
returns-in-Unknown c =
    let read = reading c.requires.0 c.requires.1 c.decode_at-node.ensures in
    implied-from read c.in-Unknown.is c.args.t c.args.implied.now c.requires.2
