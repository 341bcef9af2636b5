-- `checks::faults::is_unreduced` meets its contract.
use Prim.Native.Nat.{◌<◌}
use mathlib.Core.Path.{ap₂, ◌∙◌}
use mathlib.Core.Bool.{◌&&◌}
use native.Mathlib.Omega.{arith}
use Rattle.passes.proofs.Readable.{readable-words, read-children, gate-fits, reading}
use Rattle.checks.proofs.Rules.{unreduced-from}
use Rattle.checks.proofs.faults.is_unreduced.Goals as goal

pub is_false-requires : goal.is_false-requires
is_false-requires c =
    let read = reading c.requires.0 c.requires.1 c.decode_at-node.ensures in
    let f : c.in-Decision.a < c.args.i = (gate-fits read c.in-Decision.is).1 in
    let b = c.requires.1 in
    readable-words c.args.n c.args.words.now c.requires.0 _ (omega arith)

pub is_false-requires-in-Decision : goal.is_false-requires-in-Decision
is_false-requires-in-Decision c =
    let read = reading c.requires.0 c.requires.1 c.decode_at-node.ensures in
    let f : c.in-Decision.b < c.args.i = (gate-fits read c.in-Decision.is).2 in
    let b = c.requires.1 in
    readable-words c.args.n c.args.words.now c.requires.0 _ (omega arith)

pub has_false-requires : goal.has_false-requires
has_false-requires c =
    let b = read-children (reading c.requires.0 c.requires.1 c.decode_at-node.ensures) in
    let l = c.requires.1 in
    (c.requires.0, record { few = b.few; each = λ k m. let q = b.each k m in omega arith })

pub returns-in-Constant : goal.returns-in-Constant
returns-in-Constant c =
    let read = reading c.requires.0 c.requires.1 c.decode_at-node.ensures in
    unreduced-from read c.in-Constant.is

pub returns-in-Literal : goal.returns-in-Literal
returns-in-Literal c =
    let read = reading c.requires.0 c.requires.1 c.decode_at-node.ensures in
    unreduced-from read c.in-Literal.is

pub returns-in-Decision : goal.returns-in-Decision
returns-in-Decision c =
    ap₂ ◌&&◌ c.is_false.ensures c.is_false-in-Decision.ensures
    ∙ unreduced-from (reading c.requires.0 c.requires.1 c.decode_at-node.ensures) c.in-Decision.is

pub returns-in-Conjunction : goal.returns-in-Conjunction
returns-in-Conjunction c =
    let read = reading c.requires.0 c.requires.1 c.decode_at-node.ensures in
    c.has_false.ensures ∙ unreduced-from read c.in-Conjunction.is

pub returns-in-Unknown : goal.returns-in-Unknown
returns-in-Unknown c =
    let read = reading c.requires.0 c.requires.1 c.decode_at-node.ensures in
    unreduced-from read c.in-Unknown.is
