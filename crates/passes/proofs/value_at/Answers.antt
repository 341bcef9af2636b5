-- `passes::value_at` meets its contract.
use mathlib.Core.Path.{◌≡◌, refl, sym, ap, ◌∙◌}
use mathlib.Core.Bool.{true, beq, Bool, false, cond}
use lib.ListN.{get_or}
use Rattle.masks.specs.Mask.{bit}
use Rattle.circuits.specs.Function.{signed}
use Rattle.passes.proofs.Readable.{read-bounds, gate-bounds, value-from, reading}
use Rattle.passes.proofs.value_at.Goals as goal

as_signed : (v sign : Bool) → beq v sign ≡ signed sign v
as_signed true true = refl
as_signed true false = refl
as_signed false true = refl
as_signed false false = refl

pub has_bit-requires : goal.has_bit-requires
has_bit-requires c = gate-bounds (reading c.requires.0 c.requires.1 c.decode_at-node.ensures) c.in-Literal.is

pub has_bit-requires-in-Decision : goal.has_bit-requires-in-Decision
has_bit-requires-in-Decision c =
    let read = reading c.requires.0 c.requires.1 c.decode_at-node.ensures in
    (gate-bounds read c.in-Decision.is).0

pub bounds-values-b : goal.bounds-values-b
bounds-values-b c =
    let read = reading c.requires.0 c.requires.1 c.decode_at-node.ensures in
    (gate-bounds read c.in-Decision.is).2

pub bounds-values-a : goal.bounds-values-a
bounds-values-a c =
    let read = reading c.requires.0 c.requires.1 c.decode_at-node.ensures in
    (gate-bounds read c.in-Decision.is).1

pub all_of-requires : goal.all_of-requires
all_of-requires c = read-bounds (reading c.requires.0 c.requires.1 c.decode_at-node.ensures)

pub returns-in-Constant : goal.returns-in-Constant
returns-in-Constant c =
    let read = reading c.requires.0 c.requires.1 c.decode_at-node.ensures in
    value-from read c.in-Constant.is c.args.s c.args.values.now c.requires.2

pub returns-in-Literal : goal.returns-in-Literal
returns-in-Literal c =
    let read = reading c.requires.0 c.requires.1 c.decode_at-node.ensures in
    ap (λ (b : Bool). beq b c.in-Literal.sign) c.has_bit.ensures ∙ as_signed (bit c.args.s c.in-Literal.x) c.in-Literal.sign
    ∙ value-from read c.in-Literal.is c.args.s c.args.values.now c.requires.2

pub returns-then-has_bit : goal.returns-then-has_bit
returns-then-has_bit c =
    let read = reading c.requires.0 c.requires.1 c.decode_at-node.ensures in
    let v = c.args.values.now in
    sym (ap (λ (t : Bool). get_or v (cond t c.in-Decision.b c.in-Decision.a) false)
    (sym c.has_bit-in-Decision.ensures ∙ c.if-has_bit.true))
    ∙ value-from read c.in-Decision.is c.args.s c.args.values.now c.requires.2

pub returns-else-has_bit : goal.returns-else-has_bit
returns-else-has_bit c =
    let read = reading c.requires.0 c.requires.1 c.decode_at-node.ensures in
    let v = c.args.values.now in
    sym (ap (λ (t : Bool). get_or v (cond t c.in-Decision.b c.in-Decision.a) false)
    (sym c.has_bit-in-Decision.ensures ∙ c.if-has_bit.false))
    ∙ value-from read c.in-Decision.is c.args.s c.args.values.now c.requires.2

pub returns-in-Conjunction : goal.returns-in-Conjunction
returns-in-Conjunction c =
    let read = reading c.requires.0 c.requires.1 c.decode_at-node.ensures in
    c.all_of.ensures ∙ value-from read c.in-Conjunction.is c.args.s c.args.values.now c.requires.2

pub returns-in-Unknown : goal.returns-in-Unknown
returns-in-Unknown c =
    let read = reading c.requires.0 c.requires.1 c.decode_at-node.ensures in
    value-from read c.in-Unknown.is c.args.s c.args.values.now c.requires.2
