-- `passes::models_at` meets its contract.
use Prim.Native.Nat.{ℕ, ◌+◌, ◌/◌}
use mathlib.Core.Path.{ap₂, ◌∙◌}
use mathlib.Core.Bool.{true, false, not, cond}
use Rattle.table.specs.Gate.{child_list}
use Rattle.terms.specs.Term.{has}
use Rattle.passes.proofs.ModelPass.{constant-le, pass-narrow, pass-readable, entry-le, models-array, multiplied}
use Rattle.passes.proofs.Readable.{readable-words, read-bounds, node-is, gate-fits, gate-bounds, reading}
use Rattle.passes.proofs.models_at.Goals as goal

pub decode_at-node-requires : goal.decode_at-node-requires
decode_at-node-requires c =
    readable-words c.args.n c.args.words.now (pass-readable c.requires.model_pass.0) c.args.i c.requires.model_pass.1

pub constant_models-requires : goal.constant_models-requires
constant_models-requires c = pass-narrow c.requires.model_pass.0

pub constant_models-low-requires : goal.constant_models-low-requires
constant_models-low-requires c = pass-narrow c.requires.model_pass.0

pub constant_models-requires-in-Literal : goal.constant_models-requires-in-Literal
constant_models-requires-in-Literal c = pass-narrow c.requires.model_pass.0

pub average-requires : goal.average-requires
average-requires c =
    let read = reading (pass-readable c.requires.model_pass.0) c.requires.model_pass.1 c.decode_at-node.ensures in
    let b = c.in-Literal.sign in (
      gate-bounds read c.in-Literal.is,
      constant-le c.args.variables (not b) _ (pass-narrow c.requires.model_pass.0) c.constant_models-low.ensures,
      constant-le c.args.variables b _ (pass-narrow c.requires.model_pass.0) c.constant_models-in-Literal.ensures,
    )

pub bounds-models-a : goal.bounds-models-a
bounds-models-a c =
    let read = reading (pass-readable c.requires.model_pass.0) c.requires.model_pass.1 c.decode_at-node.ensures in
    (gate-bounds read c.in-Decision.is).1

pub bounds-models-b : goal.bounds-models-b
bounds-models-b c =
    let read = reading (pass-readable c.requires.model_pass.0) c.requires.model_pass.1 c.decode_at-node.ensures in
    (gate-bounds read c.in-Decision.is).2

pub average-requires-in-Decision : goal.average-requires-in-Decision
average-requires-in-Decision c =
    let read = reading (pass-readable c.requires.model_pass.0) c.requires.model_pass.1 c.decode_at-node.ensures in
    let f = gate-fits read c.in-Decision.is in (
      (gate-bounds read c.in-Decision.is).0,
      entry-le c.requires.model_pass.0 c.args.i c.requires.model_pass.1 c.args.models.now c.requires.holds _ f.1,
      entry-le c.requires.model_pass.0 c.args.i c.requires.model_pass.1 c.args.models.now c.requires.holds _ f.2,
    )

pub product_of-requires : goal.product_of-requires
product_of-requires c =
    let r = reading (pass-readable c.requires.model_pass.0) c.requires.model_pass.1 c.decode_at-node.ensures in
    record {
      children_below = (read-bounds r, pass-narrow c.requires.model_pass.0);
      multiplied =
          multiplied c.requires.model_pass.0 c.args.i c.requires.model_pass.1 c.args.models.now c.requires.holds
          (child_list c.decode_at-node.result.children) (node-is r c.in-Conjunction.is);
    }

pub returns-in-Constant : goal.returns-in-Constant
returns-in-Constant c =
    let read = reading (pass-readable c.requires.model_pass.0) c.requires.model_pass.1 c.decode_at-node.ensures in
    c.constant_models.ensures
    ∙ models-array c.requires.model_pass.0 c.args.i c.requires.model_pass.1 c.args.models.now c.requires.holds
    _ (node-is read c.in-Constant.is)

pub returns-in-Literal : goal.returns-in-Literal
returns-in-Literal c =
    let read = reading (pass-readable c.requires.model_pass.0) c.requires.model_pass.1 c.decode_at-node.ensures in
    let x = c.args in
    c.average.ensures
    ∙ ap₂ (λ (a b : ℕ). cond (has x.t true c.in-Literal.x) b (cond (has x.t false c.in-Literal.x) a ((a + b) / 2)))
    c.constant_models-low.ensures c.constant_models-in-Literal.ensures
    ∙ models-array c.requires.model_pass.0 c.args.i c.requires.model_pass.1 c.args.models.now c.requires.holds
    _ (node-is read c.in-Literal.is)

pub returns-in-Decision : goal.returns-in-Decision
returns-in-Decision c =
    let read = reading (pass-readable c.requires.model_pass.0) c.requires.model_pass.1 c.decode_at-node.ensures in
    c.average-in-Decision.ensures
    ∙ models-array c.requires.model_pass.0 c.args.i c.requires.model_pass.1 c.args.models.now c.requires.holds
    _ (node-is read c.in-Decision.is)

pub returns-in-Conjunction : goal.returns-in-Conjunction
returns-in-Conjunction c =
    let read = reading (pass-readable c.requires.model_pass.0) c.requires.model_pass.1 c.decode_at-node.ensures in
    c.product_of.ensures
    ∙ models-array c.requires.model_pass.0 c.args.i c.requires.model_pass.1 c.args.models.now c.requires.holds
    _ (node-is read c.in-Conjunction.is)

pub returns-in-Unknown : goal.returns-in-Unknown
returns-in-Unknown c =
    let read = reading (pass-readable c.requires.model_pass.0) c.requires.model_pass.1 c.decode_at-node.ensures in
    models-array c.requires.model_pass.0 c.args.i c.requires.model_pass.1 c.args.models.now c.requires.holds
    _ (node-is read c.in-Unknown.is)
