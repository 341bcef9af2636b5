use Prim.Native.Nat.{ℕ, pred}
use native.Mathlib.Omega.{arith}
use borrow.Author.Rules.{rules}
use Rattle.circuits.specs.Function.{function}
use Rattle.passes.specs.Models.{scaled}
use Rattle.passes.proofs.ModelPass.{accepted-readable, literals-le, unscaled}
use Rattle.passes.proofs.Readable.{last-held}
use Rattle.passes.proofs.models_under.Goals as goal

pub supports-supports-requires : goal.supports-supports-requires
supports-supports-requires c = accepted-readable _ _ _ c.requires.0

pub bottom_up-requires : goal.bottom_up-requires
bottom_up-requires c =
    let r = (accepted-readable _ _ _ c.requires.0).1.nodes in (
      search rules,
      (
        search rules,
        ((λ i. scaled c.args.variables (function c.args.words.now i) c.args.t), λ i a k h. (search rules, λ r p. search rules)),
      ),
    )

pub overflow_sub-result : goal.overflow_sub-result
overflow_sub-result c = let q = (accepted-readable _ _ _ c.requires.0).1 in omega arith

pub offset_bounds-models-n : goal.offset_bounds-models-n
offset_bounds-models-n c = let q = (accepted-readable _ _ _ c.requires.0).1.nodes in search rules

pub bounds-models-n : goal.bounds-models-n
bounds-models-n c = let q = (accepted-readable _ _ _ c.requires.0).1 in omega arith

pub overflow_shr-result : goal.overflow_shr-result
overflow_shr-result c =
    omega (
      arith,
      c.literals.ensures,
      literals-le c.args.variables c.args.n c.args.words.now c.requires.0 c.args.t c.requires.1,
    )

pub returns : goal.returns
returns c =
    let q = (accepted-readable _ _ _ c.requires.0).1 in
    let f = λ (i : ℕ). scaled c.args.variables (function c.args.words.now i) c.args.t in
    let held = c.bottom_up.ensures f (λ i a r k h p. search rules) in
    unscaled c.args.variables (function c.args.words.now (pred c.args.n)) c.args.t _ _
    (last-held 0 f c.args.n c.bottom_up.new.values q.first held) c.literals.ensures
