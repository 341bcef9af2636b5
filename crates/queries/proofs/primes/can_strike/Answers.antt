-- `queries::primes::can_strike` meets its contract.
use Prim.Native.Nat.{◌<◌, ◌≤◌}
use mathlib.Core.Path.{sym, ◌∙◌}
use native.Mathlib.Omega.{arith}
use Rattle.passes.proofs.ModelPass.{accepted-readable}
use Rattle.queries.proofs.Accepted.{accepted-narrow, can-strike, cannot-strike}
use Rattle.queries.proofs.primes.can_strike.Goals as goal

pub has_bit-requires : goal.has_bit-requires
has_bit-requires c =
    let k : c.args.variables ≤ 40 = accepted-narrow c.args.variables c.args.n c.args.words.now c.requires.0 in
    let l : c.args.x < c.args.variables = c.requires.2 in
    omega arith

pub without-requires : goal.without-requires
without-requires c =
    let k : c.args.variables ≤ 40 = accepted-narrow c.args.variables c.args.n c.args.words.now c.requires.0 in
    let l : c.args.x < c.args.variables = c.requires.2 in
    omega arith

pub implied-requires : goal.implied-requires
implied-requires c = accepted-readable c.args.variables c.args.n
    c.args.words.now c.requires.0

pub returns-then-has_bit : goal.returns-then-has_bit
returns-then-has_bit c =
    can-strike c.args.variables c.args.n c.args.words.now c.requires.0 c.args.t c.requires.1 c.args.x
    c.variables.ensures
    (sym c.has_bit.ensures ∙ c.if-has_bit.true) c.without.ensures c.implied.ensures

pub returns-else-has_bit : goal.returns-else-has_bit
returns-else-has_bit c =
    c.if-has_bit.false
    ∙ cannot-strike c.args.variables c.args.n c.args.words.now c.requires.0 c.args.t c.requires.1 c.args.x
    c.variables.ensures
    (sym c.has_bit.ensures ∙ c.if-has_bit.false)
