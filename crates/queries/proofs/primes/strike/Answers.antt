-- `queries::primes::strike` meets its contract.
use Prim.Native.Nat.{◌<◌, ◌≤◌}
use mathlib.Core.Path.{sym, ap, ◌∙◌}
use mathlib.Core.Bool.{Bool, cond}
use native.Mathlib.Omega.{arith}
use Rattle.terms.specs.Term.{without}
use Rattle.passes.proofs.ModelPass.{accepted-readable}
use Rattle.queries.proofs.Accepted.{accepted-narrow, struck-implied}
use Rattle.queries.proofs.primes.strike.Goals as goal

pub without-u-requires : goal.without-u-requires
without-u-requires c =
    let k : c.args.variables ≤ 40 = accepted-narrow c.args.variables c.args.n c.args.words.now c.requires.0 in
    let l : c.args.k < c.args.variables = c.requires.2 in
    omega arith

pub implied-requires : goal.implied-requires
implied-requires c = accepted-readable c.args.variables c.args.n c.args.words.now c.requires.0

pub returns-then-implied : goal.returns-then-implied
returns-then-implied c =
    c.without-u.ensures
    ∙ sym
    (ap (λ (b : Bool). cond b (without c.args.t c.args.k) c.args.t)
    (sym (struck-implied c.args.variables c.args.n c.args.words.now c.requires.0 c.args.t c.requires.1 c.args.k
    c.without-u.ensures c.implied.ensures) ∙ c.if-implied.true))

pub returns : goal.returns
returns c =
    sym
    (ap (λ (b : Bool). cond b (without c.args.t c.args.k) c.args.t)
    (sym (struck-implied c.args.variables c.args.n c.args.words.now c.requires.0 c.args.t c.requires.1 c.args.k
    c.without-u.ensures c.implied.ensures) ∙ c.if-implied.false))
