use mathlib.Core.Bool.{not}
use native.Mathlib.Omega.{arith}
use mathlib.Core.Path.{sym}
use Rattle.masks.specs.Numbers.{implied}
use Rattle.masks.proofs.Numbers.{every-fails}
use Rattle.terms.specs.Prime.{implicant}
use Rattle.terms.specs.Term.{mentions, without}
use Rattle.queries.specs.Queries.{circuit}
use Rattle.queries.proofs.Accepted.{every-start, every-next, kept_test}
use Rattle.queries.proofs.primes.is_minimal.Goals as goal

pub loop-x-init : goal.loop-x-init
loop-x-init c = every-start _

pub returns-then-can_strike : goal.returns-then-can_strike
returns-then-can_strike c =
    sym
    (every-fails c.args.variables
    (λ x. implied (mentions c.args.t x)
    (not (implicant c.args.variables (circuit c.args.n c.args.words.now) (without c.args.t x)))) c.loop-x.x (omega arith)
    (kept_test (mentions c.args.t c.loop-x.x)
    (implicant c.args.variables (circuit c.args.n c.args.words.now) (without c.args.t c.loop-x.x))
    c.can_strike.ensures c.if-can_strike.true))

pub loop-x-preserved : goal.loop-x-preserved
loop-x-preserved c =
    every-next (λ x. implied (mentions c.args.t x)
    (not (implicant c.args.variables (circuit c.args.n c.args.words.now) (without c.args.t x)))) c.loop-x.x
    c.loop-x.invariant
    (kept_test (mentions c.args.t c.loop-x.x)
    (implicant c.args.variables (circuit c.args.n c.args.words.now) (without c.args.t c.loop-x.x))
    c.can_strike.ensures c.if-can_strike.false)
