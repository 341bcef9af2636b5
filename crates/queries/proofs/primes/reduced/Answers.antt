use Rattle.terms.specs.Prime.{implicant}
use Rattle.terms.specs.Term.{without}
use Rattle.queries.specs.Queries.{circuit}
use Rattle.queries.proofs.Accepted.{reduce-start, reduce-next, struck-or-not}
use Rattle.queries.proofs.primes.reduced.Goals as goal

pub loop-k-init : goal.loop-k-init
loop-k-init c =
    (reduce-start c.args.variables (circuit c.args.n c.args.words.now) c.args.t, c.requires.1)

pub loop-k-preserved : goal.loop-k-preserved
loop-k-preserved c =
    let f = circuit c.args.n c.args.words.now in (
      reduce-next c.args.variables f c.args.t c.loop-k.k c.loop-k.u c.strike-u.result c.loop-k.invariant.0
          c.strike-u.ensures,
      struck-or-not c.args.variables c.loop-k.u c.loop-k.k
          (implicant c.args.variables f (without c.loop-k.u c.loop-k.k)) c.loop-k.invariant.1 c.strike-u.ensures,
    )
