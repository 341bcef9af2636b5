-- `queries::primes::is_prime_of` meets its contract.
use mathlib.Core.Path.{sym, ◌∙◌}
use mathlib.Core.Bool.{true, false}
use Rattle.passes.proofs.ModelPass.{accepted-readable}
use Rattle.queries.specs.Queries.{circuit}
use Rattle.queries.proofs.Accepted.{implied-circuit, prime-test}
use Rattle.queries.proofs.primes.is_prime_of.Goals as goal

pub implied-requires : goal.implied-requires
implied-requires c = accepted-readable c.args.variables c.args.n c.args.words.now c.requires.0

pub returns-then-implied : goal.returns-then-implied
returns-then-implied c =
    c.is_minimal.ensures
    ∙ sym
    (prime-test c.args.variables (circuit c.args.n c.args.words.now) c.args.t true c.requires.1
    (c.implied.ensures ∙ implied-circuit c.args.variables c.args.n c.args.words.now c.requires.0 c.args.t
    c.requires.1) c.if-implied.true)

pub returns-else-implied : goal.returns-else-implied
returns-else-implied c =
    c.if-implied.false
    ∙ sym
    (prime-test c.args.variables (circuit c.args.n c.args.words.now) c.args.t false c.requires.1
    (c.implied.ensures ∙ implied-circuit c.args.variables c.args.n c.args.words.now c.requires.0 c.args.t
    c.requires.1) c.if-implied.false)
