-- `partial::judge` meets its contract.
use native.Mathlib.Omega.{arith}
use Rattle.queries.specs.Queries.{circuit}
use Rattle.queries.proofs.Accepted.{accepted-narrow}
use Rattle.partial.proofs.Judged.{unknown-rest, completions-are, judged-by}
use Rattle.partial.proofs.judge.Goals as goal

pub completions-requires : goal.completions-requires
completions-requires c =
    let x = c.args in
    let rest = unknown-rest x.variables x.n x.words.now c.requires.0 x.t c.requires.1 in
    (accepted-narrow x.variables x.n x.words.now c.requires.0, omega (arith, rest))

-- all completions, by the two numbers of them
pub overflow_sub-countermodels : goal.overflow_sub-countermodels
overflow_sub-countermodels c =
    let x = c.args in
    let sum = completions-are x.variables x.n x.words.now c.requires.0 x.t c.requires.1 (circuit x.n x.words.now) in
    omega (arith, c.completions.ensures, sum, c.models_under-models.ensures)

pub returns : goal.returns
returns c =
    let x = c.args in
    let f = circuit x.n x.words.now in
    let sum = completions-are x.variables x.n x.words.now c.requires.0 x.t c.requires.1 f in
    judged-by x.variables x.n x.words.now c.requires.0 x.t c.requires.1 f _ _ _ c.status_of.ensures
    c.models_under-models.ensures (omega (arith, c.completions.ensures, sum, c.models_under-models.ensures))
