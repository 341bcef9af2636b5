use native.Mathlib.Omega.{arith}
use borrow.Author.Rules.{rules}
use Rattle.masks.proofs.Least.{search-start, search-next, first-found, first-none}
use Rattle.table.specs.Words.{malformed}
use Rattle.table.proofs.words.first_malformed.Goals as goal

pub loop-i-init : goal.loop-i-init
loop-i-init c = (search rules, search-start _)

pub returns-then-is_malformed : goal.returns-then-is_malformed
returns-then-is_malformed c =
    let l = c.before.before.before in
    let x = l.before.before.args in
    first-found (malformed x.variables x.words.now) x.n l.loop-i.i (omega arith) l.loop-i.invariant.1
    c.before.is_malformed.ensures c.if-is_malformed.true

pub loop-i-preserved : goal.loop-i-preserved
loop-i-preserved c =
    let l = c.before.before.before in
    let x = l.before.before.args in (
      search rules,
      search-next (malformed x.variables x.words.now) l.loop-i.i l.loop-i.invariant.1
          c.before.is_malformed.ensures c.if-is_malformed.false,
    )

pub returns : goal.returns
returns c =
    let l = c.before in
    let x = l.before.before.args in
    first-none (malformed x.variables x.words.now) x.n l.loop-i.i (omega arith) (omega arith) l.loop-i.invariant.1
