-- `table::words::check_words` meets its contract.
use Prim.Native.Nat.{ℕ}
use mathlib.Core.Path.{◌≡◌, sym, ◌∙◌}
use mathlib.Core.Bool.{Bool, true}
use mathlib.Core.List.{List, [], ◌∷◌}
use native.Mathlib.Omega.{arith}
use borrow.Author.Rules.{rules}
use Rattle.masks.proofs.Tests.{along}
use Rattle.masks.proofs.Least.{first-some}
use Rattle.table.specs.Words.{in_range, malformed, check_words, first_fault}
use Rattle.table.proofs.Checking.{range-e, fault-here, fault-later, out_of_range, in-range}
use Rattle.table.proofs.words.check_words.Goals as goal

-- the one rule after 21
module _ (N n : ℕ) (w : List ℕ) where
  abbrev table_rules : List (ℕ × (ℕ → Bool))
  table_rules = (22, malformed N w) ∷ []

  past-21 : in_range N n w ≡ true → check_words N n w ≡ first_fault n table_rules
  unfolding check_words
  past-21 e = in-range N n w table_rules e

pub returns-then-not-in_range : goal.returns-then-not-in_range
unfolding check_words
returns-then-not-in_range c =
    let x = c.args in
    sym
    (out_of_range x.variables x.nodes x.words.now (table_rules x.variables x.nodes x.words.now)
    (sym c.in_range.ensures ∙ c.if-not-in_range.true))

pub first_malformed-requires : goal.first_malformed-requires
first_malformed-requires c =
    let x = c.args in
    let r = range-e x.variables x.nodes x.words.now (along (sym (sym c.in_range.ensures ∙ c.if-not-in_range.false)) tt) in
    (r.2, r.3)

pub overflow_cast-result : goal.overflow_cast-result
overflow_cast-result c =
    let found = first-some (malformed c.args.variables c.args.words.now) c.args.nodes (sym c.first_malformed.ensures ∙ c.in-Some.is) in
    search (rules, found, arith)

pub returns-in-Some : goal.returns-in-Some
returns-in-Some c =
    let x = c.args in
    sym
    (past-21 x.variables x.nodes x.words.now (sym c.in_range.ensures ∙ c.if-not-in_range.false)
    ∙ fault-here x.nodes 22 (malformed x.variables x.words.now) [] (sym c.first_malformed.ensures ∙ c.in-Some.is))

pub returns-in-None : goal.returns-in-None
returns-in-None c =
    let x = c.args in
    sym
    (past-21 x.variables x.nodes x.words.now (sym c.in_range.ensures ∙ c.if-not-in_range.false)
    ∙ fault-later x.nodes 22 (malformed x.variables x.words.now) [] (sym c.first_malformed.ensures ∙ c.in-None.is))
