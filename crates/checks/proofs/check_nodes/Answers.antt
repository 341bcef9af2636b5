-- `checks::check_nodes` meets its contract.
use Prim.Native.Nat.{ℕ}
use mathlib.Core.Path.{sym, ◌∙◌}
use mathlib.Core.Bool.{Bool}
use mathlib.Core.List.{List, [], ◌∷◌}
use borrow.Author.Rules.{rules}
use native.Mathlib.Omega.{arith}
use Rattle.masks.proofs.Least.{first-some}
use Rattle.table.proofs.Checking.{fault-here, fault-later}
use Rattle.circuits.specs.Check.{parentless, undecomposable, unreduced}
use Rattle.checks.proofs.check_nodes.Goals as goal

-- the rules from each number on
abbrev rules-25 : List ℕ → List (ℕ × (ℕ → Bool))
rules-25 w = (25, unreduced w) ∷ []

abbrev rules-24 : List ℕ → List (ℕ × (ℕ → Bool))
rules-24 w = (24, undecomposable w) ∷ rules-25 w

pub overflow_cast-result : goal.overflow_cast-result
overflow_cast-result c =
    let found = first-some (parentless c.args.words.now c.args.n) c.args.n (sym c.first_parentless.ensures ∙ c.in-Some.is) in
    let r = c.requires.1.nodes in
    search (rules, found, arith)

pub returns-in-Some : goal.returns-in-Some
returns-in-Some c =
    let w = c.args.words.now in
    sym (fault-here c.args.n 23 (parentless w c.args.n) (rules-24 w) (sym c.first_parentless.ensures ∙ c.in-Some.is))

pub overflow_cast-result-in-Some-first_undecomposable : goal.overflow_cast-result-in-Some-first_undecomposable
overflow_cast-result-in-Some-first_undecomposable c =
    let found = first-some (undecomposable c.args.words.now) c.args.n (sym c.first_undecomposable.ensures ∙ c.in-Some-first_undecomposable.is) in
    let r = c.requires.1.nodes in
    search (rules, found, arith)

pub returns-in-Some-first_undecomposable : goal.returns-in-Some-first_undecomposable
returns-in-Some-first_undecomposable c =
    let w = c.args.words.now in
    sym
    (fault-later c.args.n 23 (parentless w c.args.n) (rules-24 w) (sym c.first_parentless.ensures ∙ c.in_default.is)
    ∙ fault-here c.args.n 24 (undecomposable w) (rules-25 w) (sym c.first_undecomposable.ensures ∙ c.in-Some-first_undecomposable.is))

pub overflow_cast-result-in-Some-first_unreduced : goal.overflow_cast-result-in-Some-first_unreduced
overflow_cast-result-in-Some-first_unreduced c =
    let found = first-some (unreduced c.args.words.now) c.args.n (sym c.first_unreduced.ensures ∙ c.in-Some-first_unreduced.is) in
    let r = c.requires.1.nodes in
    search (rules, found, arith)

pub returns-in-Some-first_unreduced : goal.returns-in-Some-first_unreduced
returns-in-Some-first_unreduced c =
    let w = c.args.words.now in
    sym
    (fault-later c.args.n 23 (parentless w c.args.n) (rules-24 w) (sym c.first_parentless.ensures ∙ c.in_default.is)
    ∙ fault-later c.args.n 24 (undecomposable w) (rules-25 w) (sym c.first_undecomposable.ensures ∙ c.in_default-first_undecomposable.is)
    ∙ fault-here c.args.n 25 (unreduced w) [] (sym c.first_unreduced.ensures ∙ c.in-Some-first_unreduced.is))

pub returns : goal.returns
returns c =
    let w = c.args.words.now in
    sym
    (fault-later c.args.n 23 (parentless w c.args.n) (rules-24 w) (sym c.first_parentless.ensures ∙ c.in_default.is)
    ∙ fault-later c.args.n 24 (undecomposable w) (rules-25 w) (sym c.first_undecomposable.ensures ∙ c.in_default-first_undecomposable.is)
    ∙ fault-later c.args.n 25 (unreduced w) [] (sym c.first_unreduced.ensures ∙ c.in_default-first_unreduced.is))
