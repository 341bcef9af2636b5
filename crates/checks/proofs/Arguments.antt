-- What acceptance of a table with an argument says of both.
use Prim.Native.Nat.{ℕ}
use mathlib.Core.Path.{◌≡◌, ap}
use mathlib.Core.Bool.{Bool, true, false, cond}
use mathlib.Core.List.{List}
use native.Mathlib.Omega.{arith}
use lib.Dec.{T}
use Rattle.masks.specs.Mask.{within}
use Rattle.table.specs.Outcome.{accepted, after, Outcome, answered, refused}
use Rattle.terms.specs.Term.{is_term}
use Rattle.terms.specs.declared.Term.{Term}
use Rattle.circuits.specs.Check.{check}
use Rattle.checks.specs.Arguments.{check_assignment, check_term}

-- both tests are passed
passed : (chk : Outcome (Unit {0})) (b : Bool) (k : ℕ) → after chk (cond b accepted (refused k 0)) ≡ accepted → (chk ≡ accepted) × T b
passed (answered u) true k e = (λ i. accepted, tt)
passed (answered u) false k e = let z : ◌≡◌ {A = ℕ} 0 1 = cc in absurd (omega arith)
passed (refused j p) b k e = let z : ◌≡◌ {A = ℕ} 0 1 = cc in absurd (omega arith)

pub assignment-e : (N n : ℕ) (w : List ℕ) (s : ℕ) → check_assignment N n w s ≡ accepted → (check N n w ≡ accepted) × T (within N s)
unfolding check_assignment
assignment-e N n w s e = passed (check N n w) (within N s) 31 e

pub term-e : (N n : ℕ) (w : List ℕ) (t : Term) → check_term N n w t ≡ accepted → (check N n w ≡ accepted) × T (is_term N t)
unfolding check_term
term-e N n w t e = passed (check N n w) (is_term N t) 32 e

-- and what gives it
both-passed : (chk : Outcome (Unit {0})) (b : Bool) (k : ℕ) → chk ≡ accepted → T b → after chk (cond b accepted (refused k 0)) ≡ accepted
both-passed chk true k e t = ap (λ (z : Outcome (Unit {0})). after z accepted) e
both-passed chk false k e t = absurd t

pub assignment-i : (N n : ℕ) (w : List ℕ) (s : ℕ) → check N n w ≡ accepted → T (within N s) → check_assignment N n w s ≡ accepted
unfolding check_assignment
assignment-i N n w s e t = both-passed (check N n w) (within N s) 31 e t

pub term-i : (N n : ℕ) (w : List ℕ) (t : Term) → check N n w ≡ accepted → T (is_term N t) → check_term N n w t ≡ accepted
unfolding check_term
term-i N n w t e h = both-passed (check N n w) (is_term N t) 32 e h
