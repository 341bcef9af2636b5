-- `exclusions::fit` meets its contract. The loop's invariant: the first i pairs are of two different variables.
use Prim.Native.Nat.{ℕ}
use mathlib.Core.Path.{◌≡◌}
use mathlib.Core.Bool.{Bool, true}
use mathlib.Core.List.{List}
use Rattle.masks.specs.Numbers.{every}
use Rattle.exclusions.specs.Exclusions.{exclusions, first_at, second_at, distinct}
use Rattle.exclusions.proofs.fit.Given as goal

-- pair i is of two different variables below N
abbrev pub fits : ℕ → List ℕ → List ℕ → ℕ → Bool
fits N fs ss i = distinct N (first_at (exclusions fs ss) i) (second_at (exclusions fs ss) i)

abbrev pub invariant-loop-i : goal.invariant-loop-i
invariant-loop-i l = every l.i (fits l.variables l.firsts l.seconds) ≡ true
