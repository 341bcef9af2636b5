-- What an operation answers, and the scope's numbers of its refusals.
use Rattle.std.specs.Prelude.{ℕ, Result, Ok, Err}
use Rattle.table.specs.declared.Refusal.{Refusal}
use Rattle.table.specs.declared.Refusal.TheVariants.{Sizes, Malformed, Parentless, Undecomposable, Unreduced, Assignment}
use Rattle.table.specs.declared.Refusal.TheVariants.{NotTerm, Unsatisfied, Buffers, Weights, Exclusions, Capacity}

-- a value, or a refusal: its number and its node, place or needed length
pub data Outcome (A : Type 0) : Type 0 where
  answered : A → Outcome A
  refused : ℕ → ℕ → Outcome A

-- the test is passed ("accepted")
abbrev pub accepted : Outcome (Unit {0})
accepted = answered tt

-- what comes after a test: the first refusal stands
abbrev pub after : {A : Type 0} → Outcome (Unit {0}) → Outcome A → Outcome A
after (answered u) o = o
after (refused k i) o = refused k i

-- the number and the node of each refusal of the code; one that names no node comes with node 0
abbrev pub number_of : Refusal → ℕ
number_of Sizes = 21
number_of (Malformed i) = 22
number_of (Parentless i) = 23
number_of (Undecomposable i) = 24
number_of (Unreduced i) = 25
number_of Assignment = 31
number_of NotTerm = 32
number_of Unsatisfied = 33
number_of Buffers = 41
number_of Weights = 56
number_of Exclusions = 57
number_of Capacity = 42

abbrev pub node_of : Refusal → ℕ
node_of Sizes = 0
node_of (Malformed i) = i
node_of (Parentless i) = i
node_of (Undecomposable i) = i
node_of (Unreduced i) = i
node_of Assignment = 0
node_of NotTerm = 0
node_of Unsatisfied = 0
node_of Buffers = 0
node_of Weights = 0
node_of Exclusions = 0
node_of Capacity = 0

abbrev pub refused_by : {A : Type 0} → Refusal → Outcome A
refused_by r = refused (number_of r) (node_of r)

-- what the code answers: a value, or why not
abbrev pub outcome : {A : Type 0} → Result A Refusal → Outcome A
outcome (Ok a) = answered a
outcome (Err r) = refused_by r
