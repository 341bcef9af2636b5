-- What an operation on a table answers and leaves in the buffers that it is lent: it refuses as the check of the table does, then by the
-- first of its own tests that fails.
use Rattle.std.specs.Prelude.{ℕ, Bool, cond, List, [], ◌∷◌}
use Rattle.table.specs.Outcome.{Outcome, answered, refused}

-- the answer, with the buffers afterwards
pub record Out (A B : Type 0) : Type 0 where
  pub answer : Outcome A
  pub after : B

-- refused by the number k with the node i: every buffer as it was
abbrev pub untouched : {A B : Type 0} → ℕ → ℕ → B → Out A B
untouched k i b = record { answer = refused k i; after = b }

-- the first test that fails refuses by its number; where all are passed it is o
abbrev pub after_tests : {A B : Type 0} → List (Bool × ℕ) → B → Out A B → Out A B
after_tests [] b o = o
after_tests (t ∷ ts) b o = cond t.0 (after_tests ts b o) (untouched t.1 0 b)

-- by the answer of the check
abbrev pub guarded : {A B : Type 0} → Outcome (Unit {0}) → List (Bool × ℕ) → B → Out A B → Out A B
guarded (refused k i) ts b o = untouched k i b
guarded (answered u) ts b o = after_tests ts b o
