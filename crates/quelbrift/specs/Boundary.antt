-- The answers at the boundary to C: numbers only.
use Rattle.std.specs.Prelude.{ℕ, ◌*◌, Bool, cond, List, eqb, length, Result, Ok, Err}
use Rattle.table.specs.Outcome.{Outcome, answered, refused}
use Rattle.terms.specs.declared.Term.{Term}
use Rattle.quelbrift.specs.declared.answer.Answer.{Answer}

-- raised whenever an exported function or an answer changes
abbrev pub version : ℕ
version = 7

abbrev pub done_with : ℕ → ℕ → ℕ → Answer
done_with first second third = record { number = 0; place = 0; first = first; second = second; third = third }

abbrev pub refused_at : ℕ → ℕ → Answer
refused_at number place = record { number = number; place = place; first = 0; second = 0; third = 0 }

-- the values where the work is done; the number and the place of a refusal, which has no values
abbrev pub answer_of : {A : Type 0} → (A → ℕ × (ℕ × ℕ)) → Outcome A → Answer
answer_of values (answered a) = done_with (values a).0 (values a).1.0 (values a).1.1
answer_of values (refused k p) = refused_at k p

-- the same of what the code answers, where a reason gives the number and the place
abbrev pub answer_by : {A E : Type 0} → (A → ℕ × (ℕ × ℕ)) → (E → ℕ × ℕ) → Result A E → Answer
answer_by values reason (Ok a) = done_with (values a).0 (values a).1.0 (values a).1.1
answer_by values reason (Err e) = refused_at (reason e).0 (reason e).1

-- the number and the place of a refusal
abbrev pub reason_of : {A : Type 0} → Outcome A → ℕ × ℕ
reason_of (answered a) = (0, 0)
reason_of (refused k p) = (k, p)

-- ---- the three values of each kind of answer; one that is not there is 0
abbrev pub nothing : Unit {0} → ℕ × (ℕ × ℕ)
nothing u = (0, (0, 0))

abbrev pub number : ℕ → ℕ × (ℕ × ℕ)
number m = (m, (0, 0))

abbrev pub numbers : ℕ × ℕ → ℕ × (ℕ × ℕ)
numbers p = (p.0, (p.1, 0))

abbrev pub triple : ℕ × (ℕ × ℕ) → ℕ × (ℕ × ℕ)
triple p = p

abbrev pub truth : Bool → ℕ × (ℕ × ℕ)
truth b = (cond b 1 0, (0, 0))

abbrev pub masks : Term → ℕ × (ℕ × ℕ)
masks t = (t.positive, (t.negative, 0))

-- the offset of a part of node i in a buffer of capacity R, and its length; the empty part stands at 0
abbrev pub placed : ℕ → ℕ → List ℕ → ℕ × (ℕ × ℕ)
placed R i part = cond (eqb (length part) 0) (0, (0, 0)) (i * R, (length part, 0))
