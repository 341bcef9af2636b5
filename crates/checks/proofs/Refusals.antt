-- A refusal that `?` hands on.
use mathlib.Core.Path.{◌≡◌, ap, ◌∙◌}
use Rattle.std.specs.Prelude.{Result, Ok, Err, IsErr, IsErrAnd}
use Rattle.table.specs.Outcome.{after, outcome, Outcome}
use Rattle.table.specs.declared.Refusal.{Refusal}
use Rattle.table.proofs.Outcomes.{refusal-stands}

pub handed : {A E : Type 0} (e : E) (d : Result A E) → IsErr d × IsErrAnd d (λ f. f ≡ e) → d ≡ Err e
handed e (Ok a) h = absurd h.1
handed e (Err f) h = ap Err h.1

-- it stands for what comes after the test
pub refusal-handed : {A : Type 0} {chk : Outcome (Unit {0})} {c : Result (Unit {0}) Refusal} {r : Refusal} → outcome c ≡ chk → c ≡ Err r
    → (d : Result A Refusal) → IsErr d × IsErrAnd d (λ e. e ≡ r) → (o : Outcome A) → outcome d ≡ after chk o
refusal-handed e f d h o = ap outcome (handed _ d h) ∙ refusal-stands e o f
