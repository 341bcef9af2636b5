use Rattle.std.proofs.Common.{◌≡◌, ℕ, List, Option, Result, sym, ap, ◌∙◌}
use Rattle.std.proofs.lemmas.Result.{err_from_is_err_and}
use Rattle.text_assignment.specs.Line.{members}
use Rattle.text_assignment.specs.Members.{member_at}
use Rattle.text_assignment.specs.declared.assignment.AssignmentFault.{AssignmentFault}
use Rattle.text_assignment.proofs.Members.{rest, member_then, turn}
use Rattle.text_assignment.proofs.assignment.members.Goals as goal

-- what follows the member x that is read next
follows : (s : List ℕ) (N low mask at : ℕ) (x : Result (Option (ℕ × ℕ)) AssignmentFault) → x ≡ member_at s N low at → (start : ℕ)
    → rest s N (members 0 0) start ≡ rest s N (members low mask) at → member_then s N mask at x ≡ rest s N (members 0 0) start
follows s N low mask at x e start i = ap (member_then s N mask at) e ∙ turn s N low mask at ∙ sym i

same-mask : (s : List ℕ) (N low at m m' : ℕ) → m ≡ m' → rest s N (members low m) at ≡ rest s N (members low m') at
same-mask s N low at m m' e = ap (λ (z : ℕ). rest s N (members low z) at) e

pub returns-in_err-v : goal.returns-in_err-v
returns-in_err-v c =
    let p = err_from_is_err_and c.from_residual.result c.from_residual.ensures.1 in
    rw (p.1, p.2) (follows _ _ _ _ _ _ c.in_err-v.ensures.0 _ c.loop-v.invariant.1)

pub loop-v-preserved : goal.loop-v-preserved
loop-v-preserved c =
    let h = rw c.in-Some.is at c.in_ok-v.ensures in
    (h.1.2, sym (follows _ _ _ _ _ _ h.0 _ c.loop-v.invariant.1) ∙ same-mask _ _ _ _ _ _ (sym c.with_bit-mask.ensures))

pub returns : goal.returns
returns c =
    let h = rw c.in_default.is at c.in_ok-v.ensures in
    c.closed.ensures ∙ follows _ _ _ _ _ _ h.0 _ c.loop-v.invariant.1
