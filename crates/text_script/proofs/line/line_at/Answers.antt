-- `text_script::line::line_at` meets its contract.
use Rattle.std.proofs.Common.{◌≡◌, ℕ, Result, Ok, Err, MatchResult, IsErrAnd, rules, refl, sym, ◌∙◌}
use Rattle.std.proofs.lemmas.Result.{err_from_is_err_and}
use Rattle.text_script.specs.declared.answer.ScriptFault.{ScriptFault}
use Rattle.text_script.specs.declared.answer.ScriptFault.TheVariants.{Shape}
use Rattle.text_script.proofs.Reading.{set-differs, set_past, drop-differs, drop_past, other-reads}
use Rattle.text_script.proofs.line.line_at.Goals as goal

-- a word that differs is of a wrong shape there
differs : (m : Result ℕ ℕ) (f : ScriptFault) → MatchResult m (λ x. ◌≡◌ {A = Result ℕ ScriptFault} (Err f) (Ok x))
    (λ q. IsErrAnd {T = ℕ} (Err f) (λ g. g ≡ Shape q)) → (p : ℕ) × (m ≡ Err p) × (f ≡ Shape p)
differs (Ok x) f h = cc
differs (Err q) f h = (q, refl, h)

pub returns-in_err-p : goal.returns-in_err-p
returns-in_err-p c =
    let p = err_from_is_err_and c.from_residual.result c.from_residual.ensures.1 in
    let (q, m, d) = differs _ _ c.in_err-p.ensures.cases in
    rw (p.1, p.2, d) (set-differs _ _ _ c.byte_at-c.ensures q c.if-c-eq-SMALL_S.true (sym m ∙ c.match_at.ensures.0), tt)

pub returns-then-c-eq-SMALL_S : goal.returns-then-c-eq-SMALL_S
returns-then-c-eq-SMALL_S c =
    let i : c.match_at.result ≡ Ok c.in_ok-p.p = search rules in
    let m = rw i at c.match_at.ensures in
    set_past _ _ _ c.byte_at-c.ensures c.set_at.result _ c.if-c-eq-SMALL_S.true m.0 m.1 c.set_at.ensures

pub returns-in_err-p-2 : goal.returns-in_err-p-2
returns-in_err-p-2 c =
    let p = err_from_is_err_and c.from_residual-in_err-p-2.result c.from_residual-in_err-p-2.ensures.1 in
    let (q, m, d) = differs _ _ c.in_err-p-2.ensures.cases in
    rw (p.1, p.2, d)
    (drop-differs _ _ _ c.byte_at-c.ensures q c.if-c-eq-SMALL_D.true (sym m ∙ c.match_at-then-c-eq-SMALL_D.ensures.0), tt)

pub returns-then-c-eq-SMALL_D : goal.returns-then-c-eq-SMALL_D
returns-then-c-eq-SMALL_D c =
    let i : c.match_at-then-c-eq-SMALL_D.result ≡ Ok c.in_ok-p-2.p = search rules in
    let m = rw i at c.match_at-then-c-eq-SMALL_D.ensures in
    drop_past _ _ _ c.byte_at-c.ensures c.drop_at.result _ c.if-c-eq-SMALL_D.true m.0 m.1 c.drop_at.ensures

pub returns : goal.returns
returns c =
    (other-reads _ _ _ c.byte_at-c.ensures c.if-c-eq-SMALL_S.false c.if-c-eq-SMALL_D.false, tt)
