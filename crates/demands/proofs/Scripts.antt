-- Where the reading of a loading script may be refused, and what it leaves in the list of steps.
use Prim.Native.Nat.{ℕ}
use mathlib.Core.Path.{◌≡◌, refl, sym, ap, ◌∙◌}
use mathlib.Core.Logic.{inl, inr}
use mathlib.Core.List.{List}
use lib.ListN.{length, drop}
use lib.Seq.{drop_at}
use Rattle.steps.specs.declared.Step.{Step}
use Rattle.table.specs.Outcome.{Outcome, answered, refused}
use Rattle.text.proofs.Readers.{value_not, same-value}
use Rattle.text_script.specs.Meaning.{ScriptReadsAs}
use Rattle.text_script.specs.Script.{read_steps, filled, read_script, ScriptOut}
use Rattle.text_script.proofs.Lines.{script-refused-is, script-number}
use Rattle.demands.specs.Demands.{Among, Answers, script_refusals}

script-among : (s : List ℕ) (N l k p : ℕ) → ScriptReadsAs s N l (refused k p) → Among (script_refusals (length s)) k p
script-among s N l k p (inl (e, i, t)) = inl (e, i)
script-among s N l k p (inr (t, inl (e, o))) = inr (inl (e, o.inside))
script-among s N l k p (inr (t, inr (n, o))) = inr (inr (inl (script-number s N l k p o, o.inside)))

module _ (s : List ℕ) (N : ℕ) (list : List Step) where
  -- ---- by what the script is read as
  filled-answers : (o : Outcome (List Step)) → read_steps s N (length list) ≡ o → Answers (script_refusals (length s)) (filled list o).answer
  filled-answers (answered es) e = tt
  filled-answers (refused k p) e = script-among s N (length list) k p (script-refused-is s N (length list) k p e)

  filled-kept : (o : Outcome (List Step)) (k p : ℕ) → (filled list o).answer ≡ refused k p → (filled list o).steps ≡ list
  filled-kept (answered es) k p h = absurd (value_not (length es) k p h)
  filled-kept (refused j i) k p h = refl

  filled-rest : (o : Outcome (List Step)) (k : ℕ) → (filled list o).answer ≡ answered k → drop k (filled list o).steps ≡ drop k list
  filled-rest (answered es) k h =
      let e : length es ≡ k = same-value (length es) k h in
      drop_at es (drop (length es) list) k e ∙ ap (λ (j : ℕ). drop j list) e
  filled-rest (refused j i) k h = absurd (value_not k j i (sym h))

  -- ---- the reading
  abbrev out : ScriptOut
  out = read_script s N list

  pub script-answers : Answers (script_refusals (length s)) out.answer
  unfolding read_script
  script-answers = filled-answers (read_steps s N (length list)) refl

  pub script-kept : (k p : ℕ) → out.answer ≡ refused k p → out.steps ≡ list
  unfolding read_script
  script-kept = filled-kept (read_steps s N (length list))

  pub script-rest : (k : ℕ) → out.answer ≡ answered k → drop k out.steps ≡ drop k list
  unfolding read_script
  script-rest = filled-rest (read_steps s N (length list))
