-- Where the reading of a circuit text and of an assignment line may be refused.
use Prim.Native.Nat.{ℕ, ◌≤◌, ◌<◌}
use mathlib.Core.Path.{◌≡◌, refl}
use mathlib.Core.Logic.{inl, inr}
use mathlib.Core.List.{List, [], ◌∷◌}
use native.Mathlib.Omega.{arith}
use native.Mathlib.Decide.{dec_le}
use lib.ListN.{length, replicate}
use Rattle.table.specs.Outcome.{Outcome, answered, refused}
use Rattle.text.specs.Meaning.{RefusedAs}
use Rattle.text.specs.Read.{read_text}
use Rattle.text.proofs.Determined.{refused-is}
use Rattle.text_assignment.specs.Line.{read_assignment}
use Rattle.text_assignment.specs.Meaning.{LineReadsAs}
use Rattle.text_assignment.proofs.Lines.{line-refused-is, line-number}
use Rattle.demands.specs.Demands.{Below, Among, Answers, read_refusals, line_refusals}

-- one of four numbers, each with the same places
fault-among : (l k p : ℕ) → 12 ≤ k → k ≤ 15 → p < l → Among (read_refusals l) k p
fault-among l k p lo hi i = inr (inr (by (dec_le k 12) (dec_le k 13) (dec_le k 14)))
  where
    by : Dec (k ≤ 12) → Dec (k ≤ 13) → Dec (k ≤ 14) → Among ((12, Below l) ∷ (13, Below l) ∷ (14, Below l) ∷ (15, Below l) ∷ []) k p
    by (yes a) b c = inl (omega arith, i)
    by (no a) (yes b) c = inr (inl (omega arith, i))
    by (no a) (no b) (yes c) = inr (inr (inl (omega arith, i)))
    by (no a) (no b) (no c) = inr (inr (inr (inl (omega arith, i))))

refused-among : (s : List ℕ) (m k p : ℕ) → RefusedAs s m k p → Among (read_refusals (length s)) k p
refused-among s m k p (inl (e, o)) = inl (e, o.place)
refused-among s m k p (inr (inl (e, o))) = inr (inl (e, o.at.inside))
refused-among s m k p (inr (inr o)) = fault-among (length s) k p o.number.0 o.number.1 o.at.inside

pub read-answers : (s : List ℕ) (m : ℕ) → Answers (read_refusals (length s)) (read_text s m).answer
read-answers s m = by (read_text s m).answer refl
  where
    by : (o : Outcome (ℕ × ℕ)) → (read_text s m).answer ≡ o → Answers (read_refusals (length s)) o
    by (answered v) h = tt
    by (refused k p) h = refused-among s m k p (refused-is s m k p h).1

-- a refusal leaves every lent word 0
pub read-zeros : (s : List ℕ) (m k p : ℕ) → (read_text s m).answer ≡ refused k p → (read_text s m).words ≡ replicate m 0
read-zeros s m k p h = (refused-is s m k p h).0

line-among : (s : List ℕ) (N k p : ℕ) → LineReadsAs s N (refused k p) → Among (line_refusals (length s)) k p
line-among s N k p (inl (e, i, t)) = inl (e, i)
line-among s N k p (inr (t, inl (e, o))) = inr (inl (e, o.inside))
line-among s N k p (inr (t, inr (n, o))) = inr (inr (inl (line-number s N k p o, o.inside)))

pub line-answers : (s : List ℕ) (N : ℕ) → Answers (line_refusals (length s)) (read_assignment s N)
line-answers s N = by (read_assignment s N) refl
  where
    by : (o : Outcome ℕ) → read_assignment s N ≡ o → Answers (line_refusals (length s)) o
    by (answered v) h = tt
    by (refused k p) h = line-among s N k p (line-refused-is s N k p h)
