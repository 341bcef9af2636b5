-- The reading of a circuit text is what `ReadsAs` says, and nothing else is.
use Prim.Native.Nat.{ℕ, ◌<◌, ◌≤◌}
use mathlib.Core.Path.{◌≡◌, refl, sym, ap, ◌∙◌}
use mathlib.Core.Logic.{◌⊎◌, inl, inr, ◌≢◌}
use mathlib.Core.List.{List}
use native.Mathlib.Omega.{arith}
use native.Mathlib.Decide.{dec_lt}
use lib.ListN.{length, replicate}
use Rattle.masks.proofs.Tests.{same?}
use Rattle.table.specs.Outcome.{Outcome, answered, refused}
use Rattle.text.specs.Faults.{tree_faults}
use Rattle.text.specs.Language.{FaultAt}
use Rattle.text.specs.Limits.{max_bytes}
use Rattle.text.specs.Meaning.{Bytes, FirstWrong, FirstFault, RefusedAs, ReadsAs}
use Rattle.text.specs.Read.{answers, room_of, read_text, ReadOut}
use Rattle.text.specs.Syntax.{print, Grammatical}
use Rattle.text.proofs.Meaning.{short, long, read-complete, read-sound}
use Rattle.text.proofs.Readers.{same_number, wrong_first, fault-first, wrong-only, fault-only}
use Rattle.text.proofs.Refusals.{text-reader, fault-number, refused-words}
use Rattle.text.proofs.Texts.{read_body}

-- the place of a refusal of a text that is not too long
module _ (s : List ℕ) (m : ℕ) (l : length s ≤ max_bytes) where
  wrong-at : (p : ℕ) → (read_body s m).answer ≡ refused 11 p → FirstWrong s m p
  wrong-at p h =
      record { short = l; at = wrong_first (text-reader m) s p h }

  fault-at : (k p : ℕ) → (read_body s m).answer ≡ refused k p → k ≢ 11 → FirstFault s m k p
  fault-at k p h n =
      let w : FaultAt Grammatical print (tree_faults (room_of m)) s k p = fault-first (text-reader m) s k p h n in
      let (t, rest, gr, e) = w.viable in
      let (fs, c) = w.first t rest gr e in
      record { short = l; number = fault-number (room_of m) t k p fs c; at = w }

  refused_as : (k p : ℕ) → (read_body s m).answer ≡ refused k p → RefusedAs s m k p
  refused_as k p h = by (same? k 11)
    where
      by : (k ≡ 11) ⊎ (k ≢ 11) → RefusedAs s m k p
      by (inl e) = inr (inl (e, wrong-at p (h ∙ ap (λ (z : ℕ). refused z p) e)))
      by (inr n) = inr (inr (fault-at k p h n))

-- the number and the place of a refusal, which leaves every lent word 0
pub refused-is : (s : List ℕ) (m k p : ℕ) → (read_text s m).answer ≡ refused k p
    → ((read_text s m).words ≡ replicate m 0) × RefusedAs s m k p
refused-is s m k p h = by (dec_lt max_bytes (length s))
  where
    by : Dec (max_bytes < length s) → ((read_text s m).words ≡ replicate m 0) × RefusedAs s m k p
    by (yes l) =
        let (e, i) = same_number k p 10 max_bytes (sym h ∙ ap (λ (z : ReadOut). z.answer) (long s m l)) in
        (ap (λ (z : ReadOut). z.words) (long s m l), inl (e, record { long = l; place = i }))
    by (no o) =
        let l : length s ≤ max_bytes = omega arith in
        let e : (read_body s m).answer ≡ refused k p = sym (ap (λ (z : ReadOut). z.answer) (short s m l)) ∙ h in
        (ap (λ (z : ReadOut). z.words) (short s m l ∙ refused-words s m k p e), refused_as s m l k p e)

-- the answer is one that the grammar allows
pub reading-is : (s : List ℕ) (m : ℕ) → Bytes s → ReadsAs s m (read_text s m).answer (read_text s m).words
reading-is s m b = by (read_text s m).answer refl
  where
    by : (o : Outcome (ℕ × ℕ)) → (read_text s m).answer ≡ o → ReadsAs s m o (read_text s m).words
    by (answered v) e =
        read-sound s m v.0 v.1 (read_text s m).words b (λ d. answers (e d) (read_text s m).words)
    by (refused k p) e = refused-is s m k p e

-- and the only one
pub reading-only : (s : List ℕ) (m : ℕ) → Bytes s → (a : Outcome (ℕ × ℕ)) (words : List ℕ) → ReadsAs s m a words
    → read_text s m ≡ answers a words
reading-only s m b (answered v) words h = read-complete s m v.0 v.1 words h
reading-only s m b (refused k p) words (w, h) = by h ∙ ap (λ (z : List ℕ). answers (refused k p) z) (sym w)
  where
    body : length s ≤ max_bytes → (read_body s m).answer ≡ refused k p → read_text s m ≡ answers (refused k p) (replicate m 0)
    body l e = short s m l ∙ refused-words s m k p e

    by : RefusedAs s m k p → read_text s m ≡ answers (refused k p) (replicate m 0)
    by (inl (e, o)) = long s m o.long ∙ λ d. answers (refused (sym e d) (sym o.place d)) (replicate m 0)
    by (inr (inl (e, o))) = body o.short (wrong-only (text-reader m) s p b o.at ∙ ap (λ (z : ℕ). refused z p) (sym e))
    by (inr (inr o)) = body o.short (fault-only (text-reader m) s k p o.at)
