-- Where the writing of a table may be refused, and what it leaves in the sink.
use Prim.Native.Nat.{ℕ}
use mathlib.Core.Path.{◌≡◌, refl, sym, ap, ◌∙◌}
use mathlib.Core.Bool.{Bool, true, false, cond}
use mathlib.Core.Logic.{inl}
use mathlib.Core.List.{List, [], ◌∷◌, ◌++◌}
use native.Mathlib.Omega.{arith}
use lib.Dec.{ltb, ltb→lt}
use lib.ListN.{length, drop}
use lib.Seq.{drop_at}
use Rattle.masks.proofs.Tests.{along}
use Rattle.table.specs.Outcome.{Outcome, answered, refused}
use Rattle.table.specs.Words.{malformed, check_words}
use Rattle.text.specs.Write.{table_text, write_text, write_checked, write_table, WriteOut}
use Rattle.text.proofs.Readers.{value_not, same_number}
use Rattle.demands.specs.Demands.{At, Below, Above, Refusals, Answers, write_refusals}
use Rattle.demands.proofs.Answers.{among-left, answers-right, check-by-answers, among-other}

-- the refusals of the words of a table of n nodes
abbrev word_refusals : ℕ → Refusals
word_refusals n = (21, At 0) ∷ (22, Below n) ∷ []

words-answers : (N n : ℕ) (w : List ℕ) → Answers (word_refusals n) (check_words N n w)
unfolding check_words
words-answers N n w = check-by-answers N n w ((22, malformed N w) ∷ [])

module _ (text sink : List ℕ) where
  -- the two cases of a text
  abbrev by_length : Bool → WriteOut
  by_length b =
      cond b (record { answer = refused 16 (length text); sink = sink })
      (record { answer = answered (length text); sink = text ++ drop (length text) sink })

  text-answers : (b : Bool) → ltb (length sink) (length text) ≡ b → Answers ((16, Above (length sink)) ∷ []) (by_length b).answer
  text-answers true e = inl (refl, ltb→lt (length sink) (length text) (along (sym e) tt))
  text-answers false e = tt

  text-short : (b : Bool) (k p : ℕ) → (by_length b).answer ≡ refused k p → p ≡ length text
  text-short true k p h = sym (same_number 16 (length text) k p h).1
  text-short false k p h = absurd (value_not (length text) k p h)

  text-refused : (b : Bool) (k p : ℕ) → (by_length b).answer ≡ refused k p → (by_length b).sink ≡ sink
  text-refused true k p h = refl
  text-refused false k p h = absurd (value_not (length text) k p h)

  text-past : (b : Bool) (k : ℕ) → (by_length b).answer ≡ answered k → drop k (by_length b).sink ≡ drop k sink
  text-past true k h = absurd (value_not k 16 (length text) (sym h))
  text-past false k h =
      let e : length text ≡ k = cc in
      drop_at text (drop (length text) sink) k e ∙ ap (λ (z : ℕ). drop z sink) e

  -- ---- by the answer of the check
  checked-answers : (rs : Refusals) (c : Outcome (Unit {0})) → Answers rs c
      → Answers (rs ++ ((16, Above (length sink)) ∷ [])) (write_checked text sink c).answer
  checked-answers rs (answered u) h =
      answers-right rs ((16, Above (length sink)) ∷ []) (write_text text sink).answer
      (text-answers (ltb (length sink) (length text)) refl)
  checked-answers rs (refused k i) h = among-left rs ((16, Above (length sink)) ∷ []) k i h

  checked-short : (n : ℕ) (c : Outcome (Unit {0})) (p : ℕ) → Answers (word_refusals n) c
      → (write_checked text sink c).answer ≡ refused 16 p → p ≡ length text
  checked-short n (answered u) p a h = text-short (ltb (length sink) (length text)) 16 p h
  checked-short n (refused k i) p a h = absurd (among-other 16 (word_refusals n) k i (omega arith) a (same_number k i 16 p h).0)

  checked_refused : (c : Outcome (Unit {0})) (k p : ℕ) → (write_checked text sink c).answer ≡ refused k p
      → (write_checked text sink c).sink ≡ sink
  checked_refused (answered u) k p h = text-refused (ltb (length sink) (length text)) k p h
  checked_refused (refused e i) k p h = refl

  checked-past : (c : Outcome (Unit {0})) (k : ℕ) → (write_checked text sink c).answer ≡ answered k
      → drop k (write_checked text sink c).sink ≡ drop k sink
  checked-past (answered u) k h = text-past (ltb (length sink) (length text)) k h
  checked-past (refused e i) k h = refl

-- ---- the table as text
module _ (N n : ℕ) (w sink : List ℕ) where
  pub write-answers : Answers (write_refusals n (length sink)) (write_table N n w sink).answer
  unfolding write_table
  write-answers = checked-answers (table_text N n w) sink (word_refusals n) (check_words N n w) (words-answers N n w)

  pub write-needed : (p : ℕ) → (write_table N n w sink).answer ≡ refused 16 p → p ≡ length (table_text N n w)
  unfolding write_table
  write-needed p = checked-short (table_text N n w) sink n (check_words N n w) p (words-answers N n w)

  pub write_kept : (k p : ℕ) → (write_table N n w sink).answer ≡ refused k p → (write_table N n w sink).sink ≡ sink
  unfolding write_table
  write_kept = checked_refused (table_text N n w) sink (check_words N n w)

  pub write-rest : (k : ℕ) → (write_table N n w sink).answer ≡ answered k → drop k (write_table N n w sink).sink ≡ drop k sink
  unfolding write_table
  write-rest = checked-past (table_text N n w) sink (check_words N n w)
