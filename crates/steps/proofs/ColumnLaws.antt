-- Laws of the columns of a list of steps, and of the steps that are read from columns.
use Prim.Native.Nat.{ℕ, zero, suc, min, ◌+◌, ◌<◌, ◌≤◌}
use mathlib.Core.Path.{◌≡◌, refl, sym, ap, ap₂, ◌∙◌}
use mathlib.Core.Bool.{Bool, true, false}
use mathlib.Core.Logic.{⊎_elim}
use mathlib.Core.List.{List, [], ◌∷◌, ◌++◌, map, map-append, append_assoc}
use native.Mathlib.Nat.{not-suc-le-zero, le_of_suc-le-suc, le_refl, eq-or-lt_of_le}
use native.Mathlib.Numerals.{add-one}
use native.Mathlib.Omega.{arith}
use lib.Dec.{ltb}
use lib.ListN.{length, get_or, set, take, drop, replicate, length-append, length-drop, length-map, get_or-map, drop_of_length-le}
use lib.ListN.{take-append-drop}
use lib.Seq.{length-take-le, take-suc, take-append-le, take-length, take_all, take_at, drop-cons, drop-length, set_at, append_snoc}
use lib.Seq.{get_or-take, get_or_at}
use borrow.Author.Tests.{lt-ltb, ltb-true, ltb-false}
use Rattle.masks.specs.Numbers.{below}
use Rattle.steps.specs.Steps.{no_step, no_columns, put, step_of, column, columns, steps_in, stored}
use Rattle.steps.specs.declared.Step.{Step}
use Rattle.steps.specs.declared.Columns.{Columns}

-- ---- the first n words of a list, which z zeros follow
abbrev zeros : ℕ → List ℕ
zeros z = replicate z 0

abbrev padded : ℕ → ℕ → List ℕ → List ℕ
padded n z l = take n (l ++ zeros z)

take-zeros : (n z : ℕ) → n ≤ z → take n (zeros z) ≡ zeros n
take-zeros zero z h = refl
take-zeros (suc n) zero h = absurd (not-suc-le-zero h)
take-zeros (suc n) (suc z) h = ap (λ (r : List ℕ). 0 ∷ r) (take-zeros n z (le_of_suc-le-suc h))

-- a store at the end of the list is a list with a word more
padded-more : (n z : ℕ) (l : List ℕ) (v : ℕ) → length l < n → n ≤ z → set (padded n z l) (length l) v ≡ padded n z (l ++ (v ∷ []))
padded-more zero z l v h k = absurd (not-suc-le-zero h)
padded-more (suc n) zero l v h k = absurd (not-suc-le-zero k)
padded-more (suc n) (suc z) [] v h k =
    ap (λ (r : List ℕ). v ∷ r) (take-zeros n z (le_of_suc-le-suc k) ∙ sym (take-zeros n (suc z) (omega arith)))
padded-more (suc n) (suc z) (x ∷ l) v h k =
    ap (λ (r : List ℕ). x ∷ r) (padded-more n (suc z) l v (le_of_suc-le-suc h) (omega arith))

-- a word past the first n is not there
padded-full : (n z : ℕ) (l m : List ℕ) → n ≤ length l → padded n z (l ++ m) ≡ padded n z l
padded-full n z l m h =
    ap (take n) (append_assoc l m (zeros z)) ∙ take-append-le n l (m ++ zeros z) h ∙ sym (take-append-le n l (zeros z) h)

-- where the list has no word, there is a zero
padded-at : (z : ℕ) (l : List ℕ) (i : ℕ) → get_or (l ++ zeros z) i 0 ≡ get_or l i 0
padded-at zero [] i = refl
padded-at (suc z) [] zero = refl
padded-at (suc z) [] (suc i) = padded-at z [] i
padded-at z (x ∷ l) zero = refl
padded-at z (x ∷ l) (suc i) = padded-at z l i

-- ---- a column: a word of each step
module _ (word : Step → ℕ) (ss : List Step) (i : ℕ) where
  abbrev words : ℕ → List ℕ
  words k = map word (take k ss)

  words-length : i ≤ length ss → length (words i) ≡ i
  words-length l = length-map (take i ss) word ∙ length-take-le i ss l

  module _ (l : i < length ss) where
    words_more : words (i + 1) ≡ words i ++ (word (get_or ss i no_step) ∷ [])
    words_more =
        ap words (add-one i) ∙ ap (map word) (take-suc ss i no_step l) ∙ map-append word (take i ss) (get_or ss i no_step ∷ [])

    column-more : i < 256 → set (column (words i)) i (word (get_or ss i no_step)) ≡ column (words (i + 1))
    column-more h =
        let e : length (words i) ≡ i = words-length (omega arith) in
        ap (λ (k : ℕ). set (column (words i)) k (word (get_or ss i no_step))) (sym e)
        ∙ padded-more 256 256 (words i) (word (get_or ss i no_step)) (rw e h) (le_refl 256)
        ∙ ap column (sym words_more)

  column-full : 256 ≤ i → i ≤ length ss → column (words i) ≡ column (map word ss)
  column-full h l =
      sym (ap (λ (r : List Step). column (map word r)) (sym (take-append-drop i ss))
      ∙ ap column (map-append word (take i ss) (drop i ss))
      ∙ padded-full 256 256 (words i) (map word (drop i ss)) (rw (words-length l) h))

  column-at : word no_step ≡ 0 → i < 256 → get_or (column (map word ss)) i 0 ≡ word (get_or ss i no_step)
  column-at e h =
      get_or-take 256 (map word ss ++ zeros 256) i 0 h
      ∙ padded-at 256 (map word ss) i
      ∙ ap (get_or (map word ss) i) (sym e)
      ∙ get_or-map word ss i no_step

-- ---- the columns of a list
pub columns-none : no_columns ≡ columns []
unfolding columns
columns-none = refl

-- past the 256th step nothing changes
columns-full : (ss : List Step) (i : ℕ) → 256 ≤ i → i ≤ length ss → columns (take i ss) ≡ columns ss
unfolding columns
columns-full ss i h l k = record {
  variables = column-full (λ s. s.variable) ss i h l k;
  acts = column-full (λ s. s.act) ss i h l k;
}

-- a list with a step more
pub columns-more : (ss : List Step) (i : ℕ) → i < length ss
    → put (columns (take i ss)) i (get_or ss i no_step) ≡ columns (take (i + 1) ss)
unfolding columns
columns-more ss i l = by (ltb i 256) refl
  where
    by : (b : Bool) → ltb i 256 ≡ b → put (columns (take i ss)) i (get_or ss i no_step) ≡ columns (take (i + 1) ss)
    by true e =
        let h : i < 256 = ltb-true i 256 e in
        rw e (λ k. record {
          variables = column-more (λ s. s.variable) ss i l h k;
          acts = column-more (λ s. s.act) ss i l h k;
        })
    by false e =
        let h : 256 ≤ i = ltb-false i 256 e in
        rw e (columns-full ss i h (omega arith) ∙ sym (columns-full ss (i + 1) (omega arith) (omega arith)))

-- the same, with the step at the end
pub columns-with : (ss : List Step) (e : Step) → put (columns ss) (length ss) e ≡ columns (ss ++ (e ∷ []))
columns-with ss e =
    let all : List Step = ss ++ (e ∷ []) in
    let n : length all ≡ length ss + 1 = length-append ss (e ∷ []) in
    let before : take (length ss) all ≡ ss = take_at ss (e ∷ []) (length ss) refl in
    let here : get_or all (length ss) no_step ≡ e = get_or_at ss e [] no_step (length ss) refl in
    let whole : take (length ss + 1) all ≡ all = take_all (length ss + 1) all (omega arith) in
    sym (ap₂ (λ (z : List Step) (x : Step). put (columns z) (length ss) x) before here)
    ∙ columns-more all (length ss) (omega arith) ∙ ap columns whole

-- step i of the columns of a list is step i of the list
pub step-again : (ss : List Step) (i : ℕ) → i < 256 → step_of (columns ss) i ≡ get_or ss i no_step
unfolding columns
step-again ss i h = rw (lt-ltb i 256 h) (λ k. record {
  variable = column-at (λ s. s.variable) ss i refl h k;
  act = column-at (λ s. s.act) ss i refl h k;
})

-- ---- the first k steps of columns
module _ (c : Columns) where
  pub steps-none : steps_in c 0 ≡ []
  unfolding steps_in below
  steps-none = refl

  pub steps-suc : (k : ℕ) → steps_in c (suc k) ≡ steps_in c k ++ (step_of c k ∷ [])
  unfolding steps_in below
  steps-suc k = map-append (step_of c) (below k) (k ∷ [])

  pub steps-more : (k : ℕ) → steps_in c (k + 1) ≡ steps_in c k ++ (step_of c k ∷ [])
  steps-more k = ap (steps_in c) (add-one k) ∙ steps-suc k

  pub steps-length : (k : ℕ) → length (steps_in c k) ≡ k
  unfolding steps_in below
  steps-length zero = refl
  steps-length (suc k) = rw (steps-suc k, length-append, steps-length k) (omega arith)

  -- the first k of the first n steps
  steps_first : (n k : ℕ) → k ≤ n → take k (steps_in c n) ≡ steps_in c k
  unfolding steps_in below
  steps_first n zero h = refl
  steps_first zero (suc k) h = absurd (not-suc-le-zero h)
  steps_first (suc n) (suc k) h =
      ⊎_elim
      (λ (e : suc k ≡ suc n). ap (λ (j : ℕ). take j (steps_in c (suc n))) (e ∙ sym (steps-length (suc n)))
      ∙ take-length (steps_in c (suc n)) ∙ ap (steps_in c) (sym e))
      (λ (l : suc k < suc n). ap (take (suc k)) (steps-suc n)
      ∙ take-append-le (suc k) (steps_in c n) (step_of c n ∷ []) (rw (steps-length n) (omega arith)) ∙ steps_first n (suc k) (omega arith))
      (eq-or-lt_of_le h)

-- ---- the first k steps of the columns of a list are those of the list
steps-taken : (ss : List Step) (k : ℕ) → k ≤ length ss → k ≤ 256 → steps_in (columns ss) k ≡ take k ss
unfolding steps_in below
steps-taken ss zero h g = refl
steps-taken ss (suc k) h g =
    steps-suc (columns ss) k
    ∙ ap₂ (λ (r : List Step) (s : Step). r ++ (s ∷ [])) (steps-taken ss k (omega arith) (omega arith)) (step-again ss k g)
    ∙ sym (take-suc ss k no_step h)

pub steps-again : (ss : List Step) → length ss ≤ 256 → steps_in (columns ss) (length ss) ≡ ss
steps-again ss h = steps-taken ss (length ss) (le_refl (length ss)) h ∙ take-length ss

pub steps-cut : (ss : List Step) (k : ℕ) → k ≤ length ss → k ≤ 256 → take k (steps_in (columns ss) (length ss)) ≡ take k ss
steps-cut ss k h g = steps_first (columns ss) (length ss) k h ∙ steps-taken ss k h g

-- ---- the steps that the columns keep
-- the columns of the first 256 steps are those of all of them
pub columns-first : (ss : List Step) → columns (take (min (length ss) 256) ss) ≡ columns ss
columns-first ss = by (ltb (length ss) 256) refl
  where
    by : (b : Bool) → ltb (length ss) 256 ≡ b → columns (take (min (length ss) 256) ss) ≡ columns ss
    by true h =
        let l : length ss < 256 = ltb-true (length ss) 256 h in
        let e : min (length ss) 256 ≡ length ss = omega arith in
        rw (e, take-length ss)
    by false h =
        let l : 256 ≤ length ss = ltb-false (length ss) 256 h in
        let e : min (length ss) 256 ≡ 256 = omega arith in
        rw e (columns-full ss 256 (le_refl 256) l)

-- ---- a list into which the first n steps of columns are stored
pub stored-all : (ss ys : List Step) → length ss ≤ 256 → length ss ≤ length ys
    → stored (columns ss) (length ss) ys ≡ ss ++ drop (length ss) ys
unfolding stored
stored-all ss ys h g =
    let e : min (length ss) (length ys) ≡ length ss = omega arith in rw (e, steps-again ss h)

module _ (c : Columns) (ys : List Step) where
  pub stored-none : stored c 0 ys ≡ ys
  unfolding stored steps_in below
  stored-none = let e : min 0 (length ys) ≡ 0 = omega arith in rw e

  -- the list while it is stored: i steps are those of the columns, and the others are as they were
  abbrev pub storing : ℕ → List Step
  storing i = steps_in c i ++ drop i ys

  pub storing-none : storing 0 ≡ ys
  unfolding steps_in below
  storing-none = refl

  pub storing-length : (i : ℕ) → i ≤ length ys → length (storing i) ≡ length ys
  storing-length i h = rw (length-append, steps-length, length-drop) (omega arith)

  pub storing-more : (i : ℕ) → i < length ys → set (storing i) i (step_of c i) ≡ storing (i + 1)
  storing-more i h =
      ap (λ (r : List Step). set (steps_in c i ++ r) i (step_of c i)) (drop-cons ys i no_step h)
      ∙ set_at (steps_in c i) (get_or ys i no_step) (drop (suc i) ys) (step_of c i) i (steps-length c i)
      ∙ sym (append_snoc (steps_in c i) (step_of c i) (drop (suc i) ys))
      ∙ rw (add-one, steps-suc)

  -- where the list is shorter than n, nothing is left of it
  pub storing-all : (n : ℕ) → storing (min n (length ys)) ≡ stored c n ys
  unfolding stored
  storing-all n = by (ltb n (length ys)) refl
    where
      by : (b : Bool) → ltb n (length ys) ≡ b → storing (min n (length ys)) ≡ steps_in c (min n (length ys)) ++ drop n ys
      by true h =
          let l : n < length ys = ltb-true n (length ys) h in
          let e : min n (length ys) ≡ n = omega arith in
          rw e
      by false h =
          let l : length ys ≤ n = ltb-false n (length ys) h in
          let e : min n (length ys) ≡ length ys = omega arith in
          rw (e, drop-length ys, drop_of_length-le ys {i = n} l)
