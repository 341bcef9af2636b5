-- Laws of the words of a node: where they stand, apart from all others.
use Prim.Native.Nat.{ℕ, zero, suc, ◌+◌, ◌<◌, ◌≤◌}
use mathlib.Core.Path.{◌≡◌, refl, sym, ap, ◌∙◌}
use mathlib.Core.List.{List, [], ◌∷◌, ◌++◌}
use mathlib.Core.Logic.{◌⊎◌, inl, inr}
use native.Mathlib.Decide.{dec_lt}
use native.Mathlib.Nat.{add-zero}
use native.Mathlib.Omega.{arith}
use lib.ListN.{length, get_or, set, take, drop, length-drop, get_or-append}
use lib.Seq.{sets, length-take-le, ext_get_or, get_or-take, get_or-drop, take-add}
use Rattle.table.specs.Layout.{node_words, max_children, words_for, eight, words_at, word_list}
use Rattle.table.specs.declared.layout.NodeWords.{NodeWords}

-- a place is before another or not
pub lt-or-le : (j n : ℕ) → (j < n) ⊎ (n ≤ j)
lt-or-le j n = by (dec_lt j n)
  where
    by : Dec (j < n) → (j < n) ⊎ (n ≤ j)
    by (yes h) = inl h
    by (no h) = inr (omega arith)

-- ---- a node's words are those of its own eleven places
pub words_same : (w w' : List ℕ) (i : ℕ) → ((k : ℕ) → words_for i ≤ k → k < words_for (suc i) → get_or w' k 0 ≡ get_or w k 0)
    → words_at w' i ≡ words_at w i
unfolding words_at
words_same w w' i h =
    let at : ℕ = words_for i in
    let p0 = h at (omega arith) (omega arith) in
    let p1 = h (at + 1) (omega arith) (omega arith) in
    let p2 = h (at + 2) (omega arith) (omega arith) in
    let q0 = h (at + 3) (omega arith) (omega arith) in
    let q1 = h (at + 3 + 1) (omega arith) (omega arith) in
    let q2 = h (at + 3 + 2) (omega arith) (omega arith) in
    let q3 = h (at + 3 + 3) (omega arith) (omega arith) in
    let q4 = h (at + 3 + 4) (omega arith) (omega arith) in
    let q5 = h (at + 3 + 5) (omega arith) (omega arith) in
    let q6 = h (at + 3 + 6) (omega arith) (omega arith) in
    let q7 = h (at + 3 + 7) (omega arith) (omega arith) in
    λ d. record {
      kind = p0 d;
      variable = p1 d;
      children = record {
        count = p2 d;
        nodes = q0 d ∷ q1 d ∷ q2 d ∷ q3 d ∷ q4 d ∷ q5 d ∷ q6 d ∷ q7 d ∷ [];
      };
    }

-- the words of n nodes, and any others after them
pub words-front : (n : ℕ) (w v : List ℕ) → words_for n ≤ length w → (i : ℕ) → i < n
    → words_at (take (words_for n) w ++ v) i ≡ words_at w i
words-front n w v l i k =
    let e : length (take (words_for n) w) ≡ words_for n = length-take-le (words_for n) w l in
    words_same w (take (words_for n) w ++ v) i
    (λ j a b.
    get_or-append (take (words_for n) w) v 0 j (omega arith) ∙ get_or-take (words_for n) w j 0 (omega arith))

-- ---- the words of a node as a list
pub eight-long : (w : List ℕ) (i : ℕ) → length (words_at w i).children.nodes ≡ max_children
unfolding words_at
eight-long w i = refl

pub list-long : (y : NodeWords) → length y.children.nodes ≡ max_children → length (word_list y) ≡ node_words
list-long y e = omega arith

eight-at : (w : List ℕ) (at j : ℕ) → j < max_children → get_or (eight w at) j 0 ≡ get_or w (at + j) 0
eight-at w at zero l = ap (λ (k : ℕ). get_or w k 0) (sym (add-zero at))
eight-at w at (suc zero) l = refl
eight-at w at (suc (suc zero)) l = refl
eight-at w at (suc (suc (suc zero))) l = refl
eight-at w at (suc (suc (suc (suc zero)))) l = refl
eight-at w at (suc (suc (suc (suc (suc zero))))) l = refl
eight-at w at (suc (suc (suc (suc (suc (suc zero)))))) l = refl
eight-at w at (suc (suc (suc (suc (suc (suc (suc zero))))))) l = refl
eight-at w at (suc (suc (suc (suc (suc (suc (suc (suc j)))))))) l = absurd (omega arith)

-- word j of node i
pub word-at : (w : List ℕ) (i j : ℕ) → j < node_words → get_or (word_list (words_at w i)) j 0 ≡ get_or w (words_for i + j) 0
unfolding words_at
word-at w i zero l = ap (λ (k : ℕ). get_or w k 0) (sym (add-zero (words_for i)))
word-at w i (suc zero) l = refl
word-at w i (suc (suc zero)) l = refl
word-at w i (suc (suc (suc j))) l =
    let e : words_for i + 3 + j ≡ words_for i + suc (suc (suc j)) = omega arith in
    eight-at w (words_for i + 3) j (omega arith) ∙ ap (λ (k : ℕ). get_or w k 0) e

pub words-taken : (w : List ℕ) (i : ℕ) → words_for (suc i) ≤ length w → word_list (words_at w i) ≡ take node_words (drop (words_for i) w)
words-taken w i l =
    ext_get_or 0 (word_list (words_at w i)) (take node_words (drop (words_for i) w))
    (list-long (words_at w i) (eight-long w i)
    ∙ sym (length-take-le node_words (drop (words_for i) w) (omega (arith, length-drop (words_for i) w))))
    (λ j k.
    let m : j < node_words = omega (arith, list-long (words_at w i) (eight-long w i)) in
    word-at w i j m ∙ sym (get_or-take node_words (drop (words_for i) w) j 0 m ∙ get_or-drop (words_for i) w j 0))

-- the words of one node more
pub words-next : (w : List ℕ) (i : ℕ) → words_for (suc i) ≤ length w
    → take (words_for (suc i)) w ≡ take (words_for i) w ++ word_list (words_at w i)
words-next w i l =
    let e : words_for (suc i) ≡ words_for i + node_words = omega arith in
    ap (λ (k : ℕ). take k w) e ∙ take-add (words_for i) node_words w
    ∙ ap (λ (v : List ℕ). take (words_for i) w ++ v) (sym (words-taken w i l))

-- ---- runs of stores
-- one run after another
pub sets-append : (l : List ℕ) (i : ℕ) (xs ys : List ℕ) → sets l i (xs ++ ys) ≡ sets (sets l i xs) (i + length xs) ys
sets-append l i [] ys = ap (λ (k : ℕ). sets l k ys) (sym (add-zero i))
sets-append l i (x ∷ xs) ys =
    let e : suc i + length xs ≡ i + suc (length xs) = omega arith in
    sets-append (set l i x) (suc i) xs ys ∙ ap (λ (k : ℕ). sets (sets (set l i x) (suc i) xs) k ys) e
