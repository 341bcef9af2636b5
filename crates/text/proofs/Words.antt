-- The word of a form: which word is read, by its first byte.
use Prim.Native.Nat.{ℕ, ◌+◌, ◌≤◌, max}
use mathlib.Core.Path.{◌≡◌, refl, ap, ◌∙◌}
use mathlib.Core.Bool.{Bool, true, false, ◌||◌, cond}
use mathlib.Core.Logic.{◌⊎◌, inl, inr, ◌≢◌}
use mathlib.Core.List.{List, [], ◌∷◌}
use native.Mathlib.Omega.{arith}
use lib.Dec.{eqb}
use lib.ListN.{get_or, drop}
use borrow.Author.Tests.{eq-eqb, ne_eqb}
use Rattle.masks.proofs.Tests.{same?}
use Rattle.text.specs.Read.{byte_at, match_at, word_at}
use Rattle.text.specs.Words.{spelling, head_words, or_word}
use Rattle.text.specs.declared.head.Role.{Role}
use Rattle.text.specs.declared.head.Role.TheVariants.{OwnForm, Argument}
use Rattle.text.specs.declared.head.Word.{Word}
use Rattle.text.specs.declared.head.Word.TheVariants.{False, True, Yes, No, Pick, Both, Line}
use Rattle.std.specs.Prelude.{Result, Ok, Err}

-- ---- the words that may stand
abbrev pub LineMay : Role → Type 0
LineMay OwnForm = ⊥
LineMay Argument = Unit {0}

abbrev pub May : Role → Word → Type 0
May role False = Unit {0}
May role True = Unit {0}
May role Yes = Unit {0}
May role No = Unit {0}
May role Pick = Unit {0}
May role Both = Unit {0}
May role Line = LineMay role

abbrev pub Each : (Word → Type 0) → List Word → Type 0
Each P [] = Unit {0}
Each P (w ∷ ws) = P w × Each P ws

pub each-may : (role : Role) → Each (May role) (head_words role)
each-may OwnForm = (tt, (tt, (tt, (tt, (tt, (tt, tt))))))
each-may Argument = (tt, (tt, (tt, (tt, (tt, (tt, (tt, tt)))))))

-- what is read is one of the words
module _ (P : Word → Type 0) where
  abbrev pub OneOf : Result (Word × ℕ) ℕ → Type 0
  OneOf (Ok (w, p)) = P w
  OneOf (Err p) = Unit {0}

  or-one : (w : Word) (m : Result ℕ ℕ) (others : Result (Word × ℕ) ℕ) → P w → OneOf others → OneOf (or_word w m others)
  or-one w (Ok p) others h k = h
  or-one w (Err p) (Ok (v, q)) h k = k
  or-one w (Err p) (Err q) h k = tt

  pub one_of : (s : List ℕ) (at : ℕ) (ws : List Word) → Each P ws → OneOf (word_at s at ws)
  unfolding word_at
  one_of s at [] h = tt
  one_of s at (w ∷ ws) h = or-one w (match_at s at (spelling w)) (word_at s at ws) h.0 (one_of s at ws h.1)

-- ---- by the first byte
abbrev pub first : Word → ℕ
first w = get_or (spelling w) 0 256

pub spelt : (w : Word) → spelling w ≡ first w ∷ drop 1 (spelling w)
spelt False = refl
spelt True = refl
spelt Yes = refl
spelt No = refl
spelt Pick = refl
spelt Both = refl
spelt Line = refl

-- some word begins with the byte c
abbrev begun : List Word → ℕ → Bool
begun [] c = false
begun (w ∷ ws) c = eqb c (first w) || begun ws c

-- no two words begin alike
abbrev Apart : List Word → Type 0
Apart [] = Unit {0}
Apart (w ∷ ws) = (begun ws (first w) ≡ false) × Apart ws

pub apart : (role : Role) → Apart (head_words role)
apart OwnForm = (refl, (refl, (refl, (refl, (refl, (refl, tt))))))
apart Argument = (refl, (refl, (refl, (refl, (refl, (refl, (refl, tt)))))))

abbrev pub spelled_of : Word → Result ℕ ℕ → Result (Word × ℕ) ℕ
spelled_of w (Ok p) = Ok (w, p)
spelled_of w (Err p) = Err p

-- the word that begins with the byte c
abbrev pub letter_then : List ℕ → ℕ → List Word → ℕ → Result (Word × ℕ) ℕ
letter_then s at [] c = Err at
letter_then s at (w ∷ ws) c = cond (eqb c (first w)) (spelled_of w (match_at s at (spelling w))) (letter_then s at ws c)

neither : (a b : Bool) → a || b ≡ false → (a ≡ false) × (b ≡ false)
neither true b h = (h, absurd (let z : ◌≡◌ {A = ℕ} 0 1 = cc in omega arith))
neither false b h = (refl, h)

-- where an answer lies
abbrev pub spelled_at : Result (Word × ℕ) ℕ → ℕ
spelled_at (Ok (w, p)) = p
spelled_at (Err p) = p

abbrev pub matched_at : Result ℕ ℕ → ℕ
matched_at (Ok p) = p
matched_at (Err p) = p

module _ (s : List ℕ) (at : ℕ) where
  differs : (b : ℕ) (w : List ℕ) → eqb (byte_at s at) b ≡ false → match_at s at (b ∷ w) ≡ Err at
  unfolding match_at
  differs b w h = rw h

  not-here : (w : Word) → eqb (byte_at s at) (first w) ≡ false → match_at s at (spelling w) ≡ Err at
  not-here w h = ap (match_at s at) (spelt w) ∙ differs (first w) (drop 1 (spelling w)) h

  or-differs : (w : Word) (others : Result (Word × ℕ) ℕ) → at ≤ spelled_at others → or_word w (Err at) others ≡ others
  or-differs w (Ok (v, q)) l = refl
  or-differs w (Err q) l = let e : max at q ≡ q = omega arith in ap Err e

  or-none : (w : Word) (m : Result ℕ ℕ) → at ≤ matched_at m → or_word w m (Err at) ≡ spelled_of w m
  or-none w (Ok p) l = refl
  or-none w (Err p) l = let e : max p at ≡ p = omega arith in ap Err e

  none : (ws : List Word) → begun ws (byte_at s at) ≡ false → word_at s at ws ≡ Err at
  unfolding word_at
  none [] h = refl
  none (w ∷ ws) h =
      let k : (eqb (byte_at s at) (first w) ≡ false) × (begun ws (byte_at s at) ≡ false) =
      neither (eqb (byte_at s at) (first w)) (begun ws (byte_at s at)) h in
      rw (not-here w k.0, none ws k.1) (or-differs w (Err at) (omega arith))

match-reach : (s w : List ℕ) (at : ℕ) → at ≤ matched_at (match_at s at w)
unfolding match_at
match-reach s [] at = omega arith
match-reach s (b ∷ w) at = by (same? (byte_at s at) b) (match-reach s w (at + 1))
  where
    by : (byte_at s at ≡ b) ⊎ (byte_at s at ≢ b) → at + 1 ≤ matched_at (match_at s (at + 1) w) → at ≤ matched_at (match_at s at (b ∷ w))
    by (inl e) l = rw (eq-eqb (byte_at s at) b e) (omega arith)
    by (inr e) l = rw (ne_eqb (byte_at s at) b e) (omega arith)

module _ (s : List ℕ) (at : ℕ) where
  or-reach : (w : Word) (m : Result ℕ ℕ) (others : Result (Word × ℕ) ℕ) → at ≤ matched_at m → at ≤ spelled_at others
      → at ≤ spelled_at (or_word w m others)
  or-reach w (Ok p) others l h = l
  or-reach w (Err p) (Ok (v, q)) l h = h
  or-reach w (Err p) (Err q) l h = omega arith

  word-reach : (ws : List Word) → at ≤ spelled_at (word_at s at ws)
  unfolding word_at
  word-reach [] = omega arith
  word-reach (w ∷ ws) =
      or-reach w (match_at s at (spelling w)) (word_at s at ws) (match-reach s (spelling w) at) (word-reach ws)

  -- among words that begin with different bytes, the first byte says which is read
  pub by-letter : (ws : List Word) → Apart ws → word_at s at ws ≡ letter_then s at ws (byte_at s at)
  unfolding word_at
  by-letter [] a = refl
  by-letter (w ∷ ws) a = by (same? (byte_at s at) (first w)) (by-letter ws a.1)
    where
      by : (byte_at s at ≡ first w) ⊎ (byte_at s at ≢ first w) → word_at s at ws ≡ letter_then s at ws (byte_at s at)
          → word_at s at (w ∷ ws) ≡ letter_then s at (w ∷ ws) (byte_at s at)
      by (inl e) r =
          let o : begun ws (byte_at s at) ≡ false = ap (begun ws) e ∙ a.0 in
          rw (none s at ws o, eq-eqb (byte_at s at) (first w) e)
          (or-none s at w (match_at s at (spelling w)) (match-reach s (spelling w) at))
      by (inr n) r =
          let f : eqb (byte_at s at) (first w) ≡ false = ne_eqb (byte_at s at) (first w) n in
          rw (not-here s at w f, f) (or-differs s at w (word_at s at ws) (word-reach ws) ∙ r)
