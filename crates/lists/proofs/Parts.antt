-- Laws of lists of terms in two slices, and of searches in what is left of them.
use Prim.Native.Nat.{ℕ, zero, suc, ◌+◌, ◌<◌, ◌≤◌}
use mathlib.Core.Path.{◌≡◌, refl, sym, ap, ◌∙◌}
use mathlib.Core.Bool.{Bool, false, ◌||◌}
use mathlib.Core.Logic.{◌⊎◌, inl, inr}
use mathlib.Core.List.Memᴰ
use mathlib.Core.List.{List, [], ◌∷◌, Memᴰ}
use native.Mathlib.Nat.{not-suc-le-zero, le_of_suc-le-suc, zero-lt-suc}
use native.Mathlib.Numerals.{add-one}
use native.Mathlib.Omega.{arith}
use lib.Dec.{T}
use lib.ListN.{length, drop, drop_of_length-le}
use Rattle.terms.specs.Lists.{any, Rising}
use Rattle.terms.specs.Order.{before}
use Rattle.terms.specs.Term.{term, terms_of}
use Rattle.terms.specs.declared.Term.{Term}
use Rattle.lists.specs.Entries.{term_at}

pub length-terms : (ps ns : List ℕ) → length ns ≡ length ps → length (terms_of ps ns) ≡ length ps
length-terms [] ns e = refl
length-terms (p ∷ ps) [] e = omega arith
length-terms (p ∷ ps) (n ∷ ns) e = ap suc (length-terms ps ns (omega arith))

drop-suc : (ps ns : List ℕ) (k : ℕ) → length ns ≡ length ps → k < length ps
    → drop k (terms_of ps ns) ≡ term_at ps ns k ∷ drop (suc k) (terms_of ps ns)
drop-suc [] ns k e l = absurd (not-suc-le-zero l)
drop-suc (p ∷ ps) [] k e l = absurd (omega arith)
drop-suc (p ∷ ps) (n ∷ ns) zero e l = refl
drop-suc (p ∷ ps) (n ∷ ns) (suc k) e l = drop-suc ps ns k (omega arith) (le_of_suc-le-suc l)

-- a term that is there is one of the list
pub term_in : (ps ns : List ℕ) (k : ℕ) → length ns ≡ length ps → k < length ps → Memᴰ (term_at ps ns k) (terms_of ps ns)
term_in [] ns k e l = absurd (not-suc-le-zero l)
term_in (p ∷ ps) [] k e l = absurd (omega arith)
term_in (p ∷ ps) (n ∷ ns) zero e l = Memᴰ.head refl
term_in (p ∷ ps) (n ∷ ns) (suc k) e l = Memᴰ.tail (term_in ps ns k (omega arith) (le_of_suc-le-suc l))

-- and each one of the list is there
pub term-out : (ps ns : List ℕ) (t : Term) → Memᴰ t (terms_of ps ns) → (k : ℕ) × (k < length ps) × (t ≡ term_at ps ns k)
term-out [] ns t m = absurd (Memᴰ.not-nil m)
term-out (p ∷ ps) [] t m = absurd (Memᴰ.not-nil m)
term-out (p ∷ ps) (n ∷ ns) t m = go (Memᴰ.cases_cons m) (term-out ps ns t)
  where
    go : (t ≡ term p n) ⊎ Memᴰ t (terms_of ps ns) → (Memᴰ t (terms_of ps ns) → (k : ℕ) × (k < length ps) × (t ≡ term_at ps ns k))
        → (k : ℕ) × (k < suc (length ps)) × (t ≡ term_at (p ∷ ps) (n ∷ ns) k)
    go (inl e) r = (0, zero-lt-suc (length ps), e)
    go (inr i) r = let (k, l, e) = r i in (suc k, omega (arith, l), e)

-- an earlier term of a list in order comes before a later one
pub rising-at : (m ps ns : List ℕ) → length ns ≡ length ps → Rising (before m) (terms_of ps ns) → (k i : ℕ) → k < i → i < length ps
    → T (before m (term_at ps ns k) (term_at ps ns i))
rising-at m [] ns e r k i h l = absurd (not-suc-le-zero l)
rising-at m (p ∷ ps) [] e r k i h l = absurd (omega arith)
rising-at m (p ∷ ps) (n ∷ ns) e r k zero h l = absurd (not-suc-le-zero h)
rising-at m (p ∷ ps) (n ∷ ns) e r zero (suc i) h l = r.0 (term_at ps ns i) (term_in ps ns i (omega arith) (le_of_suc-le-suc l))
rising-at m (p ∷ ps) (n ∷ ns) e r (suc k) (suc i) h l =
    rising-at m ps ns (omega arith) r.1 k i (le_of_suc-le-suc h) (le_of_suc-le-suc l)

module _ (ps ns : List ℕ) (e : length ns ≡ length ps) (k : ℕ) where
  -- what is left at k is term k and what is left after it
  pub drop-terms : k < length ps → drop k (terms_of ps ns) ≡ term_at ps ns k ∷ drop (k + 1) (terms_of ps ns)
  drop-terms l = rw add-one (drop-suc ps ns k e l)

  pub drop-end : length ps ≤ k → drop k (terms_of ps ns) ≡ []
  drop-end l = drop_of_length-le (terms_of ps ns) {i = k} (rw (length-terms ps ns e) l)

  -- a search for a term that passes p
  module _ (p : Term → Bool) where
    any_next : k < length ps → any p (drop k (terms_of ps ns)) ≡ p (term_at ps ns k) || any p (drop (k + 1) (terms_of ps ns))
    any_next l = ap (any p) (drop-terms l)

    pub any-miss : k < length ps → p (term_at ps ns k) ≡ false → any p (drop (k + 1) (terms_of ps ns)) ≡ any p (drop k (terms_of ps ns))
    any-miss l h = sym (any_next l ∙ ap (λ (t : Bool). t || any p (drop (k + 1) (terms_of ps ns))) h)

    pub any-end : length ps ≤ k → any p (drop k (terms_of ps ns)) ≡ false
    any-end l = ap (any p) (drop-end l)
