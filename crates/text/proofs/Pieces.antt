-- Reading at a place of a text of which the rest is known: bytes, words and numbers.
use Prim.Native.Nat.{ℕ, suc, ◌+◌, ◌*◌, ◌/◌, ◌%◌, ◌<◌, ◌≤◌}
use mathlib.Core.Path.{◌≡◌, refl, sym, ap, subst, ◌∙◌}
use mathlib.Core.Bool.{cond}
use mathlib.Core.List.{List, [], ◌∷◌, ◌++◌}
use native.Mathlib.Nat.{add-zero, div-div-eq-div-mul}
use native.Mathlib.Omega.{arith}
use native.Mathlib.Decide.{dec_lt}
use lib.Dec.{ltb, leb}
use lib.ListN.{length, get_or, drop, length-append}
use lib.Seq.{drop-drop, drop-append_seam, get_or-drop}
use borrow.Author.Tests.{eq-eqb, ne_eqb, lt-ltb, le-ltb}
use Rattle.text.specs.Read.{byte_at, digit_at, digits_at, number_at, match_at, ranged_at, word_at, tail_at, head_at}
use Rattle.text.specs.Syntax.{decimal}
use Rattle.text.specs.Words.{spelling, head_words}
use Rattle.text.specs.declared.answer.Fault.{Fault}
use Rattle.text.specs.declared.head.Limits.{Limits}
use Rattle.text.specs.declared.head.Role.{Role}
use Rattle.text.specs.declared.head.Role.TheVariants.{OwnForm, Argument}
use Rattle.text.specs.declared.head.Word.{Word}
use Rattle.text.specs.declared.head.Word.TheVariants.{False, True, Yes, No, Pick, Both, Line}
use Rattle.text.proofs.Words.{May, first, spelt, apart, spelled_of, letter_then, by-letter}
use Rattle.std.specs.Prelude.{Option, Some, Ok}
use Rattle.text.specs.Answers.{misread}

-- r is what is left of s from a place on
abbrev pub Here : List ℕ → ℕ → List ℕ → Type 0
Here s at r = (drop at s ≡ r) × (at + length r ≡ length s)

-- ---- a number's digits
-- a quotient by ten, and its last digit
tens : (x q : ℕ) → x / 10 ≡ q → x ≡ 10 * q + x % 10
tens x q e = let h : x ≡ 10 * (x / 10) + x % 10 = omega arith in omega arith

below-ten : (x : ℕ) → x < 10 → x ≡ x % 10
below-ten x h = omega arith

tens-3 : (v : ℕ) → v < 1000 → v ≡ 10 * (10 * (v / 100 % 10) + v / 10 % 10) + v % 10
tens-3 v h =
    fold (v / 10) (v / 100) (tens v (v / 10) refl) (tens (v / 10) (v / 100) (div-div-eq-div-mul v 10 10))
    (below-ten (v / 100) (omega arith))
  where
    fold : (p q : ℕ) → v ≡ 10 * p + v % 10 → p ≡ 10 * q + v / 10 % 10 → q ≡ v / 100 % 10
        → v ≡ 10 * (10 * (v / 100 % 10) + v / 10 % 10) + v % 10
    fold p q e f g = omega arith

tens-4 : (v : ℕ) → v < 10000 → v ≡ 10 * (10 * (10 * (v / 1000 % 10) + v / 100 % 10) + v / 10 % 10) + v % 10
tens-4 v h =
    fold (v / 10) (v / 100) (v / 1000) (tens v (v / 10) refl) (tens (v / 10) (v / 100) (div-div-eq-div-mul v 10 10))
    (tens (v / 100) (v / 1000) (div-div-eq-div-mul v 100 10)) (below-ten (v / 1000) (omega arith))
  where
    fold : (p q o : ℕ) → v ≡ 10 * p + v % 10 → p ≡ 10 * q + v / 10 % 10 → q ≡ 10 * o + v / 100 % 10 → o ≡ v / 1000 % 10
        → v ≡ 10 * (10 * (10 * (v / 1000 % 10) + v / 100 % 10) + v / 10 % 10) + v % 10
    fold p q o e f g k = omega arith

-- the text of a number by how many digits it has
pub decimal-1 : (v : ℕ) → v < 10 → decimal v ≡ (48 + v) ∷ []
unfolding decimal
decimal-1 v h =
    let e : v % 10 ≡ v = omega arith in
    rw (lt-ltb v 1000 (omega arith), lt-ltb v 100 (omega arith), lt-ltb v 10 h, e)

pub decimal-2 : (v : ℕ) → 10 ≤ v → v < 100 → decimal v ≡ (48 + v / 10 % 10) ∷ (48 + v % 10) ∷ []
unfolding decimal
decimal-2 v l h = rw (lt-ltb v 1000 (omega arith), lt-ltb v 100 h, le-ltb v 10 l)

pub decimal-3 : (v : ℕ) → 100 ≤ v → v < 1000 → decimal v ≡ (48 + v / 100 % 10) ∷ (48 + v / 10 % 10) ∷ (48 + v % 10) ∷ []
unfolding decimal
decimal-3 v l h = rw (lt-ltb v 1000 h, le-ltb v 100 l, le-ltb v 10 (omega arith))

pub decimal-4 : (v : ℕ) → 1000 ≤ v
    → decimal v ≡ (48 + v / 1000 % 10) ∷ (48 + v / 100 % 10) ∷ (48 + v / 10 % 10) ∷ (48 + v % 10) ∷ []
unfolding decimal
decimal-4 v l = rw (le-ltb v 1000 l, le-ltb v 100 (omega arith), le-ltb v 10 (omega arith))

module _ (s : List ℕ) where
  -- ---- bytes
  pub byte : (at b : ℕ) (r : List ℕ) → Here s at (b ∷ r) → byte_at s at ≡ b
  byte at b r h =
      sym (ap (λ (k : ℕ). get_or s k 256) (add-zero at)) ∙ sym (get_or-drop at s 0 256)
      ∙ ap (λ (l : List ℕ). get_or l 0 256) h.0

  pub ended : (at : ℕ) → Here s at [] → byte_at s at ≡ 256
  ended at h =
      sym (ap (λ (k : ℕ). get_or s k 256) (add-zero at)) ∙ sym (get_or-drop at s 0 256)
      ∙ ap (λ (l : List ℕ). get_or l 0 256) h.0

  pub past : (at : ℕ) (x r : List ℕ) → Here s at (x ++ r) → Here s (at + length x) r
  past at x r h =
      (sym (drop-drop (length x) at s) ∙ ap (drop (length x)) h.0 ∙ drop-append_seam x r, omega (arith, h.1, length-append x r))

  pub next : (at b : ℕ) (r : List ℕ) → Here s at (b ∷ r) → Here s (at + 1) r
  next at b r h = past at (b ∷ []) r h

  pub matched : (w r : List ℕ) (at : ℕ) → Here s at (w ++ r) → match_at s at w ≡ Ok (at + length w)
  unfolding match_at
  matched [] r at h = ap Ok (sym (add-zero at))
  matched (b ∷ w) r at h =
      let e : at + 1 + length w ≡ at + suc (length w) = omega arith in
      rw (eq-eqb (byte_at s at) b (byte at b (w ++ r) h)) (matched w r (at + 1) (next at b (w ++ r) h) ∙ ap Ok e)

  -- ---- numbers
  digit : (at d : ℕ) (r : List ℕ) → d < 10 → Here s at ((48 + d) ∷ r) → digit_at s at ≡ d
  unfolding digit_at
  digit at d r l h =
      let e = byte at (48 + d) r h in
      rw (e, le-ltb (48 + d) 48 (omega arith), le-ltb 57 (48 + d) (omega arith)) (omega arith)

  no_digit : (at b : ℕ) (r : List ℕ) → b < 48 → Here s at (b ∷ r) → digit_at s at ≡ 10
  unfolding digit_at
  no_digit at b r l h = rw (byte at b r h, lt-ltb b 48 l)

  nought : (at a : ℕ) → digit_at s at ≡ a → a ≡ 0 → number_at s at ≡ Some (0, at + 1)
  unfolding number_at
  nought at a ea h = rw (ea, h)

  many : (at a : ℕ) → digit_at s at ≡ a → (a ≡ 10 → ⊥) → (a ≡ 0 → ⊥) → number_at s at ≡ digits_at 3 s (at + 1) a
  unfolding number_at
  many at a ea n h = rw (ea, ne_eqb a 10 n, ne_eqb a 0 h)

  stop : (k at v : ℕ) → digit_at s at ≡ 10 → digits_at (suc k) s at v ≡ Some (v, at)
  unfolding digits_at
  stop k at v ea = rw ea

  none_left : (at v : ℕ) → digits_at 0 s at v ≡ Some (v, at)
  unfolding digits_at
  none_left at v = refl

  go : (k at v a : ℕ) → digit_at s at ≡ a → (a ≡ 10 → ⊥) → digits_at (suc k) s at v ≡ digits_at k s (at + 1) (10 * v + a)
  unfolding digits_at
  go k at v a ea h = rw (ea, ne_eqb a 10 h)

  module _ (v b : ℕ) (r : List ℕ) (at : ℕ) (lb : b < 48) where
    abbrev Read : List ℕ → Type 0
    Read x = Here s at (x ++ (b ∷ r)) → number_at s at ≡ Some (v, at + length x)

    same-value : (u p q : ℕ) → u ≡ v → p ≡ q → ◌≡◌ {A = Option (ℕ × ℕ)} (Some (u, p)) (Some (v, q))
    same-value u p q e f = λ i. Some (e i, f i)

    number-0 : v ≡ 0 → Read ((48 + v) ∷ [])
    number-0 z h = nought at v (digit at v (b ∷ r) (omega arith) h) z ∙ same-value 0 (at + 1) (at + 1) (sym z) refl

    number-1 : 0 < v → v < 10 → Read ((48 + v) ∷ [])
    number-1 z l h =
        let h₁ = next at (48 + v) (b ∷ r) h in
        many at v (digit at v (b ∷ r) l h) (omega arith) (omega arith) ∙ stop 2 (at + 1) v (no_digit (at + 1) b r lb h₁)

    number-2 : (c d : ℕ) → c < 10 → 0 < c → d < 10 → v ≡ 10 * c + d → Read ((48 + c) ∷ (48 + d) ∷ [])
    number-2 c d lc zc ld e h =
        let h₁ = next at (48 + c) ((48 + d) ∷ b ∷ r) h in
        let h₂ = next (at + 1) (48 + d) (b ∷ r) h₁ in
        many at c (digit at c ((48 + d) ∷ b ∷ r) lc h) (omega arith) (omega arith)
        ∙ go 2 (at + 1) c d (digit (at + 1) d (b ∷ r) ld h₁) (omega arith)
        ∙ stop 1 (at + 1 + 1) (10 * c + d) (no_digit (at + 1 + 1) b r lb h₂)
        ∙ same-value (10 * c + d) (at + 1 + 1) (at + 2) (sym e) (omega arith)

    number-3 : (c d f : ℕ) → c < 10 → 0 < c → d < 10 → f < 10 → v ≡ 10 * (10 * c + d) + f
        → Read ((48 + c) ∷ (48 + d) ∷ (48 + f) ∷ [])
    number-3 c d f lc zc ld lf e h =
        let h₁ = next at (48 + c) ((48 + d) ∷ (48 + f) ∷ b ∷ r) h in
        let h₂ = next (at + 1) (48 + d) ((48 + f) ∷ b ∷ r) h₁ in
        let h₃ = next (at + 1 + 1) (48 + f) (b ∷ r) h₂ in
        many at c (digit at c ((48 + d) ∷ (48 + f) ∷ b ∷ r) lc h) (omega arith) (omega arith)
        ∙ go 2 (at + 1) c d (digit (at + 1) d ((48 + f) ∷ b ∷ r) ld h₁) (omega arith)
        ∙ go 1 (at + 1 + 1) (10 * c + d) f (digit (at + 1 + 1) f (b ∷ r) lf h₂) (omega arith)
        ∙ stop 0 (at + 1 + 1 + 1) (10 * (10 * c + d) + f) (no_digit (at + 1 + 1 + 1) b r lb h₃)
        ∙ same-value (10 * (10 * c + d) + f) (at + 1 + 1 + 1) (at + 3) (sym e) (omega arith)

    number-4 : (c d f g : ℕ) → c < 10 → 0 < c → d < 10 → f < 10 → g < 10 → v ≡ 10 * (10 * (10 * c + d) + f) + g
        → Read ((48 + c) ∷ (48 + d) ∷ (48 + f) ∷ (48 + g) ∷ [])
    number-4 c d f g lc zc ld lf lg e h =
        let h₁ = next at (48 + c) ((48 + d) ∷ (48 + f) ∷ (48 + g) ∷ b ∷ r) h in
        let h₂ = next (at + 1) (48 + d) ((48 + f) ∷ (48 + g) ∷ b ∷ r) h₁ in
        let h₃ = next (at + 1 + 1) (48 + f) ((48 + g) ∷ b ∷ r) h₂ in
        many at c (digit at c ((48 + d) ∷ (48 + f) ∷ (48 + g) ∷ b ∷ r) lc h) (omega arith) (omega arith)
        ∙ go 2 (at + 1) c d (digit (at + 1) d ((48 + f) ∷ (48 + g) ∷ b ∷ r) ld h₁) (omega arith)
        ∙ go 1 (at + 1 + 1) (10 * c + d) f (digit (at + 1 + 1) f ((48 + g) ∷ b ∷ r) lf h₂) (omega arith)
        ∙ go 0 (at + 1 + 1 + 1) (10 * (10 * c + d) + f) g (digit (at + 1 + 1 + 1) g (b ∷ r) lg h₃) (omega arith)
        ∙ none_left (at + 1 + 1 + 1 + 1) (10 * (10 * (10 * c + d) + f) + g)
        ∙ same-value (10 * (10 * (10 * c + d) + f) + g) (at + 1 + 1 + 1 + 1) (at + 4) (sym e) (omega arith)

    by_size : v < 10000 → Dec (v < 1000) → Dec (v < 100) → Dec (v < 10) → Dec (0 < v) → Read (decimal v)
    by_size l (no d) c a z =
        subst Read (sym (decimal-4 v (omega arith)))
        (number-4 (v / 1000 % 10) (v / 100 % 10) (v / 10 % 10) (v % 10) (omega arith) (omega arith) (omega arith) (omega arith)
        (omega arith) (tens-4 v l))
    by_size l (yes d) (no c) a z =
        subst Read (sym (decimal-3 v (omega arith) d))
        (number-3 (v / 100 % 10) (v / 10 % 10) (v % 10) (omega arith) (omega arith) (omega arith) (omega arith) (tens-3 v d))
    by_size l (yes d) (yes c) (no a) z =
        subst Read (sym (decimal-2 v (omega arith) c))
        (number-2 (v / 10 % 10) (v % 10) (omega arith) (omega arith) (omega arith) (omega arith))
    by_size l (yes d) (yes c) (yes a) (yes z) = subst Read (sym (decimal-1 v a)) (number-1 z a)
    by_size l (yes d) (yes c) (yes a) (no z) = subst Read (sym (decimal-1 v a)) (number-0 (omega arith))

    -- a number before a byte that is no digit
    pub number : v < 10000 → Read (decimal v)
    number l = by_size l (dec_lt v 1000) (dec_lt v 100) (dec_lt v 10) (dec_lt 0 v)

  -- a number before the byte that is to follow it
  pub ranged : (v low high end at : ℕ) (why : Fault) (r : List ℕ) → v < 10000 → end < 48 → Here s at (decimal v ++ (end ∷ r))
      → ranged_at s at low high end why
      ≡ cond (ltb v low) (misread why (at + length (decimal v)))
      (cond (leb high v) (misread why (at + length (decimal v))) (Ok (v, at + length (decimal v))))
  unfolding ranged_at
  ranged v low high end at why r lv le h =
      let p : ℕ = at + length (decimal v) in
      rw (number v end r at le lv h, eq-eqb (byte_at s p) end (byte p end r (past at (decimal v) (end ∷ r) h)))

  -- ---- words
  starts : (w : Word) (at : ℕ) (r : List ℕ) → Here s at (spelling w ++ r) → byte_at s at ≡ first w
  starts w at r h = byte at (first w) (drop 1 (spelling w) ++ r) (subst (λ (z : List ℕ). Here s at (z ++ r)) (spelt w) h)

  -- a word is the one that begins with its first byte
  letter : (w : Word) (role : Role) (at : ℕ) → May role w
      → letter_then s at (head_words role) (first w) ≡ spelled_of w (match_at s at (spelling w))
  letter False role at m = refl
  letter True role at m = refl
  letter Yes role at m = refl
  letter No role at m = refl
  letter Pick role at m = refl
  letter Both role at m = refl
  letter Line Argument at m = refl
  letter Line OwnForm at m = absurd m

  -- a form's bracket and word
  pub opening : (w : Word) (role : Role) (at : ℕ) (g : Limits) (r : List ℕ) → May role w → Here s at (40 ∷ (spelling w ++ r))
      → head_at s at role g ≡ tail_at s (at + 1 + length (spelling w)) w g
  unfolding head_at
  opening w role at g r m h =
      let h₁ : Here s (at + 1) (spelling w ++ r) = next at 40 (spelling w ++ r) h in
      let e : word_at s (at + 1) (head_words role) ≡ Ok (w, at + 1 + length (spelling w)) =
      by-letter s (at + 1) (head_words role) (apart role) ∙ ap (letter_then s (at + 1) (head_words role)) (starts w (at + 1) r h₁)
      ∙ letter w role (at + 1) m ∙ ap (spelled_of w) (matched (spelling w) r (at + 1) h₁) in
      rw (eq-eqb (byte_at s at) 40 (byte at 40 (spelling w ++ r) h), e)
