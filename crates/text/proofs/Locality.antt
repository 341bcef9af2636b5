-- What is read depends only on the bytes up to where it is found: laws, and the readings of numbers and words.
use Prim.Native.Nat.{ℕ, zero, suc, ◌+◌, ◌-◌, ◌*◌, ◌≤◌}
use mathlib.Core.Path.{◌≡◌, refl, sym, ap, ◌∙◌}
use mathlib.Core.Bool.{Bool, true, false, cond}
use mathlib.Core.List.{List, [], ◌∷◌}
use native.Mathlib.Omega.{arith}
use lib.Dec.{eqb, ltb}
use Rattle.table.specs.Outcome.{Outcome, answered, refused}
use Rattle.text.specs.Read.{byte_at, digit_at, digits_at, number_at, match_at}
use Rattle.text.proofs.Words.{matched_at}
use Rattle.std.specs.Prelude.{Option, Some, None, Ok, Err}

-- s' has the bytes of s up to place p
abbrev pub SameTo : List ℕ → List ℕ → ℕ → Type 0
SameTo s s' p = (i : ℕ) → i ≤ p → byte_at s' i ≡ byte_at s i

-- what X finds in s lies at `at` or later, and a text with the same bytes up to there gives the same; `reach` is where it lies
abbrev pub Local : {R : Type 0} → (R → ℕ) → List ℕ → (List ℕ → R) → ℕ → Type 0
Local reach s X at = (at ≤ reach (X s)) × ((s' : List ℕ) → SameTo s s' (reach (X s)) → X s' ≡ X s)

module _ {R : Type 0} (reach : R → ℕ) (s : List ℕ) where
  pub ret : (r : R) (at : ℕ) → at ≤ reach r → Local reach s (λ z. r) at
  ret r at l = (l, λ s' a. refl)

  pub if : (b : Bool) (A B : List ℕ → R) (at : ℕ) → Local reach s A at → Local reach s B at → Local reach s (λ z. cond b (A z) (B z)) at
  if true A B at a b = a
  if false A B at a b = b

  pub later : (X : List ℕ → R) (at to : ℕ) → at ≤ to → Local reach s X to → Local reach s X at
  later X at to l x = (omega (arith, x.0), x.1)

  -- a reading that gives the same everywhere
  pub same_loc : (X Y : List ℕ → R) (at : ℕ) → ((z : List ℕ) → X z ≡ Y z) → Local reach s Y at → Local reach s X at
  same_loc X Y at e y =
      let r : reach (X s) ≡ reach (Y s) = ap reach (e s) in
      (omega (arith, y.0), λ s' a. e s' ∙ y.1 s' (λ i l. a i (omega arith)) ∙ sym (e s))

  pub bind : {Q : Type 0} (of : Q → ℕ) (X : List ℕ → Q) (K : List ℕ → Q → R) (at : ℕ) → Local of s X at
      → ((q : Q) → Local reach s (λ z. K z q) (of q)) → Local reach s (λ z. K z (X z)) at
  bind of X K at x k =
      let l = (k (X s)).0 in
      (omega (arith, x.0, l), λ s' a. ap (K s') (x.1 s' (λ i j. a i (omega (arith, l, j)))) ∙ (k (X s)).1 s' a)

  -- by the byte at a place
  pub at_byte : (p : ℕ) (K : List ℕ → ℕ → R) → ((c : ℕ) → Local reach s (λ z. K z c) p) → Local reach s (λ z. K z (byte_at z p)) p
  at_byte p K k = bind (λ (c : ℕ). p) (λ z. byte_at z p) K p (omega arith, λ s' a. a p (omega arith)) k

-- ---- an answer that is a refusal; nothing is said of one that is not. `of` is the answer of a reading
abbrev pub LocalAnswer : {R A : Type 0} → (R → Outcome A) → List ℕ → (List ℕ → R) → ℕ → Type 0
LocalAnswer of s X at =
    (e p : ℕ) → of (X s) ≡ refused e p → (at ≤ p) × ((s' : List ℕ) → SameTo s s' p → of (X s') ≡ refused e p)

pub same_place : {A : Type 0} (e p e' p' : ℕ) → ◌≡◌ {A = Outcome A} (refused e p) (refused e' p') → p ≡ p'
same_place e p e' p' h = cc

module _ {R A : Type 0} (of : R → Outcome A) (s : List ℕ) where
  pub refused-loc : (r : R) (e₀ p₀ at : ℕ) → of r ≡ refused e₀ p₀ → at ≤ p₀ → LocalAnswer of s (λ z. r) at
  refused-loc r e₀ p₀ at i l e p h = (omega (arith, same_place e₀ p₀ e p (sym i ∙ h)), λ s' a. h)

  pub accepted-loc : (r : R) (v : A) (at : ℕ) → of r ≡ answered v → LocalAnswer of s (λ z. r) at
  accepted-loc r v at i e p h = let z : ◌≡◌ {A = ℕ} 0 1 = cc in absurd (omega arith)

  pub if-answer : (b : Bool) (X Y : List ℕ → R) (at : ℕ) → LocalAnswer of s X at → LocalAnswer of s Y at
      → LocalAnswer of s (λ z. cond b (X z) (Y z)) at
  if-answer true X Y at a b = a
  if-answer false X Y at a b = b

  pub later-answer : (X : List ℕ → R) (at to : ℕ) → at ≤ to → LocalAnswer of s X to → LocalAnswer of s X at
  later-answer X at to l x e p h = let k = x e p h in (omega (arith, k.0), k.1)

  pub bind-answer : {Q : Type 0} (reach : Q → ℕ) (X : List ℕ → Q) (K : List ℕ → Q → R) (at : ℕ) → Local reach s X at
      → ((q : Q) → LocalAnswer of s (λ z. K z q) (reach q)) → LocalAnswer of s (λ z. K z (X z)) at
  bind-answer reach X K at x k e p h =
      let l = k (X s) e p h in (
        omega (arith, x.0, l.0),
        λ s' a. ap (λ q. of (K s' q)) (x.1 s' (λ i j. a i (omega (arith, l.0, j)))) ∙ l.1 s' a,
      )

  pub byte-answer : (p : ℕ) (K : List ℕ → ℕ → R) → ((c : ℕ) → LocalAnswer of s (λ z. K z c) p) → LocalAnswer of s (λ z. K z (byte_at z p)) p
  byte-answer p K k = bind-answer (λ (c : ℕ). p) (λ z. byte_at z p) K p (omega arith, λ s' a. a p (omega arith)) k

-- ---- numbers and words
-- where a number lies
abbrev pub numeral_at : ℕ → Option (ℕ × ℕ) → ℕ
numeral_at at (Some (v, p)) = p
numeral_at at None = at

module _ (s : List ℕ) where
  digit-loc : (p : ℕ) → Local (λ (b : ℕ). p) s (λ z. digit_at z p) p
  unfolding digit_at
  digit-loc p = (omega arith, λ s' a. ap (λ (b : ℕ). cond (ltb b 48) 10 (cond (ltb 57 b) 10 (b - 48))) (a p (omega arith)))

  digits-loc : (k start at v : ℕ) → Local (numeral_at start) s (λ z. digits_at k z at v) at
  unfolding digits_at
  digits-loc zero start at v = ret (numeral_at start) s (Some (v, at)) at (omega arith)
  digits-loc (suc k) start at v =
      bind (numeral_at start) s (λ (b : ℕ). at) (λ z. digit_at z at)
      (λ z d. cond (eqb d 10) (Some (v, at)) (digits_at k z (at + 1) (10 * v + d))) at (digit-loc at)
      (λ d. if (numeral_at start) s (eqb d 10) (λ z. Some (v, at)) (λ z. digits_at k z (at + 1) (10 * v + d)) at
      (ret (numeral_at start) s (Some (v, at)) at (omega arith))
      (later (numeral_at start) s (λ z. digits_at k z (at + 1) (10 * v + d)) at (at + 1) (omega arith)
      (digits-loc k start (at + 1) (10 * v + d))))

  pub number-loc : (at : ℕ) → Local (numeral_at at) s (λ z. number_at z at) at
  unfolding number_at
  number-loc at =
      let of : Option (ℕ × ℕ) → ℕ = numeral_at at in
      bind of s (λ (b : ℕ). at) (λ z. digit_at z at)
      (λ z d. cond (eqb d 10) None (cond (eqb d 0) (Some (0, at + 1)) (digits_at 3 z (at + 1) d))) at (digit-loc at)
      (λ d. if of s (eqb d 10) (λ z. None) (λ z. cond (eqb d 0) (Some (0, at + 1)) (digits_at 3 z (at + 1) d)) at
      (ret of s None at (omega arith))
      (if of s (eqb d 0) (λ z. Some (0, at + 1)) (λ z. digits_at 3 z (at + 1) d) at (ret of s (Some (0, at + 1)) at (omega arith))
      (later of s (λ z. digits_at 3 z (at + 1) d) at (at + 1) (omega arith) (digits-loc 3 at (at + 1) d))))

  pub match-loc : (w : List ℕ) (at : ℕ) → Local matched_at s (λ z. match_at z at w) at
  unfolding match_at
  match-loc [] at = ret matched_at s (Ok at) at (omega arith)
  match-loc (b ∷ w) at =
      at_byte matched_at s at (λ z c. cond (eqb c b) (match_at z (at + 1) w) (Err at))
      (λ c. if matched_at s (eqb c b) (λ z. match_at z (at + 1) w) (λ z. Err at) at
      (later matched_at s (λ z. match_at z (at + 1) w) at (at + 1) (omega arith) (match-loc w (at + 1)))
      (ret matched_at s (Err at) at (omega arith)))
