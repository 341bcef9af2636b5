-- T5: no node of an accepted table has more prime implicants than the last, and so for the negations.
use Prim.Native.Nat.{ℕ, zero, suc, pred, ◌+◌, ◌<◌, ◌≤◌}
use mathlib.Core.Path.{◌≡◌, refl, sym, subst}
use mathlib.Core.Bool.{Bool, true, false}
use mathlib.Core.Logic.{⊎_elim}
use mathlib.Core.List.Memᴰ
use mathlib.Core.List.{List, [], ◌∷◌, Memᴰ}
use native.Mathlib.Nat.{eq-or-lt_of_le}
use native.Mathlib.Omega.{arith}
use lib.ListN.{length}
use Rattle.table.specs.Node.{node_at, children, Node, constant, literal, decision, conjunction, unknown}
use Rattle.terms.specs.Prime.{primes}
use Rattle.terms.proofs.Embeddings.{embeds-refl, embeds-trans, embeds-length, Embeds}
use Rattle.circuits.specs.Function.{signed_function}
use Rattle.circuits.proofs.Accepted.{parent, Accepted}
use Rattle.circuits.proofs.Conjoined.{apart-rest, conjunction-apart, head-up, rest_up, Apart}
use Rattle.circuits.proofs.Signed.{signed_all, signed_is, side-up}
use Rattle.circuits.proofs.Tables.{children-below}

module _ {N n : ℕ} {w : List ℕ} (acc : Accepted N n w) (c : Bool) where
  abbrev node : ℕ → ℕ → Bool
  node = signed_function c w

  all-embeds : (ds : List ℕ) → Apart acc ds → (d : ℕ) → Memᴰ d ds → Embeds N (node d) (signed_all c w ds)
  all-embeds [] h d m = absurd (Memᴰ.not-nil m)
  all-embeds (b ∷ ds) h d m =
      ⊎_elim
      (λ (e : d ≡ b). subst (λ (z : ℕ). Embeds N (node z) (signed_all c w (b ∷ ds))) (sym e) (head-up acc b ds h c))
      (λ (k : Memᴰ d ds).
      embeds-trans N (node d) (signed_all c w ds) (signed_all c w (b ∷ ds)) (all-embeds ds (apart-rest acc b ds h) d k)
      (rest_up acc b ds h c))
      (Memᴰ.cases_cons m)

  -- a child's prime implicants go one to one into its parent's
  child-up : (i j : ℕ) → j < n → (y : Node) → node_at w j ≡ y → Memᴰ i (children y) → Embeds N (node i) (node j)
  child-up i j l (constant b) e m = absurd (Memᴰ.not-nil m)
  child-up i j l (literal b x) e m = absurd (Memᴰ.not-nil m)
  child-up i j l (decision x a b) e m =
      ⊎_elim
      (λ (d : i ≡ a). subst (λ (z : ℕ). Embeds N (node z) (node j)) (sym d) (side-up acc c j x a b l e false))
      (λ (k : Memᴰ i (b ∷ [])).
      subst (λ (z : ℕ). Embeds N (node z) (node j)) (sym (Memᴰ.eq_of_singleton k)) (side-up acc c j x a b l e true))
      (Memᴰ.cases_cons m)
  child-up i j l (conjunction ds) e m =
      subst (Embeds N (node i)) (sym (signed_is acc c j (conjunction ds) l e)) (all-embeds ds (conjunction-apart acc j ds l e) i m)
  child-up i j l unknown e m = absurd (Memᴰ.not-nil m)

  -- up through parents to the last node; k bounds how many are left
  up : (k i : ℕ) → n ≤ i + k → i < n → Embeds N (node i) (node (pred n))
  up zero i h l = absurd (omega arith)
  up (suc k) i h l =
      ⊎_elim
      (λ (e : suc i ≡ n).
      let q : i ≡ pred n = omega arith in
      subst (λ (z : ℕ). Embeds N (node i) (node z)) q (embeds-refl N (node i)))
      (λ (q : suc i < n).
      let (j, lj, m) = parent acc i q in
      let d : i < j = children-below N n w acc.well j lj i m in
      embeds-trans N (node i) (node j) (node (pred n)) (child-up i j lj (node_at w j) refl m) (up k j (omega arith) lj))
      (eq-or-lt_of_le l)

  pub no_more : (m : List ℕ) (i : ℕ) → i < n → length (primes m N (node i)) ≤ length (primes m N (node (pred n)))
  no_more m i l = embeds-length N m m (node i) (node (pred n)) (up n i (omega arith) l)
