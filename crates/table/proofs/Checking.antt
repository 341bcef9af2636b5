-- Laws of 21 and of rules for nodes in their order.
use Prim.Native.Nat.{ℕ, ◌<◌, ◌≤◌}
use mathlib.Core.Path.{◌≡◌, refl, sym, ap, ap₂, subst}
use mathlib.Core.Bool.{Bool, true, false, not, cond}
use mathlib.Core.List.Memᴰ
use mathlib.Core.List.{List, [], ◌∷◌, Memᴰ}
use mathlib.Core.Logic.{⊎_elim}
use native.Mathlib.Omega.{arith}
use lib.Dec.{T, ltb, leb→le, nltb→le}
use lib.ListN.{length}
use borrow.Author.Tests.{lt-ltb, le-ltb}
use Rattle.std.specs.Prelude.{Some, None}
use Rattle.masks.specs.Numbers.{least, first}
use Rattle.masks.proofs.Least.{first-some, first-nowhere}
use Rattle.masks.proofs.Numbers.{least-none}
use Rattle.masks.proofs.Tests.{and_l, and_r, along}
use Rattle.table.specs.Layout.{words_for}
use Rattle.table.specs.Node.{max_nodes, max_variables}
use Rattle.table.specs.Outcome.{accepted, refused}
use Rattle.table.specs.Words.{in_range, malformed, first_fault, check_by, check_words, Sound}

-- what 21 tests
pub range-e : (N n : ℕ) (w : List ℕ) → T (in_range N n w) → (N ≤ max_variables) × (1 ≤ n) × (n ≤ max_nodes) × (words_for n ≤ length w)
range-e N n w h = (
  leb→le N max_variables (search (and_l, and_r)),
  leb→le 1 n (search (and_l, and_r)),
  leb→le n max_nodes (search (and_l, and_r)),
  leb→le (words_for n) (length w) (search (and_l, and_r)),
)

-- ---- the rules in turn
module _ (n k : ℕ) (p : ℕ → Bool) (rs : List (ℕ × (ℕ → Bool))) where
  pub fault-here : {i : ℕ} → first n p ≡ Some i → first_fault n ((k, p) ∷ rs) ≡ refused k i
  fault-here {i} e =
      let f : (i ≡ least n p) × (i < n) = first-some p n e in
      ap₂ (λ (t : Bool) (j : ℕ). cond t (refused k j) (first_fault n rs)) (lt-ltb (least n p) n (subst (λ (j : ℕ). j < n) f.0 f.1)) (sym f.0)

  pub fault-later : first n p ≡ None → first_fault n ((k, p) ∷ rs) ≡ first_fault n rs
  fault-later e =
      ap (λ (t : Bool). cond t (refused k (least n p)) (first_fault n rs)) (le-ltb (least n p) n (first-nowhere p n e))

-- 21, and what comes after it
module _ (N n : ℕ) (w : List ℕ) (rs : List (ℕ × (ℕ → Bool))) where
  pub out_of_range : in_range N n w ≡ false → check_by N n w rs ≡ refused 21 0
  out_of_range e = ap (λ (t : Bool). cond t (first_fault n rs) (refused 21 0)) e

  pub in-range : in_range N n w ≡ true → check_by N n w rs ≡ first_fault n rs
  in-range e = ap (λ (t : Bool). cond t (first_fault n rs) (refused 21 0)) e

no-fault : (n : ℕ) (rs : List (ℕ × (ℕ → Bool))) → first_fault n rs ≡ accepted
    → (r : ℕ × (ℕ → Bool)) → Memᴰ r rs → (i : ℕ) → i < n → T (not (r.1 i))
no-fault n [] h r m i l = absurd (Memᴰ.not-nil m)
no-fault n (q ∷ rs) h r m i l = go (ltb (least n q.1) n) refl h (no-fault n rs)
  where
    go : (b : Bool) → ltb (least n q.1) n ≡ b → cond b (refused q.0 (least n q.1)) (first_fault n rs) ≡ accepted
        → (first_fault n rs ≡ accepted → (r : ℕ × (ℕ → Bool)) → Memᴰ r rs → (i : ℕ) → i < n → T (not (r.1 i)))
        → T (not (r.1 i))
    go true e h rest = let z : ◌≡◌ {A = ℕ} 0 1 = cc in absurd (omega arith)
    go false e h rest =
        ⊎_elim
        (λ (d : r ≡ q).
        subst (λ (z : ℕ × (ℕ → Bool)). T (not (z.1 i))) (sym d)
        (least-none n q.1 (nltb→le (least n q.1) n (along (ap not (sym e)) tt)) i l))
        (λ (k : Memᴰ r rs). rest h r k i l)
        (Memᴰ.cases_cons m)

-- a table that such a check accepts is in range, and none of its nodes breaks a rule
pub accepted-by : (N n : ℕ) (w : List ℕ) (rs : List (ℕ × (ℕ → Bool))) → check_by N n w rs ≡ accepted
    → T (in_range N n w) × ((r : ℕ × (ℕ → Bool)) → Memᴰ r rs → (i : ℕ) → i < n → T (not (r.1 i)))
accepted-by N n w rs = go (in_range N n w) refl
  where
    go : (b : Bool) → in_range N n w ≡ b → cond b (first_fault n rs) (refused 21 0) ≡ accepted
        → T (in_range N n w) × ((r : ℕ × (ℕ → Bool)) → Memᴰ r rs → (i : ℕ) → i < n → T (not (r.1 i)))
    go true d h = (along (sym d) tt, no-fault n rs h)
    go false d h = let z : ◌≡◌ {A = ℕ} 0 1 = cc in absurd (omega arith)

-- what 21 and 22 accept is sound
pub words-sound : (N n : ℕ) (w : List ℕ) → check_words N n w ≡ accepted → Sound N n w
unfolding check_words
words-sound N n w e =
    let (range, none) = accepted-by N n w ((22, malformed N w) ∷ []) e in
    let r = range-e N n w range in
    record { narrow = r.0; first = r.1; nodes = r.2; words = r.3; well = none (22, malformed N w) (Memᴰ.head refl) }
