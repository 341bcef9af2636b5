-- A table in which every node is well-formed: children stand below, and a variable not under a node does not matter to it.
use Prim.Native.Nat.{ℕ, zero, suc, ◌<◌}
use mathlib.Core.Path.{◌≡◌, refl, sym, ap, ap₂, subst, ◌∙◌}
use mathlib.Core.Bool.{Bool, true, false, not, cond, ◌&&◌}
use mathlib.Core.Logic.{◌≢◌}
use mathlib.Core.List.{List, [], ◌∷◌, Memᴰ}
use native.Mathlib.Nat.{not-suc-le-zero, le_refl}
use native.Mathlib.Omega.{arith}
use lib.Dec.{T, T_not}
use lib.Bits.{bit_or}
use Rattle.masks.specs.Mask.{bit, put}
use Rattle.masks.proofs.Masks.{put_same, put_other}
use Rattle.masks.proofs.Operators.{bit-or}
use Rattle.masks.proofs.Tests.{not-or, along, either}
use Rattle.table.specs.Node.{node_at, children, Node, constant, literal, decision, conjunction, unknown}
use Rattle.table.specs.Words.{malformed}
use Rattle.table.proofs.Encoding.{Fits, node-fits, fits_below}
use Rattle.terms.specs.Lists.{all}
use Rattle.terms.proofs.Implicants.{Free}
use Rattle.circuits.specs.Function.{signed, node_value, function, union, node_support, support}
use Rattle.circuits.proofs.BottomUp.{from-children, branch-mem, value-local, support-local}

-- every node below n is well-formed
abbrev pub WellFormed : ℕ → ℕ → List ℕ → Type 0
WellFormed N n w = (i : ℕ) → i < n → T (not (malformed N w i))

-- ---- a variable that is not under a node does not matter to it
not-or-bit : (a b x : ℕ) → T (not (bit (bit_or a b) x)) → T (not (bit a x)) × T (not (bit b x))
not-or-bit a b x h = not-or (bit a x) (bit b x) (along (ap not (bit-or a b x)) h)

not-put : (m y x : ℕ) → T (not (bit (put m y true) x)) → (y ≢ x) × T (not (bit m x))
not-put m y x h = (other, along (ap not (put_other m y x true (λ e. other (sym e)))) h)
  where
    other : y ≢ x
    other e = T_not (bit (put m y true) x) h (subst (λ (z : ℕ). T (bit (put m y true) z)) e (along (sym (put_same m y true)) tt))

pub all-free : (x : ℕ) (cs : List ℕ) (u : ℕ → ℕ) (v v' : ℕ → Bool) → T (not (bit (union u cs) x))
    → ((c : ℕ) → Memᴰ c cs → T (not (bit (u c) x)) → v c ≡ v' c) → all v cs ≡ all v' cs
all-free x [] u v v' h e = refl
all-free x (c ∷ cs) u v v' h e =
    let (p, q) = not-or-bit (u c) (union u cs) x h in
    ap₂ ◌&&◌ (e c (Memᴰ.head refl) p) (all-free x cs u v v' q (λ b m. e b (Memᴰ.tail m)))

node-free : (x s : ℕ) (b : Bool) (u : ℕ → ℕ) (v v' : ℕ → Bool) (y : Node) → T (not (bit (node_support y u) x))
    → ((c : ℕ) → Memᴰ c (children y) → T (not (bit (u c) x)) → v c ≡ v' c)
    → node_value (put s x b) y v ≡ node_value s y v'
node-free x s b u v v' (constant t) h e = refl
node-free x s b u v v' (literal t y) h e = ap (signed t) (put_other s x y b (not-put 0 y x h).0)
node-free x s b u v v' (decision y c d) h e =
    let (n, m) = not-put (bit_or (u c) (u d)) y x h in
    let (p, q) = not-or-bit (u c) (u d) x m in
    ap (λ (t : Bool). v (cond t d c)) (put_other s x y b n)
    ∙ e (cond (bit s y) d c) (branch-mem c d (bit s y))
    (either (λ (t : Bool). T (not (bit (u (cond t d c)) x))) true q p (bit s y))
node-free x s b u v v' (conjunction cs) h e = all-free x cs u v v' h e
node-free x s b u v v' unknown h e = refl

module _ (N n : ℕ) (w : List ℕ) (well : WellFormed N n w) where
  pub fits : (i : ℕ) → i < n → Fits N i (node_at w i)
  fits i l = node-fits N i w (well i l)

  pub children-below : (i : ℕ) → i < n → (c : ℕ) → Memᴰ c (children (node_at w i)) → c < i
  children-below i l = fits_below N i (node_at w i) (fits i l)

  -- a node's function is what its kind makes of its variable and its children's functions
  pub function_of : (i : ℕ) → i < n → (s : ℕ) → function w i s ≡ node_value s (node_at w i) (λ c. function w c s)
  unfolding function
  function_of i l s = from-children false (node_value s) w (value-local s) i (children-below i l)

  pub support-of : (i : ℕ) → i < n → support w i ≡ node_support (node_at w i) (support w)
  unfolding support
  support-of i l = from-children 0 node_support w support-local i (children-below i l)

  -- what holds of a node where it holds of its children holds of every node
  pub node-induction : (P : ℕ → Type 0)
      → ((i : ℕ) → i < n → ((c : ℕ) → Memᴰ c (children (node_at w i)) → P c) → P i) → (i : ℕ) → i < n → P i
  node-induction P step i l = upto (suc i) i (le_refl (suc i)) l
    where
      upto : (m i : ℕ) → i < m → i < n → P i
      upto zero i k l = absurd (not-suc-le-zero k)
      upto (suc m) i k l =
          step i l (λ c mem. let q : c < i = children-below i l c mem in upto m c (omega arith) (omega arith))

  pub not-under-free : (i x : ℕ) → i < n → T (not (bit (support w i) x)) → Free N (function w i) x
  not-under-free i x l h s b k =
      node-induction (λ i. T (not (bit (support w i) x)) → function w i (put s x b) ≡ function w i s)
      (λ i l below h.
      function_of i l (put s x b)
      ∙ node-free x s b (support w) (λ c. function w c (put s x b)) (λ c. function w c s) (node_at w i)
      (subst (λ (t : ℕ). T (not (bit t x))) (support-of i l) h) below
      ∙ sym (function_of i l s))
      i l h
