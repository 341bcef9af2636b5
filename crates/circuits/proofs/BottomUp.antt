-- What is computed bottom up is computed of each node from its children's.
use Prim.Native.Nat.{ℕ, zero, suc, ◌<◌}
use mathlib.Core.Path.{◌≡◌, refl, sym, ap, ap₂, subst, ◌∙◌}
use mathlib.Core.Bool.{Bool, true, false, cond, ◌&&◌}
use mathlib.Core.Logic.{⊎_elim}
use mathlib.Core.List.{List, [], ◌∷◌, Memᴰ}
use native.Mathlib.Nat.{not-suc-le-zero}
use native.Mathlib.Omega.{arith}
use lib.ListN.{length, get_or, length-append, get_or-append}
use lib.Seq.{get_or_at}
use lib.Bits.{bit_or}
use Rattle.masks.specs.Mask.{bit, put}
use Rattle.masks.proofs.Tests.{below_suc}
use Rattle.table.specs.Node.{node_at, children, Node, constant, literal, decision, conjunction, unknown}
use Rattle.terms.specs.Lists.{all}
use Rattle.circuits.specs.Function.{bottom_up, of_node, node_value, union, node_support}

-- f looks only at what is known of the node's children
abbrev pub Local : {A : Type 0} → (Node → (ℕ → A) → A) → Type 0
Local {A} f = (y : Node) (v v' : ℕ → A) → ((c : ℕ) → Memᴰ c (children y) → v c ≡ v' c) → f y v ≡ f y v'

module _ {A : Type 0} (d : A) (f : Node → (ℕ → A) → A) (w : List ℕ) where
  pub up-length : (n : ℕ) → length (bottom_up d f w n) ≡ n
  unfolding bottom_up
  up-length zero = refl
  up-length (suc n) =
      let e : length (bottom_up d f w n) ≡ n = up-length n in
      length-append (bottom_up d f w n) (f (node_at w n) (λ c. get_or (bottom_up d f w n) c d) ∷ []) ∙ omega arith

  of_node_lem : (i : ℕ) → of_node d f w i ≡ f (node_at w i) (λ c. get_or (bottom_up d f w i) c d)
  unfolding bottom_up of_node
  of_node_lem i = get_or_at (bottom_up d f w i) (f (node_at w i) (λ c. get_or (bottom_up d f w i) c d)) [] d i (up-length i)

  pub up_at : (n i : ℕ) → i < n → get_or (bottom_up d f w n) i d ≡ of_node d f w i
  unfolding bottom_up of_node
  up_at zero i l = absurd (not-suc-le-zero l)
  up_at (suc n) i l =
      ⊎_elim
      (λ (e : i ≡ n). subst (λ (k : ℕ). get_or (bottom_up d f w (suc n)) k d ≡ of_node d f w k) (sym e) refl)
      (λ (k : i < n).
      get_or-append (bottom_up d f w n) (f (node_at w n) (λ c. get_or (bottom_up d f w n) c d) ∷ []) d i
      (subst (λ (m : ℕ). i < m) (sym (up-length n)) k)
      ∙ up_at n i k)
      (below_suc l)

  pub from-children : Local f → (i : ℕ) → ((c : ℕ) → Memᴰ c (children (node_at w i)) → c < i)
      → of_node d f w i ≡ f (node_at w i) (of_node d f w)
  from-children local i h =
      of_node_lem i ∙ local (node_at w i) (λ c. get_or (bottom_up d f w i) c d) (of_node d f w) (λ c m. up_at i c (h c m))

-- the child that a decision takes is one of its children
pub branch-mem : (a b : ℕ) (t : Bool) → Memᴰ (cond t b a) (a ∷ b ∷ [])
branch-mem a b true = Memᴰ.tail (Memᴰ.head refl)
branch-mem a b false = Memᴰ.head refl

pub all_local : (cs : List ℕ) (v v' : ℕ → Bool) → ((c : ℕ) → Memᴰ c cs → v c ≡ v' c) → all v cs ≡ all v' cs
all_local [] v v' h = refl
all_local (c ∷ cs) v v' h = ap₂ ◌&&◌ (h c (Memᴰ.head refl)) (all_local cs v v' (λ b m. h b (Memᴰ.tail m)))

pub union-local : (cs : List ℕ) (v v' : ℕ → ℕ) → ((c : ℕ) → Memᴰ c cs → v c ≡ v' c) → union v cs ≡ union v' cs
union-local [] v v' h = refl
union-local (c ∷ cs) v v' h = ap₂ bit_or (h c (Memᴰ.head refl)) (union-local cs v v' (λ b m. h b (Memᴰ.tail m)))

pub value-local : (s : ℕ) → Local (node_value s)
value-local s (constant b) v v' h = refl
value-local s (literal b x) v v' h = refl
value-local s (decision x a b) v v' h = h (cond (bit s x) b a) (branch-mem a b (bit s x))
value-local s (conjunction cs) v v' h = all_local cs v v' h
value-local s unknown v v' h = refl

pub support-local : Local node_support
support-local (constant b) v v' h = refl
support-local (literal b x) v v' h = refl
support-local (decision x a b) v v' h =
    ap (λ (m : ℕ). put m x true) (ap₂ bit_or (h a (branch-mem a b false)) (h b (branch-mem a b true)))
support-local (conjunction cs) v v' h = union-local cs v v' h
support-local unknown v v' h = refl
