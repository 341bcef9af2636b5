-- The function of a node and its negation, by the sign: how it is made of the children's, with no variable in common.
use Prim.Native.Nat.{ℕ, ◌<◌}
use mathlib.Core.Path.{◌≡◌, refl, sym, ap, subst, fun_ext}
use mathlib.Core.Bool.{Bool, true, false}
use mathlib.Core.Logic.{◌⊎◌, ⊎_map}
use mathlib.Core.List.{List, ◌∷◌, Memᴰ}
use lib.Dec.{T}
use Rattle.table.specs.Node.{node_at, Node, decision}
use Rattle.terms.proofs.Embeddings.{side-embeds, Embeds}
use Rattle.terms.proofs.Implicants.{Free}
use Rattle.circuits.specs.Check.{all_disjoint}
use Rattle.circuits.specs.Function.{signed, node_value, function, signed_function, support}
use Rattle.circuits.proofs.Accepted.{Accepted}
use Rattle.circuits.proofs.Nodes.{sides, all_of, node-fits, function-is, decision-free, all_apart}

-- the two sides of a decision
abbrev pub signed_sides : Bool → List ℕ → ℕ → ℕ → Bool → ℕ → Bool
signed_sides c w a b d s = signed c (sides w a b d s)

-- the conjunction of the children's functions
abbrev pub signed_all : Bool → List ℕ → List ℕ → ℕ → Bool
signed_all c w ds s = signed c (all_of w ds s)

-- the negation of a negation
pub signed-signed : (c b v : Bool) → signed (signed c b) v ≡ signed c (signed b v)
signed-signed true b v = refl
signed-signed false true v = refl
signed-signed false false true = refl
signed-signed false false false = refl

free-signed : (c : Bool) (N : ℕ) (f : ℕ → Bool) (x : ℕ) → Free N f x → Free N (λ s. signed c (f s)) x
free-signed c N f x h s b l = ap (signed c) (h s b l)

module _ {N n : ℕ} {w : List ℕ} (acc : Accepted N n w) (c : Bool) where
  -- by the kind of the node
  pub signed_is : (i : ℕ) (y : Node) → i < n → node_at w i ≡ y
      → signed_function c w i ≡ (λ s. signed c (node_value s y (λ d. function w d s)))
  signed_is i y l e = fun_ext (λ s. ap (λ (f : ℕ → Bool). signed c (f s)) (function-is acc i y l e))

  -- a decision's variable does not matter to its sides
  pub side-free : (i x a b : ℕ) → i < n → node_at w i ≡ decision x a b → (d : Bool) → Free N (signed_sides c w a b d) x
  side-free i x a b l e d = free-signed c N (sides w a b d) x (decision-free acc i x a b l e d)

  -- the prime implicants of a side go one to one into the decision's
  pub side-up : (i x a b : ℕ) → i < n → node_at w i ≡ decision x a b → (d : Bool)
      → Embeds N (signed_sides c w a b d) (signed_function c w i)
  side-up i x a b l e d =
      subst (Embeds N (signed_sides c w a b d)) (sym (signed_is i (decision x a b) l e))
      (side-embeds N (signed_sides c w a b) x (node-fits acc i (decision x a b) l e).0 (side-free i x a b l e) d)

  -- no variable matters to a child of a conjunction and to those after it
  pub signed-apart : (d : ℕ) (ds : List ℕ) → T (all_disjoint (support w) (d ∷ ds)) → ((e : ℕ) → Memᴰ e (d ∷ ds) → e < n)
      → (x : ℕ) → x < N → Free N (signed_function c w d) x ⊎ Free N (signed_all c w ds) x
  signed-apart d ds h l x k =
      ⊎_map (free-signed c N (function w d) x) (free-signed c N (all_of w ds) x) (all_apart acc d ds h l x k)
