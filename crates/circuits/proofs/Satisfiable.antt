-- T8: in an accepted table only `false` nodes are unsatisfiable; every other node has a prime implicant.
use Prim.Native.Nat.{ℕ, ◌^◌, ◌<◌}
use mathlib.Core.Path.{◌≡◌, refl, sym, subst}
use mathlib.Core.Bool.{Bool, true, false, not, cond}
use mathlib.Core.Logic.{⊎_elim}
use mathlib.Core.List.{List, [], ◌∷◌, Memᴰ}
use lib.Dec.{T, T_not, not_T}
use Rattle.masks.proofs.Tests.{not-and}
use Rattle.table.specs.Node.{node_at, children, Node, constant, literal, decision, conjunction, unknown}
use Rattle.table.proofs.Encoding.{Fits}
use Rattle.terms.specs.Lists.{any}
use Rattle.terms.specs.Prime.{Prime}
use Rattle.terms.specs.Term.{empty, extend, join}
use Rattle.terms.specs.declared.Term.{Term}
use Rattle.terms.proofs.Conjunctions.{apart-prime}
use Rattle.terms.proofs.Embeddings.{Embeds}
use Rattle.terms.proofs.Sorted.{any-i}
use Rattle.terms.proofs.Terms.{own-agrees}
use Rattle.circuits.specs.Check.{all_disjoint, is_false, node_unreduced, unreduced}
use Rattle.circuits.specs.Function.{function, support}
use Rattle.circuits.proofs.Accepted.{Accepted}
use Rattle.circuits.proofs.BottomUp.{branch-mem}
use Rattle.circuits.proofs.Nodes.{sides, all_of, function-is, conjunction-below, conjunction-disjoint, all_apart, rest-disjoint}
use Rattle.circuits.proofs.Nodes.{true-prime, literal-prime}
use Rattle.circuits.proofs.Signed.{side-up}
use Rattle.circuits.proofs.Tables.{fits, node-induction}

module _ {N n : ℕ} {w : List ℕ} (acc : Accepted N n w) where
  abbrev pub HasPrime : (ℕ → Bool) → Type 0
  HasPrime f = (t : Term) × Prime N f t

  -- node c is not `false`
  abbrev pub Live : ℕ → Type 0
  Live c = T (not (is_false (node_at w c)))

  pub all-has : (cs : List ℕ) → T (all_disjoint (support w) cs) → ((c : ℕ) → Memᴰ c cs → c < n)
      → ((c : ℕ) → Memᴰ c cs → HasPrime (function w c)) → HasPrime (all_of w cs)
  all-has [] d l h = (empty, true-prime N)
  all-has (c ∷ cs) d l h =
      let (t, pt) = h c (Memᴰ.head refl) in
      let (u, pu) =
      all-has cs (rest-disjoint acc c cs d) (λ e m. l e (Memᴰ.tail m)) (λ e m. h e (Memᴰ.tail m)) in
      (join t u, apart-prime N (function w c) (all_of w cs) (all_apart acc c cs d l) t u pt pu)

  -- ---- a conjunction has no `false` child, a decision at most one
  pub conjunction-live : (i : ℕ) (cs : List ℕ) → i < n → node_at w i ≡ conjunction cs → (c : ℕ) → Memᴰ c cs → Live c
  unfolding unreduced
  conjunction-live i cs l e c m =
      not_T (is_false (node_at w c))
      (λ p. T_not (any (λ c. is_false (node_at w c)) cs)
      (subst (λ (y : Node). T (not (node_unreduced (λ c. is_false (node_at w c)) y))) e (acc.reduced i l))
      (any-i (λ c. is_false (node_at w c)) cs c m p))

  decision-live : (i x a b : ℕ) → i < n → node_at w i ≡ decision x a b → (c : Bool) × Live (cond c b a)
  unfolding unreduced
  decision-live i x a b l e =
      ⊎_elim {C = (c : Bool) × Live (cond c b a)} (λ (p : Live a). (false, p)) (λ (p : Live b). (true, p))
      (not-and (is_false (node_at w a)) (is_false (node_at w b))
      (subst (λ (y : Node). T (not (node_unreduced (λ c. is_false (node_at w c)) y))) e (acc.reduced i l)))

  has-at : (i : ℕ) → i < n → (y : Node) → node_at w i ≡ y → Fits N i y
      → ((c : ℕ) → Memᴰ c (children y) → Live c → HasPrime (function w c)) → T (not (is_false y)) → HasPrime (function w i)
  has-at i l (constant true) e f below h =
      subst HasPrime (sym (function-is acc i (constant true) l e)) (empty, true-prime N)
  has-at i l (constant false) e f below h = absurd h
  has-at i l (literal b x) e f below h =
      subst HasPrime (sym (function-is acc i (literal b x) l e)) (extend empty x b, literal-prime N b x f)
  has-at i l (decision x a b) e f below h =
      let (c, live) = decision-live i x a b l e in
      let (t, pt) = below (cond c b a) (branch-mem a b c) live in
      let up : Embeds N (sides w a b c) (function w i) = side-up acc true i x a b l e c in
      (up.to t, up.keeps t pt)
  has-at i l (conjunction cs) e f below h =
      subst HasPrime (sym (function-is acc i (conjunction cs) l e))
      (all-has cs (conjunction-disjoint acc i cs l e) (conjunction-below acc i cs l e)
      (λ c m. below c m (conjunction-live i cs l e c m)))
  has-at i l unknown e f below h = absurd f

  pub has-prime : (i : ℕ) → i < n → Live i → HasPrime (function w i)
  has-prime =
      node-induction N n w acc.well (λ i. Live i → HasPrime (function w i))
      (λ i l below. has-at i l (node_at w i) refl (fits N n w acc.well i l) below)

  -- some assignment satisfies a function with a prime implicant
  pub satisfied : (f : ℕ → Bool) → HasPrime f → (s : ℕ) × (s < 2 ^ N) × T (f s)
  satisfied f (t, pt) =
      (t.positive, pt.is_term.fits true, pt.holds t.positive (pt.is_term.fits true) (own-agrees N t pt.is_term))
