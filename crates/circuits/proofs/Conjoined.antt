-- The children of a conjunction one by one: each with those after it, of which a prime implicant is known.
use Prim.Native.Nat.{ℕ, zero, suc, ◌^◌, ◌<◌}
use mathlib.Core.Path.{◌≡◌, refl, sym, subst, fun_ext}
use mathlib.Core.Bool.{Bool, true, false, not, ◌&&◌, ◌||◌, not-not}
use mathlib.Core.Logic.{◌⊎◌}
use mathlib.Core.List.{List, [], ◌∷◌, ◌++◌, Memᴰ}
use lib.Dec.{T}
use lib.ListN.{drop}
use Rattle.masks.proofs.Tests.{along}
use Rattle.table.specs.Node.{node_at, conjunction}
use Rattle.terms.specs.Joins.{conjunction_terms}
use Rattle.terms.specs.Lists.{sort}
use Rattle.terms.specs.Order.{before}
use Rattle.terms.specs.Prime.{primes, Lists}
use Rattle.terms.specs.declared.Term.{Term}
use Rattle.terms.proofs.Built.{joins-lists}
use Rattle.terms.proofs.Disjunctions.{disj, left-within, right-within, union-lists}
use Rattle.terms.proofs.Embeddings.{left-embeds, right-embeds, Embeds}
use Rattle.terms.proofs.Implicants.{Free}
use Rattle.terms.proofs.Listed.{primes-lists, sort-primes}
use Rattle.circuits.specs.Check.{all_disjoint}
use Rattle.circuits.specs.Function.{function, signed_function, support}
use Rattle.circuits.proofs.Accepted.{variables-wide, Accepted}
use Rattle.circuits.proofs.Nodes.{all_of, conjunction-below, conjunction-disjoint, rest-disjoint}
use Rattle.circuits.proofs.Satisfiable.{HasPrime, all-has, conjunction-live, has-prime, satisfied}
use Rattle.circuits.proofs.Signed.{signed_all, signed-apart}

not-both : (p q : Bool) → (not p || not q) ≡ not (p && q)
not-both true q = refl
not-both false q = refl

module _ {N n : ℕ} {w : List ℕ} (acc : Accepted N n w) where
  -- nodes with no variable in common, none of them `false`
  pub record Apart (ds : List ℕ) : Type 0 where
    pub disjoint : T (all_disjoint (support w) ds)
    pub below : (d : ℕ) → Memᴰ d ds → d < n
    pub has : (d : ℕ) → Memᴰ d ds → HasPrime acc (function w d)

  pub apart-rest : (d : ℕ) (ds : List ℕ) → Apart (d ∷ ds) → Apart ds
  apart-rest d ds h =
      record {
        disjoint = rest-disjoint acc d ds h.disjoint;
        below = λ e m. h.below e (Memᴰ.tail m);
        has = λ e m. h.has e (Memᴰ.tail m);
      }

  pub apart-drop : (k : ℕ) (ds : List ℕ) → Apart ds → Apart (drop k ds)
  apart-drop zero ds h = h
  apart-drop (suc k) [] h = h
  apart-drop (suc k) (d ∷ ds) h = apart-drop k ds (apart-rest d ds h)

  -- the children of a conjunction are such
  pub conjunction-apart : (i : ℕ) (ds : List ℕ) → i < n → node_at w i ≡ conjunction ds → Apart ds
  conjunction-apart i ds l e =
      record {
        disjoint = conjunction-disjoint acc i ds l e;
        below = conjunction-below acc i ds l e;
        has = λ d m. has-prime acc d (conjunction-below acc i ds l e d m) (conjunction-live acc i ds l e d m);
      }

  -- an assignment at which the negation is false
  denied : (f : ℕ → Bool) → HasPrime acc f → (s : ℕ) × (s < 2 ^ N) × T (not (not (f s)))
  denied f h = let (s, l, p) = satisfied acc f h in (s, l, along (sym (not-not (f s))) p)

  module _ (d : ℕ) (ds : List ℕ) (h : Apart (d ∷ ds)) where
    first : HasPrime acc (function w d)
    first = h.has d (Memᴰ.head refl)

    others : HasPrime acc (all_of w ds)
    others = let r : Apart ds = apart-rest d ds h in all-has acc ds r.disjoint r.below r.has

    apart : (c : Bool) (x : ℕ) → x < N → Free N (signed_function c w d) x ⊎ Free N (signed_all c w ds) x
    apart c = signed-apart acc c d ds h.disjoint h.below

    abbrev head : Bool → ℕ → Bool
    head c = signed_function c w d

    abbrev rest : Bool → ℕ → Bool
    rest c = signed_all c w ds

    -- the negation of all is the disjunction of the negations
    negated : disj N (head false) (rest false) ≡ signed_all false w (d ∷ ds)
    negated = fun_ext (λ s. not-both (function w d s) (all_of w ds s))

    -- the prime implicants of the first, and of the rest, go one to one into those of all
    pub head-up : (c : Bool) → Embeds N (head c) (signed_all c w (d ∷ ds))
    head-up true = let (t, pt) = others in left-embeds N (head true) (rest true) (apart true) t pt
    head-up false =
        let (s, l, p) = denied (all_of w ds) others in
        subst (Embeds N (head false)) negated (left-within N (head false) (rest false) (apart false) s l p)

    pub rest_up : (c : Bool) → Embeds N (rest c) (signed_all c w (d ∷ ds))
    rest_up true = let (t, pt) = first in right-embeds N (head true) (rest true) (apart true) t pt
    rest_up false =
        let (s, l, p) = denied (function w d) first in
        subst (Embeds N (rest false)) negated (right-within N (head false) (rest false) (apart false) s l p)

    -- and are all of them: joined (Proposition 3), or as they are
    all-lists : (c : Bool) (l k : List Term) → Lists N (head c) l → Lists N (rest c) k
        → Lists N (signed_all c w (d ∷ ds)) (conjunction_terms c l k)
    all-lists true l k hl hk = joins-lists N (variables-wide acc) (head true) (rest true) l k hl hk (apart true)
    all-lists false l k hl hk =
        let (s, ls, ps) = denied (function w d) first in
        let (u, lu, pu) = denied (all_of w ds) others in
        subst (λ (f : ℕ → Bool). Lists N f (l ++ k)) negated
        (union-lists N (head false) (rest false) (apart false) s ls ps u lu pu l k hl hk)

    pub all-rows : (m : List ℕ) (c : Bool) → sort (before m) (conjunction_terms c (primes m N (head c)) (primes m N (rest c)))
        ≡ primes m N (signed_all c w (d ∷ ds))
    all-rows m c =
        sort-primes m N (signed_all c w (d ∷ ds)) (conjunction_terms c (primes m N (head c)) (primes m N (rest c)))
        (all-lists c (primes m N (head c)) (primes m N (rest c)) (primes-lists m N (head c)) (primes-lists m N (rest c)))
