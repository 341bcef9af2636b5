-- A shorter join: there is one exactly if some join is inside the term and has fewer literals.
use Prim.Native.Nat.{ℕ, ◌<◌, ◌≤◌}
use mathlib.Core.Path.{◌≡◌, refl, ap, subst}
use mathlib.Core.Bool.{Bool, ◌&&◌, not}
use mathlib.Core.Logic.{⊎_elim}
use mathlib.Core.List.{List, Memᴰ}
use native.Mathlib.Omega.{arith}
use lib.Dec.{T, T_not, not_T, ltb, ltb→lt, nltb→le}
use Rattle.masks.specs.Mask.{width}
use Rattle.masks.proofs.Tests.{and_i, and_l, and_r, decide, same_test}
use Rattle.terms.specs.Joins.{joins, holds_shorter}
use Rattle.terms.specs.Lists.{any}
use Rattle.terms.specs.Term.{literals, join, inside, IsTerm}
use Rattle.terms.specs.declared.Term.{Term}
use Rattle.terms.proofs.Built.{joins-in, joins-out, conflict-free, joined_free, as_long, JoinOf}
use Rattle.terms.proofs.Sorted.{any-i, any-e}
use Rattle.terms.proofs.Terms.{Inside, inside-trans, join-l, join-r, join-least, term-ext, join-IsTerm, join-within, inside-e, inside-i}
use Rattle.lists.specs.Scans.{short, shorter, shorter_join}

-- the list is of terms over N variables
abbrev pub Terms : ℕ → List Term → Type 0
Terms N l = (t : Term) → Memᴰ t l → IsTerm N t

module _ (N : ℕ) (wide : N ≤ width) where
  -- a term inside t that lacks a literal of t has fewer
  fewer : (u t : Term) → IsTerm N t → Inside u t → T (not (inside t u)) → T (ltb (literals u) (literals t))
  fewer u t k i n =
      ⊎_elim (λ (l : T (ltb (literals u) (literals t))). l)
      (λ (l : T (not (ltb (literals u) (literals t)))).
      absurd (T_not (inside t u) n (inside-i N t u (as_long N wide u t k i (nltb→le (literals u) (literals t) l)))))
      (decide (ltb (literals u) (literals t)))

  fewer-not : (u t : Term) → IsTerm N u → IsTerm N t → Inside u t → T (ltb (literals u) (literals t)) → T (not (inside t u))
  fewer-not u t h k i l =
      not_T (inside t u)
      (λ s.
      let e : literals u ≡ literals t = ap literals (term-ext N u t h k i (inside-e N wide t u k s)) in
      let less : literals u < literals t = ltb→lt (literals u) (literals t) l in
      omega arith)

  module _ (l k : List Term) (hl : Terms N l) (hk : Terms N k) (t : Term) (w : IsTerm N t) where
    abbrev test : Term → Bool
    test u = inside u t && ltb (literals u) (literals t)

    -- the join of such a pair is one of the joins, is inside t and has fewer literals
    pub shorter-down : (a b : Term) → Memᴰ a l → Memᴰ b k → T (shorter t a b)
        → Memᴰ (join a b) (joins l k) × T (inside (join a b) t) × T (ltb (literals (join a b)) (literals t))
    unfolding shorter short
    shorter-down a b ma mb p =
        let ia : Inside a t = inside-e N wide a t (hl a ma) (and_l (inside a t) (short t a b) p) in
        let rest : T (short t a b) = and_r (inside a t) (short t a b) p in
        let ib : Inside b t = inside-e N wide b t (hk b mb) (and_l (inside b t) (not (inside t (join a b))) rest) in
        let j : IsTerm N (join a b) = join-within N a b t (hl a ma) (hk b mb) w ia ib in
        let i : Inside (join a b) t = join-least a b t ia ib in (
          joins-in k l a b (join a b) ma mb (joined_free N wide a b j) refl,
          inside-i N (join a b) t i,
          fewer (join a b) t w i (and_r (inside b t) (not (inside t (join a b))) rest),
        )

    found : T (shorter_join l k t) → T (holds_shorter (joins l k) t)
    found s =
        let (a, ma, pa) = any-e (λ a. any (shorter t a) k) l s in
        let (b, mb, pb) = any-e (shorter t a) k pa in
        let (m, i, less) = shorter-down a b ma mb pb in
        any-i test (joins l k) (join a b) m (and_i (inside (join a b) t) (ltb (literals (join a b)) (literals t)) i less)

    finds : T (holds_shorter (joins l k) t) → T (shorter_join l k t)
    unfolding shorter short
    finds s =
        let (u, m, p) = any-e test (joins l k) s in
        let o : JoinOf l k u = joins-out k l u m in
        let a : Term = o.left in
        let b : Term = o.right in
        let j : IsTerm N (join a b) =
        join-IsTerm N a b (hl a o.in_left) (hk b o.in_right) (conflict-free N wide a b (hl a o.in_left) o.free) in
        let p' : T (test (join a b)) = subst (λ (z : Term). T (test z)) o.is p in
        let i : Inside (join a b) t =
        inside-e N wide (join a b) t j (and_l (inside (join a b) t) (ltb (literals (join a b)) (literals t)) p') in
        let fits : (v : Term) → Inside v (join a b) → T (inside v t) = λ v q. inside-i N v t (inside-trans v (join a b) t q i) in
        let lacks : T (not (inside t (join a b))) =
        fewer-not (join a b) t j w i (and_r (inside (join a b) t) (ltb (literals (join a b)) (literals t)) p') in
        any-i (λ a. any (shorter t a) k) l a o.in_left
        (any-i (shorter t a) k b o.in_right
        (and_i (inside a t) (short t a b) (fits a (join-l a b))
        (and_i (inside b t) (not (inside t (join a b))) (fits b (join-r a b)) lacks)))

    pub shorter-joins : shorter_join l k t ≡ holds_shorter (joins l k) t
    shorter-joins = same_test (shorter_join l k t) (holds_shorter (joins l k) t) found finds
