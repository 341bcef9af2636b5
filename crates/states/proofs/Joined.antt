-- Any two pairs of masks joined by the nine cases: the join of the masks, or a conflict. Two terms: the conflict is that of the masks.
use Rattle.std.specs.Prelude.{None, Some}
use Prim.Native.Nat.{ℕ, ◌≤◌}
use mathlib.Core.Path.{◌≡◌, sym, ap, ap₂, ◌∙◌}
use mathlib.Core.Bool.{Bool, ◌&&◌, not, cond}
use mathlib.Core.Logic.{⊎_elim}
use lib.Dec.{T, T_not, not_T}
use Rattle.masks.specs.Mask.{width}
use Rattle.masks.specs.Numbers.{some}
use Rattle.masks.proofs.Numbers.{some-ext}
use Rattle.masks.proofs.Tests.{and_i, and_l, and_r, decide, same_test}
use Rattle.terms.specs.Term.{is_term, agrees, join, conflict, Agrees, IsTerm}
use Rattle.terms.specs.declared.Term.{Term}
use Rattle.terms.proofs.Built.{conflict-free, joined_free}
use Rattle.terms.proofs.Terms.{MasksFit, join-cases, join-l, join-r, agrees-inside, join-fits, join-IsTerm, is_term-e, is_term-i}
use Rattle.terms.proofs.Terms.{agrees-e, agrees-i}
use Rattle.states.specs.Joining.{join_by_cases}
use Rattle.states.specs.NineCases.{CaseOf}
use Rattle.states.specs.States.{is_conflict, state_at, join_said, case_at}
use Rattle.states.proofs.Made.{made-ext, made_again, reads-conflict}
use Rattle.states.proofs.States.{join-state, term-state}

module _ (N : ℕ) (t u : Term) where
  -- a conflict read in the join is that of a case
  cases-read : some N (λ x. is_conflict (state_at (join t u) x)) ≡ some N (λ x. is_conflict (case_at t u x))
  cases-read =
      some-ext N (λ x. is_conflict (state_at (join t u) x)) (λ x. is_conflict (case_at t u x))
      (λ x l. ap is_conflict (join-state t u x))

  -- any two pairs of masks
  pub joined-masks : MasksFit N t → MasksFit N u
      → join_by_cases N t u ≡ cond (some N (λ x. is_conflict (case_at t u x))) None (Some (join t u))
  joined-masks h k =
      made-ext (case_at t u) (state_at (join t u)) N (λ x. sym (join-state t u x))
      ∙ made_again N (join t u) (join-fits N t u h k)
      ∙ ap (λ (b : Bool). cond b None (Some (join t u))) cases-read

  -- two terms
  module _ (h : IsTerm N t) (k : IsTerm N u) where
    pub case-of : (x : ℕ) → CaseOf t u x
    case-of x =
        let (a, e) = term-state N t x h in
        let (b, f) = term-state N u x k in
        record { left = a; right = b; left_is = e; right_is = f; joined = join-state t u x ∙ ap₂ join_said e f }

    module _ (wide : N ≤ width) where
      free-term : T (not (conflict t u)) → IsTerm N (join t u)
      free-term n = join-IsTerm N t u h k (conflict-free N wide t u h n)

      conflict-join : conflict t u ≡ not (is_term N (join t u))
      conflict-join =
          same_test (conflict t u) (not (is_term N (join t u)))
          (λ c. not_T (is_term N (join t u)) (λ v. T_not (conflict t u) (joined_free N wide t u (is_term-e N (join t u) v)) c))
          (λ n.
          ⊎_elim (λ (c : T (conflict t u)). c)
          (λ (f : T (not (conflict t u))). absurd (T_not (is_term N (join t u)) n (is_term-i N (join t u) (free-term f))))
          (decide (conflict t u)))

      pub conflict-cases : conflict t u ≡ some N (λ x. is_conflict (case_at t u x))
      conflict-cases = conflict-join ∙ sym (reads-conflict N (join t u) (join-fits N t u h.fits k.fits)) ∙ cases-read

      -- ---- the assignments that agree with both
      both-free : (s : ℕ) → Agrees t s → Agrees u s → T (not (conflict t u))
      both-free s a b = joined_free N wide t u (join-IsTerm N t u h k (λ x c d p q. sym (a x c p) ∙ b x d q))

      both-join : (s : ℕ) → Agrees t s → Agrees u s → Agrees (join t u) s
      both-join s a b x c p = ⊎_elim (a x c) (b x c) (join-cases t u c x p)

      pub join-means : (s : ℕ) → (agrees N t s && agrees N u s) ≡ (not (conflict t u) && agrees N (join t u) s)
      join-means s = same_test (agrees N t s && agrees N u s) (not (conflict t u) && agrees N (join t u) s) to from
        where
          to : T (agrees N t s && agrees N u s) → T (not (conflict t u) && agrees N (join t u) s)
          to p =
              let a : Agrees t s = agrees-e N t s h (and_l (agrees N t s) (agrees N u s) p) in
              let b : Agrees u s = agrees-e N u s k (and_r (agrees N t s) (agrees N u s) p) in
              and_i (not (conflict t u)) (agrees N (join t u) s) (both-free s a b) (agrees-i N (join t u) s (both-join s a b))

          from : T (not (conflict t u) && agrees N (join t u) s) → T (agrees N t s && agrees N u s)
          from p =
              let free : T (not (conflict t u)) = and_l (not (conflict t u)) (agrees N (join t u) s) p in
              let c : Agrees (join t u) s =
              agrees-e N (join t u) s (free-term free) (and_r (not (conflict t u)) (agrees N (join t u) s) p) in
              and_i (agrees N t s) (agrees N u s) (agrees-i N t s (agrees-inside t (join t u) s (join-l t u) c))
              (agrees-i N u s (agrees-inside u (join t u) s (join-r t u) c))
