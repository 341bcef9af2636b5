-- Two terms joined: what whole masks give is what the nine cases give.
use Rattle.std.specs.Prelude.{None, Some, option_to_list}
use Prim.Native.Nat.{ℕ, ◌≤◌}
use mathlib.Core.Path.{◌≡◌, refl, sym, ap, ◌∙◌}
use mathlib.Core.Bool.{Bool, true, false, cond}
use mathlib.Core.List.{[], ◌∷◌}
use Rattle.masks.specs.Mask.{width}
use Rattle.terms.specs.Term.{join, conflict, IsTerm}
use Rattle.terms.specs.declared.Term.{Term}
use Rattle.terms.proofs.Built.{with-one}
use Rattle.states.specs.Joining.{join_by_cases}
use Rattle.states.specs.NineCases.{NineCases}
use Rattle.states.proofs.Joined.{joined-masks, case-of, conflict-cases, join-means}

pub nine-cases : (N : ℕ) → N ≤ width → (t u : Term) → IsTerm N t → IsTerm N u → NineCases N t u
nine-cases N wide t u h k =
    record {
      conflicts = conflict-cases N t u h k wide;
      results = case-of N t u h k;
      joins = joins;
      adds = with-one t u (conflict t u) refl ∙ listed (conflict t u) ∙ sym (ap option_to_list joins);
      means = join-means N t u h k wide;
    }
  where
    joins : join_by_cases N t u ≡ cond (conflict t u) None (Some (join t u))
    joins =
        joined-masks N t u h.fits k.fits
        ∙ ap (λ (b : Bool). cond b None (Some (join t u))) (sym (conflict-cases N t u h k wide))

    listed : (b : Bool) → cond b [] (join t u ∷ []) ≡ option_to_list (cond b None (Some (join t u)))
    listed true = refl
    listed false = refl
