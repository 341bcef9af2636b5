-- The tests of lists are those of the library, in which it says what `all` and `any` answer.
use mathlib.Core.Path.{◌≡◌, refl, ap}
use mathlib.Core.Bool.{Bool, ◌&&◌, ◌||◌}
use mathlib.Core.List.{List, [], ◌∷◌}
use Rattle.std.specs.List.{list_all, list_any}
use Rattle.terms.specs.Lists.{all, any}

module _ {A : Type 0} (p : A → Bool) where
  pub all_std : (l : List A) → list_all p l ≡ all p l
  all_std [] = refl
  all_std (a ∷ l) = ap (λ (b : Bool). p a && b) (all_std l)

  pub any_std : (l : List A) → list_any p l ≡ any p l
  any_std [] = refl
  any_std (a ∷ l) = ap (λ (b : Bool). p a || b) (any_std l)
