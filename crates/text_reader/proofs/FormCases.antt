-- What the reader of a form and the reader of the rest of an inner form give, by what they meet in the text.
use Prim.Native.Char.{code}
use Prim.Native.Nat.{ℕ, zero, suc, ◌+◌, ◌-◌, ◌<◌, ◌≤◌}
use mathlib.Core.List.{List, []}
use mathlib.Core.Path.{◌≡◌, refl}
use native.Mathlib.Omega.{arith}
use lib.ListN.{length, get_or}
use borrow.Author.Tests.{eq-eqb, ne_eqb}
use Rattle.table.specs.Node.{encoded}
use Rattle.table.specs.declared.layout.Children.{Children}
use Rattle.table.specs.declared.layout.NodeWords.{NodeWords}
use Rattle.text.specs.Places.{StepRuns, StepIs, Fit}
use Rattle.text.specs.Read.{byte_at, head_at, close_at, setting, no_children, with_child, end_at, rest_with, deep_fault, form_at, rest_at, Setting}
use Rattle.text.specs.Read.{Stepped}
use Rattle.text.specs.Syntax.{most_forms}
use Rattle.text.specs.declared.answer.Fault.{Fault}
use Rattle.text.specs.declared.head.Limits.{Limits}
use Rattle.text.specs.declared.head.Opening.TheVariants.{Leaf, Inner, Line}
use Rattle.text.specs.declared.head.Operator.{Operator}
use Rattle.text.specs.declared.head.Role.{Role}
use Rattle.text.specs.declared.head.Role.TheVariants.{Argument}
use Rattle.std.specs.Prelude.{Result, Ok, Err}
use Rattle.text.specs.declared.answer.Misread.{Misread}
use Rattle.text.specs.declared.answer.Formed.{Formed}
use Rattle.text.specs.Answers.{misread, formed}

-- what is lent stays fit while the number of words stays
pub still : {w v lines : List ℕ} {g : Limits} → Fit w lines g → length v ≡ length w → Fit v lines g
still f e = record { enough = omega (arith, f.enough); few = f.few; known = f.known }

-- an answer from a later place is one from an earlier place
later : (s : List ℕ) (at q : ℕ) → at ≤ q → (r : Result Formed Misread) (v : List ℕ) (d : Stepped) → StepIs s q r v d → StepIs s at r v d
later s at q l (Err e) v d i = i
later s at q l (Ok y) v d i = (i.0, i.1, omega (arith, i.2))

-- ---- the form reader, by what the head says
module _ (g : Setting) (role : Role) (at : ℕ) (w : List ℕ) (n : ℕ) where
  pub deep : (left : ℕ) (f : Fault) → left ≡ 0 → f ≡ deep_fault g.text at
      → StepIs g.text at (misread f at) w (form_at left g role at w n)
  unfolding form_at
  deep left f h e = rw (h, ← e) (refl, refl, tt)

  pub broken : (left : ℕ) (e : Misread) → (left ≡ 0 → ⊥) → Err e ≡ head_at g.text at role g.limits
      → StepIs g.text at (Err e) w (form_at left g role at w n)
  unfolding form_at
  broken zero e h i = absurd (h refl)
  broken (suc d) e h i = rw (← i) (refl, refl, tt)

  pub line : (left k p : ℕ) → (left ≡ 0 → ⊥) → Ok (Line k p) ≡ head_at g.text at role g.limits
      → StepRuns g.text at (formed (p + 1) n (get_or g.lines k 0))
      → StepIs g.text at (formed (p + 1) n (get_or g.lines k 0)) w (form_at left g role at w n)
  unfolding form_at
  line zero k p h e r = absurd (h refl)
  line (suc d) k p h e r = rw (← e) (refl, refl, r)

  pub leaf : (left k x p : ℕ) → (left ≡ 0 → ⊥) → Ok (Leaf k x p) ≡ head_at g.text at role g.limits → at ≤ p
      → (y : NodeWords) → y ≡ encoded k x [] → (r : Result Formed Misread) (v : List ℕ)
      → StepIs g.text p r v (close_at g.text p w n g.limits.room y) → StepIs g.text at r v (form_at left g role at w n)
  unfolding form_at
  leaf zero k x p h e l y ey r v i = absurd (h refl)
  leaf (suc d) k x p h e l y ey r v i = rw (← e, ← ey) (later g.text at p l r v _ i)

  pub inner : (left : ℕ) (op : Operator) (p : ℕ) → (left ≡ 0 → ⊥) → Ok (Inner op p) ≡ head_at g.text at role g.limits → at ≤ p
      → (cs : Children) → cs ≡ no_children → (r : Result Formed Misread) (v : List ℕ)
      → StepIs g.text p r v (rest_at (left - 1) g op p w n cs)
      → StepIs g.text at r v (form_at left g role at w n)
  unfolding form_at rest_at
  inner zero op p h e l cs ec r v i = absurd (h refl)
  inner (suc d) op p h e l cs ec r v i =
      let one : suc d - 1 ≡ d = omega arith in
      let most : most_forms op - 0 ≡ most_forms op = omega arith in
      let j = rw (one, ec, most) at i in
      rw (← e) (later g.text at p l r v _ j)

-- ---- the rest of an inner form
module _ (d : ℕ) (g : Setting) (op : Operator) (at : ℕ) (w : List ℕ) (n : ℕ) (cs : Children) where
  abbrev ended : Stepped
  ended = end_at (setting g.text [] g.limits) op at w n cs

  no-space : (k : ℕ) (form : ℕ → List ℕ → ℕ → Stepped) (b : ℕ) → b ≡ byte_at g.text at → (b ≡ code " " → ⊥)
      → rest_with k form g op at w n cs ≡ ended
  unfolding rest_with end_at
  no-space zero form b eb h = refl
  no-space (suc k) form b eb h = rw (← eb, ne_eqb b (code " ") h)

  pub ends : (b : ℕ) → b ≡ byte_at g.text at → (b ≡ code " " → ⊥) → (r : Result Formed Misread) (v : List ℕ) → StepIs g.text at r v ended
      → StepIs g.text at r v (rest_at d g op at w n cs)
  unfolding rest_at
  ends b eb h r v i = rw (no-space (most_forms op - cs.count) (form_at d g Argument) b eb h) i

  -- no form more may follow
  pub full : (k : ℕ) → k ≡ most_forms op → k ≤ cs.count → (r : Result Formed Misread) (v : List ℕ) → StepIs g.text at r v ended
      → StepIs g.text at r v (rest_at d g op at w n cs)
  unfolding rest_at rest_with end_at
  full k ek l r v i = let z : most_forms op - cs.count ≡ 0 = omega arith in rw z i

  module _ (b : ℕ) (eb : b ≡ byte_at g.text at) (h : b ≡ code " ") (k : ℕ) (ek : k ≡ most_forms op) (l : cs.count < k)
      (v : List ℕ) (ev : v ≡ (form_at d g Argument (at + 1) w n).words) where
    pub child-stops : (m : Misread) → Err m ≡ (form_at d g Argument (at + 1) w n).step
        → StepIs g.text at (Err m) v (rest_at d g op at w n cs)
    unfolding rest_at rest_with
    child-stops m e =
        let z : most_forms op - cs.count ≡ suc (most_forms op - (cs.count + 1)) = omega arith in
        rw (z, ← eb, eq-eqb b (code " ") h, ← e, ← ev) (refl, refl, tt)

    pub goes_on : (p m a : ℕ) → formed p m a ≡ (form_at d g Argument (at + 1) w n).step → at ≤ p
        → (more : Children) → more ≡ with_child cs a → (r : Result Formed Misread) (u : List ℕ)
        → StepIs g.text p r u (rest_at d g op p v m more) → StepIs g.text at r u (rest_at d g op at w n cs)
    unfolding rest_at rest_with
    goes_on p m a e q more em r u i =
        let z : most_forms op - cs.count ≡ suc (most_forms op - (cs.count + 1)) = omega arith in
        let j = rw em at i in
        rw (z, ← eb, eq-eqb b (code " ") h, ← e, ← ev) (later g.text at p q r u _ j)
