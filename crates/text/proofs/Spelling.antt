-- A printed form, spelled out before what follows it; its length, where it may stand, and its first byte.
use Prim.Native.Nat.{ℕ, ◌+◌}
use mathlib.Core.Path.{◌≡◌, refl}
use mathlib.Core.Bool.{Bool, true, false, cond}
use mathlib.Core.List.{List, ◌∷◌, ◌++◌, append_assoc}
use native.Mathlib.Omega.{arith}
use lib.ListN.{length, length-append}
use Rattle.text.specs.Syntax.{decimal, print_operator, print_form, print_forms, Own, Form, Forms, constant_form, literal_form, inner_form}
use Rattle.text.specs.Syntax.{line_form, more}
use Rattle.text.specs.Words.{spelling}
use Rattle.text.specs.declared.head.Operator.{Operator}
use Rattle.text.specs.declared.head.Operator.TheVariants.{Decision, Conjunction}
use Rattle.text.specs.declared.head.Role.{Role}
use Rattle.text.specs.declared.head.Role.TheVariants.{OwnForm, Argument}
use Rattle.text.specs.declared.head.Word.TheVariants.{False, True, Yes, No, Pick, Line}

pub constant-flat : (v : Bool) (r : List ℕ) → print_form (constant_form v) ++ r ≡ 40 ∷ (spelling (cond v True False) ++ (41 ∷ r))
unfolding print_form
constant-flat true r = refl
constant-flat false r = refl

pub literal-flat : (v : Bool) (x : ℕ) (r : List ℕ)
    → print_form (literal_form v x) ++ r ≡ 40 ∷ (spelling (cond v Yes No) ++ (decimal x ++ (41 ∷ r)))
unfolding print_form
literal-flat true x r = simp append_assoc
literal-flat false x r = simp append_assoc

pub line-flat : (k : ℕ) (r : List ℕ) → print_form (line_form k) ++ r ≡ 40 ∷ (spelling Line ++ (decimal k ++ (41 ∷ r)))
unfolding print_form
line-flat k r = simp append_assoc

pub decision-flat : (x : ℕ) (r : List ℕ) → print_operator (Decision x) ++ r ≡ 40 ∷ (spelling Pick ++ (decimal x ++ r))
decision-flat x r = simp append_assoc

-- forms, each after a space, and the closing bracket
abbrev pub rest_text : Forms → List ℕ → List ℕ
rest_text fs r = print_forms fs ++ (41 ∷ r)

pub inner-flat : (op : Operator) (fs : Forms) (r : List ℕ) → print_form (inner_form op fs) ++ r ≡ print_operator op ++ rest_text fs r
unfolding print_form
inner-flat op fs r = simp append_assoc

pub more-flat : (f : Form) (fs : Forms) (r : List ℕ) → rest_text (more f fs) r ≡ 32 ∷ (print_form f ++ rest_text fs r)
unfolding print_form
more-flat f fs r = simp append_assoc

pub constant-length : (v : Bool) → length (print_form (constant_form v)) ≡ 2 + length (spelling (cond v True False))
unfolding print_form
constant-length true = refl
constant-length false = refl

pub literal-length : (v : Bool) (x : ℕ) → length (print_form (literal_form v x)) ≡ 2 + length (spelling (cond v Yes No)) + length (decimal x)
unfolding print_form
literal-length true x = simp length-append (omega arith)
literal-length false x = simp length-append (omega arith)

pub line-length : (k : ℕ) → length (print_form (line_form k)) ≡ 7 + length (decimal k)
unfolding print_form
line-length k = simp length-append (omega arith)

pub inner-length : (op : Operator) (fs : Forms)
    → length (print_form (inner_form op fs)) ≡ length (print_operator op) + length (print_forms fs) + 1
unfolding print_form
inner-length op fs = simp length-append (omega arith)

pub more-length : (f : Form) (fs : Forms) → length (print_forms (more f fs)) ≡ 1 + length (print_form f) + length (print_forms fs)
unfolding print_form
more-length f fs = simp length-append (omega arith)

-- a form may stand in a role
abbrev pub Stands : Role → Form → Type 0
Stands OwnForm f = Own f
Stands Argument f = Unit {0}

pub own-stands : (role : Role) (f : Form) → Own f → Stands role f
own-stands OwnForm f o = o
own-stands Argument f o = tt

pub begins : (f : Form) → (x : List ℕ) × (print_form f ≡ 40 ∷ x)
unfolding print_form
begins (constant_form true) = (_, refl)
begins (constant_form false) = (_, refl)
begins (literal_form true x) = (_, refl)
begins (literal_form false x) = (_, refl)
begins (inner_form (Decision x) fs) = (_, refl)
begins (inner_form Conjunction fs) = (_, refl)
begins (line_form k) = (_, refl)
