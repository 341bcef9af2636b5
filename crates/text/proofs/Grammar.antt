-- Bytes that are a number, a form, lines or a text of the grammar: some tree prints to them.
use Prim.Native.Nat.{ℕ, zero, suc, ◌+◌, ◌*◌, ◌/◌, ◌%◌, ◌<◌, ◌≤◌}
use mathlib.Core.Path.{◌≡◌, refl, sym, ap, ap₂, subst, ◌∙◌}
use mathlib.Core.Bool.{Bool, true, cond}
use mathlib.Core.Logic.{◌≢◌}
use mathlib.Core.List.{List, [], ◌∷◌, ◌++◌, cons≢nil, append-nil, append_assoc}
use native.Mathlib.Omega.{arith}
use Rattle.text.specs.Ascii.{ascii}
use Rattle.text.specs.Meaning.{IsText}
use Rattle.text.specs.Syntax.{decimal, count, least_forms, most_forms, print_operator, print_form, print_lines, OperatorFits}
use Rattle.text.specs.Syntax.{FormFits, FormsFit, GrammaticalLines, Tree, Form, Forms, constant_form, literal_form, inner_form, line_form}
use Rattle.text.specs.Syntax.{none, more}
use Rattle.text.specs.Words.{spelling}
use Rattle.text.specs.declared.head.Operator.{Operator}
use Rattle.text.specs.declared.head.Operator.TheVariants.{Decision, Conjunction}
use Rattle.text.specs.declared.head.Role.{Role}
use Rattle.text.specs.declared.head.Role.TheVariants.{OwnForm, Argument}
use Rattle.text.specs.declared.head.Word.TheVariants.{Yes, No, Pick, Line}
use Rattle.text.proofs.Pieces.{decimal-1, decimal-2, decimal-3, decimal-4}
use Rattle.text.proofs.Spelling.{rest_text, literal-flat, line-flat, decision-flat, inner-flat, more-flat, Stands, own-stands}
use Rattle.text.proofs.Texts.{header-flat}
use Rattle.text.proofs.Words.{LineMay}

-- the digits of a number that may stand in a text
abbrev pub IsDecimal : ℕ → List ℕ → Type 0
IsDecimal v x = (v < 10000) × (decimal v ≡ x)

abbrev pub IsNumber : List ℕ → Type 0
IsNumber x = (v : ℕ) × IsDecimal v x

-- a form that may stand in a role
abbrev pub IsForm : Role → List ℕ → Type 0
IsForm role x = (f : Form) × FormFits 10000 10000 f × Stands role f × (print_form f ≡ x)

-- what may stand after c forms of an operator
abbrev pub IsRest : Operator → ℕ → List ℕ → Type 0
IsRest op c x =
    (fs : Forms) × FormsFit 10000 10000 fs × (least_forms ≤ c + count fs) × (c + count fs ≤ most_forms op) × (rest_text fs [] ≡ x)

abbrev pub IsLines : List ℕ → Type 0
IsLines x = (fs : List Form) × (fs ≢ []) × GrammaticalLines fs × (print_lines fs ≡ x)

-- ---- numbers by their digits
pub one-digit : (a : ℕ) → a < 10 → IsDecimal a ((48 + a) ∷ [])
one-digit a l = (omega arith, decimal-1 a l)

pub two_digits : (a b : ℕ) → 0 < a → a < 10 → b < 10 → IsDecimal (10 * a + b) ((48 + a) ∷ (48 + b) ∷ [])
two_digits a b z la lb =
    let v : ℕ = 10 * a + b in
    let e : v / 10 % 10 ≡ a = omega arith in
    let f : v % 10 ≡ b = omega arith in
    (omega arith, decimal-2 v (omega arith) (omega arith) ∙ ap₂ (λ (x y : ℕ). (48 + x) ∷ (48 + y) ∷ []) e f)

pub three-digits : (a b c : ℕ) → 0 < a → a < 10 → b < 10 → c < 10
    → IsDecimal (10 * (10 * a + b) + c) ((48 + a) ∷ (48 + b) ∷ (48 + c) ∷ [])
three-digits a b c z la lb lc =
    let v : ℕ = 10 * (10 * a + b) + c in
    let e : v / 100 % 10 ≡ a = omega arith in
    let f : v / 10 % 10 ≡ b = omega arith in
    let g : v % 10 ≡ c = omega arith in
    (omega arith, decimal-3 v (omega arith) (omega arith) ∙ λ i. (48 + e i) ∷ (48 + f i) ∷ (48 + g i) ∷ [])

pub four-digits : (a b c d : ℕ) → 0 < a → a < 10 → b < 10 → c < 10 → d < 10
    → IsDecimal (10 * (10 * (10 * a + b) + c) + d) ((48 + a) ∷ (48 + b) ∷ (48 + c) ∷ (48 + d) ∷ [])
four-digits a b c d z la lb lc ld =
    let v : ℕ = 10 * (10 * (10 * a + b) + c) + d in
    let e : v / 1000 % 10 ≡ a = omega arith in
    let f : v / 100 % 10 ≡ b = omega arith in
    let g : v / 10 % 10 ≡ c = omega arith in
    let h : v % 10 ≡ d = omega arith in
    (omega arith, decimal-4 v (omega arith) ∙ λ i. (48 + e i) ∷ (48 + f i) ∷ (48 + g i) ∷ (48 + h i) ∷ [])

-- ---- forms
module _ (role : Role) where
  pub constant-form : (v : Bool) → IsForm role (print_form (constant_form v))
  constant-form v = (constant_form v, tt, own-stands role (constant_form v) tt, refl)

  pub literal-form : (v : Bool) (x : List ℕ) → IsNumber x → IsForm role (40 ∷ (spelling (cond v Yes No) ++ (x ++ (41 ∷ []))))
  literal-form v x (n, (l, e)) = (
    literal_form v n,
    l,
    own-stands role (literal_form v n) tt,
    sym (append-nil (print_form (literal_form v n))) ∙ literal-flat v n []
        ∙ ap (λ (z : List ℕ). 40 ∷ (spelling (cond v Yes No) ++ (z ++ (41 ∷ [])))) e,
  )

  pub inner-form : (op : Operator) (x : List ℕ) → OperatorFits 10000 op → IsRest op 0 x → IsForm role (print_operator op ++ x)
  inner-form op x b (fs, bs, least, most, e) = (
    inner_form op fs,
    (b, omega arith, omega arith, bs),
    own-stands role (inner_form op fs) tt,
    sym (append-nil (print_form (inner_form op fs))) ∙ inner-flat op fs [] ∙ ap (λ (z : List ℕ). print_operator op ++ z) e,
  )

  -- `pick`, by the text of its number
  pub decision-form : (v : ℕ) (x y : List ℕ) → IsNumber x → IsRest (Decision v) 0 y → IsForm role (40 ∷ (spelling Pick ++ (x ++ y)))
  decision-form v x y (n, (l, e)) r =
      subst (IsForm role) (decision-flat n y ∙ ap (λ (z : List ℕ). 40 ∷ (spelling Pick ++ (z ++ y))) e) (inner-form (Decision n) y l r)

pub line-form : (role : Role) (x : List ℕ) → LineMay role → IsNumber x → IsForm role (40 ∷ (spelling Line ++ (x ++ (41 ∷ []))))
line-form role x l (n, (m, e)) = (
  line_form n,
  m,
  stands role l,
  sym (append-nil (print_form (line_form n))) ∙ line-flat n [] ∙ ap (λ (z : List ℕ). 40 ∷ (spelling Line ++ (z ++ (41 ∷ [])))) e,
)
  where
    stands : (role : Role) → LineMay role → Stands role (line_form n)
    stands OwnForm l = l
    stands Argument l = tt

-- ---- the rest of an inner form
-- the closing bracket
pub closed-rest : (op : Operator) (c : ℕ) → least_forms ≤ c → c ≤ most_forms op → IsRest op c (41 ∷ [])
unfolding print_form
closed-rest op c l m = (none, tt, omega arith, omega arith, refl)

-- one form more
pub more-rest : (op : Operator) (c : ℕ) (x y : List ℕ) → IsForm Argument x → IsRest op (c + 1) y → IsRest op c (32 ∷ (x ++ y))
more-rest op c x y (f, b, k, e) (fs, bs, least, most, es) = (
  more f fs,
  (b, bs),
  omega arith,
  omega arith,
  more-flat f fs [] ∙ ap₂ (λ (u v : List ℕ). 32 ∷ (u ++ v)) e es,
)

-- a form to go on with
abbrev pub true_text : List ℕ
true_text = ascii "(true)"

pub true_text_lem : (role : Role) → IsForm role true_text
unfolding print_form
true_text_lem role = constant-form role true

-- one form more, and two, up to the closing bracket
abbrev one_form : List ℕ
one_form = ascii " (true))"

abbrev pub two_forms : List ℕ
two_forms = ascii " (true) (true))"

one_form_lem : (op : Operator) → IsRest op 1 one_form
one_form_lem op = more-rest op 1 true_text (41 ∷ []) (true_text_lem Argument) (closed-rest op 2 (omega arith) (two op))
  where
    two : (op : Operator) → 2 ≤ most_forms op
    two (Decision x) = omega arith
    two Conjunction = omega arith

pub two-forms : (op : Operator) → IsRest op 0 two_forms
two-forms op = more-rest op 0 true_text one_form (true_text_lem Argument) (one_form_lem op)

-- however many forms there are, up to the most, the rest can be made good
pub some-rest : (op : Operator) (c : ℕ) → c ≤ most_forms op → (x : List ℕ) × IsRest op c x
some-rest op zero l = (two_forms, two-forms op)
some-rest op (suc zero) l = (one_form, one_form_lem op)
some-rest op (suc (suc c)) l = (41 ∷ [], closed-rest op (suc (suc c)) (omega arith) l)

-- ---- lines and texts
pub last_line : (x : List ℕ) → IsForm OwnForm x → IsLines (x ++ (10 ∷ []))
unfolding print_lines
last_line x (f, b, k, p) =
    (f ∷ [], cons≢nil, (k, b, tt), append-nil (print_form f ++ (10 ∷ [])) ∙ ap (λ (z : List ℕ). z ++ (10 ∷ [])) p)

pub next-line : (x y : List ℕ) → IsForm OwnForm x → IsLines y → IsLines (x ++ (10 ∷ y))
unfolding print_lines
next-line x y (f, b, k, p) (fs, n, g, q) = (
  f ∷ fs,
  cons≢nil,
  (k, b, g),
  append_assoc (print_form f) (10 ∷ []) (print_lines fs) ∙ ap₂ (λ (u v : List ℕ). u ++ (10 ∷ v)) p q,
)

pub whole-text : (x y : List ℕ) → IsNumber x → IsLines y → IsText (ascii "(circuit " ++ (x ++ (41 ∷ 10 ∷ y)))
whole-text x y (n, (l, e)) (fs, s, g, p) =
    let t : Tree = record { variables = n; lines = fs } in (
      t,
      record { header = l; some = s; each = g },
      header-flat t ∙ ap₂ (λ (u v : List ℕ). ascii "(circuit " ++ (u ++ (41 ∷ 10 ∷ v))) e p,
    )
