-- Laws on the text of a table.
use Prim.Native.Nat.{ℕ, ◌+◌}
use mathlib.Core.Path.{◌≡◌, refl, sym, ap, ◌∙◌}
use mathlib.Core.List.{List, [], ◌∷◌, ◌++◌, map, append-nil, append_assoc, map-append}
use native.Mathlib.Numerals.{add-one}
use Rattle.masks.specs.Numbers.{below}
use Rattle.table.specs.Node.{node_at}
use Rattle.text.specs.Ascii.{ascii}
use Rattle.text.specs.Syntax.{print_form, print_lines, Form}
use Rattle.text.specs.Write.{node_form}

pub lines-append : (fs gs : List Form) → print_lines (fs ++ gs) ≡ print_lines fs ++ print_lines gs
unfolding print_lines
lines-append [] gs = refl
lines-append (f ∷ fs) gs =
    ap (λ (l : List ℕ). print_form f ++ ascii "\n" ++ l) (lines-append fs gs)
    ∙ sym (append_assoc (print_form f ++ ascii "\n") (print_lines fs) (print_lines gs))

-- the lines of the nodes below i
abbrev pub node_lines : List ℕ → ℕ → List ℕ
node_lines w i = print_lines (map (λ k. node_form (node_at w k)) (below i))

pub line-more : (w : List ℕ) (i : ℕ) → node_lines w (i + 1) ≡ node_lines w i ++ (print_form (node_form (node_at w i)) ++ ascii "\n")
unfolding below print_lines
line-more w i =
    ap (node_lines w) (add-one i)
    ∙ ap print_lines (map-append (λ k. node_form (node_at w k)) (below i) (i ∷ []))
    ∙ lines-append (map (λ k. node_form (node_at w k)) (below i)) (node_form (node_at w i) ∷ [])
    ∙ ap (λ (l : List ℕ). node_lines w i ++ l) (append-nil (print_form (node_form (node_at w i)) ++ ascii "\n"))

-- ---- what the code writes, in the brackets of the definition
-- two children in a form
pub two-children : (h a b e : List ℕ) → h ++ a ++ b ++ e ≡ h ++ (a ++ (b ++ [])) ++ e
two-children h a b e = simp (append_assoc, append-nil)
