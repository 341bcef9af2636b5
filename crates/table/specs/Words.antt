-- The numbers and words of a table: 21 and 22.
use Rattle.std.specs.Prelude.{ℕ, ◌<◌, ◌≤◌, Bool, true, false, ◌&&◌, not, cond, List, [], ◌∷◌, T, eqb, ltb, leb, length, get_or}
use Rattle.masks.specs.Numbers.{every, least}
use Rattle.table.specs.Layout.{max_children, words_for, words_at}
use Rattle.table.specs.Node.{kind, max_nodes, max_variables, Kind, constant_kind, literal_kind, decision_kind, conjunction_kind}
use Rattle.table.specs.Node.{unknown_kind}
use Rattle.table.specs.Outcome.{accepted, Outcome, refused}
use Rattle.table.specs.declared.layout.Children.{Children}
use Rattle.table.specs.declared.layout.NodeWords.{NodeWords}

-- a kind that uses the word of the variable ("fact")
abbrev pub uses_variable : Kind → Bool
uses_variable (constant_kind v) = false
uses_variable (literal_kind v) = true
uses_variable decision_kind = true
uses_variable conjunction_kind = false
uses_variable unknown_kind = false

abbrev pub is_known : Kind → Bool
is_known (constant_kind v) = true
is_known (literal_kind v) = true
is_known decision_kind = true
is_known conjunction_kind = true
is_known unknown_kind = false

-- the numbers of children that a kind allows: 2 for `pick`, 2 to 8 for `both`, 0 for the others
abbrev pub count_fits : Kind → ℕ → Bool
count_fits (constant_kind v) c = eqb c 0
count_fits (literal_kind v) c = eqb c 0
count_fits decision_kind c = eqb c 2
count_fits conjunction_kind c = leb 2 c && leb c max_children
count_fits unknown_kind c = eqb c 0

-- a used word is below its bound, an unused word is 0
abbrev pub word_fits : Bool → ℕ → ℕ → Bool
word_fits used bound v = cond used (ltb v bound) (eqb v 0)

-- the children of node i: as many words as the number says are used
unfoldable pub children_fit : ℕ → Children → Bool
children_fit i cs = every max_children (λ j. word_fits (ltb j cs.count) i (get_or cs.nodes j 0))

-- node i's words, by its kind
abbrev pub fits_kind : ℕ → ℕ → Kind → ℕ → Children → Bool
fits_kind N i k x cs = is_known k && word_fits (uses_variable k) N x && count_fits k cs.count && children_fit i cs

abbrev pub well_formed : ℕ → ℕ → NodeWords → Bool
well_formed N i y = fits_kind N i (kind y.kind) y.variable y.children

-- a number of variables that is allowed
abbrev pub variables_fit : ℕ → Bool
variables_fit N = leb 1 N && leb N max_variables

-- 21: N or n outside its range, or too few words
abbrev pub in_range : ℕ → ℕ → List ℕ → Bool
in_range N n w = variables_fit N && leb 1 n && leb n max_nodes && leb (words_for n) (length w)

-- 22: a kind above 5, a used fact not below N, a number of children that the kind does not allow, a used child not below its
-- parent, or an unused word not 0
unfoldable pub malformed : ℕ → List ℕ → ℕ → Bool
malformed N w i = not (well_formed N i (words_at w i))

-- the first rule that some node below n breaks, with its lowest such node
abbrev pub first_fault : ℕ → List (ℕ × (ℕ → Bool)) → Outcome (Unit {0})
first_fault n [] = accepted
first_fault n (r ∷ rs) =
    let i : ℕ = least n r.1 in
    let rest : Outcome (Unit {0}) = first_fault n rs in
    cond (ltb i n) (refused r.0 i) rest

-- 21, then such rules
abbrev pub check_by : ℕ → ℕ → List ℕ → List (ℕ × (ℕ → Bool)) → Outcome (Unit {0})
check_by N n w rs = let nodes : Outcome (Unit {0}) = first_fault n rs in cond (in_range N n w) nodes (refused 21 0)

-- 21, then 22 with its lowest node: what is accepted is well-formed
unfoldable pub check_words : ℕ → ℕ → List ℕ → Outcome (Unit {0})
check_words N n w = check_by N n w ((22, malformed N w) ∷ [])

-- what a table is that is refused with neither 21 nor 22; no public contract rests on this
pub record Sound (N n : ℕ) (w : List ℕ) : Type 0 where
  pub narrow : N ≤ max_variables
  pub first : 1 ≤ n
  pub nodes : n ≤ max_nodes
  pub words : words_for n ≤ length w
  pub well : (i : ℕ) → i < n → T (not (malformed N w i))

-- it is one over some number of variables
abbrev pub Readable : ℕ → List ℕ → Type 0
Readable n w = (N : ℕ) × Sound N n w
