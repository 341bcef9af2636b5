-- The lines that the programs print.
use Prim.Native.Char.{code}
use Rattle.std.specs.Prelude.{ℕ, zero, suc, ◌+◌, ◌-◌, ◌%◌, ◌^◌, Bool, cond, List, [], ◌∷◌, ◌++◌, eqb}
use Rattle.masks.specs.Mask.{width, bit}
use Rattle.text.specs.Ascii.{ascii}
use Rattle.text.specs.Syntax.{digit_text, decimal}
use Rattle.terms.specs.declared.Term.{Term}

-- the digits of v at the j highest of the units from 10^19 down to 10, from its first digit on
unfoldable pub high_digits : ℕ → ℕ → List ℕ
high_digits zero v = []
high_digits (suc j) v = high_digits j v ++ digit_text (10 ^ (19 - j)) v

-- a number below 10^20, as every one of 64 bits is, in base ten with no leading zero
unfoldable pub whole_decimal : ℕ → List ℕ
whole_decimal v = high_digits 19 v ++ ((code "0" + v % 10) ∷ [])

-- how many prime implicants ("clearances") follow
unfoldable pub count_line : ℕ → List ℕ
count_line n = ascii "(clearances " ++ whole_decimal n ++ ascii ")\n"

-- a variable with its sign, where the test passes
abbrev pub mark_text : Bool → List ℕ → ℕ → List ℕ
mark_text b sign v = cond b (sign ++ decimal v) []

-- the literals of a term with the variables below n, rising
unfoldable pub literals_text : Term → ℕ → List ℕ
literals_text t zero = []
literals_text t (suc n) =
    literals_text t n ++ mark_text (bit t.positive n) (ascii " +") n ++ mark_text (bit t.negative n) (ascii " -") n

-- a term ("row")
unfoldable pub term_line : Term → List ℕ
term_line t = ascii "(row" ++ literals_text t width ++ ascii ")\n"

-- a refusal's number with its place or node
unfoldable pub refusal_line : ℕ → ℕ → List ℕ
refusal_line k p = ascii "(refused " ++ decimal k ++ ascii " " ++ whole_decimal p ++ ascii ")\n"

-- a refusal that has no place: its number only
unfoldable pub number_line : ℕ → List ℕ
number_line k = ascii "(refused " ++ decimal k ++ ascii ")\n"

-- 42 has no place
unfoldable pub table_refusal_line : ℕ → ℕ → List ℕ
table_refusal_line k i = cond (eqb k 42) (number_line k) (refusal_line k i)
