-- The language of assignment lines ("stow lines"): the variables that a line names, how they are printed, their faults and their mask.
use Rattle.std.specs.Prelude.{ℕ, ◌+◌, ◌<◌, true, ◌&&◌, List, [], ◌∷◌, ◌++◌, ltb, leb, length}
use Rattle.masks.specs.Mask.{put}
use Rattle.text.specs.Ascii.{ascii}
use Rattle.text.specs.Faults.{unless}
use Rattle.text.specs.Syntax.{decimal}

-- a space and a number for each variable, and the end of the line
unfoldable pub print_members : List ℕ → List ℕ
print_members [] = ascii ")\n"
print_members (v ∷ vs) = ascii " " ++ (decimal v ++ print_members vs)

unfoldable pub print_assignment : List ℕ → List ℕ
print_assignment vs = ascii "(stow" ++ print_members vs

-- each number has at most four digits
abbrev pub SmallNumbers : List ℕ → Type 0
SmallNumbers [] = Unit {0}
SmallNumbers (v ∷ vs) = (v < 10000) × SmallNumbers vs

-- 52: a variable not below N, or not above the one before (not from low on), at the byte after it; the members start at a place
unfoldable pub member_faults : ℕ → ℕ → ℕ → List ℕ → List (ℕ × ℕ)
member_faults N low at [] = []
member_faults N low at (v ∷ vs) =
    let p : ℕ = at + 1 + length (decimal v) in unless (leb low v && ltb v N) 52 p ++ member_faults N (v + 1) p vs

unfoldable pub assignment_faults : ℕ → List ℕ → List (ℕ × ℕ)
assignment_faults N vs = member_faults N 0 (length (ascii "(stow")) vs

-- the mask with these variables too
abbrev pub with_all : ℕ → List ℕ → ℕ
with_all m [] = m
with_all m (v ∷ vs) = with_all (put m v true) vs

-- the variables that are true, as a mask
abbrev pub mask_of : List ℕ → ℕ
mask_of vs = with_all 0 vs
