-- The reading of an assignment line is what `LineReadsAs` says, and nothing else is.
use Prim.Native.Nat.{ℕ, ◌+◌, ◌<◌}
use mathlib.Core.Path.{◌≡◌, refl, ap, subst}
use mathlib.Core.Bool.{Bool, true, ◌&&◌}
use mathlib.Core.Logic.{inl, inr}
use mathlib.Core.List.{List, [], ◌∷◌, ◌++◌}
use native.Mathlib.Omega.{arith}
use lib.Dec.{T, ltb, leb, ltb→lt, lt→ltb}
use lib.ListN.{length}
use Rattle.masks.specs.Mask.{put}
use Rattle.masks.proofs.Tests.{and_i, and_l, and_r}
use Rattle.table.specs.Outcome.{Outcome, refused}
use Rattle.text.specs.Ascii.{ascii}
use Rattle.text.specs.Faults.{unless}
use Rattle.text.specs.Language.{FaultAt}
use Rattle.text.specs.Meaning.{Bytes}
use Rattle.text.specs.Syntax.{decimal}
use Rattle.lines.specs.Format.{choice, first, fits, print, last, faults}
use Rattle.lines.proofs.Lines.{PieceFault, fault-numbered, lines-refused-is, lines-reading-is, lines-reading-only, Language}
use Rattle.lines.proofs.WellFormed.{Any, PieceOk, WellFormed, picked-some}
use Rattle.text_assignment.specs.Line.{member_choices, line_piece, line_format, mask_in, read_assignment, State, begun, members}
use Rattle.text_assignment.specs.Line.{member, closed}
use Rattle.text_assignment.specs.Meaning.{LineReadsAs}
use Rattle.text_assignment.specs.Syntax.{print_members, print_assignment, SmallNumbers, member_faults, assignment_faults, with_all}
use Rattle.text_assignment.specs.Syntax.{mask_of}

module _ (N : ℕ) where
  pieces : (q : State) → PieceOk (line_format N) (line_piece N q)
  pieces begun = omega arith
  pieces (members low mask) = omega arith
  pieces (member low mask) = (λ e. absurd (omega arith), λ v. (refl, omega arith))
  pieces (closed mask) = tt

  lives : (q : State) → (ms : List ℕ) × T (fits (line_format N) q ms)
  unfolding fits
  lives begun = (40 ∷ 41 ∷ [], tt)
  lives (members low mask) = (41 ∷ [], tt)
  lives (member low mask) = (0 ∷ 41 ∷ [], tt)
  lives (closed mask) = ([], tt)

  pub line-formed : WellFormed (line_format N)
  line-formed = record { pieces = pieces; lives = lives }

  -- ---- the moves of a line
  abbrev member_moves : List ℕ → List ℕ
  member_moves [] = 41 ∷ []
  member_moves (v ∷ vs) = 32 ∷ v ∷ member_moves vs

  members-fit : (vs : List ℕ) (low mask : ℕ) → SmallNumbers vs → T (fits (line_format N) (members low mask) (member_moves vs))
  unfolding fits
  members-fit [] low mask sm = tt
  members-fit (v ∷ vs) low mask (l, sm) =
      and_i (ltb v 10000) (fits (line_format N) (members (v + 1) (put mask v true)) (member_moves vs)) (lt→ltb v 10000 l)
      (members-fit vs (v + 1) (put mask v true) sm)

  abbrev Members : List ℕ → Type 0
  Members ms = (vs : List ℕ) × SmallNumbers vs × (member_moves vs ≡ ms)

  one_more : (v : ℕ) (ms : List ℕ) → v < 10000 → Members ms → Members (32 ∷ v ∷ ms)
  one_more v ms l (vs, sm, e) = (v ∷ vs, (l, sm), ap (λ (z : List ℕ). 32 ∷ v ∷ z) e)

  members-every : (ms : List ℕ) (low mask : ℕ) → T (fits (line_format N) (members low mask) ms) → Members ms
  unfolding fits
  members-every [] low mask f = absurd f
  members-every (m ∷ []) low mask f = by (picked-some (line_format N) (λ r. fits (line_format N) r []) (member_choices low mask) m f)
    where
      by : Any (λ c. (first c.word ≡ m) × T (fits (line_format N) c.next [])) (member_choices low mask) → Members (m ∷ [])
      by (inl (e, g)) = absurd g
      by (inr (inl (e, g))) = ([], tt, ap (λ (z : ℕ). z ∷ []) e)
      by (inr (inr g)) = absurd g
  members-every (m ∷ v ∷ ms) low mask f =
      by (picked-some (line_format N) (λ r. fits (line_format N) r (v ∷ ms)) (member_choices low mask) m f)
      (members-every ms (v + 1) (put mask v true))
    where
      by : Any (λ c. (first c.word ≡ m) × T (fits (line_format N) c.next (v ∷ ms))) (member_choices low mask)
          → (T (fits (line_format N) (members (v + 1) (put mask v true)) ms) → Members ms) → Members (m ∷ v ∷ ms)
      by (inl (e, g)) more =
          let rest : Bool = fits (line_format N) (members (v + 1) (put mask v true)) ms in
          subst (λ (z : ℕ). Members (z ∷ v ∷ ms)) e
          (one_more v ms (ltb→lt v 10000 (and_l (ltb v 10000) rest g)) (more (and_r (ltb v 10000) rest g)))
      by (inr (inl (e, g))) more = absurd g
      by (inr (inr g)) more = absurd g

  line-every : (ms : List ℕ) → T (fits (line_format N) begun ms) → (vs : List ℕ) × SmallNumbers vs × (40 ∷ member_moves vs ≡ ms)
  unfolding fits
  line-every [] f = absurd f
  line-every (m ∷ ms) f =
      by (picked-some (line_format N) (λ r. fits (line_format N) r ms) (choice (ascii "(stow") (members 0 0) ∷ []) m f)
    where
      by : Any (λ c. (first c.word ≡ m) × T (fits (line_format N) c.next ms)) (choice (ascii "(stow") (members 0 0) ∷ [])
          → (vs : List ℕ) × SmallNumbers vs × (40 ∷ member_moves vs ≡ m ∷ ms)
      by (inl (e, g)) = let (vs, sm, i) = members-every ms 0 0 g in (vs, sm, λ d. e d ∷ i d)
      by (inr g) = absurd g

  -- ---- what they print, their faults and their mask
  members-print : (vs : List ℕ) (low mask : ℕ) → print_members vs ≡ print (line_format N) (members low mask) (member_moves vs)
  unfolding print print_members
  members-print [] low mask = refl
  members-print (v ∷ vs) low mask = ap (λ (z : List ℕ). 32 ∷ (decimal v ++ z)) (members-print vs (v + 1) (put mask v true))

  line-print : (vs : List ℕ) → print_assignment vs ≡ print (line_format N) begun (40 ∷ member_moves vs)
  unfolding print print_assignment
  line-print vs = ap (λ (z : List ℕ). ascii "(stow" ++ z) (members-print vs 0 0)

  members-faults : (vs : List ℕ) (low mask at : ℕ)
      → member_faults N low at vs ≡ faults (line_format N) (members low mask) at (member_moves vs)
  unfolding faults member_faults
  members-faults [] low mask at = refl
  members-faults (v ∷ vs) low mask at =
      let p : ℕ = at + 1 + length (decimal v) in
      ap (λ (z : List (ℕ × ℕ)). unless (leb low v && ltb v N) 52 p ++ z) (members-faults vs (v + 1) (put mask v true) p)

  line-faults : (vs : List ℕ) → assignment_faults N vs ≡ faults (line_format N) begun 0 (40 ∷ member_moves vs)
  unfolding faults assignment_faults
  line-faults vs = members-faults vs 0 0 5

  members-last : (vs : List ℕ) (low mask : ℕ) → last (line_format N) (members low mask) (member_moves vs) ≡ closed (with_all mask vs)
  unfolding last
  members-last [] low mask = refl
  members-last (v ∷ vs) low mask = members-last vs (v + 1) (put mask v true)

  line-last : (vs : List ℕ) → last (line_format N) begun (40 ∷ member_moves vs) ≡ closed (mask_of vs)
  unfolding last
  line-last vs = members-last vs 0 0

  line-fit : (vs : List ℕ) → SmallNumbers vs → T (fits (line_format N) begun (40 ∷ member_moves vs))
  unfolding fits
  line-fit vs sm = members-fit vs 0 0 sm

  -- ---- the reading
  line-language : Language (line_format N) begun mask_in SmallNumbers print_assignment (assignment_faults N) mask_of
  line-language =
      record {
        moves = λ vs. 40 ∷ member_moves vs;
        fit = line-fit;
        every = line-every;
        prints = λ vs sm. line-print vs;
        faulted = λ vs sm. line-faults vs;
        means = λ vs sm. ap mask_in (line-last vs);
      }

pub line-reading-is : (s : List ℕ) (N : ℕ) → Bytes s → LineReadsAs s N (read_assignment s N)
unfolding read_assignment
line-reading-is s N b = lines-reading-is (line-formed N) (line-language N) N s b

pub line-reading-only : (s : List ℕ) (N : ℕ) → Bytes s → (a : Outcome ℕ) → LineReadsAs s N a → read_assignment s N ≡ a
unfolding read_assignment
line-reading-only s N b = lines-reading-only (line-formed N) (line-language N) N s b

-- the number and the place of a refusal
pub line-refused-is : (s : List ℕ) (N k p : ℕ) → read_assignment s N ≡ refused k p → LineReadsAs s N (refused k p)
unfolding read_assignment
line-refused-is s N k p h = lines-refused-is (line-formed N) (line-language N) N s k p h

-- a fault is 52
pub line-number : (s : List ℕ) (N k p : ℕ) → FaultAt SmallNumbers print_assignment (assignment_faults N) s k p → k ≡ 52
line-number s N k p w = fault-numbered (line-formed N) (line-language N) (λ k. k ≡ 52) by s k p w
  where
    by : (q : State) → PieceFault (line_format N) (line-formed N) (λ k. k ≡ 52) (line_piece N q)
    by begun = tt
    by (members low mask) = tt
    by (member low mask) = refl
    by (closed mask) = tt
