-- A member of an assignment line, as the code reads it, is what the line's format reads there.
use Prim.Native.Nat.{ℕ, ◌+◌, ◌<◌, ◌≤◌}
use mathlib.Core.Path.{◌≡◌, refl, sym, ap, ◌∙◌}
use mathlib.Core.Bool.{Bool, true, false, ◌&&◌, ◌||◌, cond}
use mathlib.Core.Logic.{◌⊎◌, inl, inr, ◌≢◌}
use mathlib.Core.List.{List, [], ◌∷◌}
use lib.Dec.{eqb, ltb, leb}
use borrow.Author.Tests.{eq-eqb, ne_eqb, le-leb, lt-leb}
use Rattle.masks.specs.Mask.{put}
use Rattle.masks.proofs.Tests.{same?}
use Rattle.table.specs.Outcome.{Outcome, answered, refused}
use Rattle.text.specs.Ascii.{ascii}
use Rattle.text.specs.Read.{byte_at, number_at, match_at}
use Rattle.lines.specs.Format.{choice, pick, Choice}
use Rattle.lines.specs.Reading.{match_then, word_then, number_then, mapped, read_from}
use Rattle.lines.proofs.Local.{word_read, read_step}
use Rattle.text_assignment.specs.Line.{member_choices, line_format, mask_in, read_assignment, State, begun, members, member}
use Rattle.text_assignment.specs.Line.{closed}
use Rattle.text_assignment.specs.Answers.{assignment_of}
use Rattle.text_assignment.specs.Members.{variable_of, member_at, closed_at}
use Rattle.text_assignment.specs.declared.assignment.AssignmentFault.{AssignmentFault}
use Rattle.text_assignment.specs.declared.assignment.AssignmentFault.TheVariants.{LineShape, LineOrder}
use Rattle.text_assignment.proofs.Lines.{line-formed}
use Rattle.std.specs.Prelude.{Option, Some, None, Result, Ok, Err}
use Rattle.std.specs.Prelude.{is_some}

module _ (s : List ℕ) (N : ℕ) where
  -- reading on in a state from a place
  abbrev on : State → ℕ → Outcome State
  on = read_from (line_format N) s

  abbrev pub rest : State → ℕ → Outcome ℕ
  rest q at = mapped mask_in (on q at)

  closed_is : (at mask : ℕ) → rest (closed mask) at ≡ cond (eqb (byte_at s at) 256) (answered mask) (refused 51 at)
  closed_is at mask = ap (mapped mask_in) (read_step (line_format N) (line-formed N) s (closed mask) at) ∙ by (eqb (byte_at s at) 256)
    where
      by : (t : Bool) → mapped mask_in (cond t (answered (closed mask)) (refused 51 at)) ≡ cond t (answered mask) (refused 51 at)
      by true = refl
      by false = refl

  module _ (low mask at : ℕ) where
    picks : on (members low mask) at ≡ word_then (line_format N) s on at (pick (member_choices low mask) (byte_at s at))
    picks = read_step (line_format N) (line-formed N) s (members low mask) at

    closes : byte_at s at ≡ 41 → pick (member_choices low mask) (byte_at s at) ≡ Some (choice (ascii ")\n") (closed mask))
    closes e = rw e

    close-is : byte_at s at ≡ 41 → closed_at s (at + 1) mask ≡ rest (members low mask) at
    unfolding closed_at match_at
    close-is e = by (same? (byte_at s (at + 1)) 10)
      where
        reads : (x : Result ℕ ℕ) → match_at s at (ascii ")\n") ≡ x → mapped mask_in (match_then (line_format N) s (on (closed mask)) x)
            ≡ rest (members low mask) at
        reads x d =
            sym (ap (mapped mask_in)
            (picks ∙ word_read (line_format N) (line-formed N) s on at (member_choices low mask) (choice (ascii ")\n") (closed mask)) x
            (closes e) d))

        by : (byte_at s (at + 1) ≡ 10) ⊎ (byte_at s (at + 1) ≢ 10) → closed_at s (at + 1) mask ≡ rest (members low mask) at
        by (inl i) = rw i (sym (closed_is (at + 1 + 1) mask) ∙ reads (Ok (at + 1 + 1)) (rw (e, i)))
        by (inr n) =
            rw (ne_eqb (byte_at s (at + 1)) 10 n) (reads (Err (at + 1)) (rw (e, ne_eqb (byte_at s (at + 1)) 10 n)))

    space-is : byte_at s at ≡ 32 → on (members low mask) at
        ≡ number_then (line_format N) s on (λ v. leb low v && ltb v N) 52 (λ v. members (v + 1) (put mask v true)) (at + 1)
        (number_at s (at + 1))
    unfolding match_at
    space-is e =
        let c : Choice State = choice (ascii " ") (member low mask) in
        picks ∙ word_read (line_format N) (line-formed N) s on at (member_choices low mask) c (Ok (at + 1)) (rw e) (rw e)
        ∙ read_step (line_format N) (line-formed N) s (member low mask) (at + 1)

    -- no choice begins with another byte
    unpicked : byte_at s at ≢ 41 → byte_at s at ≢ 32 → pick (member_choices low mask) (byte_at s at) ≡ None
    unpicked m n = rw (ne_eqb 32 (byte_at s at) (λ e. n (sym e)), ne_eqb 41 (byte_at s at) (λ e. m (sym e)))

    other-is : byte_at s at ≢ 41 → byte_at s at ≢ 32 → refused 51 at ≡ rest (members low mask) at
    other-is m n =
        sym (ap (mapped mask_in) (picks ∙ ap (word_then (line_format N) s on at) (unpicked m n)))

  -- ---- what follows a member that the code has read
  abbrev pub member_then : ℕ → ℕ → Result (Option (ℕ × ℕ)) AssignmentFault → Outcome ℕ
  member_then mask at (Ok None) = closed_at s (at + 1) mask
  member_then mask at (Ok (Some (v, p))) = rest (members (v + 1) (put mask v true)) p
  member_then mask at (Err e) = assignment_of (Err e)

  module _ (low mask : ℕ) where
    abbrev value : ℕ → Option (ℕ × ℕ) → Outcome State
    value = number_then (line_format N) s on (λ v. leb low v && ltb v N) 52 (λ v. members (v + 1) (put mask v true))

    value-is : (start at : ℕ) (x : Option (ℕ × ℕ)) → member_then mask start (variable_of s N low at x) ≡ mapped mask_in (value at x)
    value-is start at None = refl
    value-is start at (Some (v, p)) = by (same? (byte_at s p) 41) (same? (byte_at s p) 32) (leb low v && ltb v N)
      where
        by : (byte_at s p ≡ 41) ⊎ (byte_at s p ≢ 41) → (byte_at s p ≡ 32) ⊎ (byte_at s p ≢ 32) → (t : Bool)
            → member_then mask start
            (cond (eqb (byte_at s p) 32 || eqb (byte_at s p) 41) (cond t (Ok (Some (v, p))) (Err (LineOrder p))) (Err (LineShape p)))
            ≡ mapped mask_in
            (cond t (on (members (v + 1) (put mask v true)) p)
            (cond (is_some (pick (member_choices (v + 1) (put mask v true)) (byte_at s p))) (refused 52 p) (refused 51 p)))
        by (inl e) n true = rw e
        by (inl e) n false = rw e
        by (inr m) (inl e) true = rw e
        by (inr m) (inl e) false = rw e
        by (inr m) (inr n) true =
            rw (ne_eqb (byte_at s p) 32 n, ne_eqb (byte_at s p) 41 m) (other-is (v + 1) (put mask v true) p m n)
        by (inr m) (inr n) false =
            rw (ne_eqb (byte_at s p) 32 n, ne_eqb (byte_at s p) 41 m, unpicked (v + 1) (put mask v true) p m n)

    pub turn : (at : ℕ) → member_then mask at (member_at s N low at) ≡ rest (members low mask) at
    unfolding member_at
    turn at = by (same? (byte_at s at) 41) (same? (byte_at s at) 32)
      where
        by : (byte_at s at ≡ 41) ⊎ (byte_at s at ≢ 41) → (byte_at s at ≡ 32) ⊎ (byte_at s at ≢ 32)
            → member_then mask at (member_at s N low at) ≡ rest (members low mask) at
        by (inl e) n = rw (eq-eqb (byte_at s at) 41 e) (close-is low mask at e)
        by (inr m) (inl e) =
            rw (ne_eqb (byte_at s at) 41 m, eq-eqb (byte_at s at) 32 e)
            (value-is at (at + 1) (number_at s (at + 1)) ∙ sym (ap (mapped mask_in) (space-is low mask at e)))
        by (inr m) (inr n) = rw (ne_eqb (byte_at s at) 41 m, ne_eqb (byte_at s at) 32 n) (other-is low mask at m n)

  -- ---- the beginning of the line
  begins : (x : Result ℕ ℕ) → match_at s 0 (ascii "(stow") ≡ x
      → mapped mask_in (match_then (line_format N) s (on (members 0 0)) x) ≡ rest begun 0
  unfolding match_at
  begins x d = sym (ap (mapped mask_in) (read_step (line_format N) (line-formed N) s begun 0 ∙ by (same? (byte_at s 0) 40)))
    where
      by : (byte_at s 0 ≡ 40) ⊎ (byte_at s 0 ≢ 40)
          → word_then (line_format N) s on 0 (pick (choice (ascii "(stow") (members 0 0) ∷ []) (byte_at s 0))
          ≡ match_then (line_format N) s (on (members 0 0)) x
      by (inl e) =
          let c : Choice State = choice (ascii "(stow") (members 0 0) in
          word_read (line_format N) (line-formed N) s on 0 (c ∷ []) c x (rw e) d
      by (inr n) =
          let other : match_at s 0 (ascii "(stow") ≡ Err 0 = rw (ne_eqb (byte_at s 0) 40 n) in
          rw (ne_eqb 40 (byte_at s 0) (λ e. n (sym e))) (ap (match_then (line_format N) s (on (members 0 0))) (sym other ∙ d))

  module _ (l : 1 ≤ N) (h : N ≤ 40) where
    pub line-starts : (x : Result ℕ ℕ) → x ≡ match_at s 0 (ascii "(stow")
        → mapped mask_in (match_then (line_format N) s (on (members 0 0)) x) ≡ read_assignment s N
    unfolding read_assignment
    line-starts x e = rw (le-leb 1 N l, le-leb N 40 h) (begins x (sym e))

  pub misfits : (N < 1) ⊎ ((1 ≤ N) × (40 < N)) → refused 21 0 ≡ read_assignment s N
  unfolding read_assignment
  misfits (inl h) = rw (lt-leb 1 N h)
  misfits (inr h) = rw (le-leb 1 N h.0, lt-leb N 40 h.1)
