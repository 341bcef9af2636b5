-- The reading of a loading script is what `ScriptReadsAs` says, and nothing else is.
use Prim.Native.Nat.{ℕ, zero, suc, ◌+◌, ◌<◌, ◌≤◌}
use mathlib.Core.Path.{◌≡◌, refl, sym, ap, subst, ◌∙◌}
use mathlib.Core.Bool.{Bool, true, false, cond}
use mathlib.Core.Logic.{inl, inr}
use mathlib.Core.List.{List, [], ◌∷◌, ◌++◌, append-nil, append_assoc}
use native.Mathlib.Omega.{arith}
use native.Mathlib.Decide.{dec_lt}
use lib.Dec.{T, ltb, ltb→lt, lt→ltb}
use lib.ListN.{length, length-append}
use borrow.Author.Tests.{lt-ltb, le-ltb}
use Rattle.masks.proofs.Tests.{and_i, and_l, and_r}
use Rattle.steps.specs.declared.Step.{Step}
use Rattle.table.specs.Outcome.{Outcome, refused}
use Rattle.text.specs.Ascii.{ascii}
use Rattle.text.specs.Faults.{unless}
use Rattle.text.specs.Language.{FaultAt}
use Rattle.text.specs.Meaning.{Bytes}
use Rattle.text.specs.Syntax.{decimal}
use Rattle.lines.specs.Format.{choice, first, pick, fits_word, fits, print, last, faults, Choice}
use Rattle.lines.proofs.Lines.{PieceFault, fault-numbered, lines-refused-is, lines-reading-is, lines-reading-only, Language}
use Rattle.lines.proofs.WellFormed.{Any, Each, IsWord, PieceOk, WellFormed, picked-some}
use Rattle.text_script.specs.Meaning.{ScriptReadsAs}
use Rattle.text_script.specs.Script.{with, line_choices, opened_choices, sign_choices, script_piece, script_format, steps_in}
use Rattle.text_script.specs.Script.{room_for, read_steps, State, line, opened, setting, set_to, sign, dropping, dropped}
use Rattle.text_script.specs.Syntax.{variable_of, opening, print_line, print_script, SmallNumbers, IsScript, script_faults}
use Rattle.text_script.specs.Syntax.{step_of, steps_of, Line, set_line, drop_line}

module _ (N room : ℕ) where
  line-words : (es : List Step) → Each (λ c. IsWord c.word) (line_choices room es)
  line-words es = by (ltb (length es) room)
    where
      by : (t : Bool) → Each (λ c. IsWord c.word) (cond t (choice (ascii "(") (opened es) ∷ []) [])
      by true = omega arith
      by false = tt

  pieces : (q : State) → PieceOk (script_format N room) (script_piece N room q)
  pieces (line es) = line-words es
  pieces (opened es) = omega arith
  pieces (setting es) = (λ e. absurd (omega arith), λ v. (refl, omega arith))
  pieces (set_to es v) = omega arith
  pieces (sign es v) = omega arith
  pieces (dropping es) = (λ e. absurd (omega arith), λ v. (refl, omega arith))
  pieces (dropped es v) = omega arith

  lives : (q : State) → (ms : List ℕ) × T (fits (script_format N room) q ms)
  unfolding fits
  lives (line es) = ([], tt)
  lives (opened es) = (100 ∷ 0 ∷ 41 ∷ [], tt)
  lives (setting es) = (0 ∷ 32 ∷ 121 ∷ [], tt)
  lives (set_to es v) = (32 ∷ 121 ∷ [], tt)
  lives (sign es v) = (121 ∷ [], tt)
  lives (dropping es) = (0 ∷ 41 ∷ [], tt)
  lives (dropped es v) = (41 ∷ [], tt)

  pub script-formed : WellFormed (script_format N room)
  script-formed = record { pieces = pieces; lives = lives }

  -- ---- the moves of a line, and those after it
  abbrev sign_byte : Bool → ℕ
  sign_byte true = 121
  sign_byte false = 110

  abbrev line_moves : Line → List ℕ → List ℕ
  line_moves (set_line v b) ms = 40 ∷ 115 ∷ v ∷ 32 ∷ sign_byte b ∷ ms
  line_moves (drop_line v) ms = 40 ∷ 100 ∷ v ∷ 41 ∷ ms

  abbrev script_moves : List Line → List ℕ
  script_moves [] = []
  script_moves (l ∷ ls) = line_moves l (script_moves ls)

  -- the state after a line
  abbrev after : List Step → Line → State
  after es l = line (es ++ (step_of l ∷ []))

  module _ (es : List Step) (r : length es < room) (ms : List ℕ) where
    line-fit : (l : Line) → variable_of l < 10000 → T (fits (script_format N room) (after es l) ms)
        → T (fits (script_format N room) (line es) (line_moves l ms))
    unfolding fits
    line-fit (set_line v true) l f =
        rw (lt-ltb (length es) room r) (and_i (ltb v 10000) (fits (script_format N room) (line (with es v 1)) ms) (lt→ltb v 10000 l) f)
    line-fit (set_line v false) l f =
        rw (lt-ltb (length es) room r) (and_i (ltb v 10000) (fits (script_format N room) (line (with es v 0)) ms) (lt→ltb v 10000 l) f)
    line-fit (drop_line v) l f =
        rw (lt-ltb (length es) room r) (and_i (ltb v 10000) (fits (script_format N room) (line (with es v 2)) ms) (lt→ltb v 10000 l) f)

    line-print : (l : Line)
        → print (script_format N room) (line es) (line_moves l ms) ≡ print_line l ++ print (script_format N room) (after es l) ms
    unfolding print print_line
    line-print (set_line v true) =
        let next : List ℕ = print (script_format N room) (line (with es v 1)) ms in
        rw (lt-ltb (length es) room r) (ap (λ (z : List ℕ). ascii "(set " ++ z) (sym (append_assoc (decimal v) (ascii " yes)\n") next)))
    line-print (set_line v false) =
        let next : List ℕ = print (script_format N room) (line (with es v 0)) ms in
        rw (lt-ltb (length es) room r) (ap (λ (z : List ℕ). ascii "(set " ++ z) (sym (append_assoc (decimal v) (ascii " no)\n") next)))
    line-print (drop_line v) =
        let next : List ℕ = print (script_format N room) (line (with es v 2)) ms in
        rw (lt-ltb (length es) room r) (ap (λ (z : List ℕ). ascii "(drop " ++ z) (sym (append_assoc (decimal v) (ascii ")\n") next)))

    line-last : (l : Line) → last (script_format N room) (line es) (line_moves l ms) ≡ last (script_format N room) (after es l) ms
    unfolding last
    line-last (set_line v true) = rw (lt-ltb (length es) room r)
    line-last (set_line v false) = rw (lt-ltb (length es) room r)
    line-last (drop_line v) = rw (lt-ltb (length es) room r)

    line-faults : (l : Line) (at : ℕ) → faults (script_format N room) (line es) at (line_moves l ms)
        ≡ unless (ltb (variable_of l) N) 55 (at + length (opening l) + length (decimal (variable_of l)))
        ++ faults (script_format N room) (after es l) (at + length (print_line l)) ms
    unfolding faults print_line
    line-faults (set_line v true) at =
        let d : ℕ = length (decimal v) in
        let e : at + 1 + 4 + d ≡ at + 5 + d = omega arith in
        let n : at + 5 + d + 1 + 5 ≡ at + length (ascii "(set " ++ (decimal v ++ ascii " yes)\n")) =
        omega (arith, length-append (decimal v) (ascii " yes)\n")) in
        rw (lt-ltb (length es) room r, e, n)
    line-faults (set_line v false) at =
        let d : ℕ = length (decimal v) in
        let e : at + 1 + 4 + d ≡ at + 5 + d = omega arith in
        let n : at + 5 + d + 1 + 4 ≡ at + length (ascii "(set " ++ (decimal v ++ ascii " no)\n")) =
        omega (arith, length-append (decimal v) (ascii " no)\n")) in
        rw (lt-ltb (length es) room r, e, n)
    line-faults (drop_line v) at =
        let d : ℕ = length (decimal v) in
        let e : at + 1 + 5 + d ≡ at + 6 + d = omega arith in
        let n : at + 6 + d + 2 ≡ at + length (ascii "(drop " ++ (decimal v ++ ascii ")\n")) =
        omega (arith, length-append (decimal v) (ascii ")\n")) in
        rw (lt-ltb (length es) room r, e, n)

  -- ---- a whole script, after the steps es
  more_room : (es : List Step) (l : Line) (ls : List Line) → length es + length (l ∷ ls) ≤ room
      → (length es < room) × (length (es ++ (step_of l ∷ [])) + length ls ≤ room)
  more_room es l ls h = (omega arith, omega (arith, length-append es (step_of l ∷ [])))

  script-fit : (ls : List Line) (es : List Step) → length es + length ls ≤ room → SmallNumbers ls
      → T (fits (script_format N room) (line es) (script_moves ls))
  unfolding fits
  script-fit [] es h sm = tt
  script-fit (l ∷ ls) es h (s, sm) =
      let (r, k) = more_room es l ls h in
      line-fit es r (script_moves ls) l s (script-fit ls (es ++ (step_of l ∷ [])) k sm)

  script-print : (ls : List Line) (es : List Step) → length es + length ls ≤ room
      → print_script ls ≡ print (script_format N room) (line es) (script_moves ls)
  unfolding print print_script
  script-print [] es h = refl
  script-print (l ∷ ls) es h =
      let (r, k) = more_room es l ls h in
      ap (λ (z : List ℕ). print_line l ++ z) (script-print ls (es ++ (step_of l ∷ [])) k) ∙ sym (line-print es r (script_moves ls) l)

  script-last : (ls : List Line) (es : List Step) → length es + length ls ≤ room
      → last (script_format N room) (line es) (script_moves ls) ≡ line (es ++ steps_of ls)
  unfolding last
  script-last [] es h = ap line (sym (append-nil es))
  script-last (l ∷ ls) es h =
      let (r, k) = more_room es l ls h in
      line-last es r (script_moves ls) l ∙ script-last ls (es ++ (step_of l ∷ [])) k
      ∙ ap line (append_assoc es (step_of l ∷ []) (steps_of ls))

  script-faults : (ls : List Line) (es : List Step) (at : ℕ) → length es + length ls ≤ room
      → script_faults N at ls ≡ faults (script_format N room) (line es) at (script_moves ls)
  unfolding faults script_faults
  script-faults [] es at h = refl
  script-faults (l ∷ ls) es at h =
      let (r, k) = more_room es l ls h in
      let own : List (ℕ × ℕ) = unless (ltb (variable_of l) N) 55 (at + length (opening l) + length (decimal (variable_of l))) in
      ap (λ (z : List (ℕ × ℕ)). own ++ z) (script-faults ls (es ++ (step_of l ∷ [])) (at + length (print_line l)) k)
      ∙ sym (line-faults es r (script_moves ls) l at)

  -- ---- all moves that fit are those of a script
  -- the moves ms are those of a line, but for its bracket, and the moves after it
  pub record Parted (es : List Step) (ms : List ℕ) : Type 0 where
    pub own : Line
    pub others : List ℕ
    pub small : variable_of own < 10000
    pub are : 40 ∷ ms ≡ line_moves own others
    pub fit : T (fits (script_format N room) (after es own) others)

  sign-parted : (es : List Step) (v : ℕ) → v < 10000 → (ms : List ℕ) → T (fits (script_format N room) (sign es v) ms)
      → Parted es (115 ∷ v ∷ 32 ∷ ms)
  unfolding fits
  sign-parted es v l [] f = absurd f
  sign-parted es v l (m ∷ ms) f =
      by (picked-some (script_format N room) (λ q. fits (script_format N room) q ms) (sign_choices es v) m f)
    where
      by : Any (λ c. (first c.word ≡ m) × T (fits (script_format N room) c.next ms)) (sign_choices es v)
          → Parted es (115 ∷ v ∷ 32 ∷ m ∷ ms)
      by (inl (e, g)) =
          record { own = set_line v true; others = ms; small = l; are = ap (λ (z : ℕ). 40 ∷ 115 ∷ v ∷ 32 ∷ z ∷ ms) (sym e); fit = g }
      by (inr (inl (e, g))) =
          record { own = set_line v false; others = ms; small = l; are = ap (λ (z : ℕ). 40 ∷ 115 ∷ v ∷ 32 ∷ z ∷ ms) (sym e); fit = g }
      by (inr (inr g)) = absurd g

  -- one of the words may stand there, and the moves ms after it
  abbrev FitsOne : List (Choice State) → ℕ → List ℕ → Type 0
  FitsOne cs m ms = T (fits_word (script_format N room) (λ q. fits (script_format N room) q ms) (pick cs m))

  -- the only word that may stand there
  one_word : (c : Choice State) (m : ℕ) (ms : List ℕ) → FitsOne (c ∷ []) m ms
      → (first c.word ≡ m) × T (fits (script_format N room) c.next ms)
  one_word c m ms f = by (picked-some (script_format N room) (λ q. fits (script_format N room) q ms) (c ∷ []) m f)
    where
      by : Any (λ c. (first c.word ≡ m) × T (fits (script_format N room) c.next ms)) (c ∷ [])
          → (first c.word ≡ m) × T (fits (script_format N room) c.next ms)
      by (inl g) = g
      by (inr g) = absurd g

  set-parted : (es : List Step) (ms : List ℕ) → T (fits (script_format N room) (setting es) ms) → Parted es (115 ∷ ms)
  unfolding fits
  set-parted es [] f = absurd f
  set-parted es (v ∷ []) f = absurd (and_r (ltb v 10000) false f)
  set-parted es (v ∷ m ∷ ms) f =
      let rest : Bool = fits (script_format N room) (set_to es v) (m ∷ ms) in
      let (e, g) = one_word (choice (ascii " ") (sign es v)) m ms (and_r (ltb v 10000) rest f) in
      subst (λ (z : ℕ). Parted es (115 ∷ v ∷ z ∷ ms)) e (sign-parted es v (ltb→lt v 10000 (and_l (ltb v 10000) rest f)) ms g)

  drop-parted : (es : List Step) (ms : List ℕ) → T (fits (script_format N room) (dropping es) ms) → Parted es (100 ∷ ms)
  unfolding fits
  drop-parted es [] f = absurd f
  drop-parted es (v ∷ []) f = absurd (and_r (ltb v 10000) false f)
  drop-parted es (v ∷ m ∷ ms) f =
      let rest : Bool = fits (script_format N room) (dropped es v) (m ∷ ms) in
      let (e, g) = one_word (choice (ascii ")\n") (line (with es v 2))) m ms (and_r (ltb v 10000) rest f) in
      record {
        own = drop_line v;
        others = ms;
        small = ltb→lt v 10000 (and_l (ltb v 10000) rest f);
        are = ap (λ (z : ℕ). 40 ∷ 100 ∷ v ∷ z ∷ ms) (sym e);
        fit = g;
      }

  opened-parted : (es : List Step) (ms : List ℕ) → T (fits (script_format N room) (opened es) ms) → Parted es ms
  unfolding fits
  opened-parted es [] f = absurd f
  opened-parted es (m ∷ ms) f =
      by (picked-some (script_format N room) (λ q. fits (script_format N room) q ms) (opened_choices es) m f)
    where
      by : Any (λ c. (first c.word ≡ m) × T (fits (script_format N room) c.next ms)) (opened_choices es) → Parted es (m ∷ ms)
      by (inl (e, g)) = subst (λ (z : ℕ). Parted es (z ∷ ms)) e (set-parted es ms g)
      by (inr (inl (e, g))) = subst (λ (z : ℕ). Parted es (z ∷ ms)) e (drop-parted es ms g)
      by (inr (inr g)) = absurd g

  -- a line begins only where there is room
  line-parted : (es : List Step) (m : ℕ) (ms : List ℕ) → T (fits (script_format N room) (line es) (m ∷ ms))
      → (length es < room) × (40 ≡ m) × Parted es ms
  unfolding fits
  line-parted es m ms f = by (dec_lt (length es) room) f
    where
      by : Dec (length es < room) → T (fits (script_format N room) (line es) (m ∷ ms)) → (length es < room) × (40 ≡ m) × Parted es ms
      by (yes r) f =
          let g : FitsOne (choice (ascii "(") (opened es) ∷ []) m ms =
          subst (λ (t : Bool). FitsOne (cond t (choice (ascii "(") (opened es) ∷ []) []) m ms) (lt-ltb (length es) room r) f in
          let (e, h) = one_word (choice (ascii "(") (opened es)) m ms g in (r, e, opened-parted es ms h)
      by (no r) f =
          absurd
          (subst (λ (t : Bool). FitsOne (cond t (choice (ascii "(") (opened es) ∷ []) []) m ms) (le-ltb (length es) room (omega arith)) f)

  abbrev Lines : List Step → List ℕ → Type 0
  Lines es ms = (ls : List Line) × (length es + length ls ≤ room) × SmallNumbers ls × (script_moves ls ≡ ms)

  -- given that of the fewer moves after a line
  lines-by : (ms : List ℕ) (es : List Step) → length es ≤ room → T (fits (script_format N room) (line es) ms)
      → ((rest : List ℕ) (ds : List Step) → length rest < length ms → length ds ≤ room → T (fits (script_format N room) (line ds) rest)
      → Lines ds rest) → Lines es ms
  lines-by [] es r f more = ([], omega arith, tt, refl)
  lines-by (m ∷ ms) es r f more =
      let (r, e, p) = line-parted es m ms f in
      let own : Line = p.own in
      let ds : List Step = es ++ (step_of own ∷ []) in
      let n : length ds ≡ length es + 1 = length-append es (step_of own ∷ []) in
      let (ls, h, sm, i) = more p.others ds (omega (arith, ap length p.are, moves-less own p.others)) (omega arith) p.fit in (
        own ∷ ls,
        omega arith,
        (p.small, sm),
        ap (line_moves own) i ∙ sym p.are ∙ ap (λ (z : ℕ). z ∷ ms) e,
      )
    where
      moves-less : (l : Line) (rest : List ℕ) → suc (length rest) ≤ length (line_moves l rest)
      moves-less (set_line v b) rest = omega arith
      moves-less (drop_line v) rest = omega arith

  -- by the number k of moves at most
  lines-every : (k : ℕ) (ms : List ℕ) (es : List Step) → length ms ≤ k → length es ≤ room → T (fits (script_format N room) (line es) ms)
      → Lines es ms
  lines-every zero ms es l r f = lines-by ms es r f (λ rest ds h. absurd (omega arith))
  lines-every (suc k) ms es l r f = lines-by ms es r f (λ rest ds h. lines-every k rest ds (omega arith))

  -- ---- the reading
  script-language : Language (script_format N room) (line []) steps_in (IsScript room) print_script (script_faults N 0) steps_of
  script-language =
      record {
        moves = script_moves;
        fit = λ ls ok. script-fit ls [] (omega (arith, ok.0)) ok.1;
        every = λ ms f. let (ls, h, sm, e) = lines-every (length ms) ms [] (omega arith) (omega arith) f in (ls, (omega arith, sm), e);
        prints = λ ls ok. script-print ls [] (omega (arith, ok.0));
        faulted = λ ls ok. script-faults ls [] 0 (omega (arith, ok.0));
        means = λ ls ok. ap steps_in (script-last ls [] (omega (arith, ok.0)));
      }

module _ (s : List ℕ) (N l : ℕ) where
  pub script-reading-is : Bytes s → ScriptReadsAs s N l (read_steps s N l)
  unfolding read_steps
  script-reading-is b = lines-reading-is (script-formed N (room_for l)) (script-language N (room_for l)) N s b

  pub script-reading-only : Bytes s → (a : Outcome (List Step)) → ScriptReadsAs s N l a → read_steps s N l ≡ a
  unfolding read_steps
  script-reading-only b = lines-reading-only (script-formed N (room_for l)) (script-language N (room_for l)) N s b

  -- the number and the place of a refusal
  pub script-refused-is : (k p : ℕ) → read_steps s N l ≡ refused k p → ScriptReadsAs s N l (refused k p)
  unfolding read_steps
  script-refused-is k p h = lines-refused-is (script-formed N (room_for l)) (script-language N (room_for l)) N s k p h

  -- a fault is 55
  pub script-number : (k p : ℕ) → FaultAt (IsScript (room_for l)) print_script (script_faults N 0) s k p → k ≡ 55
  script-number k p w = fault-numbered (script-formed N (room_for l)) (script-language N (room_for l)) (λ k. k ≡ 55) by s k p w
    where
      by : (q : State) → PieceFault (script_format N (room_for l)) (script-formed N (room_for l)) (λ k. k ≡ 55) (script_piece N (room_for l) q)
      by (line es) = tt
      by (opened es) = tt
      by (setting es) = refl
      by (set_to es v) = tt
      by (sign es v) = tt
      by (dropping es) = refl
      by (dropped es v) = tt
