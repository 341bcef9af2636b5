-- The pieces of a script, as the code reads them, are what the script's format reads there.
use Prim.Native.Nat.{ℕ, ◌+◌, ◌<◌, ◌≤◌}
use mathlib.Core.Path.{◌≡◌, refl, sym, ap, subst, ◌∙◌}
use mathlib.Core.Bool.{Bool, true, false, ◌&&◌, cond}
use mathlib.Core.Logic.{◌⊎◌, inl, inr, ◌≢◌}
use mathlib.Core.List.{List, [], ◌∷◌}
use native.Mathlib.Omega.{arith}
use native.Mathlib.Decide.{dec_lt}
use lib.Dec.{eqb, ltb, leb}
use lib.ListN.{length}
use borrow.Author.Tests.{eq-eqb, ne_eqb, lt-ltb, le-ltb, le-leb, lt-leb}
use Rattle.masks.proofs.Tests.{same?}
use Rattle.steps.specs.Steps.{columns}
use Rattle.steps.specs.declared.Step.{Step}
use Rattle.table.specs.Outcome.{Outcome, answered, refused}
use Rattle.text.specs.Ascii.{ascii}
use Rattle.text.specs.Places.{MatchedRuns, RangedRuns}
use Rattle.text.specs.Read.{byte_at, number_at, match_at, ranged_of, ranged_at}
use Rattle.text.specs.declared.answer.Fault.{Fault}
use Rattle.lines.specs.Format.{choice, first, pick, starts, Choice, words, number}
use Rattle.lines.specs.Reading.{match_then, word_then, number_then, read_piece, end_or, read_from, mapped}
use Rattle.lines.proofs.Local.{word_read, read_step}
use Rattle.text_script.specs.Answers.{Told}
use Rattle.text_script.specs.Faults.{refusal_of, fault_of}
use Rattle.text_script.specs.Lines.{line_then, Reads, ended_by, LineRuns}
use Rattle.text_script.specs.Script.{with, line_choices, opened_choices, sign_choices, script_piece, script_ends, script_format, State}
use Rattle.text_script.specs.Script.{steps_in, room_for, read_steps, line, opened, setting, set_to, sign, dropping, dropped}
use Rattle.text_script.specs.declared.answer.Script.{Script}
use Rattle.text_script.specs.declared.answer.ScriptFault.{ScriptFault}
use Rattle.text_script.specs.declared.answer.ScriptFault.TheVariants.{Sizes, Shape, Variable}
use Rattle.text_script.proofs.Lines.{script-formed}
use Rattle.std.specs.Prelude.{Option, Some, None, Result, Ok, Err}
use Rattle.text.specs.declared.answer.Misread.{Misread}
use Rattle.text.specs.Answers.{misread}
use Rattle.std.specs.Prelude.{is_some}

module _ (s : List ℕ) (N room : ℕ) where
  -- reading on in a state from a place
  abbrev pub on : State → ℕ → Outcome State
  on = read_from (script_format N room) s

  step : (q : State) (at : ℕ)
      → on q at ≡ end_or (script_format N room) s q at (read_piece (script_format N room) s on at (script_piece N room q))
  step q at = read_step (script_format N room) (script-formed N room) s q at

  -- a word that the byte at the place picks
  word-is : (at : ℕ) (cs : List (Choice State)) (c : Choice State) (x : Result ℕ ℕ) → pick cs (byte_at s at) ≡ Some c
      → match_at s at c.word ≡ x
      → word_then (script_format N room) s on at (pick cs (byte_at s at)) ≡ match_then (script_format N room) s (on c.next) x
  word-is at cs c x e d = word_read (script_format N room) (script-formed N room) s on at cs c x e d

  -- ---- the end of a line
  ended : (es : List Step) (v a : ℕ) (x : Result ℕ ℕ)
      → line_then s N room es (ended_by v a x) ≡ match_then (script_format N room) s (on (line (with es v a))) x
  ended es v a (Ok p) = refl
  ended es v a (Err p) = refl

  module _ (es : List Step) (v at : ℕ) where
    yes-is : byte_at s at ≡ 121 → line_then s N room es (ended_by v 1 (match_at s at (ascii "yes)\n"))) ≡ on (sign es v) at
    yes-is e =
        let c : Choice State = choice (ascii "yes)\n") (line (with es v 1)) in
        ended es v 1 (match_at s at (ascii "yes)\n"))
        ∙ sym (step (sign es v) at ∙ word-is at (sign_choices es v) c (match_at s at (ascii "yes)\n")) (rw e) refl)

    no-is : byte_at s at ≡ 110 → line_then s N room es (ended_by v 0 (match_at s at (ascii "no)\n"))) ≡ on (sign es v) at
    no-is e =
        let c : Choice State = choice (ascii "no)\n") (line (with es v 0)) in
        ended es v 0 (match_at s at (ascii "no)\n"))
        ∙ sym (step (sign es v) at ∙ word-is at (sign_choices es v) c (match_at s at (ascii "no)\n")) (rw e) refl)

    unsigned : byte_at s at ≢ 121 → byte_at s at ≢ 110 → refused 54 at ≡ on (sign es v) at
    unsigned m n =
        let e : pick (sign_choices es v) (byte_at s at) ≡ None =
        rw (ne_eqb 121 (byte_at s at) (λ e. m (sym e)), ne_eqb 110 (byte_at s at) (λ e. n (sym e))) in
        sym (step (sign es v) at ∙ ap (word_then (script_format N room) s on at) e)

    dropped-is : byte_at s at ≡ 41 → line_then s N room es (ended_by v 2 (match_at s at (ascii ")\n"))) ≡ on (dropped es v) at
    dropped-is e =
        let c : Choice State = choice (ascii ")\n") (line (with es v 2)) in
        ended es v 2 (match_at s at (ascii ")\n"))
        ∙ sym (step (dropped es v) at ∙ word-is at (c ∷ []) c (match_at s at (ascii ")\n")) (rw e) refl)

    space-is : byte_at s at ≡ 32 → on (sign es v) (at + 1) ≡ on (set_to es v) at
    unfolding match_at
    space-is e =
        let c : Choice State = choice (ascii " ") (sign es v) in
        sym (step (set_to es v) at ∙ word-is at (c ∷ []) c (Ok (at + 1)) (rw e) (rw e))

  -- ---- a variable before the byte that is to follow it
  -- the state q asks for a variable, and after it for the one word w
  pub record Asks (q : State) (next after : ℕ → State) (w : List ℕ) : Type 0 where
    pub piece : script_piece N room q ≡ number (λ v. ltb v N) 55 next
    pub goes : script_ends q ≡ false
    pub follow : (v : ℕ) → script_piece N room (next v) ≡ words (choice w (after v) ∷ [])
    pub follow-goes : (v : ℕ) → script_ends (next v) ≡ false

  abbrev RangedThen : List Step → State → (ℕ → State) → ℕ → ℕ → Result (ℕ × ℕ) Misread → Type 0
  RangedThen es q next b at (Err m) = refusal_of (fault_of m) ≡ on q at
  RangedThen es q next b at (Ok (v, p)) = (byte_at s p ≡ b) × (on (next v) p ≡ on q at)

  module _ (es : List Step) (q : State) (next after : ℕ → State) (w : List ℕ) (h : Asks q next after w) (at : ℕ) where
    -- the number is read
    value-is : on q at ≡ number_then (script_format N room) s on (λ v. ltb v N) 55 next at (number_at s at)
    value-is =
        step q at
        ∙ ap (λ (t : Bool).
        cond (t && eqb (byte_at s at) 256) (answered q) (read_piece (script_format N room) s on at (script_piece N room q)))
        h.goes
        ∙ ap (read_piece (script_format N room) s on at) h.piece

    -- another byte than the word's first
    stuck : (v p : ℕ) → byte_at s p ≢ first w → on (next v) p ≡ refused 54 p
    stuck v p n =
        let e : pick (choice w (after v) ∷ []) (byte_at s p) ≡ None = rw (ne_eqb (first w) (byte_at s p) (λ e. n (sym e))) in
        step (next v) p
        ∙ ap (λ (t : Bool).
        cond (t && eqb (byte_at s p) 256) (answered (next v)) (read_piece (script_format N room) s on p (script_piece N room (next v))))
        (h.follow-goes v)
        ∙ ap (read_piece (script_format N room) s on p) (h.follow v) ∙ ap (word_then (script_format N room) s on p) e

    begins : (v b : ℕ) → starts b (script_piece N room (next v)) ≡ is_some (pick (choice w (after v) ∷ []) b)
    begins v b = ap (starts b) (h.follow v)

    ranged-by : (x : Option (ℕ × ℕ)) → on q at ≡ number_then (script_format N room) s on (λ v. ltb v N) 55 next at x
        → RangedThen es q next (first w) at (ranged_of s at 0 N (first w) Fault.Range x)
    ranged-by None e = sym e
    ranged-by (Some (v, p)) e = by (same? (byte_at s p) (first w)) (dec_lt v N)
      where
        by : (byte_at s p ≡ first w) ⊎ (byte_at s p ≢ first w) → Dec (v < N)
            → RangedThen es q next (first w) at
            (cond (eqb (byte_at s p) (first w))
            (cond (ltb v 0) (misread Fault.Range p) (cond (leb N v) (misread Fault.Range p) (Ok (v, p)))) (misread Fault.Shape p))
        by (inl i) (yes l) =
            rw (eq-eqb (byte_at s p) (first w) i, le-ltb v 0 (omega arith), lt-leb N v l)
            (i, sym (e ∙ rw (lt-ltb v N l)))
        by (inl i) (no l) =
            let m : N ≤ v = omega arith in
            let t : starts (byte_at s p) (script_piece N room (next v)) ≡ true =
            begins v (byte_at s p) ∙ rw (eq-eqb (first w) (byte_at s p) (sym i)) in
            rw (eq-eqb (byte_at s p) (first w) i, le-ltb v 0 (omega arith), le-leb N v m)
            (sym (e ∙ rw (le-ltb v N m, t)))
        by (inr n) (yes l) = rw (ne_eqb (byte_at s p) (first w) n) (sym (e ∙ rw (lt-ltb v N l) (stuck v p n)))
        by (inr n) (no l) =
            let m : N ≤ v = omega arith in
            let t : starts (byte_at s p) (script_piece N room (next v)) ≡ false =
            begins v (byte_at s p) ∙ rw (ne_eqb (first w) (byte_at s p) (λ i. n (sym i))) in
            rw (ne_eqb (byte_at s p) (first w) n) (sym (e ∙ rw (le-ltb v N m, t)))

    ranged-is : (x : Result (ℕ × ℕ) Misread) → x ≡ ranged_at s at 0 N (first w) Fault.Range → RangedThen es q next (first w) at x
    unfolding ranged_at
    ranged-is x e = subst (RangedThen es q next (first w) at) (sym e) (ranged-by (number_at s at) value-is)

  set-asks : (es : List Step) → Asks (setting es) (set_to es) (sign es) (ascii " ")
  set-asks es = record { piece = refl; goes = refl; follow = λ v. refl; follow-goes = λ v. refl }

  drop-asks : (es : List Step) → Asks (dropping es) (dropped es) (λ v. line (with es v 2)) (ascii ")\n")
  drop-asks es = record { piece = refl; goes = refl; follow = λ v. refl; follow-goes = λ v. refl }

  -- ---- a line from its word on
  module _ (es : List Step) (at : ℕ) where
    abbrev keyword : (List Step → State) → Result ℕ ℕ → Outcome State
    keyword q (Ok p) = on (q es) p
    keyword q (Err p) = refused 54 p

    set_is : byte_at s at ≡ 115 → (x : Result ℕ ℕ) → x ≡ match_at s at (ascii "set ") → keyword setting x ≡ on (opened es) at
    set_is e x d =
        let c : Choice State = choice (ascii "set ") (setting es) in
        by x ∙ sym (step (opened es) at ∙ word-is at (opened_choices es) c x (rw e) (sym d))
      where
        by : (x : Result ℕ ℕ) → keyword setting x ≡ match_then (script_format N room) s (on (setting es)) x
        by (Ok p) = refl
        by (Err p) = refl

    drop-is : byte_at s at ≡ 100 → (x : Result ℕ ℕ) → x ≡ match_at s at (ascii "drop ") → keyword dropping x ≡ on (opened es) at
    drop-is e x d =
        let c : Choice State = choice (ascii "drop ") (dropping es) in
        by x ∙ sym (step (opened es) at ∙ word-is at (opened_choices es) c x (rw e) (sym d))
      where
        by : (x : Result ℕ ℕ) → keyword dropping x ≡ match_then (script_format N room) s (on (dropping es)) x
        by (Ok p) = refl
        by (Err p) = refl

    other-is : byte_at s at ≢ 115 → byte_at s at ≢ 100 → refused 54 at ≡ on (opened es) at
    other-is m n =
        let e : pick (opened_choices es) (byte_at s at) ≡ None =
        rw (ne_eqb 115 (byte_at s at) (λ e. m (sym e)), ne_eqb 100 (byte_at s at) (λ e. n (sym e))) in
        sym (step (opened es) at ∙ ap (word_then (script_format N room) s on at) e)

    -- ---- between lines
    pub end_is : byte_at s at ≡ 256 → answered (line es) ≡ on (line es) at
    end_is e = sym (step (line es) at ∙ rw e)

    pub full_is : byte_at s at ≢ 256 → room ≤ length es → refused 54 at ≡ on (line es) at
    full_is n l = sym (step (line es) at ∙ rw (ne_eqb (byte_at s at) 256 n, le-ltb (length es) room l))

    pub closed_is : byte_at s at ≢ 256 → byte_at s at ≢ 40 → refused 54 at ≡ on (line es) at
    closed_is n m = by (dec_lt (length es) room)
      where
        by : Dec (length es < room) → refused 54 at ≡ on (line es) at
        by (no l) = full_is n (omega arith)
        by (yes l) =
            sym (step (line es) at
            ∙ rw (ne_eqb (byte_at s at) 256 n, lt-ltb (length es) room l, ne_eqb 40 (byte_at s at) (λ e. m (sym e))))

    pub open_is : length es < room → byte_at s at ≡ 40 → on (opened es) (at + 1) ≡ on (line es) at
    unfolding match_at
    open_is l e =
        let c : Choice State = choice (ascii "(") (opened es) in
        let cs : line_choices room es ≡ c ∷ [] = rw (lt-ltb (length es) room l) in
        sym (step (line es) at ∙ rw (ne_eqb (byte_at s at) 256 (λ i. absurd (omega arith)))
        (ap (λ (z : List (Choice State)). word_then (script_format N room) s on at (pick z (byte_at s at))) cs
        ∙ word-is at (c ∷ []) c (Ok (at + 1)) (rw e) (rw e)))

-- ---- the same, whatever the room and the steps before
later-runs : (s : List ℕ) (at p : ℕ) (r : Result (Step × ℕ) ScriptFault) → at ≤ p → LineRuns s p r → LineRuns s at r
later-runs s at p (Ok (t, q)) l (m, n) = (omega arith, n)
later-runs s at p (Err e) l h = tt

module _ (s : List ℕ) (N at : ℕ) where
  -- the sign and the end of the line
  module _ (v : ℕ) {c : ℕ} (b : c ≡ byte_at s at) where
    pub yes-reads : {r : Result (Step × ℕ) ScriptFault} → c ≡ 121 → r ≡ ended_by v 1 (match_at s at (ascii "yes)\n"))
        → Reads s N (λ es. sign es v) at r
    yes-reads e d room es = ap (line_then s N room es) d ∙ yes-is s N room es v at (sym b ∙ e)

    pub no_reads : {r : Result (Step × ℕ) ScriptFault} → c ≡ 110 → r ≡ ended_by v 0 (match_at s at (ascii "no)\n"))
        → Reads s N (λ es. sign es v) at r
    no_reads e d room es = ap (line_then s N room es) d ∙ no-is s N room es v at (sym b ∙ e)

    pub unsigned_reads : c ≢ 121 → c ≢ 110 → Reads s N (λ es. sign es v) at (Err (Shape at))
    unsigned_reads m n room es = unsigned s N room es v at (λ e. m (b ∙ e)) (λ e. n (b ∙ e))

  -- ---- the variable of a line; a reading, and where it stands
  abbrev Line : (List Step → State) → Result (Step × ℕ) ScriptFault → Type 0
  Line q r = Reads s N q at r × LineRuns s at r

  pub set-unfit : (m : Misread) → Err m ≡ ranged_at s at 0 N 32 Fault.Range → Line setting (Err (fault_of m))
  set-unfit m e =
      ((λ room es. ranged-is s N room es (setting es) (set_to es) (sign es) (ascii " ") (set-asks s N room es) at (Err m) e), tt)

  pub set-inside : (r : Result (Step × ℕ) ScriptFault) (v p : ℕ) → Ok (v, p) ≡ ranged_at s at 0 N 32 Fault.Range
      → RangedRuns s at N (Ok (v, p))
      → Reads s N (λ es. sign es v) (p + 1) r × LineRuns s (p + 1) r → Line setting r
  set-inside r v p e n (h, k) = (go, later-runs s at (p + 1) r (omega (arith, n.0)) k)
    where
      go : Reads s N setting at r
      go room es =
          let (b, i) = ranged-is s N room es (setting es) (set_to es) (sign es) (ascii " ") (set-asks s N room es) at (Ok (v, p)) e in
          h room es ∙ space-is s N room es v p b ∙ i

  pub drop-unfit : (m : Misread) → Err m ≡ ranged_at s at 0 N 41 Fault.Range → Line dropping (Err (fault_of m))
  drop-unfit m e = (
    (λ room es.
        ranged-is s N room es (dropping es) (dropped es) (λ v. line (with es v 2)) (ascii ")\n") (drop-asks s N room es) at (Err m) e),
    tt,
  )

  pub drop-inside : (r : Result (Step × ℕ) ScriptFault) (v p : ℕ) → Ok (v, p) ≡ ranged_at s at 0 N 41 Fault.Range
      → RangedRuns s at N (Ok (v, p))
      → (r ≡ ended_by v 2 (match_at s p (ascii ")\n"))) × LineRuns s p r → Line dropping r
  drop-inside r v p e n (d, k) = (go, later-runs s at p r (omega (arith, n.0)) k)
    where
      go : Reads s N dropping at r
      go room es =
          let (b, i) = ranged-is s N room es (dropping es) (dropped es) (λ v. line (with es v 2)) (ascii ")\n") (drop-asks s N room es) at
          (Ok (v, p)) e in
          ap (line_then s N room es) d ∙ dropped-is s N room es v p b ∙ i

  -- ---- the word of a line
  module _ {c : ℕ} (b : c ≡ byte_at s at) where
    pub set-differs : (p : ℕ) → c ≡ 115 → Err p ≡ match_at s at (ascii "set ") → Reads s N opened at (Err (Shape p))
    set-differs p e d room es = set_is s N room es at (sym b ∙ e) (Err p) d

    pub set_past : (r : Result (Step × ℕ) ScriptFault) (p : ℕ) → c ≡ 115 → Ok p ≡ match_at s at (ascii "set ") → MatchedRuns s at (Ok p)
        → Reads s N setting p r × LineRuns s p r → Line opened r
    set_past r p e d m (h, k) = (λ room es. h room es ∙ set_is s N room es at (sym b ∙ e) (Ok p) d, later-runs s at p r m.0 k)

    pub drop-differs : (p : ℕ) → c ≡ 100 → Err p ≡ match_at s at (ascii "drop ") → Reads s N opened at (Err (Shape p))
    drop-differs p e d room es = drop-is s N room es at (sym b ∙ e) (Err p) d

    pub drop_past : (r : Result (Step × ℕ) ScriptFault) (p : ℕ) → c ≡ 100 → Ok p ≡ match_at s at (ascii "drop ") → MatchedRuns s at (Ok p)
        → Reads s N dropping p r × LineRuns s p r → Line opened r
    drop_past r p e d m (h, k) = (λ room es. h room es ∙ drop-is s N room es at (sym b ∙ e) (Ok p) d, later-runs s at p r m.0 k)

    pub other-reads : c ≢ 115 → c ≢ 100 → Reads s N opened at (Err (Shape at))
    other-reads m n room es = other-is s N room es at (λ e. m (b ∙ e)) (λ e. n (b ∙ e))

-- ---- what the code answers
pub told-steps : (room : ℕ) (r : Result Script ScriptFault) (o : Outcome State) (es : List Step) → answered (line es) ≡ o
    → r ≡ Ok (record { columns = columns es; count = length es }) → length es ≤ room → Told room r (mapped steps_in o)
told-steps room r o es e h l = subst (λ (z : Outcome State). Told room r (mapped steps_in z)) e (h, l)

pub told-refused : (room : ℕ) (f : ScriptFault) (o : Outcome State) → refusal_of f ≡ o → Told room (Err f) (mapped steps_in o)
told-refused room f o e = subst (λ (z : Outcome State). Told room (Err f) (mapped steps_in z)) e (told f)
  where
    told : (f : ScriptFault) → Told room (Err f) (mapped steps_in (refusal_of f))
    told Sizes = refl
    told (Shape p) = refl
    told (Variable p) = refl

module _ (s : List ℕ) (N l : ℕ) where
  pub misfits : (N < 1) ⊎ ((1 ≤ N) × (40 < N)) → Told (room_for l) (Err Sizes) (read_steps s N l)
  unfolding read_steps
  misfits (inl h) = rw (lt-leb 1 N h) refl
  misfits (inr h) = rw (le-leb 1 N h.0, lt-leb N 40 h.1) refl

  pub reads_all : (r : Result Script ScriptFault) → 1 ≤ N → N ≤ 40 → (room : ℕ) → room ≡ room_for l
      → Told room r (mapped steps_in (read_from (script_format N room) s (line []) 0)) → Told (room_for l) r (read_steps s N l)
  unfolding read_steps
  reads_all r low high room e h =
      rw (le-leb 1 N low, le-leb N 40 high)
      (subst (λ (z : ℕ). Told z r (mapped steps_in (read_from (script_format N z) s (line []) 0))) e h)
