-- The words that forms begin with.
use Rattle.std.specs.Prelude.{ℕ, max, List, [], ◌∷◌}
use Rattle.text.specs.Ascii.{ascii}
use Rattle.text.specs.declared.head.Role.{Role}
use Rattle.text.specs.declared.head.Role.TheVariants.{OwnForm, Argument}
use Rattle.text.specs.declared.head.Word.{Word}
use Rattle.text.specs.declared.head.Word.TheVariants.{False, True, Yes, No, Pick, Both, Line}
use Rattle.std.specs.Prelude.{Result, Ok, Err}

-- the bytes of a word: the space belongs to those that a number follows
abbrev pub spelling : Word → List ℕ
spelling False = ascii "false"
spelling True = ascii "true"
spelling Yes = ascii "yes "
spelling No = ascii "no "
spelling Pick = ascii "pick "
spelling Both = ascii "both"
spelling Line = ascii "line "

-- a line's own form is not `line`
abbrev pub line_word : Role → List Word
line_word OwnForm = []
line_word Argument = Line ∷ []

-- the words that may stand there
abbrev pub head_words : Role → List Word
head_words role = False ∷ True ∷ Yes ∷ No ∷ Pick ∷ Both ∷ line_word role

-- a word that is matched, or else what is known of the others; where none is, the furthest place
abbrev pub or_word : Word → Result ℕ ℕ → Result (Word × ℕ) ℕ → Result (Word × ℕ) ℕ
or_word w (Ok p) others = Ok (w, p)
or_word w (Err p) (Ok (v, q)) = Ok (v, q)
or_word w (Err p) (Err q) = Err (max p q)
