-- What the reading of a circuit text is to answer, said by the grammar alone: `ReadsAs` leaves exactly one answer for each input.
use Rattle.std.specs.Prelude.{ℕ, ◌-◌, ◌<◌, ◌≤◌, ◌≡◌, ◌⊎◌, List, [], ◌∷◌, ◌++◌, length, replicate}
use Rattle.table.specs.Layout.{words_for}
use Rattle.table.specs.Outcome.{Outcome, answered, refused}
use Rattle.text.specs.Faults.{tree_faults}
use Rattle.text.specs.Language.{IsOut, WrongAt, FaultAt}
use Rattle.text.specs.Limits.{max_bytes}
use Rattle.text.specs.Read.{room_of}
use Rattle.text.specs.Syntax.{print, compile, Tree, Grammatical, Within}

-- every byte is one
abbrev pub Bytes : List ℕ → Type 0
Bytes [] = Unit {0}
Bytes (b ∷ w) = (b < 256) × Bytes w

-- a text of the grammar
abbrev pub IsText : List ℕ → Type 0
IsText s = IsOut Grammatical print s

-- a tree within the limits prints to s and stands for these nodes; the other lent words are 0
pub record Tells (s : List ℕ) (m N n : ℕ) (words : List ℕ) : Type 0 where
  pub tree : Tree
  pub grammatical : Grammatical tree
  pub within : Within (room_of m) tree
  pub prints : print tree ≡ s
  pub variables : tree.variables ≡ N
  pub nodes : (compile tree).nodes ≡ n
  pub table : (compile tree).words ++ replicate (m - words_for n) 0 ≡ words

-- 10: more than 110,000 bytes
pub record TooLong (s : List ℕ) (p : ℕ) : Type 0 where
  pub long : max_bytes < length s
  pub place : p ≡ max_bytes

-- 11: a wrong shape at p
pub record FirstWrong (s : List ℕ) (m p : ℕ) : Type 0 where
  pub short : length s ≤ max_bytes
  pub at : WrongAt Grammatical print (tree_faults (room_of m)) s p

-- 12 to 15: a fault at p
pub record FirstFault (s : List ℕ) (m k p : ℕ) : Type 0 where
  pub short : length s ≤ max_bytes
  pub number : (12 ≤ k) × (k ≤ 15)
  pub at : FaultAt Grammatical print (tree_faults (room_of m)) s k p

-- a refusal: its number and its place
abbrev pub RefusedAs : List ℕ → ℕ → ℕ → ℕ → Type 0
RefusedAs s m k p = ((k ≡ 10) × TooLong s p) ⊎ (((k ≡ 11) × FirstWrong s m p) ⊎ FirstFault s m k p)

-- the answer for the text s with m lent words, and these words afterwards; a refusal leaves every word 0
abbrev pub ReadsAs : List ℕ → ℕ → Outcome (ℕ × ℕ) → List ℕ → Type 0
ReadsAs s m (answered v) words = Tells s m v.0 v.1 words
ReadsAs s m (refused k p) words = (words ≡ replicate m 0) × RefusedAs s m k p
