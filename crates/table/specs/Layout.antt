-- Where the words of a node stand: eleven a node, its kind, its variable ("fact"), the number of its children and eight children.
use Rattle.std.specs.Prelude.{ℕ, ◌+◌, ◌*◌, ◌/◌, List, [], ◌∷◌, get_or}
use Rattle.std.proofs.lemmas.List.Edits.{sets}
use Rattle.table.specs.declared.layout.NodeWords.{NodeWords}

-- how many children a node has at most
abbrev pub max_children : ℕ
max_children = 8

-- how many words a node has, and how many n nodes have: node i stands from word 11 × i on
abbrev pub node_words : ℕ
node_words = 11

abbrev pub words_for : ℕ → ℕ
words_for n = node_words * n

-- how many nodes have room in m words
abbrev pub room_in : ℕ → ℕ
room_in m = m / node_words

-- the eight words from a place on
abbrev pub eight : List ℕ → ℕ → List ℕ
eight w at =
    get_or w at 0 ∷ get_or w (at + 1) 0 ∷ get_or w (at + 2) 0 ∷ get_or w (at + 3) 0 ∷ get_or w (at + 4) 0 ∷ get_or w (at + 5) 0
    ∷ get_or w (at + 6) 0 ∷ get_or w (at + 7) 0 ∷ []

-- the words of node i
unfoldable pub words_at : List ℕ → ℕ → NodeWords
words_at w i =
    let at : ℕ = words_for i in
    record {
      kind = get_or w at 0;
      variable = get_or w (at + 1) 0;
      children = record { count = get_or w (at + 2) 0; nodes = eight w (at + 3) };
    }

-- a node's words as they stand in the table
abbrev pub word_list : NodeWords → List ℕ
word_list y = y.kind ∷ y.variable ∷ y.children.count ∷ y.children.nodes

-- the table with these words of node i
unfoldable pub put_words : List ℕ → ℕ → NodeWords → List ℕ
put_words w i y = sets w (words_for i) (word_list y)
