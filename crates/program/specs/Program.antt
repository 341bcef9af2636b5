-- What the program reads and lists, with its own limits: they stay as they are where those of texts and tables grow.
use Rattle.std.specs.Prelude.{ℕ, cond, List, [], ltb, length, replicate}
use Rattle.table.specs.Outcome.{refused}
use Rattle.text.specs.Read.{ReadOut, answers, read_text}
use Rattle.exclusions.specs.Exclusions.{exclusions}
use Rattle.listing.specs.Listing.{Lent}
use Rattle.filtered.specs.Filtered.{filtered_lent, filtered_table, FilteredOut}

-- how many bytes a text has at most, and the place of its 10
abbrev pub program_bytes : ℕ
program_bytes = 40000

-- how many words a text is read into: those of 64 nodes
abbrev pub program_words : ℕ
program_words = 704

-- how many nodes the buffers of the listing are made for
abbrev pub program_nodes : ℕ
program_nodes = 64

-- the capacity ("room") of the listing
abbrev pub program_capacity : ℕ
program_capacity = 64

-- reading the text s into the words v: a text that is too long leaves them as they were
abbrev pub program_reading : List ℕ → List ℕ → ReadOut
program_reading s v = cond (ltb program_bytes (length s)) (answers (refused 10 program_bytes) v) (read_text s program_words)

-- listing into the nodes' buffers b: every variable weighs nothing, and no two exclude each other
abbrev pub program_listing : ℕ → ℕ → List ℕ → Lent → FilteredOut
program_listing N n w b =
    let zeros : List ℕ = replicate program_capacity 0 in
    filtered_table (replicate N 0) (exclusions [] []) N n w program_capacity (filtered_lent b zeros zeros)
