-- The limits of circuit text.
use Rattle.std.specs.Prelude.{ℕ, ◌+◌}
use Rattle.table.specs.Node.{max_nodes}

-- how many bytes a text may have
abbrev pub max_bytes : ℕ
max_bytes = 110000

-- how many brackets may be open in one another
abbrev pub max_depth : ℕ
max_depth = 16

-- how many lines are looked at: each makes a node, and there is no room for one more than the most
abbrev pub max_lines : ℕ
max_lines = max_nodes + 1
