-- The steps of a loading script ("script"): a list of records, and the same in columns of plain words.
use Rattle.std.specs.Prelude.{ℕ, cond, min, List, ◌++◌, map, ltb, length, get_or, set, take, drop, replicate}
use Rattle.masks.specs.Numbers.{below}
use Rattle.steps.specs.declared.Step.{Step}
use Rattle.steps.specs.declared.Columns.{Columns}

-- how many steps a script has at most
abbrev pub max_steps : ℕ
max_steps = 256

-- what stands where no step is
abbrev pub no_step : Step
no_step = record { variable = 0; act = 0 }

abbrev pub no_columns : Columns
no_columns = record { variables = replicate 256 0; acts = replicate 256 0 }

-- the columns with step i, where there is room for it
abbrev pub put : Columns → ℕ → Step → Columns
put c i s = cond (ltb i 256) (record { variables = set c.variables i s.variable; acts = set c.acts i s.act }) c

-- step i of the columns
abbrev pub step_of : Columns → ℕ → Step
step_of c i = cond (ltb i 256) (record { variable = get_or c.variables i 0; act = get_or c.acts i 0 }) no_step

-- the first 256 words of a list, and zeros where it has fewer
abbrev pub column : List ℕ → List ℕ
column l = take 256 (l ++ replicate 256 0)

-- the columns of a list of steps
unfoldable pub columns : List Step → Columns
columns ss = record { variables = column (map (λ s. s.variable) ss); acts = column (map (λ s. s.act) ss) }

-- the first k steps of the columns
unfoldable pub steps_in : Columns → ℕ → List Step
steps_in c k = map (step_of c) (below k)

-- the list with the first n steps of the columns, as far as it goes
unfoldable pub stored : Columns → ℕ → List Step → List Step
stored c n ys = steps_in c (min n (length ys)) ++ drop n ys
