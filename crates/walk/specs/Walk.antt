-- The walk of a loading script through a circuit: N variables with the weights m, n nodes, the table w, the steps es. The prime implicants
-- of every node are listed first. Then each prefix of the steps is judged by itself.
use Rattle.std.specs.Prelude.{ℕ, suc, Bool, true, ◌&&◌, ◌||◌, not, cond, List, [], ◌∷◌, ◌++◌, map, eqb, ltb, leb, length, take, drop}
use Rattle.masks.specs.Numbers.{least, below}
use Rattle.table.specs.Outcome.{after, Outcome, answered, refused}
use Rattle.steps.specs.Steps.{max_steps}
use Rattle.steps.specs.declared.Step.{Step}
use Rattle.terms.specs.Completions.{status}
use Rattle.terms.specs.Lists.{all, keep}
use Rattle.terms.specs.Prime.{primes}
use Rattle.terms.specs.Term.{conflict}
use Rattle.terms.specs.declared.Term.{Term}
use Rattle.circuits.specs.Check.{check}
use Rattle.queries.specs.Queries.{circuit}
use Rattle.listing.specs.Listing.{list_table, Lent, ListOut}
use Rattle.listing.specs.Guarded.{untouched, after_tests, Out}
use Rattle.walk.specs.Known.{known}

-- ---- what is wrong with the steps
-- from step i on: 54 an act above 2 or a step beyond 256, 55 a variable not below N; the lowest step, 54 first there
unfoldable pub check_steps : ℕ → ℕ → List Step → Outcome (Unit {0})
check_steps N i [] = answered tt
check_steps N i (e ∷ es) =
    cond (leb max_steps i || ltb 2 e.act) (refused 54 i)
    (cond (leb N e.variable) (refused 55 i) (check_steps N (suc i) es))

-- ---- a prefix by itself
-- how many prime implicants of f do not conflict with the term ("how many clearances don't clash with the marks"); so many in any order
unfoldable pub compatible : ℕ → (ℕ → Bool) → Term → ℕ
compatible N f t = length (keep (λ u. not (conflict u t)) (primes [] N f))

-- what g says of the term that is known after each step in turn
unfoldable pub after_each : ℕ → (Term → ℕ) → List Step → List ℕ
after_each N g es = map (λ k. g (known N (take (suc k) es))) (below (length es))

-- every status from step k on is 2 ("allowed")
abbrev pub allowed_from : List ℕ → ℕ → Bool
allowed_from l k = all (λ v. eqb v 2) (drop k l)

-- 1 and the first step from which on every status is 2; 0 and 0 where there is none
unfoldable pub settled : List ℕ → ℕ × ℕ
settled l = let k : ℕ = least (length l) (allowed_from l) in cond (ltb k (length l)) (1, k) (0, 0)

-- ---- the lent buffers: those of the listing, and an entry a step in each of two more
pub record WalkLent : Type 0 where
  pub rows : Lent
  pub statuses : List ℕ
  pub compatibles : List ℕ

abbrev pub walk_lent : Lent → List ℕ → List ℕ → WalkLent
walk_lent b ss cs = record { rows = b; statuses = ss; compatibles = cs }

-- the answer, with the buffers afterwards
abbrev pub WalkOut : Type 0
WalkOut = Out (ℕ × ℕ) WalkLent

-- ---- by the answer of the listing, which may be a refusal: the entries of the steps, the later ones as they were
abbrev pub walk_listed : ℕ → (ℕ → Bool) → List Step → WalkLent → Lent → Outcome (Unit {0}) → WalkOut
walk_listed N f es b rows (refused k i) =
    record { answer = refused k i; after = walk_lent rows b.statuses b.compatibles }
walk_listed N f es b rows (answered u) =
    let statuses : List ℕ = after_each N (status N f) es in
    record {
      answer = answered (settled statuses);
      after =
          walk_lent rows (statuses ++ drop (length es) b.statuses)
          (after_each N (compatible N f) es ++ drop (length es) b.compatibles);
    }

-- not 41 by the buffers of the steps: each has an entry a step
abbrev pub steps_fit : List Step → WalkLent → Bool
steps_fit es b = leb (length es) (length b.statuses) && leb (length es) (length b.compatibles)

-- by the answer of the check, 21 to 25, and of the steps, 54 and 55: then 41, and the listing's own refusals
abbrev pub walk_checked : List ℕ → ℕ → ℕ → List ℕ → ℕ → List Step → WalkLent → Outcome (Unit {0}) → WalkOut
walk_checked m N n w R es b (refused k i) = untouched k i b
walk_checked m N n w R es b (answered u) =
    let l : ListOut = list_table true m N n w R b.rows in
    after_tests ((steps_fit es b, 41) ∷ []) b (walk_listed N (circuit n w) es b l.after l.answer)

-- walking the steps with room for R rows a node
unfoldable pub walk_table : List ℕ → ℕ → ℕ → List ℕ → ℕ → List Step → WalkLent → WalkOut
walk_table m N n w R es b = walk_checked m N n w R es b (after (check N n w) (check_steps N 0 es))
