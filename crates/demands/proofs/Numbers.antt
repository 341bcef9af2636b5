-- The scope's numbers, by computation.
use Prim.Native.Nat.{ℕ, zero, suc, ◌*◌, ◌<◌}
use mathlib.Core.Path.{◌≡◌, refl, sym, ap}
use mathlib.Core.Bool.{Bool, cond}
use mathlib.Core.List.{List, ◌∷◌}
use native.Mathlib.Omega.{arith}
use lib.ListN.{length, replicate}
use borrow.Author.Tests.{lt-ltb, ne_eqb}
use Rattle.table.specs.Layout.{words_at, put_words}
use Rattle.table.specs.Node.{node_at, unknown}
use Rattle.table.specs.Outcome.{answered, refused}
use Rattle.text.specs.Read.{digit_at, digits_at, number_at, match_at, ranged_at, tail_at, head_at, close_at, end_at, rest_with, form_at, lines_at}
use Rattle.text.specs.Read.{header_at, read_text, word_at, answers, body_of, ReadOut}
use Rattle.text.specs.Limits.{max_bytes}
use Rattle.text_assignment.specs.Line.{read_assignment}
use Rattle.text_script.specs.Script.{read_steps, read_script}
use Rattle.lines.specs.Reading.{read_some, read_from}
use Rattle.masks.specs.Mask.{put}
use Rattle.quelbrift.specs.Boundary.{answer_of}
use Rattle.program.proofs.Limits.{long as program-long}
use Rattle.demands.specs.Numbers.{Limits, Kinds, Values, CircuitTexts, LineTexts, ScriptTexts, Numbers}

limits : Limits
limits =
    record {
      variables = refl;
      nodes = refl;
      capacity = refl;
      weight = refl;
      steps = refl;
      words = refl;
      children = refl;
      bytes = refl;
      depth = refl;
      least-forms = refl;
      pick-forms = λ x. refl;
      both-forms = refl;
      program-bytes = refl;
      program-words = refl;
      program-nodes = refl;
      program-capacity = refl;
    }

above : (k : ℕ) (w : List ℕ) → 5 < k → node_at (k ∷ w) 0 ≡ unknown
unfolding node_at words_at
above zero w l = absurd (omega arith)
above (suc zero) w l = absurd (omega arith)
above (suc (suc zero)) w l = absurd (omega arith)
above (suc (suc (suc zero))) w l = absurd (omega arith)
above (suc (suc (suc (suc zero)))) w l = absurd (omega arith)
above (suc (suc (suc (suc (suc zero))))) w l = absurd (omega arith)
above (suc (suc (suc (suc (suc (suc k)))))) w l = refl

kinds : Kinds
unfolding node_at words_at
kinds =
    record {
      always-false = λ w. refl;
      always-true = λ w. refl;
      positive = λ x w. refl;
      negative = λ x w. refl;
      pick = λ x a b w. refl;
      both = λ a b c w. refl;
      above = above;
      next = λ k x n a b c d e f g h w. refl;
    }

values : Values
values =
    record {
      none = refl;
      two = λ a b. refl;
      one = λ a. refl;
      holds = refl;
      fails = refl;
      reduction = λ t. refl;
      judgement = λ v a b. refl;
      view = λ R i a l.
          ap (λ (b : Bool). answer_of (λ (part : List ℕ). cond b (0, (0, 0)) (i * R, (suc (length l), 0))) (answered (a ∷ l)))
          (ne_eqb (suc (length l)) 0 (λ e. absurd (omega arith)));
      no-view = λ R i. refl;
      refusal = λ k p. refl;
    }

circuit-texts : CircuitTexts
unfolding read_text header_at lines_at form_at rest_with end_at close_at head_at tail_at word_at ranged_at match_at number_at digits_at digit_at put_words
circuit-texts =
    record {
      long = λ s m l.
          ap (λ (b : Bool). (cond b (answers (refused 10 max_bytes) (replicate m 0)) (body_of s m (header_at s))).answer)
          (lt-ltb max_bytes (length s) l);
      program-long = λ s v l. ap (λ (o : ReadOut). o.answer) (sym (program-long s v l));
      empty = refl;
      fifth-digit = refl;
      form-alone = refl;
      no-variable = refl;
      many-variables = refl;
      variable = refl;
      own_line = refl;
      depth = refl;
      no_room = refl;
      room = refl;
    }

line-texts : LineTexts
unfolding read_assignment read_some read_from match_at ranged_at number_at digits_at digit_at put
line-texts = record { few = refl; many = refl; shape = refl; variable = refl; twice = refl; line = refl }

script-texts : ScriptTexts
unfolding read_script read_steps read_some read_from match_at ranged_at number_at digits_at digit_at
script-texts = record { few = λ list. refl; shape = refl; no_room = refl; variable = refl; acts = refl }

pub numbers : Numbers
numbers =
    record {
      limits = limits;
      kinds = kinds;
      values = values;
      circuit-texts = circuit-texts;
      line-texts = line-texts;
      script-texts = script-texts;
    }
