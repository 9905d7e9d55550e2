-- A trace, written line by line as the choices are made.
use Rattle.tso_cli.proofs.Vocabulary.{◌≡◌, ◌∙◌, ℕ, ◌+◌, List, [], ◌∷◌, ◌++◌, length, refl, sym, ap, arith, append_assoc, append-nil, codes}
use Rattle.tso_cli.proofs.Vocabulary.{string_bytes, Litmus, Choice, Table, Configuration, Running, new_machine, machine_after}
use Rattle.tso_cli.proofs.Vocabulary.{trace_step_of, steps_from, trace_of, trace_step_line, step_lines, end_line, trace_text, told_step}
use Rattle.protocol_tables.specs.PrintedTable.{line}
use Rattle.machine_runs.specs.inner.Observed.{Watched, none_left, over, next, IsWatched}
use Rattle.trace_report.specs.declared.telling.Told.{Told}
use Rattle.tso_cli.specs.declared.told_run.Teller.{Teller}
use Rattle.tso_cli.specs.inner.Telling.{Opens, Tells, Closes}

-- what is told of a choice, once it is known to be this
pub told-is : (m : Running) (c : Choice) (told other : Told) → told_step c told ≡ trace_step_of m c → told ≡ other → told_step c other ≡ trace_step_of m c
told-is m c told other step is = ap (told_step c) (sym is) ∙ step

-- what was written along choices, the first of which has this number
record AllTold (o last : Teller) (m : Running) (number : ℕ) (choices : List Choice) : Type 0 where
  made : last.made + 1 ≡ number + length (steps_from m choices)
  text : string_bytes last.text ≡ string_bytes o.text ++ step_lines o.test.now o.config.shape.words number (steps_from m choices)

none-told : (o : Teller) (m : Running) (number : ℕ) (choices : List Choice) → o.made + 1 ≡ number → steps_from m choices ≡ [] → AllTold o o m number choices
none-told o m number choices first none = record {
  made = let size : length (steps_from m choices) ≡ 0 = ap length none in omega (arith, first, size);
  text = sym (append-nil (string_bytes o.text)) ∙ sym (ap (λ ss. string_bytes o.text ++ step_lines o.test.now o.config.shape.words number ss) none);
}

all-told : (o last : Teller) (m left : Running) (number : ℕ) (choices : List Choice)
    → o.made + 1 ≡ number
    → Watched Tells o m number choices last left
    → AllTold o last m number choices
all-told o _ m _ number _ first (none_left _ _ _) = none-told o m number [] first refl
all-told o _ m _ number [] first (over _ _ _ _ ended) = none-told o m number [] first refl
all-told o _ m _ number (c ∷ cs) first (over _ _ _ _ ended) = none-told o m number (c ∷ cs) first (rw ended refl)
all-told o last m left number _ first (next _ mid _ _ _ _ c rest live one w) =
    let step = trace_step_of m c in
    let steps = steps_from (machine_after m c) rest in
    let words = o.config.shape.words in
    let told = all-told mid last (machine_after m c) left (number + 1) rest (ap (λ n. n + 1) one.number) w in
    let more : steps_from m (c ∷ rest) ≡ step ∷ steps = rw live refl in
    record {
      made =
          let size : length (steps_from m (c ∷ rest)) ≡ length steps + 1 = ap length more ∙ (omega arith) in
          let so_far = told.made in
          omega (arith, size, so_far);
      text = told.text
          ∙ (ap (λ (u : Litmus). string_bytes mid.text ++ step_lines u mid.config.shape.words (number + 1) steps) one.test
          ∙ (ap (λ (g : Configuration). string_bytes mid.text ++ step_lines o.test.now g.shape.words (number + 1) steps) one.config
          ∙ (ap (λ x. x ++ step_lines o.test.now words (number + 1) steps) one.text
          ∙ (append_assoc (string_bytes o.text) (trace_step_line o.test.now words number step) (step_lines o.test.now words (number + 1) steps)
          ∙ sym (ap (λ ss. string_bytes o.text ++ step_lines o.test.now words number ss) more)))));
    }

-- `Trace`, the lines, `Endtrace` and their number
pub trace-told : (table : Table) (config : Configuration) (t : Litmus) (old new : Teller) (choices : List Choice)
    → old.made ≡ 0
    → old.test.now ≡ t
    → old.config ≡ config
    → IsWatched Opens Tells Closes old (new_machine table config t) choices new
    → string_bytes new.text ≡ string_bytes old.text ++ trace_text t config.shape.words (trace_of table config t choices)
trace-told table config t old new choices none test same w =
    let m = new_machine table config t in
    let steps = steps_from m choices in
    let first = line (codes "Trace") in
    let lines = step_lines t config.shape.words 1 steps in
    let last = end_line (length steps) in
    let told = all-told w.begun w.driven m w.left 1 choices (ap (λ n. n + 1) (w.opens.number ∙ none)) w.watched in
    let count : w.driven.made ≡ length steps = let all = told.made in omega (arith, all) in
    w.ends.text ∙ (ap (λ n. string_bytes w.driven.text ++ end_line n) count ∙ (ap (λ x. x ++ last) (told.text
    ∙ (ap (λ (u : Litmus). string_bytes w.begun.text ++ step_lines u w.begun.config.shape.words 1 steps) (w.opens.test ∙ test)
    ∙ (ap (λ (g : Configuration). string_bytes w.begun.text ++ step_lines t g.shape.words 1 steps) (w.opens.config ∙ same)
    ∙ ap (λ x. x ++ lines) w.opens.text)))
    ∙ (append_assoc (string_bytes old.text ++ first) lines last ∙ append_assoc (string_bytes old.text) first (lines ++ last))))
