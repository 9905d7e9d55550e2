-- The two lines of each state are in the text of `outcomes`.
use Rattle.litmus_tokens.specs.declared.instructions.Instructions.{Instructions}
use Rattle.promises.proofs.Vocabulary.{◌≡◌, ◌∙◌, ℕ, Bool, false, List, [], ◌∷◌, ◌++◌, inl, inr, length, refl, sym, ap, subst, codes}
use Rattle.promises.proofs.Vocabulary.{append_assoc, Litmus, Choice, Step, Drain, ProtocolKind, Configuration}
use Rattle.std.specs.Fmt.{decimal}
use Rattle.std.specs.List.{AllByRecursion}
use Rattle.std.proofs.lemmas.List.Elements.{All-from_recursion, recursion_from_All}
use Rattle.scheduler.specs.Printed.{printed_after, printed_choices}
use Rattle.tso_report.specs.Report.{line, test_line}
use Rattle.tso_report.specs.declared.named.Named.{Named}
use Rattle.tso_report.specs.ShownNames.{names_shown}
use Rattle.search_report.specs.Outcomes.{Outcome, shown_values, outcomes_line, state_line, by_line, outcome_lines, outcomes_text, condition_lines}
use Rattle.search_report.specs.MetOutcomes.{unfinished_outcomes_line, met_line, decided_line, met_text}
use Rattle.search_report.specs.Outcomes.{is_met_in}
use Rattle.command_line.specs.Search.{Search}
use Rattle.tso_cli.specs.Revisited.{IsRevisited, AreRevisited, ShowsOutcomes}
use Rattle.tso_cli.specs.SweepHeadline.{HasPart}
use Rattle.promises.specs.Searched.{line_by, IsRunAgain, LinesAreRunAgain}

-- ---- `By`

with-some : (xs ys : List ℕ) (y : ℕ) → line_by (xs ++ y ∷ ys) ≡ codes "By " ++ line (xs ++ y ∷ ys)
with-some [] ys y = refl
with-some (x ∷ xs) ys y = refl

line-is : (choices : List Choice) → by_line choices ≡ line_by (printed_choices choices)
line-is [] = refl
line-is (Step core ∷ rest) =
    let text : (decimal core.0 ++ codes "s") ++ printed_after rest ≡ decimal core.0 ++ 115 ∷ printed_after rest =
    append_assoc (decimal core.0) (codes "s") (printed_after rest) in
    ap (λ (l : List ℕ). codes "By " ++ line l) text ∙ sym (with-some (decimal core.0) (printed_after rest) 115) ∙ ap line_by (sym text)
line-is (Drain core ∷ rest) =
    let text : (decimal core.0 ++ codes "d") ++ printed_after rest ≡ decimal core.0 ++ 100 ∷ printed_after rest =
    append_assoc (decimal core.0) (codes "d") (printed_after rest) in
    ap (λ (l : List ℕ). codes "By " ++ line l) text ∙ sym (with-some (decimal core.0) (printed_after rest) 100) ∙ ap line_by (sym text)

-- ---- both lines

abbrev both_lines : Litmus → List Named → Outcome → List ℕ
both_lines t names o = state_line t names (shown_values names o) ++ by_line o.choices

regrouped : (front state by more back : List ℕ) → front ++ ((state ++ (by ++ more)) ++ back) ≡ front ++ ((state ++ by) ++ (more ++ back))
regrouped front state by more back = simp append_assoc

one-further : (front state by more back : List ℕ) → front ++ ((state ++ (by ++ more)) ++ back) ≡ (front ++ (state ++ by)) ++ (more ++ back)
one-further front state by more back = simp append_assoc

lines-stand : (t : Litmus) (names : List Named) (front : List ℕ) (outcomes : List Outcome) (back : List ℕ)
    → AllByRecursion (λ o. HasPart (front ++ (outcome_lines t names outcomes ++ back)) (both_lines t names o)) outcomes
lines-stand t names front [] back = tt
lines-stand t names front (o ∷ rest) back =
    let state = state_line t names (shown_values names o) in
    let by = by_line o.choices in
    let more = outcome_lines t names rest in (
      (front, more ++ back, regrouped front state by more back),
      subst (λ (text : List ℕ). AllByRecursion (λ p. HasPart text (both_lines t names p)) rest)
          (sym (one-further front state by more back)) (lines-stand t names (front ++ (state ++ by)) rest back),
    )

all-stand : (t : Litmus) (names : List Named) (depth : ℕ) (outcomes : List Outcome)
    → AllByRecursion (λ o. HasPart (outcomes_text t names depth outcomes) (both_lines t names o)) outcomes
all-stand t names depth outcomes =
    let first = test_line t in
    let second = outcomes_line depth (length outcomes) in
    let last = condition_lines t.name t.condition outcomes in
    subst (λ (text : List ℕ). AllByRecursion (λ o. HasPart text (both_lines t names o)) outcomes)
    (append_assoc first second (outcome_lines t names outcomes ++ last))
    (lines-stand t names (first ++ second) outcomes last)

some-stand : (t : Litmus) (names : List Named) (limit : ℕ) (outcomes : List Outcome)
    → AllByRecursion (λ o. HasPart (met_text t names limit outcomes) (both_lines t names o)) outcomes
some-stand t names limit outcomes =
    let first = unfinished_outcomes_line limit in
    let second = met_line (length outcomes) in
    let last = decided_line t.condition (is_met_in t.condition outcomes) in
    subst (λ (text : List ℕ). AllByRecursion (λ o. HasPart text (both_lines t names o)) outcomes)
    (append_assoc first second (outcome_lines t names outcomes ++ last))
    (lines-stand t names (first ++ second) outcomes last)

shown-stand : (t : Litmus) (s : Search) (out : List ℕ) (outcomes : List Outcome) → ShowsOutcomes false t s out outcomes
    → AllByRecursion (λ o. HasPart out (both_lines t (names_shown s.show t) o)) outcomes
shown-stand t s out outcomes (inl is) =
    subst
    (λ (text : List ℕ). AllByRecursion (λ o. HasPart text (both_lines t (names_shown s.show t) o)) outcomes) (sym is)
    (all-stand t (names_shown s.show t) s.depth outcomes)
shown-stand t s out outcomes (inr is) =
    subst
    (λ (text : List ℕ). AllByRecursion (λ o. HasPart text (both_lines t (names_shown s.show t) o)) outcomes) (sym is)
    (some-stand t (names_shown s.show t) s.states outcomes)

-- ---- each is run again

module _ (kind : ProtocolKind) (c : Configuration) (set : Instructions) (json : Bool) (test : List ℕ) (t : Litmus) (names : List Named) (out : List ℕ) where
  again : (outcomes : List Outcome)
      → AllByRecursion (λ o. HasPart out (both_lines t names o)) outcomes
      → AllByRecursion (IsRevisited kind c set json test t names) outcomes
      → AllByRecursion (λ o. IsRunAgain kind c set json t names test out (printed_choices o.choices)) outcomes
  again [] stand revisited = tt
  again (o ∷ rest) stand revisited = (
    λ answer status answered.
        let report = revisited.0 answer status answered in
        let values = report.0.values_are in (
          record {
            shown = report.0.shown;
            printed = report.0.printed;
            lines = subst (λ (l : List ℕ). HasPart out (state_line t names l ++ line_by (printed_choices o.choices))) (sym values)
                (subst (λ (l : List ℕ). HasPart out (state_line t names (shown_values names o) ++ l)) (line-is o.choices) stand.0);
            stalled = report.0.stalled;
            unused = report.0.unused;
          },
          report.1,
        ),
    again rest stand.1 revisited.1,
  )

pub lines-again : (kind : ProtocolKind) (c : Configuration) (set : Instructions) (s : Search) (json : Bool)
    (test out : List ℕ)
    → AreRevisited kind c set s json false test out
    → LinesAreRunAgain kind c set s json test out
lines-again kind c set s json test out r =
    let t = r.t in
    let names = names_shown s.show t in
    record {
      t = t;
      spelled = r.spelled;
      outcomes = r.outcomes;
      text = r.printed;
      each = All-from_recursion (λ o. IsRunAgain kind c set json t names test out (printed_choices o.choices)) r.outcomes
          (again kind c set json test t names out r.outcomes (shown-stand t s out r.outcomes r.printed)
          (recursion_from_All (IsRevisited kind c set json test t names) r.outcomes r.each));
    }
