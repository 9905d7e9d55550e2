-- What is printed of a refutation tells all that it shows.
use Rattle.std.proofs.Common.{◌≡◌, ◌∙◌, ℕ, Bool, true, false, List, [], ◌∷◌, ◌++◌, refl, sym, Option, Some, None, append-nil}
use Rattle.std.specs.List.{list_all, AllByRecursion}
use Rattle.std.proofs.lemmas.Bool.{and_parts, true≢false}
use Rattle.basic_laws.specs.Types.{Quantifier, Exists, NotExists, Forall}
use Rattle.tso_terms.specs.Condition.{Condition}
use Rattle.tso_terms.specs.Litmus.{IsTest, Litmus}
use Rattle.tso_terms.specs.Names.{is_printable, is_test_name}
use Rattle.tso_report.specs.Report.{printed_quantifier, printed_truth, test_line}
use Rattle.refutation_laws.specs.declared.model.Model.{Model}
use Rattle.refutation_laws.specs.declared.model.Model.TheVariants.{Tso, Sequential}
use Rattle.search_report.specs.ReasonText.{asked_line, model_name, never_line}
use Rattle.search_report.specs.Verdict.{verdict_line, verdict_word}
use Rattle.search_report.specs.Lines.{Line, leaves_in}
use Rattle.search_report.specs.LineText.{line_text, never_lines}
use Rattle.formats.specs.Formats.{AnyWord, is_in, This, That, text, FitsFormat, Spells}
use Rattle.formats.specs.Beginnings.{End}
use Rattle.formats.proofs.Telling.{texts-tell}
use Rattle.told_reasons.specs.ReasonFormats.{asked_format, line_format, quantifier_format, reason_format, verdict_format}
use Rattle.told_reasons.specs.ShownLines.{shown_asked, shown_verdict, shown_line, shown_reason, LineFits, IsNumberOf64Bits, PrintedReasonsAreTold}
use Rattle.told_reasons.proofs.ReasonTexts.{all-mapped, each-text, line-told, line-fits}

-- ---- what fits

name-fits : (name : List ℕ) → is_test_name name ≡ true → list_all is_printable name ≡ true
name-fits [] is = absurd (true≢false (sym is))
name-fits (c ∷ cs) is = (and_parts _ _ (and_parts _ _ is).0).1

model-word : (model : Model) → is_in AnyWord (model_name model) ≡ true
model-word Tso = refl
model-word Sequential = refl

truth-word : (truth : Bool) → is_in AnyWord (printed_truth truth) ≡ true
truth-word true = refl
truth-word false = refl

verdict-is-word : (met : Bool) → is_in AnyWord (verdict_word met) ≡ true
verdict-is-word true = refl
verdict-is-word false = refl

quantifier-spelled : (q : Quantifier) → Spells quantifier_format (printed_quantifier q)
quantifier-spelled Exists = (This tt, tt, refl)
quantifier-spelled NotExists = (That (This tt), tt, refl)
quantifier-spelled Forall = (That (That tt), tt, refl)

asked-fits : (c : Option Condition) → FitsFormat asked_format (shown_asked c)
asked-fits None = tt
asked-fits (Some c) = (quantifier-spelled c.quantifier, truth-word _)

verdict-fits : (c : Option Condition) (allowed : Bool) → FitsFormat verdict_format (shown_verdict c allowed)
verdict-fits None allowed = tt
verdict-fits (Some c) allowed = verdict-is-word _

reason-fits : (model : Model) (t : Litmus) (lines : List Line)
    → IsTest t
    → AllByRecursion (LineFits t) lines
    → IsNumberOf64Bits (leaves_in lines)
    → FitsFormat reason_format (shown_reason model t lines)
reason-fits model t lines test fits few = (
  name-fits t.name test.name_spelled,
  (
    (model-word model, few),
    (
      asked-fits t.condition,
      (all-mapped (LineFits t) (FitsFormat line_format) (shown_line t) (line-fits t test) lines fits, verdict-fits t.condition false),
    ),
  ),
)

-- ---- its text

asked-told : (c : Option Condition) → text asked_format (shown_asked c) ≡ asked_line c
asked-told None = refl
asked-told (Some c) = refl

verdict-told : (c : Option Condition) (allowed : Bool) → text verdict_format (shown_verdict c allowed) ≡ verdict_line c allowed
verdict-told None allowed = refl
verdict-told (Some c) allowed = refl

reason-told : (model : Model) (t : Litmus) (lines : List Line) → text reason_format (shown_reason model t lines) ≡ never_lines model t lines
reason-told model t lines =
    λ i. test_line t ++ (never_line model (leaves_in lines) ++ (asked-told t.condition i
    ++ (each-text (text line_format) (shown_line t) (line_text t) (line-told t) lines i ++ verdict-told t.condition false i)))

-- ---- what it tells

pub reasons-told : PrintedReasonsAreTold
reasons-told model other t u xs ys test test' fits fits' few few' e =
    let one = append-nil (text reason_format (shown_reason model t xs)) ∙ reason-told model t xs in
    let two = append-nil (text reason_format (shown_reason other u ys)) ∙ reason-told other u ys in
    (texts-tell reason_format ((End ∷ []) ∷ []) (shown_reason model t xs) (shown_reason other u ys) [] [] refl
    (reason-fits model t xs test fits few) (reason-fits other u ys test' fits' few') refl refl (one ∙ (e ∙ sym two))).0
