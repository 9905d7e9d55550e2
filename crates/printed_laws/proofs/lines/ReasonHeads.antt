-- The head of a printed refutation tells the test, the model and how many lines close a case.
use Rattle.printed_laws.proofs.Vocabulary.{◌≡◌, ◌<◌, ◌^◌, ℕ, false, List, [], ◌∷◌, ◌++◌, get_or, refl, sym, ap, ◌∙◌, ◌==◌, if◌then◌else◌}
use Rattle.printed_laws.proofs.Vocabulary.{decimal, flat_map, append_cancel_left, append_assoc, codes, line, Litmus, is_printable}
use Rattle.printed_laws.proofs.Vocabulary.{verdict_line, Model, model_name, asked_line, never_line, Tso, Sequential}
use Rattle.search_report.specs.LineText.{line_text}
use Rattle.search_report.specs.Lines.{Line, leaves_in}
use Rattle.printed_laws.specs.Reasons.{ReasonsTellTheirTests}
use Rattle.printed_laws.proofs.texts.Cutting.{run-cut, number-cut}
use Rattle.printed_laws.proofs.steps.TraceWords.{read-cut}
use Rattle.printed_laws.proofs.reports.Heads.{printable-name}

abbrev read_model : List ℕ → Model
read_model text = if get_or text 0 0 == 116 then Tso else Sequential

model-again : (model : Model) (after : List ℕ) → read_model (model_name model ++ after) ≡ model
model-again Tso after = refl
model-again Sequential after = refl

never-flat : (model leaves rest : List ℕ)
    → (codes "Never " ++ (model ++ (codes " leaves=" ++ line leaves))) ++ rest
    ≡ codes "Never " ++ (model ++ (codes " leaves=" ++ (leaves ++ 10 ∷ rest)))
never-flat model leaves rest = simp append_assoc

never-cut : (model other_model : Model) (m n : ℕ) (rest other : List ℕ)
    → never_line model m ++ rest ≡ never_line other_model n ++ other
    → (model ≡ other_model) × (m < 2 ^ 64 → n < 2 ^ 64 → m ≡ n)
never-cut model other_model m n rest other e =
    let x = decimal m ++ 10 ∷ rest in
    let y = decimal n ++ 10 ∷ other in
    let flat = sym (never-flat (model_name model) (decimal m) rest) ∙ (e ∙ never-flat (model_name other_model) (decimal n) other) in
    let name = read-cut model_name read_model model other_model (codes " leaves=" ++ x) (codes " leaves=" ++ y) model-again
    (append_cancel_left (codes "Never ") (model_name model ++ (codes " leaves=" ++ x)) (model_name other_model ++ (codes " leaves=" ++ y)) flat) in
    (name.0, λ p q. (number-cut m n (10 ∷ rest) (10 ∷ other) p q refl refl (append_cancel_left (codes " leaves=") x y name.1)).0)

test-flat : (name rest : List ℕ) → (codes "Test " ++ line name) ++ rest ≡ codes "Test " ++ (name ++ 10 ∷ rest)
test-flat name rest = simp append_assoc

pub heads-tell : ReasonsTellTheirTests
heads-tell model other t u xs ys test test' e =
    let after = λ (m : Model) (l : Litmus) (lines : List Line).
    never_line m (leaves_in lines)
    ++ (asked_line l.condition ++ (flat_map (line_text l) lines ++ verdict_line l.condition false)) in
    let flat = sym (test-flat t.name (after model t xs)) ∙ (e ∙ test-flat u.name (after other u ys)) in
    let begun = append_cancel_left (codes "Test ") (t.name ++ 10 ∷ after model t xs) (u.name ++ 10 ∷ after other u ys) flat in
    let name =
    run-cut is_printable t.name u.name (10 ∷ after model t xs) (10 ∷ after other u ys)
    (printable-name t.name test.name_spelled) (printable-name u.name test'.name_spelled) refl refl begun in
    let head = never-cut model other (leaves_in xs) (leaves_in ys) _ _ (append_cancel_left (10 ∷ []) (after model t xs) (after other u ys) name.1) in
    record {
      test = name.0;
      model_named = head.0;
      leaves = head.1;
    }
