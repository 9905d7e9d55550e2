use Rattle.search_report.proofs.Vocabulary.{◌≡◌, ◌∙◌, ◌++◌, ℕ, List, Option, ap, subst, codes, string_bytes, map}
use Rattle.std.specs.Result.{OnOk}
use Rattle.std.specs.Option.{option_map}
use Rattle.search_report.specs.ShownText.{closing_text, facts_text, separated}
use Rattle.search_report.specs.LineText.{closed_text, question_text}
use Rattle.search_report.specs.inner.LineViews.{shown_facts_of}
use Rattle.search_report.specs.inner.ShownViews.{shown_closing_of}
use Rattle.search_report.specs.declared.shown.Closing.{Closing}
use Rattle.search_report.proofs.Separating.{separated-map, case-written, case-closed}
use Rattle.search_report.proofs.line_text.AnsweredWritten.write.Goals as goal

pub returns-in-None : goal.returns-in-None
returns-in-None c =
    let t = c.args.test.now in
    let a = c.args.self.now in
    c.in_ok-write_separated.ensures
    ∙ (ap (λ bytes. string_bytes c.write_question.new.text ++ bytes) (ap (separated (codes " or ") (λ f. facts_text t (shown_facts_of f))) c.deref.ensures.value
    ∙ separated-map (codes " or ") (facts_text t) shown_facts_of a.answers.items)
    ∙ (ap (λ bytes. bytes ++ separated (codes " or ") (facts_text t) (map shown_facts_of a.answers.items)) c.in_ok-write_question.ensures
    ∙ case-written (string_bytes c.args.text.now) (question_text a.question.now) (separated (codes " or ") (facts_text t) (map shown_facts_of a.answers.items))
    (closed_text t (option_map shown_closing_of a.closing)) (ap (λ (x : Option Closing). closed_text t (option_map shown_closing_of x)) c.in-None.is)))

pub returns-in_ok-write_characters-in-Some : goal.returns-in_ok-write_characters-in-Some
returns-in_ok-write_characters-in-Some c =
    let t = c.args.test.now in
    let a = c.args.self.now in
    let answers = separated (codes " or ") (facts_text t) (map shown_facts_of a.answers.items) in
    let said : string_bytes c.write_separated.new.text ≡ (string_bytes c.args.text.now ++ question_text a.question.now) ++ answers =
    c.in_ok-write_separated.ensures
    ∙ (ap (λ bytes. string_bytes c.write_question.new.text ++ bytes) (ap (separated (codes " or ") (λ f. facts_text t (shown_facts_of f))) c.deref.ensures.value
    ∙ separated-map (codes " or ") (facts_text t) shown_facts_of a.answers.items)
    ∙ ap (λ bytes. bytes ++ answers) c.in_ok-write_question.ensures) in
    let closing = closing_text t (shown_closing_of c.in-Some.closing) in
    let before : string_bytes c.write_characters.new.text ≡ ((string_bytes c.args.text.now ++ question_text a.question.now) ++ answers) ++ codes ": " =
    c.in_ok-write_characters-in-Some.ensures ∙ ap (λ bytes. bytes ++ codes ": ") said in
    subst (λ (bytes : List ℕ). OnOk c.write.result (string_bytes c.write.new.text ≡ bytes))
    (ap (λ bytes. bytes ++ closing) before
    ∙ case-closed (string_bytes c.args.text.now) (question_text a.question.now) answers
    (closed_text t (option_map shown_closing_of a.closing)) (codes ": ") closing
    (ap (λ (x : Option Closing). closed_text t (option_map shown_closing_of x)) c.in-Some.is))
    c.write.ensures
