-- From what an answer is to what it means.
use Rattle.tso_cli.proofs.Vocabulary.{◌≡◌, ◌∙◌, ℕ, Bool, List, Result, Ok, Err, IfOk, OnOk, string_bytes, refl, ap, subst, sym, Status}
use Rattle.tso_cli.proofs.Vocabulary.{Litmus, ProtocolKind, Configuration, Run, Counts, Ending, Ended, Unfinished, IsEndingOf, HasCounts}
use Rattle.tso_cli.proofs.Vocabulary.{shown_of, run_text}
use Rattle.tso_cli.specs.RunTexts.{report_in}
use Rattle.tso_cli.specs.inner.Answers.{Says, text_of_ending}
use Rattle.tso_cli.specs.declared.answer.Answer.{Answer}

pub same-answer : (P : List ℕ → Status → Type 0) (out other : List ℕ) (how status : Status) → out ≡ other → how ≡ status → P other status → P out how
same-answer P out other how status text is p = subst (λ s. P out s) (sym is) (subst (λ o. P o status) (sym text) p)

pub answer-is : {E : Type 0} (P : List ℕ → Status → Type 0) (r : Result Answer E) (out : List ℕ) (status : Status)
    → IfOk r (λ a. Says a out status) → P out status → IfOk r (λ a. P (string_bytes a.text) a.status)
answer-is P (Ok a) out status says p = same-answer P (string_bytes a.text) out a.status status says.text says.status p
answer-is P (Err e) out status says p = tt

pub answer-means : {E : Type 0} (P Q : List ℕ → Status → Type 0) (r : Result Answer E) → ((out : List ℕ) (status : Status) → P out status → Q out status)
    → IfOk r (λ a. P (string_bytes a.text) a.status) → IfOk r (λ a. Q (string_bytes a.text) a.status)
answer-means P Q (Ok a) f p = f _ _ p
answer-means P Q (Err e) f p = tt

pub refusal-is : {E : Type 0} (P : List ℕ → Status → Type 0) (C : Type 0) (r : Result Answer E) (out : List ℕ) (status : Status)
    → IfOk r (λ a. Says a out status) → OnOk r C → (C → P out status) → IfOk r (λ a. P (string_bytes a.text) a.status)
refusal-is {E} P C (Ok a) out status says c p = answer-is {E = E} P (Ok a) out status says (p c)
refusal-is {E} P C (Err e) out status says c p = tt

-- what is written of how a run left its test is what is written of the run
pub left-is : (json : Bool) (t : Litmus) (kind : ProtocolKind) (c : Configuration) (counts : List Counts) (r : Run) (e : Ending)
    → IsEndingOf t r e → HasCounts counts e → text_of_ending json t kind c e ≡ run_text t kind c json counts r
left-is json t kind c counts r (Ended run) is counted =
    ap (report_in json t kind c) (is.1 ∙ ap (λ (cs : List Counts). shown_of t cs r) counted) ∙ sym (rw is.0 refl)
left-is json t kind c counts r (Unfinished used stalled) is counted = rw (is.0, is.1, is.2) refl
