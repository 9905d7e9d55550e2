-- There is one answer to an input.
use Rattle.tso_cli.proofs.Vocabulary.{◌≡◌, ◌≤◌, ◌<◌, ◌^◌, ℕ, Bool, List, length, Some, refl, sym, ◌∙◌, ap, subst, arith, Litmus, IsTest}
use Rattle.tso_cli.proofs.Vocabulary.{Entry, SpellsTest, IsDecidedAsChoices, TooMany, ProtocolKind, Configuration, parts_of, run_under}
use Rattle.tso_cli.proofs.Vocabulary.{counts_under, test_refusal, input_refusal, Refused, choices_refusal, order_refusal, invalid_line}
use Rattle.tso_cli.proofs.Vocabulary.{IsAnswerTo, IsInputAnswer, IsAnswer, too_large, answered, run_text, run_status, IsRunAnswer}
use Rattle.tso_cli.proofs.Vocabulary.{IsJudgement, IsCheckAnswer, ran, valid, traced_in, IsTooLong, IsTraceAnswer, too_long, traced}
use Rattle.tso_cli.proofs.Vocabulary.{IsWitness, IsWitnessAnswer, reached, too_small, Settings, instructions_of, Status, GivesOneAnswer}
use Rattle.tso_cli.proofs.Vocabulary.{AreReadOneWay}
use Rattle.litmus_reader.specs.Spelling.{IsRefused as IsRefusedTest}
use Rattle.tso_cli.specs.Answers.{refused}
use Rattle.tso_cli.specs.CommandAnswers.{refused, judged, invalid}
use Rattle.tso_cli.specs.Trace.{refused}
use Rattle.tso_cli.specs.Witness.{invalid, refused, judged}
use Rattle.command_line.specs.declared.settings.Settings.TheVariants as settings
use Rattle.tso_cli.proofs.CheckLemmas.{IsReal, IsOne}
use Rattle.tso_cli.proofs.CountsLemmas.{one-counts-answer}
use Rattle.tso_cli.proofs.DividingLemmas.{rest_within}
use Rattle.tso_cli.proofs.TraceLengths.{one-word, never-both}

abbrev pub Same : List ℕ → List ℕ → Status → Status → Type 0
Same out other status again = (out ≡ other) × (status ≡ again)

one_run_answer : (t : Litmus) (kind : ProtocolKind) (c : Configuration) (json : Bool) (text out other : List ℕ)
    (status again : Status)
    → IsDecidedAsChoices (length t.programs) text
    → IsRunAnswer t kind c json text out status → IsRunAnswer t kind c json text other again → Same out other status again
one_run_answer t kind c json text _ _ _ _ law (refused f h) (refused g k) = (ap choices_refusal (law.one_refusal f g h k), refl)
one_run_answer t kind c json text _ _ _ _ law (refused f h) (ran choices spelled fit) = absurd (law.never_both choices f spelled h)
one_run_answer t kind c json text _ _ _ _ law (ran choices spelled fit) (refused f h) = absurd (law.never_both choices f spelled h)
one_run_answer t kind c json text _ _ _ _ law (ran choices spelled fit) (ran others again too) =
    let same = law.one_list choices others spelled again in
    (ap (λ cs. run_text t kind c json (counts_under t kind c cs) (run_under t kind c cs)) same, ap (λ cs. run_status (run_under t kind c cs)) same)

one_trace_answer : (t : Litmus) (kind : ProtocolKind) (c : Configuration) (json : Bool) (text out other : List ℕ)
    (status again : Status)
    → 0 < length t.programs
    → IsDecidedAsChoices (length t.programs) text
    → IsTraceAnswer t kind c json text out status
    → IsTraceAnswer t kind c json text other again
    → Same out other status again
one_trace_answer t kind c json text _ _ _ _ some law (refused f h) (refused g k) = (ap choices_refusal (law.one_refusal f g h k), refl)
one_trace_answer t kind c json text _ _ _ _ some law (refused f h) (too_long choices word spelled long is) = absurd (law.never_both choices f spelled h)
one_trace_answer t kind c json text _ _ _ _ some law (refused f h) (traced choices spelled fit short) = absurd (law.never_both choices f spelled h)
one_trace_answer t kind c json text _ _ _ _ some law (too_long choices word spelled long is) (refused f h) = absurd (law.never_both choices f spelled h)
one_trace_answer t kind c json text _ _ _ _ some law (too_long choices word spelled long is) (too_long others other again longer too) =
    (ap (λ (n : ℕ). choices_refusal (TooMany n)) (one-word (length t.programs) text word other some is too), refl)
one_trace_answer t kind c json text _ _ _ _ some law (too_long choices word spelled long is) (traced others again fit short) =
    absurd (never-both json (run_under t kind c others) short
    (subst (λ cs. IsTooLong json (run_under t kind c cs)) (law.one_list choices others spelled again) long))
one_trace_answer t kind c json text _ _ _ _ some law (traced choices spelled fit short) (refused f h) = absurd (law.never_both choices f spelled h)
one_trace_answer t kind c json text _ _ _ _ some law (traced choices spelled fit short) (too_long others word again long is) =
    absurd (never-both json (run_under t kind c choices) short
    (subst (λ cs. IsTooLong json (run_under t kind c cs)) (law.one_list others choices again spelled) long))
one_trace_answer t kind c json text _ _ _ _ some law (traced choices spelled fit short) (traced others again too less) =
    let same = law.one_list choices others spelled again in
    (ap (λ cs. traced_in json t kind c cs) same, ap (λ cs. run_status (run_under t kind c cs)) same)

one_judgement : (t : Litmus) (order : List Entry) (out other : List ℕ) (status again : Status) → IsReal → IsOne
    → IsJudgement t order out status → IsJudgement t order other again → Same out other status again
one_judgement t order _ _ _ _ real one (valid is) (valid too) = (refl, refl)
one_judgement t order _ _ _ _ real one (valid is) (invalid b first) = absurd (real t order b first is)
one_judgement t order _ _ _ _ real one (invalid b first) (valid is) = absurd (real t order b first is)
one_judgement t order _ _ _ _ real one (invalid b first) (invalid c other) = (ap (invalid_line t) (one t order b c first other), refl)

one_check_answer : (t : Litmus) (text out other : List ℕ) (status again : Status) → AreReadOneWay → IsTest t → length text < 2 ^ 64
    → IsCheckAnswer t text out status → IsCheckAnswer t text other again → Same out other status again
one_check_answer t text _ _ _ _ law test short (refused f h) (refused g k) = (ap order_refusal (law.one_fault t text f g test h k), refl)
one_check_answer t text _ _ _ _ law test short (refused f h) (judged order out status spelled is) = absurd (law.never_both t text order f test short spelled h)
one_check_answer t text _ _ _ _ law test short (judged order out status spelled is) (refused f h) = absurd (law.never_both t text order f test short spelled h)
one_check_answer t text _ _ _ _ law test short (judged order out status spelled is) (judged order2 out2 status2 spelled2 is2) =
    one_judgement t order2 out out2 status status2 law.real law.one
    (subst (λ o. IsJudgement t o out status) (law.once t text order order2 test short spelled spelled2) is) is2

one_witness : (t : Litmus) (depth : ℕ) (order : List Entry) (out other : List ℕ) (status again : Status) → IsReal → IsOne
    → IsWitness t depth order out status → IsWitness t depth order other again → Same out other status again
one_witness t depth order _ _ _ _ real one (reached is enough) (reached too also) = (refl, refl)
one_witness t depth order _ _ _ _ real one (reached is enough) (too_small too less) = absurd (omega arith)
one_witness t depth order _ _ _ _ real one (reached is enough) (invalid b first) = absurd (real t order b first is)
one_witness t depth order _ _ _ _ real one (too_small is less) (reached too enough) = absurd (omega arith)
one_witness t depth order _ _ _ _ real one (too_small is less) (too_small too also) = (refl, refl)
one_witness t depth order _ _ _ _ real one (too_small is less) (invalid b first) = absurd (real t order b first is)
one_witness t depth order _ _ _ _ real one (invalid b first) (reached is enough) = absurd (real t order b first is)
one_witness t depth order _ _ _ _ real one (invalid b first) (too_small is less) = absurd (real t order b first is)
one_witness t depth order _ _ _ _ real one (invalid b first) (invalid c other) = (ap (invalid_line t) (one t order b c first other), refl)

one_witness_answer : (t : Litmus) (depth : ℕ) (text out other : List ℕ) (status again : Status) → AreReadOneWay → IsTest t → length text < 2 ^ 64
    → IsWitnessAnswer t depth text out status → IsWitnessAnswer t depth text other again → Same out other status again
one_witness_answer t depth text _ _ _ _ law test short (refused f h) (refused g k) = (ap order_refusal (law.one_fault t text f g test h k), refl)
one_witness_answer t depth text _ _ _ _ law test short (refused f h) (judged order out status spelled is) =
    absurd (law.never_both t text order f test short spelled h)
one_witness_answer t depth text _ _ _ _ law test short (judged order out status spelled is) (refused f h) =
    absurd (law.never_both t text order f test short spelled h)
one_witness_answer t depth text _ _ _ _ law test short (judged order out status spelled is) (judged order2 out2 status2 spelled2 is2) =
    one_witness t depth order2 out out2 status status2 law.real law.one
    (subst (λ o. IsWitness t depth o out status) (law.once t text order order2 test short spelled spelled2) is) is2

one_answer_to : (s : Settings) (t : Litmus) (text out other : List ℕ) (status again : Status)
    → AreReadOneWay
    → GivesOneAnswer s
    → IsTest t
    → length text < 2 ^ 64
    → IsAnswerTo s t text out status → IsAnswerTo s t text other again → Same out other status again
one_answer_to (settings.Run kind c set json) t text out other status again law one test short is too =
    one_run_answer t kind c json text out other status again (law.decided (length t.programs) text test.some_core) is too
one_answer_to (settings.Trace kind c set json) t text out other status again law one test short is too =
    one_trace_answer t kind c json text out other status again test.some_core (law.decided (length t.programs) text test.some_core) is too
one_answer_to (settings.Sweep kind c set plan) t text out other status again law one test short is too =
    (is.text ∙ sym too.text, is.status_is ∙ sym too.status_is)
one_answer_to (settings.Counts kind c set plan json) t text out other status again law one test short is too =
    one-counts-answer t kind c plan json text out other status again (law.decided (length t.programs) text test.some_core) is too
one_answer_to (settings.Outcomes search set json assert) t text out other status again law one test short is too = absurd one
one_answer_to (settings.Why plan set json assert) t text out other status again law one test short is too = absurd one
one_answer_to (settings.Check set) t text out other status again law one test short is too =
    one_check_answer t text out other status again law test short is too
one_answer_to (settings.Witness depth set) t text out other status again law one test short is too =
    one_witness_answer t depth text out other status again law test short is too
one_answer_to (settings.Tables kind) t text out other status again law one test short is too = (is.text ∙ sym too.text, is.status_is ∙ sym too.status_is)

pub short_rest : (input : List ℕ) → length input ≤ 1048576 → length (parts_of input).rest < 2 ^ 64
short_rest input small = let within = rest_within input in omega arith

-- of whole inputs: two commands answer alike, where they do so of each test and of what is refused
pub inputs-alike : (s other : Settings) (Alike : List ℕ → List ℕ → Status → Status → Type 0) (input out again : List ℕ)
    (status too : Status)
    → AreReadOneWay
    → instructions_of other ≡ instructions_of s
    → ((text : List ℕ) → Alike text text Refused Refused)
    → ((t : Litmus) (text out again : List ℕ) (status too : Status)
    → IsTest t
    → length text < 2 ^ 64
    → IsAnswerTo s t text out status
    → IsAnswerTo other t text again too
    → Alike out again status too)
    → IsInputAnswer s input out status → IsInputAnswer other input again too → Alike out again status too
inputs-alike s other Alike input _ _ _ _ law together same step (too_large l) (too_large m) = same input_refusal
inputs-alike s other Alike input _ _ _ _ law together same step (too_large l) (refused f small h) = absurd (omega arith)
inputs-alike s other Alike input _ _ _ _ law together same step (too_large l) (answered t out status small spelled is) = absurd (omega arith)
inputs-alike s other Alike input _ _ _ _ law together same step (refused f small h) (too_large m) = absurd (omega arith)
inputs-alike s other Alike input _ _ _ _ law together same step (refused f small h) (refused g less k) =
    subst (λ (text : List ℕ). Alike (test_refusal f) text Refused Refused)
    (ap test_refusal
    (law.one_refusal (instructions_of s) (parts_of input).test f g h (subst (λ set. IsRefusedTest set (parts_of input).test g) together k)))
    (same (test_refusal f))
inputs-alike s other Alike input _ _ _ _ law together same step (refused f small h) (answered t out status less spelled is) =
    absurd (law.refused_or_not (instructions_of s) (parts_of input).test t f (subst (λ set. SpellsTest set (parts_of input).test t) together spelled) h)
inputs-alike s other Alike input _ _ _ _ law together same step (answered t out status small spelled is) (too_large m) = absurd (omega arith)
inputs-alike s other Alike input _ _ _ _ law together same step (answered t out status small spelled is) (refused f less h) =
    absurd (law.refused_or_not (instructions_of s) (parts_of input).test t f spelled (subst (λ set. IsRefusedTest set (parts_of input).test f) together h))
inputs-alike s other Alike input _ _ _ _ law together same step (answered t out status small spelled is) (answered t2 out2 status2 less spelled2 is2) =
    let too : SpellsTest (instructions_of s) (parts_of input).test t2 = subst (λ set. SpellsTest set (parts_of input).test t2) together spelled2 in
    step t2 (parts_of input).rest out out2 status status2 (law.test (instructions_of s) (parts_of input).test t2 too) (short_rest input small)
    (subst (λ t. IsAnswerTo s t (parts_of input).rest out status) (law.one_test (instructions_of s) (parts_of input).test t t2 spelled too) is) is2

pub one_answer : (s : Settings) (input out other : List ℕ) (status again : Status) → AreReadOneWay → GivesOneAnswer s
    → IsAnswer s (Some input) out status → IsAnswer s (Some input) other again → Same out other status again
one_answer (settings.Tables kind) input out other status again law one is too = (is.text ∙ sym too.text, is.status_is ∙ sym too.status_is)
one_answer s input out other status again law one is too =
    inputs-alike s s Same input out other status again law refl (λ text. (refl, refl))
    (λ t text out other status again test short is too.
    one_answer_to s t text out other status again law one test short is too)
    is too
