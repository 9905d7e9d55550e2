-- What `trace` prints tells the run and its steps.
use Rattle.printed_laws.proofs.Vocabulary.{◌≡◌, ℕ, ◌^◌, ◌<◌, Bool, true, false, List, [], ◌∷◌, ◌++◌, refl, sym, ap, ◌∙◌, ◌≤◌, arith, ◌+◌}
use Rattle.printed_laws.proofs.Vocabulary.{length, cond, append_cancel_left, max_depth, json_tokens, Data, Members, put, outline}
use Rattle.printed_laws.proofs.Vocabulary.{compact_text, members_outline, print-outline, codes, IsNumber-decimal, head, body}
use Rattle.printed_laws.proofs.Vocabulary.{unfinished_run_value, run_value, run_members, unfinished_members, json_report, json_unfinished}
use Rattle.printed_laws.proofs.Vocabulary.{ReportsTellTheirMachines, Litmus, IsTest, ProtocolKind, Configuration}
use Rattle.printed_laws.proofs.Vocabulary.{IsConfigurationWithinLimits, ShownRun, RunFitsTest, shown_under, EndedRunsFit, ChoicesAreCounted}
use Rattle.printed_laws.proofs.Vocabulary.{print, escape_byte, Run, CoresExist, report_in, unfinished_in, run_under, counts_under}
use Rattle.printed_laws.proofs.Vocabulary.{PrintedRunsAreTold, Choice, trace_text, told_by_line, told_by_object, TraceValuesTellTheirSteps}
use Rattle.printed_laws.proofs.Vocabulary.{PrintedTracesAreTold, PrintedTracesNameTheSame, trace_under, programs_value, proposition_value}
use Rattle.printed_laws.proofs.Vocabulary.{trace_json}
use Rattle.json.specs.Json as json
use Rattle.trace_report.specs.TracedRun.{with_trace, ended_value, unended_value, json_ended, json_unended}
use Rattle.tso_cli.specs.Lines.{unfinished_run_line}
use Rattle.tso_cli.specs.Trace.{ending_text}
use Rattle.printed_laws.proofs.reports.Heads.{head-cut}
use Rattle.printed_laws.proofs.texts.Cutting.{unlike}
use Rattle.printed_laws.proofs.json.JsonReading.{ReadsBack, MembersReadBack, deeper, put-back, line-told, text-told}
use Rattle.printed_laws.proofs.reports.JsonNumbers.{run-back}
use Rattle.printed_laws.proofs.json.JsonTexts.{value_at}
use Rattle.printed_laws.proofs.steps.StepsFit.{traces-fit}
use Rattle.printed_laws.proofs.steps.TraceLines.{lines-tell}
use Rattle.printed_laws.proofs.steps.TraceNumbers.{trace-back, programs-back, proposition-back}
use Rattle.printed_laws.proofs.steps.TraceRuns.{same-steps, choices-told, trace-told}

-- ---- lines

-- what is behind the trace, of a run that ended or didn't
abbrev Ending : Bool → Litmus → ShownRun → Run → List ℕ
Ending b t s r = cond b (body t s) (unfinished_run_line r.used r.stalled)

abbrev Report : Bool → Bool → Litmus → ProtocolKind → Configuration → ShownRun → Run → List ℕ
Report json b t kind c s r = cond b (report_in json t kind c s) (unfinished_in json r.used r.stalled)

ending-told : (t : Litmus) (kind : ProtocolKind) (c : Configuration) (s u : ShownRun) (r o : Run) (b d : Bool)
    → Ending b t s r ≡ Ending d t u o
    → Report false b t kind c s r ≡ Report false d t kind c u o
ending-told t kind c s u r o true true same = ap (λ (l : List ℕ). head t kind c ++ l) same
ending-told t kind c s u r o false false same = same
ending-told t kind c s u r o b d same = unlike 0 (Ending b t s r) (Ending d t u o) refl same

pub lines-told : PrintedRunsAreTold → PrintedTracesAreTold false
lines-told runs t kind c choices other test within p q same =
    let r = run_under t kind c choices in
    let o = run_under t kind c other in
    let after = ending_text t (counts_under t kind c choices) r in
    let after' = ending_text t (counts_under t kind c other) o in
    let cut =
    lines-tell t c.shape.words (trace_under t kind c choices) (trace_under t kind c other) after after' test
    (traces-fit t kind c choices test within p.exist) (traces-fit t kind c other test within q.exist)
    (append_cancel_left (head t kind c)
    (trace_text t c.shape.words (trace_under t kind c choices) ++ after)
    (trace_text t c.shape.words (trace_under t kind c other) ++ after') same) in
    record {
      run = runs t kind c false choices other test within p.few q.few p.answers q.answers
          (ending-told t kind c (shown_under t kind c choices) (shown_under t kind c other) r o r.ended o.ended cut.1);
      steps = same-steps t kind c choices other (choices-told told_by_line (λ s. refl) (trace_under t kind c choices) (trace_under t kind c other) cut.0);
    }

pub lines-named : PrintedTracesNameTheSame false
lines-named t u kind other_kind c d choices other test test' within within' p q ended same =
    let rest = λ (t : Litmus) (kind : ProtocolKind) (c : Configuration) (choices : List Choice).
    trace_text t c.shape.words (trace_under t kind c choices) ++ ending_text t (counts_under t kind c choices) (run_under t kind c choices) in
    (head-cut t u kind other_kind c d (rest t kind c choices) (rest u other_kind d other) test test' within within' same).0

-- ---- JSON

module _ (t : Litmus) (kind : ProtocolKind) (c : Configuration) (test : IsTest t) where
  members-back : (choices : List Choice) (ms : Members) → CoresExist (length t.programs) choices → MembersReadBack 127 (members_outline ms)
      → MembersReadBack 127 (members_outline (with_trace t kind c choices ms))
  members-back choices ms exist all =
      let traced : Members = put (codes "trace") (trace_json t kind c choices) ms in
      let asked : Members = put (codes "proposition") (proposition_value t) traced in
      let trace = deeper 10 127 (outline (trace_json t kind c choices)) (omega arith) (trace-back t kind c choices test exist) in
      let proposition = deeper 0 127 (outline (proposition_value t)) (omega arith) (proposition-back t) in
      let programs = deeper 2 127 (outline (programs_value t)) (omega arith) (programs-back t) in
      put-back 127 (codes "programs") (programs_value t) asked programs
      (put-back 127 (codes "proposition") (proposition_value t) traced proposition (put-back 127 (codes "trace") (trace_json t kind c choices) ms trace all))

  ended-back : (choices : List Choice) (s : ShownRun)
      → IsConfigurationWithinLimits c
      → CoresExist (length t.programs) choices
      → RunFitsTest t s
      → ReadsBack max_depth (outline (ended_value t kind c choices s))
  ended-back choices s within exist fits = members-back choices (run_members t kind c s) exist (run-back t kind c s within fits.small)

  unended-back : (choices : List Choice) (used stalled : ℕ) → CoresExist (length t.programs) choices → used < 2 ^ 64 → stalled < 2 ^ 64
      → ReadsBack max_depth (outline (unended_value t kind c choices used stalled))
  unended-back choices used stalled exist small small' =
      members-back choices (unfinished_members used stalled) exist (
        (
          IsNumber-decimal stalled small',
          (IsNumber-decimal used small, tt),
        ),
        tt,
      )

-- the members of a run among those of its trace
abbrev run_in : json.Json → json.Json
run_in j =
    json.object (json.member (codes "cache") (value_at 0 j)
    (json.member (codes "choices") (value_at 1 j)
    (json.member (codes "condition") (value_at 2 j)
    (json.member (codes "machine") (value_at 3 j)
    (json.member (codes "memory") (value_at 4 j)
    (json.member (codes "order") (value_at 5 j)
    (json.member (codes "registers") (value_at 8 j)
    (json.member (codes "test") (value_at 9 j) json.no_members))))))))

abbrev unfinished_in_object : json.Json → json.Json
unfinished_in_object j = json.object (json.member (codes "unfinished") (value_at 3 j) json.no_members)

-- values that are alike have the same text
same-text : (d e : Data) → outline d ≡ outline e → compact_text d ++ 10 ∷ [] ≡ compact_text e ++ 10 ∷ []
same-text d e same = ap (λ (l : List ℕ). l ++ 10 ∷ []) (sym (print-outline d) ∙ (ap (λ (j : json.Json). print (json_tokens j)) same ∙ print-outline e))

ended-told : (t u : Litmus) (kind other_kind : ProtocolKind) (c d : Configuration) (xs ys : List Choice)
    (s o : ShownRun)
    → IsTest t
    → IsTest u
    → IsConfigurationWithinLimits c
    → IsConfigurationWithinLimits d
    → CoresExist (length t.programs) xs
    → CoresExist (length u.programs) ys
    → RunFitsTest t s
    → RunFitsTest u o
    → json_ended t kind c xs s ≡ json_ended u other_kind d ys o
    → (json_report t kind c s ≡ json_report u other_kind d o) × (outline (trace_json t kind c xs) ≡ outline (trace_json u other_kind d ys))
ended-told t u kind other_kind c d xs ys s o test test' within within' exist exist' fits fits' e =
    let a = ended_value t kind c xs s in
    let b = ended_value u other_kind d ys o in
    let same = line-told a b (ended-back t kind c test xs s within exist fits) (ended-back u other_kind d test' ys o within' exist' fits') e in
    (same-text (run_value t kind c s) (run_value u other_kind d o) (ap run_in same), ap (value_at 10) same)

unended-told : (t : Litmus) (kind : ProtocolKind) (c : Configuration) (xs ys : List Choice) (r o : Run)
    → IsTest t
    → CoresExist (length t.programs) xs
    → CoresExist (length t.programs) ys
    → r.used < 2 ^ 64
    → r.stalled < 2 ^ 64
    → o.used < 2 ^ 64
    → o.stalled < 2 ^ 64
    → json_unended t kind c xs r.used r.stalled ≡ json_unended t kind c ys o.used o.stalled
    → (json_unfinished r.used r.stalled ≡ json_unfinished o.used o.stalled) × (outline (trace_json t kind c xs) ≡ outline (trace_json t kind c ys))
unended-told t kind c xs ys r o test exist exist' used stalled used' stalled' e =
    let a = unended_value t kind c xs r.used r.stalled in
    let b = unended_value t kind c ys o.used o.stalled in
    let same =
    line-told a b (unended-back t kind c test xs r.used r.stalled exist used stalled)
    (unended-back t kind c test ys o.used o.stalled exist' used' stalled') e in
    (same-text (unfinished_run_value r.used r.stalled) (unfinished_run_value o.used o.stalled) (ap unfinished_in_object same), ap (value_at 2) same)

-- the first key of a run that ended is `cache`, and of one that didn't `programs`
apart : (t : Litmus) (kind : ProtocolKind) (c : Configuration) (xs ys : List Choice) (s : ShownRun) (used stalled : ℕ)
    → json_ended t kind c xs s ≡ json_unended t kind c ys used stalled
    → ⊥
unfolding escape_byte
apart t kind c xs ys s used stalled same = unlike 2 (json_ended t kind c xs s) (json_unended t kind c ys used stalled) refl same

-- a run of so many choices: what is shown of it fits the test, where it ended, and each choice was used or is left over
record IsFit (t : Litmus) (n : ℕ) (b : Bool) (s : ShownRun) (r : Run) : Type 0 where
  fits : b ≡ true → RunFitsTest t s
  all : r.used + r.unused ≡ n
  stalls : r.stalled ≤ r.used
  few : n ≤ 100000

abbrev Object : Bool → Litmus → ProtocolKind → Configuration → List Choice → ShownRun → Run → List ℕ
Object b t kind c xs s r = cond b (json_ended t kind c xs s) (json_unended t kind c xs r.used r.stalled)

object-told : (t : Litmus) (kind : ProtocolKind) (c : Configuration) (xs ys : List Choice) (s u : ShownRun) (r o : Run)
    (m n : ℕ)
    → IsTest t
    → IsConfigurationWithinLimits c
    → CoresExist (length t.programs) xs
    → CoresExist (length t.programs) ys
    → (b d : Bool) → IsFit t m b s r
    → IsFit t n d u o
    → Object b t kind c xs s r ≡ Object d t kind c ys u o
    → (Report true b t kind c s r ≡ Report true d t kind c u o) × (outline (trace_json t kind c xs) ≡ outline (trace_json t kind c ys))
object-told t kind c xs ys s u r o m n test within exist exist' true true p q e =
    ended-told t t kind kind c c xs ys s u test test within within exist exist' (p.fits refl) (q.fits refl) e
object-told t kind c xs ys s u r o m n test within exist exist' true false p q e = absurd (apart t kind c xs ys s o.used o.stalled e)
object-told t kind c xs ys s u r o m n test within exist exist' false true p q e = absurd (apart t kind c ys xs u r.used r.stalled (sym e))
object-told t kind c xs ys s u r o m n test within exist exist' false false p q e =
    let all = p.all in
    let stalls = p.stalls in
    let few = p.few in
    let all' = q.all in
    let stalls' = q.stalls in
    let few' = q.few in
    unended-told t kind c xs ys r o test exist exist' (omega (arith, all, few)) (omega (arith, all, few, stalls))
    (omega (arith, all', few')) (omega (arith, all', few', stalls')) e

pub objects-told : PrintedRunsAreTold → EndedRunsFit → ChoicesAreCounted → PrintedTracesAreTold true
objects-told runs fits counted t kind c choices other test within p q same =
    let r = run_under t kind c choices in
    let o = run_under t kind c other in
    let s = shown_under t kind c choices in
    let u = shown_under t kind c other in
    let a = counted t kind c choices in
    let b = counted t kind c other in
    let told = object-told t kind c choices other s u r o (length choices) (length other) test within p.exist q.exist r.ended o.ended
    (record { fits = fits t kind c choices test p.few p.answers; all = a.0; stalls = a.1; few = p.few })
    (record { fits = fits t kind c other test q.few q.answers; all = b.0; stalls = b.1; few = q.few }) same in
    record {
      run = runs t kind c true choices other test within p.few q.few p.answers q.answers told.0;
      steps = same-steps t kind c choices other
          (choices-told told_by_object (λ s. refl) (trace_under t kind c choices) (trace_under t kind c other)
          (trace-told t c c test refl kind kind choices other within within p.exist q.exist told.1));
    }

pub values-told : TraceValuesTellTheirSteps
values-told t kind other_kind c d choices other test within within' words exist exist' same =
    let a = trace_json t kind c choices in
    let b = trace_json t other_kind d other in
    let p = deeper 10 max_depth (outline a) (omega arith) (trace-back t kind c choices test exist) in
    let q = deeper 10 max_depth (outline b) (omega arith) (trace-back t other_kind d other test exist') in
    trace-told t c d test (sym words) kind other_kind choices other within within' exist exist' (text-told a b p q same)

pub objects-named : ReportsTellTheirMachines true → EndedRunsFit → PrintedTracesNameTheSame true
objects-named names fits t u kind other_kind c d choices other test test' within within' p q ended same =
    let r = run_under t kind c choices in
    let o = run_under u other_kind d other in
    let s = shown_under t kind c choices in
    let v = shown_under u other_kind d other in
    let is = (ended refl).0 in
    let is' = (ended refl).1 in
    let fit = fits t kind c choices test p.few p.answers is in
    let fit' = fits u other_kind d other test' q.few q.answers is' in
    let whole : json_ended t kind c choices s ≡ json_ended u other_kind d other v =
    sym (ap (λ (b : Bool). Object b t kind c choices s r) is) ∙ (same ∙ ap (λ (b : Bool). Object b u other_kind d other v o) is') in
    names t u kind other_kind c d s v test test' within within' fit fit'
    (ended-told t u kind other_kind c d choices other s v test test' within within' p.exist q.exist fit fit' whole).0
