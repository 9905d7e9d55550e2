-- What a trace without a float adds to the members of a run has none either, so that the text of the whole is known.
use Rattle.trace_report.proofs.Vocabulary.{◌≡◌, false, map, Option, Some, None, refl, Data, string, Members, put, has_float}
use Rattle.trace_report.proofs.Vocabulary.{members_have_float, Litmus, Condition, text_or_null, instruction_text, program_value}
use Rattle.trace_report.proofs.Vocabulary.{programs_value, with_trace_value, ProtocolKind, Configuration}
use Rattle.std.specs.Prelude.{codes}
use Rattle.tso_report.proofs.NoFloats.{one_more, each, run_has_no_float}
use Rattle.tso_report.specs.Shown.{shown_run}
use Rattle.machine_runs.specs.declared.driving.Ending.{Ending}
use Rattle.machine_runs.specs.declared.driving.Ending.TheVariants.{Ended, Unfinished}
use Rattle.trace_report.specs.TracedRun.{ending_members}
use Rattle.std.specs.Option.{option_map}
use Rattle.trace_report.specs.PropositionJson.{proposition_text, proposition_value}

proposition : (t : Litmus) → has_float (proposition_value t) ≡ false
proposition t = by_condition t.condition
  where
    by_condition : (o : Option Condition) → has_float (text_or_null (option_map (λ (condition : Condition). proposition_text t condition.claim) o)) ≡ false
    by_condition None = refl
    by_condition (Some c) = refl

pub more_has_no_float : (t : Litmus) (trace : Data) (ms : Members)
    → has_float trace ≡ false
    → members_have_float ms ≡ false
    → members_have_float (with_trace_value t trace ms) ≡ false
more_has_no_float t trace ms none h =
    let traced : Members = put (codes "trace") trace ms in
    let asked : Members = put (codes "proposition") (proposition_value t) traced in
    one_more (codes "programs") (programs_value t) asked (each (program_value t) (λ p. each string (λ text. refl) (map (instruction_text t) p)) t.programs)
    (one_more (codes "proposition") (proposition_value t) traced (proposition t)
    (one_more (codes "trace") trace ms none h))

-- nor have those of how the run left its test
pub ending_has_no_float : (t : Litmus) (kind : ProtocolKind) (c : Configuration) (e : Ending) → members_have_float (ending_members t kind c e) ≡ false
ending_has_no_float t kind c (Ended run) = run_has_no_float t kind c (shown_run run)
ending_has_no_float t kind c (Unfinished used stalled) = refl
