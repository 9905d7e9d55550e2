use Rattle.trace_report.proofs.Vocabulary.{sym, condition_of}
use Rattle.trace_report.proofs.proposition_as_json.proposition_value.Goals as goal

pub write_proposition-requires : goal.write_proposition-requires
write_proposition-requires c = (c.in-Some.ensures.test.condition_fits (condition_of c.in-Some.cond.now) (sym c.in-Some.ensures.value)).names_known
