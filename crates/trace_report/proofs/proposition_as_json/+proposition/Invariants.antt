use Rattle.trace_report.proofs.Vocabulary.{◌+◌, ◌*◌}
use Rattle.trace_report.proofs.proposition_as_json.+proposition.Given as goal

abbrev pub decreases-write_proposition : goal.decreases-write_proposition
decreases-write_proposition l = 2 * goal.size-write_proposition l

abbrev pub decreases-write_part : goal.decreases-write_part
decreases-write_part l = 2 * goal.size-write_part l + 1
