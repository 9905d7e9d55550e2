use Rattle.search_report.proofs.Vocabulary.{◌++◌, length, string_bytes, values_of, claim_of, true_in, printed_numbers, kept_of}
use Rattle.search_report.proofs.Numbering.{Numbered}
use Rattle.search_report.proofs.outcomes_as_text.write_numbers.Given as goal

abbrev pub invariant-loop-state : goal.invariant-loop-state
invariant-loop-state l =
    Numbered (claim_of l.cond.prop) (string_bytes l.initial.text ++ printed_numbers (true_in (claim_of l.cond.prop) (values_of (kept_of l.outcomes.entries))))
    (length l.outcomes.entries) l.number (string_bytes l.text) l.state-iterator
