-- What a choice did as a JSON value, with the machine after it. Its keys are in the order of their bytes. (This project's
-- profile; the texts are those of the trace's lines.)
use Rattle.std.specs.Prelude.{ℕ, List, map, Option, Some, None, option_map, codes}
use Rattle.trace_report.specs.Vocabulary.{access_name, Asked, boolean, Buffered, Committed, Data, line_name, Litmus, member, Moved}
use Rattle.trace_report.specs.Vocabulary.{no_members, object, order_value, Outcome, outcome_name, printed_change, printed_choice}
use Rattle.trace_report.specs.Vocabulary.{printed_core, printed_move, printed_request, ShownStep, Stall, stall_name, Stalled, string}
use Rattle.trace_report.specs.JsonValues.{text_or_null, array_of_texts}
use Rattle.trace_report.specs.Supplied.{supplier_text}
use Rattle.trace_report.specs.declared.supplied.Source.{Source}

-- the outcome's word, and of a stall why
abbrev pub outcome_word : Outcome → List ℕ
outcome_word Committed = outcome_name Committed
outcome_word Buffered = outcome_name Buffered
outcome_word Moved = outcome_name Moved
outcome_word Asked = outcome_name Asked
outcome_word (Stalled why) = codes "stalled"

abbrev pub stall_in : Outcome → Option Stall
stall_in Committed = None
stall_in Buffered = None
stall_in Moved = None
stall_in Asked = None
stall_in (Stalled why) = Some why

-- a step of the test on caches whose lines have so many words, with where the word is found that it reads, and the machine after it
abbrev pub step_json : Litmus → ℕ → ShownStep → Option Source → Data → Data
step_json t words s supplied after =
    object (member (codes "access") (text_or_null (option_map access_name s.access))
    (member (codes "after") after
    (member (codes "choice") (string (printed_choice s.choice))
    (member (codes "entries") (order_value t s.entries)
    (member (codes "flush") (text_or_null (option_map printed_core s.flushed))
    (member (codes "forwarded") (boolean s.forwarded)
    (member (codes "moved") (text_or_null (option_map printed_move s.moved))
    (member (codes "outcome") (string (outcome_word s.outcome))
    (member (codes "stall") (text_or_null (option_map stall_name (stall_in s.outcome)))
    (member (codes "states") (array_of_texts (map (printed_change t words) s.changes))
    (member (codes "supplied") (text_or_null (option_map supplier_text supplied))
    (member (codes "transaction") (text_or_null (option_map (printed_request t words) s.request))
    (member (codes "write_back") (text_or_null (option_map (line_name t words) s.wrote_back)) no_members)))))))))))))
