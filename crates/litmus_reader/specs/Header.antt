-- The size of a text and its header line. The size is judged first: a text that is too large is read no further.
use Rattle.std.specs.Prelude.{ℕ, List, length, Option, Some, None, Result, Ok, Err, nat_lt, ◌&&◌, if◌then◌else◌}
use Rattle.std.specs.List.{list_all}
use Rattle.litmus_reader.specs.Vocabulary.{Fault, fault, gap_end, is_printable, is_test_name, longest_test_name, NoHeader, Stop, TooLarge, Unclosed, ◌>>=◌}
use Rattle.litmus_reader.specs.Limits.{longest_text}
use Rattle.litmus_reader.specs.Places.{at_stop}
use Rattle.litmus_reader.specs.GrammarText.{first_line, name_in}

-- the text, if it isn't too large; else the fault has line 1
abbrev pub sized : List ℕ → Result (List ℕ) Fault
sized text = if nat_lt longest_text (length text) then Err (fault TooLarge (length text)) else Ok text

-- a comment that doesn't end is a fault; a gap has no other
abbrev pub from_gap : Result (List ℕ) Stop → Result (List ℕ) Fault
from_gap (Ok bytes) = Ok bytes
from_gap (Err stop) = Err (at_stop (fault Unclosed 0) stop)

-- the name of a header line at this place, judged: a name that is too long is too large if its bytes are good
unfoldable pub judged : ℕ → Option (List ℕ) → Result (List ℕ) Fault
judged remaining None = Err (fault NoHeader remaining)
judged remaining (Some name) =
    if is_test_name name then Ok name
    else if nat_lt longest_test_name (length name) && list_all is_printable name then Err (fault TooLarge remaining)
    else Err (fault NoHeader remaining)

-- the name of the test, and what comes after the header line
unfoldable pub header_at : List ℕ → Result (List ℕ × List ℕ) Fault
header_at text = do
  at ← from_gap (gap_end None text)
  name ← judged (length at) (name_in (first_line at).0)
  Ok (name, (first_line at).1)
