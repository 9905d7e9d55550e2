-- The reading of a whole text, part by part in the order of the text, and the first refusal.
use Rattle.std.specs.Prelude.{ℕ, List, Option, Some, None, Result, Ok, Err}
use Rattle.litmus_reader.specs.Vocabulary.{Fault, Instructions, Litmus}
use Rattle.litmus_reader.specs.declared.fault.TextFault.{TextFault}
use Rattle.litmus_reader.specs.Reading.{refusal, reading_of}

abbrev pub refusal_in : List ℕ → Result Litmus Fault → Option TextFault
refusal_in text (Ok test) = None
refusal_in text (Err f) = Some (refusal text f)

-- the refusal of a text that is read as no test
unfoldable pub refusal_of : Instructions → List ℕ → Option TextFault
refusal_of set text = refusal_in text (reading_of set text)
