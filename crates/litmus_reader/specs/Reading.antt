-- The reading of a whole text, part by part in the order of the text, and the first fault in it. A fault at a place becomes a
-- refusal with a line at the end, where lines are counted.
use Rattle.std.specs.Prelude.{ℕ, ◌-◌, List, [], ◌∷◌, ◌++◌, map, filter, replicate, ◌==◌, length, Option, Result, Ok, Err}
use Rattle.std.specs.List.{range_with_len}
use Rattle.litmus_reader.specs.Vocabulary.{BadToken, Condition, CoreInstr, Fault, fault, Instr, Instructions, line_of, Litmus, Piece}
use Rattle.litmus_reader.specs.Vocabulary.{pieces_of, Stop, Trailing, Unclosed, ◌>>=◌}
use Rattle.litmus_reader.specs.declared.fault.TextFault.{TextFault}
use Rattle.litmus_reader.specs.Header.{sized, header_at}
use Rattle.litmus_reader.specs.Information.{braces_at}
use Rattle.litmus_reader.specs.Initial.{initial_at}
use Rattle.litmus_reader.specs.Rows.{table_at}
use Rattle.litmus_reader.specs.Observed.{ending_tokens}
use Rattle.litmus_reader.specs.Conditions.{condition_at}
use Rattle.litmus_tokens.specs.declared.token.Stop.TheVariants as stops

-- a refusal with the line of its place
abbrev pub refusal : List ℕ → Fault → TextFault
refusal text f = record { line = line_of text f.remaining; why = f.why }

-- the end of the text has to follow
unfoldable pub end_at : Stop → List Piece → Result (Unit {0}) Fault
end_at stop (p ∷ ps) = Err (fault Trailing p.remaining)
end_at stops.End [] = Ok tt
end_at (stops.BadToken remaining) [] = Err (fault BadToken remaining)
end_at (stops.Unclosed remaining) [] = Err (fault Unclosed remaining)

-- a core's program: its instructions, in the order of the rows
abbrev pub program_of : List CoreInstr → ℕ → List Instr
program_of instrs core = map (λ i. i.instr) (filter (λ i. i.core == core) instrs)

-- the test of what was read: a location that the initial state doesn't name begins as 0; each core has its registers and its program
abbrev pub test_of : List ℕ → List (List ℕ) → List ℕ → List (List ℕ) → List CoreInstr → Option Condition → Litmus
test_of name names words registers instrs condition = record {
  name = name;
  locations = names;
  words = words ++ replicate (length names - length words) 0;
  registers = registers;
  programs = map (program_of instrs) (range_with_len 0 (length registers));
  condition = condition;
}

-- what comes after the rows: the condition, and then the end
unfoldable pub tail_at : Instructions → List ℕ → Stop → ℕ → List (List ℕ) → List Piece → Result (Option Condition × List (List ℕ)) Fault
tail_at set text stop cores names ps = do
  rest ← ending_tokens set text stop ps
  c ← condition_at rest.1 cores names rest.0
  end ← end_at rest.1 c.rest
  Ok (c.condition, c.names)

-- the initial state, the table and what comes after it; the tokens are those of this end of the text
unfoldable pub body_of : Instructions → List ℕ → List ℕ → Stop → List Piece → Result Litmus Fault
body_of set name text stop ps = do
  initial ← initial_at stop [] ps
  table ← table_at set stop initial.0.registers initial.0.names initial.1
  ending ← tail_at set text stop table.cores table.rows.names table.rows.rest
  Ok (test_of name ending.1 initial.0.words table.registers table.rows.instrs ending.0)

-- the test that a text spells in a set of instructions, or the first fault in the order of the text
unfoldable pub reading_of : Instructions → List ℕ → Result Litmus Fault
reading_of set text = do
  bytes ← sized text
  header ← header_at bytes
  braces ← braces_at header.1
  body_of set header.0 braces (pieces_of set braces).1 (pieces_of set braces).0
