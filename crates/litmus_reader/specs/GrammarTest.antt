-- Which text spells which test: the whole grammar, part by part. What a text means is said here, apart from how it is read,
-- so that a slip of the reader can't change the meaning.
use Rattle.std.specs.Prelude.{◌≡◌, ◌≤◌, ℕ, List, [], length, IsTrue, map}
use Rattle.std.specs.List.{range_with_len}
use Rattle.litmus_reader.specs.Vocabulary.{Instructions, Litmus, numbered, Piece, pieces_of}
use Rattle.litmus_reader.specs.Limits.{longest_text}
use Rattle.litmus_reader.specs.Grammar.{Passes}
use Rattle.litmus_reader.specs.GrammarText.{IsHeaderLine, AreInformationLines}
use Rattle.litmus_reader.specs.GrammarInitial.{IsInitialState, Fits, has_cores, names_in, first_words, first_registers}
use Rattle.litmus_reader.specs.GrammarColumns.{IsHeaderRow}
use Rattle.litmus_reader.specs.GrammarTable.{AreRows, AreWithin, named_in, column, instr_with}
use Rattle.litmus_reader.specs.GrammarEnding.{IsEnding, IsAskedWithin, names_asked, condition_of}
use Rattle.litmus_reader.specs.Written.{Written}

-- ---- the text

-- the initial state and the header row of what is written are in front of the rest
pub record HasColumns (w : Written) (ps rest : List Piece) : Type 0 where
  pub columns : List Piece
  pub initial : Passes (λ ts. IsInitialState ts w.settings) ps columns
  pub header_row : Passes (λ ts. IsHeaderRow ts w.cores) columns rest

-- from the initial state's `{` on the tokens are the initial state, the header row, the rows, and what ends a text
pub record IsBody (set : Instructions) (braces : List ℕ) (w : Written) : Type 0 where
  pub rows : List Piece
  pub ending : List Piece
  pub head : HasColumns w (pieces_of set braces).0 rows
  pub are_rows : Passes (λ ts. AreRows set w.cores ts w.table) rows ending
  pub is_ending : IsEnding set braces (pieces_of set braces).1 ending w.asked

-- a text is a header line, information lines and a body
pub record IsText (set : Instructions) (text : List ℕ) (w : Written) : Type 0 where
  pub small : length text ≤ longest_text
  pub after : List ℕ
  pub braces : List ℕ
  pub header : IsHeaderLine text w.name after
  pub information : AreInformationLines after braces
  pub body : IsBody set braces w

-- ---- the test

-- the locations that the initial state names, each where it first appears
abbrev pub first_names : Written → List (List ℕ)
first_names w = numbered [] (names_in w.settings)

-- after them those that the rows name
abbrev pub located_in_rows : Written → List (List ℕ)
located_in_rows w = numbered (first_names w) (named_in w.table)

-- all locations: those of the condition come last
abbrev pub located : Written → List (List ℕ)
located w = numbered (located_in_rows w) (names_asked w.asked)

-- the test that is written; a core's program is the instructions of its column
abbrev pub test_written : Written → Litmus
test_written w = record {
  name = w.name;
  locations = located w;
  words = first_words w.settings (located w);
  registers = first_registers w.settings w.cores;
  programs = map (λ c. map (instr_with (located w)) (column c w.table)) (range_with_len 0 w.cores);
  condition = condition_of (located w) w.asked;
}

-- what is written keeps within the limits
pub record KeepsLimits (w : Written) : Type 0 where
  pub settings : Fits w.settings
  pub cores : IsTrue (has_cores w.cores w.settings)
  pub rows : AreWithin (first_names w) w.table
  pub condition : IsAskedWithin w.cores (located_in_rows w) w.asked

-- the text follows the grammar of a set of instructions, within the limits, and says this test
pub record FollowsGrammar (set : Instructions) (text : List ℕ) (t : Litmus) : Type 0 where
  pub written : Written
  pub is : IsText set text written
  pub limits : KeepsLimits written
  pub says : t ≡ test_written written
