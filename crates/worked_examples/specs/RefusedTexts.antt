-- What texts are told that spell no test: slips as users make them, each text as short as it can be.
use Rattle.std.specs.Prelude.{ℕ, zero, suc, List, [], ◌++◌, codes, Option, Some, None, Result, Ok, Err}
use Rattle.worked_examples.specs.Vocabulary.{Litmus}
use Rattle.litmus_tokens.specs.declared.fault.Why.{Why}
use Rattle.litmus_tokens.specs.declared.fault.Fault.{Fault}
use Rattle.litmus_tokens.specs.declared.instructions.Instructions.{Instructions}
use Rattle.litmus_tokens.specs.declared.instructions.Instructions.TheVariants.{Basic}
use Rattle.litmus_reader.specs.declared.fault.TextFault.{TextFault}
use Rattle.litmus_reader.specs.Places.{from_place}
use Rattle.litmus_reader.specs.Reading.{reading_of, refusal}

abbrev pub told_by : List ℕ → Result Litmus Fault → Option (TextFault × List ℕ)
told_by text (Ok t) = None
told_by text (Err f) = Some (refusal text f, from_place text f.remaining)

-- the refusal of a text that spells no test in a set of instructions, and what stands from the place of its fault on
abbrev pub told_in : Instructions → List ℕ → Option (TextFault × List ℕ)
told_in set text = told_by text (reading_of set text)

-- the same in the basic set
abbrev pub told : List ℕ → Option (TextFault × List ℕ)
told text = told_in Basic text

-- refused on this line, for this, where these bytes stand
abbrev pub refused : ℕ → Why → List ℕ → Option (TextFault × List ℕ)
refused line why rest = Some (record { line = line; why = why }, rest)

-- the bytes so many times
abbrev pub times : ℕ → List ℕ → List ℕ
times zero bytes = []
times (suc n) bytes = bytes ++ times n bytes

-- a test of one core before its rows; what follows begins line 4
abbrev pub one_core : List ℕ
one_core = codes "X86 T\n{}\nP0;\n"

-- an initial state with as many locations as there may be, before its `}`
abbrev pub sixteen : List ℕ
sixteen = codes "X86 T\n{a=0;b=0;c=0;d=0;e=0;f=0;g=0;h=0;i=0;j=0;k=0;l=0;m=0;n=0;o=0;p=0;"

-- names that are too long, of 65 bytes for a test and of 33 for a location
abbrev pub long_test_name : List ℕ
long_test_name = times 65 (codes "T")

abbrev pub long_name : List ℕ
long_name = times 33 (codes "x")
