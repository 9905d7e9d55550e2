-- The lines that are written where no report is: refusals, with the line or the word at fault, and how far an unfinished
-- run came.
use Rattle.std.specs.Prelude.{ℕ, List, [], ◌++◌, codes}
use Rattle.std.specs.Fmt.{decimal}
use Rattle.tso_report.specs.Report.{line}
use Rattle.litmus_tokens.specs.Why.{name_of}
use Rattle.litmus_reader.specs.declared.fault.TextFault.{TextFault}
use Rattle.tso_cli.specs.Vocabulary.{ChoiceFault}
use Rattle.scheduler.specs.declared.fault.ChoiceFault.TheVariants as choices

-- `Refused input TooLarge`
abbrev pub input_refusal : List ℕ
input_refusal = line (codes "Refused input TooLarge")

-- `Refused test line L NAME`
abbrev pub test_refusal : TextFault → List ℕ
test_refusal f = codes "Refused test line " ++ (decimal f.line ++ (codes " " ++ line (name_of f.why)))

-- `Refused choices word K NAME`; being out of memory is no refusal and has no line
abbrev pub choices_refusal : ChoiceFault → List ℕ
choices_refusal (choices.BadWord word) = codes "Refused choices word " ++ (decimal word ++ line (codes " BadWord"))
choices_refusal (choices.NoSuchCore word) = codes "Refused choices word " ++ (decimal word ++ line (codes " NoSuchCore"))
choices_refusal (choices.TooMany word) = codes "Refused choices word " ++ (decimal word ++ line (codes " TooMany"))
choices_refusal choices.NoMemory = []

-- `Unfinished used=U stalled=S`
abbrev pub unfinished_run_line : ℕ → ℕ → List ℕ
unfinished_run_line used stalled = codes "Unfinished used=" ++ (decimal used ++ (codes " stalled=" ++ line (decimal stalled)))

-- `Depth needed=N`
abbrev pub depth_line : ℕ → List ℕ
depth_line needed = codes "Depth needed=" ++ line (decimal needed)
