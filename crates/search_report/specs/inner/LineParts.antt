-- The parts of nodes as the code holds them: lines and parts of which the last one comes first.
use Rattle.std.specs.Prelude.{ℕ, suc, ◌≡◌, if◌then◌else◌, List, [], ◌∷◌, ◌++◌, map, string_bytes}
use Rattle.std.specs.Str.{bytes_eq}
use Rattle.search_report.specs.Vocabulary.{Litmus}
use Rattle.search_report.specs.Lines as spec
use Rattle.search_report.specs.inner.LineViews.{reason_line_of, shown_facts_of}
use Rattle.search_report.specs.ShownText.{closing_text}
use Rattle.search_report.specs.inner.ShownViews.{shown_closing_of}
use Rattle.search_report.specs.declared.lines.Line.{Line}
use Rattle.search_report.specs.declared.cases_of_lines.Open.{Open}
use Rattle.search_report.specs.declared.cases_of_lines.Closed.{Closed}
use Rattle.search_report.specs.declared.cases_of_lines.Part.{Part}
use Rattle.search_report.specs.declared.cases_of_lines.Part.TheVariants as part

-- lines, of which the last one stands first
abbrev pub reason_lines_in : List Line → List spec.Line
reason_lines_in [] = []
reason_lines_in (l ∷ rest) = reason_lines_in rest ++ (reason_line_of l ∷ [])

abbrev pub open_of : Open → spec.Open
open_of o = record { answer = shown_facts_of o.answer; lines = reason_lines_in o.lines.items }

abbrev pub closed_of : Closed → spec.Closed
closed_of c = record { answers = map shown_facts_of c.answers.items; closing = shown_closing_of c.closing }

-- the text that stands with each is that of the reason
abbrev pub HaveTheirTexts : Litmus → List Closed → Type 0
HaveTheirTexts t [] = Unit {0}
HaveTheirTexts t (c ∷ cs) = (string_bytes c.text ≡ closing_text t (shown_closing_of c.closing)) × HaveTheirTexts t cs

-- the place of the first one with this text, or else the place behind the last
abbrev pub place_with_text : List Closed → List ℕ → ℕ
place_with_text [] text = 0
place_with_text (c ∷ cs) text = if bytes_eq (string_bytes c.text) text then 0 else suc (place_with_text cs text)

abbrev pub part_in : Part → spec.Part
part_in (part.Closed answer closing) = spec.IsClosed (shown_facts_of answer) (shown_closing_of closing)
part_in (part.Open o) = spec.IsOpen (open_of o)

-- a stack of parts, the last one first
abbrev pub stacked_parts : List Part → List spec.Part
stacked_parts [] = []
stacked_parts (p ∷ rest) = stacked_parts rest ++ (part_in p ∷ [])

-- the parts of these nodes, before which others stand
abbrev pub grown_by : Litmus → List spec.Standing → List spec.Part → List spec.Part
grown_by t [] ps = ps
grown_by t (s ∷ ss) ps = spec.grown t s (grown_by t ss ps)
