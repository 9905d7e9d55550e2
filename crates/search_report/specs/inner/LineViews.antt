-- Lines as the code holds them, and the definitions' own that they stand for.
use Rattle.std.specs.Prelude.{List, map, Vec}
use Rattle.std.specs.Global.{Global}
use Rattle.std.specs.Option.{option_map}
use Rattle.search_report.specs.declared.shown.ShownFact.{ShownFact}
use Rattle.search_report.specs.declared.lines.Line.{Line}
use Rattle.search_report.specs.inner.ShownViews.{shown_fact_of, shown_closing_of}
use Rattle.search_report.specs.declared.lines.Line.TheVariants as line
use Rattle.search_report.specs.Shown as shown
use Rattle.search_report.specs.Lines as spec

abbrev pub shown_facts_of : Vec ShownFact Global → List shown.ShownFact
shown_facts_of facts = map shown_fact_of facts.items

abbrev pub reason_line_of : Line → spec.Line
reason_line_of (line.Given facts) = spec.Given (shown_facts_of facts)
reason_line_of (line.Never number facts) = spec.Never number (shown_facts_of facts)
reason_line_of (line.Case depth a) = spec.Case depth a.question.now (map shown_facts_of a.answers.items) (option_map shown_closing_of a.closing)
reason_line_of (line.So depth a) = spec.So depth a.question.now (map shown_facts_of a.answers.items) (option_map shown_closing_of a.closing)
reason_line_of (line.Leaf depth closing) = spec.Leaf depth (shown_closing_of closing)
reason_line_of (line.Endcases depth) = spec.Endcases depth
