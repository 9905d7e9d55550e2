-- What is shown of a refutation as the code holds it, and the definitions' own that it stands for.
use Rattle.std.specs.Prelude.{Option, None, Some, map, string_bytes}
use Rattle.possible_reads.specs.Facts as given
use Rattle.possible_reads.specs.Facts.{Fact}
use Rattle.search_report.specs.declared.shown.ShownFact.{ShownFact}
use Rattle.search_report.specs.declared.shown.Subject.{Subject}
use Rattle.search_report.specs.declared.shown.Closing.{Closing}
use Rattle.search_report.specs.inner.Views.{place_of}
use Rattle.search_report.specs.declared.shown.ShownFact.TheVariants as fact
use Rattle.search_report.specs.declared.shown.Subject.TheVariants as subject
use Rattle.search_report.specs.declared.shown.Closing.TheVariants as closing
use Rattle.search_report.specs.ClaimText.{holds_text}
use Rattle.search_report.specs.Shown as spec
use Rattle.search_report.specs.Vocabulary.{Litmus}

abbrev pub shown_fact_of : ShownFact → spec.ShownFact
shown_fact_of (fact.From r w truth) = spec.From r w truth
shown_fact_of (fact.Before w v) = spec.Before w v
shown_fact_of (fact.Last w truth) = spec.Last w truth
shown_fact_of (fact.Returns r value truth) = spec.Returns r value truth
shown_fact_of (fact.Holds text) = spec.Holds (string_bytes text)

-- a fact that is shown alike wherever it stands
abbrev pub shown_anywhere : Litmus → Fact → Option spec.ShownFact
shown_anywhere t (given.Returns r value truth) = Some (spec.Returns (record { entry = r; value = None }) value truth)
shown_anywhere t (given.Holds claim truth) = Some (spec.Holds (holds_text t claim truth))
shown_anywhere _ _ = None

abbrev pub subject_of : Subject → spec.Subject
subject_of (subject.OfEvent e) = spec.OfEvent e
subject_of (subject.OfInitial loc) = spec.OfInitial loc.0
subject_of (subject.OfLocation loc) = spec.OfLocation loc.0

abbrev pub shown_closing_of : Closing → spec.Closing
shown_closing_of (closing.Uniproc edges) = spec.Uniproc edges.items
shown_closing_of (closing.Cycle edges) = spec.Cycle edges.items
shown_closing_of (closing.Between r v w) = spec.Amid r v w
shown_closing_of (closing.False ps) = spec.False (map place_of ps.items)
shown_closing_of (closing.NoAnswer kind s) = spec.NoAnswer kind.now (subject_of s)
shown_closing_of (closing.ByLemma number) = spec.ByLemma number
