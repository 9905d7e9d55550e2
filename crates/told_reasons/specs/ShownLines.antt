-- What the printed lines of a refutation tell: the values of their format.
use Rattle.std.specs.Prelude.{ℕ, ◌≡◌, ◌<◌, ◌^◌, Bool, true, false, List, [], ◌∷◌, map, Option, Some, None, IfSome, length}
use Rattle.std.specs.List.{AllByRecursion}
use Rattle.tso_terms.specs.Litmus.{IsTest, Litmus}
use Rattle.tso_terms.specs.Condition.{Claim, Condition, TruthClaim, RegClaim, LocClaim, NotClaim, AndClaim, OrClaim}
use Rattle.tso_terms.specs.ProgramOrder.{is_read}
use Rattle.refutation_laws.specs.declared.model.Model.{Model}
use Rattle.order_builder.specs.PrintedOrder.{HasLocation}
use Rattle.tso_report.specs.declared.named.Named.{Named}
use Rattle.tso_report.specs.declared.named.Named.TheVariants.{Register, Location}
use Rattle.search_report.specs.OutcomesJson.{key_of}
use Rattle.search_report.specs.ClaimText.{holds_text}
use Rattle.search_report.specs.declared.shown.Event.{Event}
use Rattle.search_report.specs.declared.shown.Edge.{Edge}
use Rattle.search_report.specs.Places.{Place}
use Rattle.search_report.specs.ReasonText.{event_text, model_name, relation_text, truth_asked}
use Rattle.search_report.specs.Shown.{ShownFact, From, Before, Last, Returns, Holds, Subject, OfEvent, OfInitial, OfLocation, Closing}
use Rattle.search_report.specs.Shown.{Uniproc, Cycle, Amid, False, NoAnswer, ByLemma}
use Rattle.search_report.specs.ShownText.{fact_text, subject_text}
use Rattle.tso_report.specs.Report.{printed_quantifier, printed_truth}
use Rattle.search_report.specs.Verdict.{is_well, verdict_word}
use Rattle.search_report.specs.Lines.{Line, Given, Never, Case, So, Leaf, Endcases, leaves_in}
use Rattle.search_report.specs.LineText.{line_text, never_lines}
use Rattle.search_report.specs.LineJson.{line_value}
use Rattle.formats.specs.Formats.{AnyWord, is_in, IsSome, This, That, Value, text, Spells}
use Rattle.formats.specs.JsonData.{data_of}
use Rattle.told_reasons.specs.ReasonFormats.{answered_format, asked_format, closed_format, closing_format, cycle_format, line_format}
use Rattle.told_reasons.specs.ReasonFormats.{place_format, question_format, question_word_format, reason_format, values_format, verdict_format}

-- ---- what lines tell

abbrev pub shown_cycle : Litmus → List Edge → Value cycle_format
shown_cycle t [] = This tt
shown_cycle t (e ∷ es) = That (event_text t e.source, map (λ d. (relation_text d.relation, event_text t d.target)) (e ∷ es))

abbrev pub values_told : List ℕ → Value values_format
values_told [] = This tt
values_told (v ∷ vs) = That (v ∷ vs)

abbrev pub shown_place : Litmus → Place → Value place_format
shown_place t p = (key_of t p.named, values_told p.values)

abbrev pub shown_closing : Litmus → Closing → Value closing_format
shown_closing t (Uniproc edges) = This (shown_cycle t edges)
shown_closing t (Cycle edges) = That (This (shown_cycle t edges))
shown_closing t (Amid r v w) = That (That (This (event_text t r, (event_text t v, event_text t w))))
shown_closing t (False places) = That (That (That (This (map (shown_place t) places))))
shown_closing t (NoAnswer kind subject) = That (That (That (That (This (kind, subject_text t subject)))))
shown_closing t (ByLemma number) = That (That (That (That (That number))))

abbrev pub shown_closed : Litmus → Option Closing → Value closed_format
shown_closed t None = This tt
shown_closed t (Some closing) = That (shown_closing t closing)

abbrev pub shown_question : List ℕ → Value question_format
shown_question [] = This []
shown_question (c ∷ cs) = That (c ∷ cs)

abbrev pub shown_case : Litmus → List ℕ → List (List ShownFact) → Option Closing → Value answered_format
shown_case t question answers closing = (shown_question question, (map (map (fact_text t)) answers, shown_closed t closing))

abbrev pub shown_line : Litmus → Line → Value line_format
shown_line t (Given facts) = This (map (fact_text t) facts)
shown_line t (Never number facts) = That (This (number, map (fact_text t) facts))
shown_line t (Case depth question answers closing) = That (That (depth, This (shown_case t question answers closing)))
shown_line t (So depth question answers closing) = That (That (depth, That (This (shown_case t question answers closing))))
shown_line t (Leaf depth closing) = That (That (depth, That (That (This (shown_closing t closing)))))
shown_line t (Endcases depth) = That (That (depth, That (That (That tt))))

-- ---- what a whole text tells

abbrev pub shown_asked : Option Condition → Value asked_format
shown_asked None = This tt
shown_asked (Some c) = That (printed_quantifier c.quantifier, printed_truth (truth_asked c.quantifier))

abbrev pub shown_verdict : Option Condition → Bool → Value verdict_format
shown_verdict None allowed = This tt
shown_verdict (Some c) allowed = That (verdict_word (is_well c.quantifier allowed))

abbrev pub shown_reason : Model → Litmus → List Line → Value reason_format
shown_reason model t lines =
    (t.name, ((model_name model, leaves_in lines), (shown_asked t.condition, (map (shown_line t) lines, shown_verdict t.condition false))))

-- ---- lines of a test

abbrev pub IsNumberOf64Bits : ℕ → Type 0
IsNumberOf64Bits n = n < 2 ^ 64

abbrev pub EventFits : Litmus → Event → Type 0
EventFits t e = IsNumberOf64Bits e.entry.core.0 × IsNumberOf64Bits e.entry.place × HasLocation t e.entry × IfSome e.value IsNumberOf64Bits

-- what a proposition names is the test's, or as small
abbrev pub ClaimFits : Litmus → Claim → Type 0
ClaimFits t (TruthClaim truth) = Unit {0}
ClaimFits t (RegClaim core reg value) = IsNumberOf64Bits core × IsNumberOf64Bits value
ClaimFits t (LocClaim loc value) = (loc < length t.locations) × IsNumberOf64Bits value
ClaimFits t (NotClaim inner) = ClaimFits t inner
ClaimFits t (AndClaim left right) = ClaimFits t left × ClaimFits t right
ClaimFits t (OrClaim left right) = ClaimFits t left × ClaimFits t right

abbrev pub FactFits : Litmus → ShownFact → Type 0
FactFits t (From r w truth) = EventFits t r × IfSome w (EventFits t)
FactFits t (Before w v) = EventFits t w × EventFits t v
FactFits t (Last w truth) = EventFits t w
FactFits t (Returns r value truth) = EventFits t r × (r.value ≡ None) × (is_read r.entry ≡ true) × IsNumberOf64Bits value
FactFits t (Holds shown) = (claim : Claim) × (truth : Bool) × ClaimFits t claim × (shown ≡ holds_text t claim truth)

-- facts, of which there are some
abbrev pub FactsFit : Litmus → List ShownFact → Type 0
FactsFit t facts = IsSome facts × AllByRecursion (FactFits t) facts

abbrev pub EdgeFits : Litmus → Edge → Type 0
EdgeFits t e = EventFits t e.source × EventFits t e.target × (e.relation ≡ None → ⊥)

abbrev pub IsKey : Litmus → Named → Type 0
IsKey t (Register core reg) = IsNumberOf64Bits core.0
IsKey t (Location loc) = loc.0 < length t.locations

-- a place may have no value: where none is left
abbrev pub PlaceFits : Litmus → Place → Type 0
PlaceFits t p = IsKey t p.named × AllByRecursion IsNumberOf64Bits p.values

abbrev pub SubjectFits : Litmus → Subject → Type 0
SubjectFits t (OfEvent e) = EventFits t e
SubjectFits t (OfInitial loc) = loc < length t.locations
SubjectFits t (OfLocation loc) = loc < length t.locations

abbrev pub ClosingFits : Litmus → Closing → Type 0
ClosingFits t (Uniproc edges) = AllByRecursion (EdgeFits t) edges
ClosingFits t (Cycle edges) = AllByRecursion (EdgeFits t) edges
ClosingFits t (Amid r v w) = EventFits t r × EventFits t v × EventFits t w
ClosingFits t (False places) = AllByRecursion (PlaceFits t) places
ClosingFits t (NoAnswer kind subject) = (is_in AnyWord kind ≡ true) × SubjectFits t subject
ClosingFits t (ByLemma number) = IsNumberOf64Bits number

abbrev pub QuestionFits : List ℕ → Type 0
QuestionFits [] = Unit {0}
QuestionFits (c ∷ cs) = Spells question_word_format (c ∷ cs)

-- a question's word, if it has one, and answers, of which there are some, each of some facts
abbrev pub CaseFits : Litmus → List ℕ → List (List ShownFact) → Option Closing → Type 0
CaseFits t question answers closing =
    QuestionFits question × IsSome answers × AllByRecursion (FactsFit t) answers × IfSome closing (ClosingFits t)

-- a line that may be printed of this test
abbrev pub LineFits : Litmus → Line → Type 0
LineFits t (Given facts) = FactsFit t facts
LineFits t (Never number facts) = IsNumberOf64Bits number × FactsFit t facts
LineFits t (Case depth question answers closing) = CaseFits t question answers closing
LineFits t (So depth question answers closing) = CaseFits t question answers closing
LineFits t (Leaf depth closing) = ClosingFits t closing
LineFits t (Endcases depth) = Unit {0}

-- ---- as JSON

-- each edge comes from the event that the one before it leads to
abbrev pub AreSteps : Litmus → Edge → List Edge → Type 0
AreSteps t e [] = Unit {0}
AreSteps t e (d ∷ ds) = (event_text t d.source ≡ event_text t e.target) × AreSteps t d ds

abbrev pub IsChained : Litmus → List Edge → Type 0
IsChained t [] = Unit {0}
IsChained t (e ∷ es) = AreSteps t e es

abbrev pub ClosingIsChained : Litmus → Closing → Type 0
ClosingIsChained t (Uniproc edges) = IsChained t edges
ClosingIsChained t (Cycle edges) = IsChained t edges
ClosingIsChained t _ = Unit {0}

abbrev pub LineIsChained : Litmus → Line → Type 0
LineIsChained t (Case depth question answers closing) = IfSome closing (ClosingIsChained t)
LineIsChained t (So depth question answers closing) = IfSome closing (ClosingIsChained t)
LineIsChained t (Leaf depth closing) = ClosingIsChained t closing
LineIsChained t _ = Unit {0}

-- ---- the laws

-- the text of a line is that of its value
abbrev pub TextsAreOfTheFormat : Type 0
TextsAreOfTheFormat = (t : Litmus) (l : Line) → text line_format (shown_line t l) ≡ line_text t l

-- and so is its JSON data, where the edges of a cycle are steps from one event to the next
abbrev pub DataAreOfTheFormat : Type 0
DataAreOfTheFormat = (t : Litmus) (l : Line) → LineIsChained t l → data_of line_format (shown_line t l) ≡ line_value t l

-- what is printed tells all that it shows: the test's name, the model, how many lines close a case, what is asked, each line, and the verdict
abbrev pub PrintedReasonsAreTold : Type 0
PrintedReasonsAreTold =
    (model other : Model) (t u : Litmus) (lines others : List Line)
    → IsTest t
    → IsTest u
    → AllByRecursion (LineFits t) lines
    → AllByRecursion (LineFits u) others
    → IsNumberOf64Bits (leaves_in lines) → IsNumberOf64Bits (leaves_in others) → never_lines model t lines ≡ never_lines other u others
    → shown_reason model t lines ≡ shown_reason other u others
