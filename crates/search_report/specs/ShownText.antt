-- What is shown of a branch, as text: facts, and why the branch is closed.
use Rattle.std.specs.Prelude.{ℕ, Bool, true, false, List, [], ◌∷◌, ◌++◌, codes}
use Rattle.std.specs.List.{flat_map}
use Rattle.std.specs.Fmt.{decimal}
use Rattle.search_report.specs.Vocabulary.{key_of, Litmus}
use Rattle.tso_report.specs.Tally.{named_location}
use Rattle.search_report.specs.ClaimText.{value_text}
use Rattle.search_report.specs.ReasonText.{cycle_text, event_text, place_text, source_text}
use Rattle.search_report.specs.Shown.{ShownFact, From, Before, Last, Returns, Holds, Subject, OfEvent, OfInitial, OfLocation, Closing}
use Rattle.search_report.specs.Shown.{Uniproc, Cycle, Amid, False, NoAnswer, ByLemma}

-- items, with this between them
abbrev pub separated : {X : Type 0} → List ℕ → (X → List ℕ) → List X → List ℕ
separated between f [] = []
separated between f (x ∷ xs) = f x ++ flat_map (λ y. between ++ f y) xs

-- ---- facts

-- nothing, or that it isn't so
abbrev pub not_text : Bool → List ℕ
not_text true = []
not_text false = codes " not"

abbrev pub fact_text : Litmus → ShownFact → List ℕ
fact_text t (From r w truth) = event_text t r ++ (not_text truth ++ (codes " from " ++ source_text t w))
fact_text t (Before w v) = event_text t w ++ (codes " before " ++ event_text t v)
fact_text t (Last w truth) = event_text t w ++ (not_text truth ++ codes " last")
fact_text t (Returns r value truth) = event_text t r ++ value_text value truth
fact_text t (Holds text) = text

abbrev pub facts_text : Litmus → List ShownFact → List ℕ
facts_text t facts = separated (codes ", ") (fact_text t) facts

-- ---- why a branch is closed
abbrev pub subject_text : Litmus → Subject → List ℕ
subject_text t (OfEvent e) = event_text t e
subject_text t (OfInitial loc) = key_of t (named_location loc) ++ codes " initial"
subject_text t (OfLocation loc) = key_of t (named_location loc)

abbrev pub closing_text : Litmus → Closing → List ℕ
closing_text t (Uniproc edges) = codes "Uniproc" ++ cycle_text t edges
closing_text t (Cycle edges) = codes "Cycle" ++ cycle_text t edges
closing_text t (Amid r v w) = codes "Between " ++ (event_text t r ++ (codes " " ++ (event_text t v ++ (codes " " ++ event_text t w))))
closing_text t (False places) = codes "False" ++ flat_map (place_text t) places
closing_text t (NoAnswer kind subject) = codes "No " ++ (kind ++ (codes " " ++ subject_text t subject))
closing_text t (ByLemma number) = codes "By lemma " ++ decimal number
