-- What a line shows, as text and as a JSON value.
use Rattle.std.specs.Prelude.{ℕ, List, [], ◌∷◌, ◌++◌, map}
use Rattle.std.specs.Borrow.{Bor}
use Rattle.std.specs.List.{flat_map}
use Rattle.search_report.specs.Vocabulary.{Data, Litmus, Members, object, put, string}
use Rattle.tso_report.specs.Json.{count}
use Rattle.search_report.specs.ReasonText.{blanks, event_text, source_text, cycle_text, place_text}
use Rattle.search_report.specs.ReasonJson.{event_value, edges_value, place_members}
use Rattle.search_report.specs.inner.Views.{place_of}
use Rattle.search_report.specs.declared.contents.Content.{Content}
use Rattle.search_report.specs.declared.contents.Content.TheVariants as content

abbrev pub content_text : Litmus → Content → List ℕ
content_text t (content.Word text word) = text.now
content_text t (content.Depth depth) = blanks depth
content_text t (content.Event e) = event_text t e.now
content_text t (content.Source write) = source_text t write.now
content_text t (content.Cycle edges) = cycle_text t edges.now
content_text t (content.Places places) = flat_map (place_text t) (map place_of places.now)

abbrev pub content_value : Litmus → Content → Data
content_value t (content.Word text word) = string word.now
content_value t (content.Depth depth) = count depth
content_value t (content.Event e) = event_value t e.now
content_value t (content.Source write) = string (source_text t write.now)
content_value t (content.Cycle edges) = edges_value t edges.now
content_value t (content.Places places) = object (place_members t (map place_of places.now))

-- what is shown, behind what comes before it
abbrev pub field_text : Litmus → Bor (List ℕ) × Bor (List ℕ) × Content → List ℕ
field_text t f = f.0.now ++ content_text t f.2

-- these members, and one for each of these
abbrev pub with_fields : Litmus → List (Bor (List ℕ) × Bor (List ℕ) × Content) → Members → Members
with_fields t [] members = members
with_fields t (f ∷ fields) members = with_fields t fields (put f.1.now (content_value t f.2) members)
