-- Edges and places as a line has them behind a blank, and lists with something between their items.
use Rattle.std.specs.Prelude.{ℕ, ◌++◌, List, [], ◌∷◌, codes}
use Rattle.std.specs.List.{flat_map}
use Rattle.search_report.specs.Vocabulary.{key_of, Litmus}
use Rattle.search_report.specs.declared.shown.Edge.{Edge}
use Rattle.search_report.specs.declared.shown.Place.{Place}
use Rattle.search_report.specs.ReasonText.{event_text, relation_text, words_text}
use Rattle.search_report.specs.Places as places

-- `po P0:1 W y=1`, and `1:EAX=0` or `x=1|2`: what is in a line after a blank
abbrev pub hop_end : Litmus → Edge → List ℕ
hop_end t e = relation_text e.relation ++ (codes " " ++ event_text t e.target)

abbrev pub place_end : Litmus → Place → List ℕ
place_end t p = key_of t p.named ++ (codes "=" ++ words_text p.values.items)

-- what is made of each item, with this between them
abbrev pub separated : {X : Type 0} → List ℕ → (X → List ℕ) → List X → List ℕ
separated between f [] = []
separated between f (x ∷ xs) = f x ++ flat_map (λ y. between ++ f y) xs

abbrev pub place_of : Place → places.Place
place_of p = record { named = p.named; values = p.values.items }
