-- What is printed of searches.
use Rattle.std.specs.Prelude.{ℕ, List, codes}
use Rattle.serde_json.specs.Data.{Data, member, no_members, object, string}
use Rattle.tso_terms.specs.Litmus.{Litmus}
use Rattle.tso_report.specs.Json.{count}

-- a search that met its limit: the test, and under this key how many of them it was
abbrev pub unfinished_search_value : Litmus → List ℕ → ℕ → Data
unfinished_search_value t key limit =
    object (member (codes "test") (string t.name)
    (member (codes "unfinished") (object (member key (count limit) no_members)) no_members))
