-- What is under a key, as a JSON value.
use Rattle.std.specs.Prelude.{ℕ, List, [], ◌∷◌}
use Rattle.std.specs.Borrow.{Bor}
use Rattle.serde_json.specs.Data.{boolean, Data, Members, put, string}
use Rattle.tso_report.specs.Json.{count}
use Rattle.tso_report.specs.declared.members.Datum.{Datum}
use Rattle.tso_report.specs.declared.members.Datum.TheVariants as datum

abbrev pub datum_value : Datum → Data
datum_value (datum.Text text) = string text.now
datum_value (datum.Number n) = count n
datum_value (datum.Truth truth) = boolean truth

-- these members, and one for each of these keys
abbrev pub with_data : List (Bor (List ℕ) × Datum) → Members → Members
with_data [] members = members
with_data (f ∷ fields) members = with_data fields (put f.0.now (datum_value f.1) members)
