-- What `why` prints of an execution, or where its search met its limit, in either form: lines of text, or a JSON value on one line. Both show the same.
use Rattle.std.specs.Prelude.{ℕ, ◌≡◌, Bool, true, false, List}
use Rattle.search_report.specs.Vocabulary.{Candidate, Choice, Entry, IsCandidateOf, Litmus, Model}
use Rattle.search_report.specs.ReasonText.{allowed_text, unfinished_reason_line}
use Rattle.search_report.specs.ReasonJson.{allowed_json, unfinished_reason_json}

-- of a candidate in which what the test asks is so, and of choices that lead there
abbrev pub allowed_in : Bool → Model → Litmus → Candidate → List Choice → List ℕ
allowed_in false model t c choices = allowed_text model t c choices
allowed_in true model t c choices = allowed_json model t c choices

-- of a search that met its limit
abbrev pub unfinished_cases_in : Bool → Litmus → ℕ → List ℕ
unfinished_cases_in false t limit = unfinished_reason_line limit
unfinished_cases_in true t limit = unfinished_reason_json t limit

-- what was printed is the candidate of this order, and these choices
pub record ShowsExecution (json : Bool) (model : Model) (t : Litmus) (order : List Entry) (choices : List Choice) (out : List ℕ) : Type 0 where
  pub candidate : Candidate
  pub of_order : IsCandidateOf t order candidate
  pub printed : out ≡ allowed_in json model t candidate choices
