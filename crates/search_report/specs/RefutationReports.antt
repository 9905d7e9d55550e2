-- What `why` prints of a refutation by lemmas, in either form: lines of text, or a JSON value on one line. Both show the same.
use Rattle.std.specs.Prelude.{ℕ, Bool, true, false, List}
use Rattle.search_report.specs.Vocabulary.{Litmus, Model}
use Rattle.lemma_refutations.specs.Refutations.{Node, Lemma}
use Rattle.search_report.specs.LineText.{never_text}
use Rattle.search_report.specs.LineJson.{never_json}

abbrev pub refutation_in : Bool → Model → Litmus → List Lemma → List Node → List ℕ
refutation_in false model t lemmas tree = never_text model t lemmas tree
refutation_in true model t lemmas tree = never_json model t lemmas tree
