-- What stands beside the places of a line `False`: all that is left there in its branch.
use Rattle.std.specs.Prelude.{ℕ, ◌≡◌, true, List, filter, Some, None}
use Rattle.std.specs.List.{AllByRecursion}
use Rattle.tso_terms.specs.Litmus.{Litmus}
use Rattle.tso_terms.specs.ProgramOrder.{is_read}
use Rattle.basic_laws.specs.Types.{Entry}
use Rattle.relational_model.specs.Candidates.{Candidate}
use Rattle.relational_model.specs.Model.{IsAllowed}
use Rattle.refutation_laws.specs.Agreement.{Stands}
use Rattle.possible_reads.specs.Facts.{Fact}
use Rattle.possible_reads.specs.Possible.{last_words, readings}
use Rattle.possible_reads.specs.Laws.{AreMet, IsPossible, ReadIsPossible, register_in, word_in}
use Rattle.lemma_refutations.specs.Refutations.{known_from}
use Rattle.tso_report.specs.declared.named.Named.{Named}
use Rattle.tso_report.specs.declared.named.Named.TheVariants.{Register, Location}
use Rattle.search_report.specs.Shown.{is_on_events, places_false}

-- a candidate that the facts on events leave open, whatever is asked of the final state
pub record IsLeftOpen (t : Litmus) (c : Candidate) (facts : List Fact) : Type 0 where
  pub allowed : IsAllowed t c
  pub met : AreMet t c (filter is_on_events facts)
  -- each read reads from what is left to it, and returns what is left to it
  pub reads : (read r : Entry) → Stands t c read r → is_read r ≡ true → ReadIsPossible t c (readings t facts) read r
  -- where they leave a location any value, it is as asked too
  pub asked : (loc : ℕ) → last_words t (filter is_on_events facts) (readings t facts) loc ≡ None → AreMet t c facts

-- what a register or a location has at the end
abbrev pub value_left : Litmus → Candidate → Named → ℕ
value_left t c (Register core reg) = register_in t c core.0 reg
value_left t c (Location loc) = word_in t c loc.0

-- at its end each place of the line has one of the values that stand beside it
abbrev pub ListedValuesAreAllLeft : Type 0
ListedValuesAreAllLeft =
    (t : Litmus) (c : Candidate) (facts : List Fact)
    → IsLeftOpen t c facts
    → AllByRecursion (λ p. IsPossible (Some p.values) (value_left t c p.named)) (places_false t (known_from t facts) facts)
