use Rattle.reading_tables.proofs.Vocabulary.{◌≡◌, ◌++◌, Some, drop, filter, map}
use Rattle.reading_tables.specs.Told.{facts_of}
use Rattle.reading_tables.specs.inner.Plain.{first_chosen, is_choice}
use Rattle.std.specs.Prelude.{slice_index}
use Rattle.reading_tables.proofs.plain.choose.Given as goal

abbrev pub invariant-loop-choice : goal.invariant-loop-choice
invariant-loop-choice l =
    record {
      sources : first_chosen l.test (facts_of l.facts) l.read ++ map (λ x. Some x.write) (filter (is_choice l.test (facts_of l.facts) l.read) l.choices)
          ≡ l.sources.items ++ map (λ x. Some x.write) (filter (is_choice l.test (facts_of l.facts) l.read) (drop l.choice-index l.choices));
      values : map (λ s. slice_index l.test.words l.read.loc.0) (first_chosen l.test (facts_of l.facts) l.read)
          ++ map (λ x. x.value) (filter (is_choice l.test (facts_of l.facts) l.read) l.choices)
          ≡ l.values.items ++ map (λ x. x.value) (filter (is_choice l.test (facts_of l.facts) l.read) (drop l.choice-index l.choices));
    }
