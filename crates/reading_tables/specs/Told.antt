-- Expressions, values and facts as the code holds them, and the definitions' own that they stand for.
use Rattle.std.specs.Prelude.{List, map}
use Rattle.tso_terms.specs.Condition.{claim_of}
use Rattle.reading_tables.specs.declared.facts.Fact.{Fact}
use Rattle.possible_reads.specs.Facts as facts
use Rattle.reading_tables.specs.declared.facts.Fact.TheVariants as fact

-- ---- facts
abbrev pub fact_of : Fact → facts.Fact
fact_of (fact.From read write truth) = facts.From read write truth
fact_of (fact.Before first second) = facts.Before first second
fact_of (fact.Last write truth) = facts.Last write truth
fact_of (fact.Returns read value truth) = facts.Returns read value truth
fact_of (fact.Holds prop truth) = facts.Holds (claim_of prop.now) truth

abbrev pub facts_of : List Fact → List facts.Fact
facts_of fs = map fact_of fs
