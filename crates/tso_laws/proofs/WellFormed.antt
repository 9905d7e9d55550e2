-- Each test within the limits is well formed.
use Rattle.tso_laws.proofs.Vocabulary.{Litmus, IsTest, IsWellFormed}

pub well-formed : (t : Litmus) → IsTest t → IsWellFormed t
well-formed t test = record {
  registers_given = test.registers_given;
  words_given = test.words_given;
  values = test.values;
  locations_known = λ core default here. (test.programs_fit core default here).locations_known;
}
