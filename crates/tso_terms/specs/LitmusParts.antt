-- The test that its parts make: lists in place of vectors and strings, so that no promise depends on how they lie in
-- memory.
use Rattle.std.specs.Prelude.{map, string_bytes}
use Rattle.tso_terms.specs.Litmus.{Litmus}
use Rattle.tso_terms.specs.Condition.{condition_of}
use Rattle.tso_terms.specs.declared.litmus.TestParts.{TestParts}
use Rattle.std.specs.Option.{option_map}

-- the test that these parts would be
abbrev pub litmus_of : TestParts → Litmus
litmus_of p = record {
  name = string_bytes p.name;
  locations = map string_bytes p.locations.items;
  words = p.words.items;
  registers = p.registers.items;
  programs = map (λ program. program.items) p.programs.items;
  condition = option_map condition_of p.cond;
}
