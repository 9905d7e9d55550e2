-- How large a test may be, and how deep the store buffer of a core, as plain numbers: every bound on time and room rests on
-- these.
use Rattle.std.specs.Prelude.{ℕ}

-- maximum number of cores of a test
abbrev pub most_cores : ℕ
most_cores = 8

-- maximum number of locations of a test
abbrev pub most_locations : ℕ
most_locations = 16

-- maximum length of a core's program, in instructions
abbrev pub most_instructions : ℕ
most_instructions = 32

-- maximum size of a condition, in atoms; `true` and `false` count
abbrev pub most_atoms : ℕ
most_atoms = 256

-- maximum nesting of a condition's negations, and of the brackets of its text
abbrev pub most_open : ℕ
most_open = 64

-- maximum length of a location's name, in bytes
abbrev pub longest_name : ℕ
longest_name = 32

-- maximum length of a test's name, in bytes
abbrev pub longest_test_name : ℕ
longest_test_name = 64

-- minimum and maximum depth of a store buffer, in stores
abbrev pub least_depth : ℕ
least_depth = 1

abbrev pub most_depth : ℕ
most_depth = 32
