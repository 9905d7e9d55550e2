-- How long an input may be, as a plain number: it bounds what is read, and the room for it.
use Rattle.std.specs.Prelude.{ℕ}

-- maximum length of an input, in bytes
abbrev pub longest_input : ℕ
longest_input = 1048576
