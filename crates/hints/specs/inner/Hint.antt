-- How the words of a hint are shown: a byte that a terminal could take for a command is shown as a question mark.
use Rattle.std.specs.Prelude.{ℕ, ◌==◌, ◌||◌, if◌then◌else◌}
use Rattle.tso_terms.specs.Names.{is_printable}

-- maximum length of its words, in bytes: six come before them, and one after
abbrev pub most_hint_bytes : ℕ
most_hint_bytes = 249

-- a byte as it is shown: white space as a space, and what isn't printable as a question mark
unfoldable pub shown_byte : ℕ → ℕ
shown_byte byte = if is_printable byte then byte else (if ((byte == 9) || (byte == 10) || (byte == 13)) then 32 else 63)
