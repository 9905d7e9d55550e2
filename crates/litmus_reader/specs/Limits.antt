-- How long a text may be; the limits of a test itself are those of the model.
use Rattle.std.specs.Prelude.{ℕ}

-- maximum length of a test text, in bytes
abbrev pub longest_text : ℕ
longest_text = 65536
