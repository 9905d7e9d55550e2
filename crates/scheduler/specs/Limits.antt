-- How many choices a text may spell. `seed N M` says M choices in three words, so a text's length alone gives no bound.
use Rattle.std.specs.Prelude.{ℕ}

-- maximum number of choices of a text
abbrev pub most_choices : ℕ
most_choices = 100000
