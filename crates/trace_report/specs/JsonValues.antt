-- Values that a trace is made of: lists of numbers and texts, and `null` where there is nothing to tell.
use Rattle.std.specs.Prelude.{ℕ, List, map, Option, Some, None}
use Rattle.trace_report.specs.Vocabulary.{array, count, Data, items_of, null, string}

-- numbers, and texts, in a list
abbrev pub array_of_numbers : List ℕ → Data
array_of_numbers numbers = array (items_of (map count numbers))

-- a text, or `null`
abbrev pub text_or_null : Option (List ℕ) → Data
text_or_null None = null
text_or_null (Some text) = string text

abbrev pub array_of_texts : List (List ℕ) → Data
array_of_texts list = array (items_of (map string list))
