-- How the reader goes about one item: the grammar and the refusals as functions of its words, with the room that is left.
use Rattle.std.specs.Prelude.{◌-◌, ◌+◌, ℕ, List, [], ◌∷◌, length, take, codes, slice_index, Option, Some, None, Result, Ok, Err, ◌==◌, if◌then◌else◌}
use Rattle.std.specs.Str.{bytes_eq}
use Rattle.tso_terms.specs.declared.choice.Choice.{Choice}
use Rattle.scheduler.specs.declared.fault.ChoiceFault.{ChoiceFault}
use Rattle.scheduler.specs.declared.fault.ChoiceFault.TheVariants.{BadWord, NoSuchCore, TooMany}
use Rattle.scheduler.specs.declared.item.ChoiceKind.{ChoiceKind}
use Rattle.scheduler.specs.declared.item.ChoiceKind.TheVariants.{Step, Drain}
use Rattle.scheduler.specs.declared.item.ChoiceItem.{ChoiceItem}
use Rattle.scheduler.specs.declared.item.ChoiceItem.TheVariants.{One, Seeded}
use Rattle.tso_terms.specs.inner.Decimals.{number_up_to}
use Rattle.scheduler.specs.Words.{is_numeral}
use Rattle.scheduler.specs.Seeds.{seeded_choices}
use Rattle.tso_terms.specs.declared.choice.Choice.TheVariants as choice

-- the choices of an item
abbrev pub made_of : ℕ → ChoiceItem → List Choice
made_of cores (One choice) = choice ∷ []
made_of cores (Seeded seed count) = seeded_choices cores seed count

-- the number of words of an item
abbrev pub words_in : ChoiceItem → ℕ
words_in (One choice) = 1
words_in (Seeded seed count) = 3

-- ---- a step or a drain
unfoldable pub choice_kind_of : ℕ → Option ChoiceKind
choice_kind_of letter = if letter == 115 then Some Step else if letter == 100 then Some Drain else None

abbrev pub choice_by : ChoiceKind → ℕ → Choice
choice_by Step core = choice.Step (record { 0 = core })
choice_by Drain core = choice.Drain (record { 0 = core })

abbrev pub one_at : ℕ → ℕ → ChoiceKind → Option ℕ → Result ChoiceItem ChoiceFault
one_at room number action None = Err (NoSuchCore number)
one_at room number action (Some core) = if room == 0 then Err (TooMany number) else Ok (One (choice_by action core))

abbrev pub one_from : ℕ → ℕ → ℕ → List ℕ → Option ChoiceKind → Result ChoiceItem ChoiceFault
one_from cores room number digits None = Err (BadWord number)
one_from cores room number digits (Some action) =
    if is_numeral digits then one_at room number action (number_up_to (cores - 1) digits) else Err (BadWord number)

-- the item of a word that isn't `seed`: its last byte is the letter
unfoldable pub one_of : ℕ → ℕ → ℕ → List ℕ → Result ChoiceItem ChoiceFault
one_of cores room number word = one_from cores room number (take (length word - 1) word) (choice_kind_of (slice_index word (length word - 1)))

-- ---- the choices of a seed
unfoldable pub seed_of : List ℕ → Option ℕ
seed_of word = if is_numeral word then number_up_to 18446744073709551615 word else None

abbrev pub seeded_at : ℕ → ℕ → ℕ → Option ℕ → Result ChoiceItem ChoiceFault
seeded_at room number seed None = Err (TooMany number)
seeded_at room number seed (Some count) = Ok (Seeded seed count)

abbrev pub seeded_from : ℕ → ℕ → Option ℕ → List ℕ → Result ChoiceItem ChoiceFault
seeded_from room number None count = Err (BadWord (number + 1))
seeded_from room number (Some seed) count =
    if is_numeral count then seeded_at room number seed (number_up_to room count) else Err (BadWord (number + 2))

-- the item of `seed` and the words after it
unfoldable pub seeded_of : ℕ → ℕ → List (List ℕ) → Result ChoiceItem ChoiceFault
seeded_of room number [] = Err (BadWord number)
seeded_of room number (seed ∷ []) = Err (BadWord number)
seeded_of room number (seed ∷ count ∷ rest) = seeded_from room number (seed_of seed) count

-- the item of a word and the words after it, where there is room for so many choices and the word has this number
unfoldable pub item_of : ℕ → ℕ → ℕ → List ℕ → List (List ℕ) → Result ChoiceItem ChoiceFault
item_of cores room number word rest = if bytes_eq word (codes "seed") then seeded_of room number rest else one_of cores room number word
