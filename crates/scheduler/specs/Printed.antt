-- The printed text of choices, in the form in which choices are read: what one command prints another can be given.
use Rattle.std.specs.Prelude.{ℕ, List, [], ◌∷◌, ◌++◌, codes}
use Rattle.std.specs.Fmt.{decimal}
use Rattle.basic_laws.specs.Types.{Choice, Step, Drain}

-- a choice: `0s` for a step of core 0, `0d` for its drain
abbrev pub printed_choice : Choice → List ℕ
printed_choice (Step core) = decimal core.0 ++ codes "s"
printed_choice (Drain core) = decimal core.0 ++ codes "d"

-- choices after others, each after a space
abbrev pub printed_after : List Choice → List ℕ
printed_after [] = []
printed_after (c ∷ cs) = 32 ∷ (printed_choice c ++ printed_after cs)

-- choices in their order, with single spaces between them: `0s 1d`
abbrev pub printed_choices : List Choice → List ℕ
printed_choices [] = []
printed_choices (c ∷ cs) = printed_choice c ++ printed_after cs
