-- Entries before and after a read, and the two parts of locked instructions with others between them.
use Rattle.std.specs.Prelude.{List, [], ◌∷◌, None, codes}
use Rattle.worked_examples.specs.Vocabulary.{Entry, Litmus, LR, LW, R, W}
use Rattle.worked_examples.specs.Written.{loc_x, loc_y, memory_action}

--   { x=3; y=4; }, whatever the programs
abbrev pub some_test : Litmus
some_test = record {
  name = codes "some";
  locations = codes "x" ∷ codes "y" ∷ [];
  words = 3 ∷ 4 ∷ [];
  registers = [];
  programs = [];
  condition = None;
}

--   P1:0 W x=5
--   P1:1 W x=6
--   P0:0 W y=10
--   P0:3 R x        what is due?
--   P0:1 W x=7      counts: it is before the read in its own program
--   P1:2 W x=8      doesn't: another core's
--   P0:2 W y=11     doesn't: another location
--   P0:4 W x=9      doesn't: after the read in both
abbrev pub writes_before : List Entry
writes_before = memory_action 1 0 W loc_x 5 ∷ memory_action 1 1 W loc_x 6 ∷ memory_action 0 0 W loc_y 10 ∷ []

abbrev pub read_of_x : Entry
read_of_x = memory_action 0 3 R loc_x 0

abbrev pub writes_after : List Entry
writes_after =
    memory_action 0 1 W loc_x 7 ∷ memory_action 1 2 W loc_x 8 ∷ memory_action 0 2 W loc_y 11 ∷ memory_action 0 4 W loc_x 9 ∷ []

--   P0:2 LR x=3, P1:2 LW x=4, P0:1 LW x=5, P1:3 R y=4, P0:2 LW x=6, P1:4 LR y=4, P0:3 W y=7
abbrev pub separated_pairs : List Entry
separated_pairs =
    memory_action 0 2 LR loc_x 3
    ∷ memory_action 1 2 LW loc_x 4
    ∷ memory_action 0 1 LW loc_x 5
    ∷ memory_action 1 3 R loc_y 4
    ∷ memory_action 0 2 LW loc_x 6
    ∷ memory_action 1 4 LR loc_y 4
    ∷ memory_action 0 3 W loc_y 7
    ∷ []

-- the first comes before the LW of its core and place, the last at the end
abbrev pub pairs_together : List Entry
pairs_together =
    memory_action 1 2 LW loc_x 4
    ∷ memory_action 0 1 LW loc_x 5
    ∷ memory_action 1 3 R loc_y 4
    ∷ memory_action 0 2 LR loc_x 3
    ∷ memory_action 0 2 LW loc_x 6
    ∷ memory_action 0 3 W loc_y 7
    ∷ memory_action 1 4 LR loc_y 4
    ∷ []
