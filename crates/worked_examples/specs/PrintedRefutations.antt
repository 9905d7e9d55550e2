-- Worked refutations: what is printed of the literature's small tests, of a lock and of a counter, byte for byte.
use Rattle.std.specs.Prelude.{ℕ, List, [], ◌∷◌, ◌++◌, codes}
use Rattle.tso_terms.specs.Thread.{entry}
use Rattle.tso_terms.specs.Condition.{LocClaim, RegClaim}
use Rattle.basic_laws.specs.Types.{Eax, Exists, NotExists, W}
use Rattle.tso_terms.specs.Litmus.{Litmus}
use Rattle.order_builder.specs.PrintedOrder.{printed_lines}
use Rattle.basic_laws.specs.Types.{R}
use Rattle.tso_terms.specs.Examples.{loc_x, loc_y}
use Rattle.possible_reads.specs.Facts.{Before}
use Rattle.lemma_refutations.specs.Refutations.{Node, Asks, FalseClaim, Globally, ReadsFrom}
use Rattle.lemma_refutations.specs.Worked.{counter_of_three, counts_two, crossed, lock_of_three, none_has_it, second_first_and_last}
use Rattle.lemma_refutations.specs.Worked.{exchanged_in_turn, two_have_it}
use Rattle.worked_examples.specs.PrintedExecutions.{asking}

-- message passing: the flag is read as set, and x as not yet stored
abbrev pub passing_lines : List ℕ
passing_lines = printed_lines
    (codes "Test MP"
    ∷ (codes "Never tso leaves=1"
    ∷ (codes "Asked exists true"
    ∷ (codes "Given P1:0 R y=1, P1:1 R x=0"
    ∷ (codes "Cycle P0:0 W x=1 po P0:1 W y=1 rf P1:0 R y=1 po P1:1 R x=0 fr P0:0 W x=1"
    ∷ (codes "Verdict No"
    ∷ []))))))

-- the same as JSON
abbrev pub passing_value : List ℕ
passing_value =
    codes "{\"answer\":\"never\",\"asked\":{\"kind\":\"exists\",\"truth\":true},\"leaves\":1,\"model\":\"tso\","
    ++ (codes "\"steps\":[{\"facts\":[\"P1:0 R y=1\",\"P1:1 R x=0\"],\"step\":\"given\"},"
    ++ (codes "{\"closing\":{\"cycle\":[{\"from\":\"P0:0 W x=1\",\"relation\":\"po\",\"to\":\"P0:1 W y=1\"},"
    ++ (codes "{\"from\":\"P0:1 W y=1\",\"relation\":\"rf\",\"to\":\"P1:0 R y=1\"},{\"from\":\"P1:0 R y=1\",\"relation\":\"po\",\"to\":\"P1:1 R x=0\"},"
    ++ (codes "{\"from\":\"P1:1 R x=0\",\"relation\":\"fr\",\"to\":\"P0:0 W x=1\"}],\"step\":\"cycle\"},\"depth\":0,\"step\":\"leaf\"}],"
    ++ codes "\"test\":\"MP\",\"verdict\":\"No\"}\n"))))

-- a locked addition reads 0, and yet a store of another core is lost
abbrev pub lost_lines : List ℕ
lost_lines = printed_lines
    (codes "Test between"
    ∷ (codes "Never tso leaves=1"
    ∷ (codes "Asked exists true"
    ∷ (codes "Given P0:0 LR x=0, x=0"
    ∷ (codes "Between P0:0 LR x=0 P1:0 W x=1 P0:0 LW x=0"
    ∷ (codes "Verdict No"
    ∷ []))))))

-- ---- three cores that take one lock

abbrev pub two_asked : Litmus
two_asked = asking lock_of_three Exists two_have_it

-- two of them have it: of a question's cases two are closed for one reason, and what is left is closed too
abbrev pub two_lines : List ℕ
two_lines = printed_lines
    (codes "Test lock"
    ∷ (codes "Never tso leaves=2"
    ∷ (codes "Asked exists true"
    ∷ (codes "Case part P0:0 LR x=0, P1:0 LR x=0 or P0:0 LR x=0, P2:0 LR x=0: No source P0:0 LR x=0"
    ∷ (codes "So part P1:0 LR x=0, P2:0 LR x=0: No source P1:0 LR x=0"
    ∷ (codes "Verdict No"
    ∷ []))))))

-- the same with a lemma
abbrev pub lemma_lines : List ℕ
lemma_lines = printed_lines
    (codes "Test lock"
    ∷ (codes "Never tso leaves=4"
    ∷ (codes "Asked exists true"
    ∷ (codes "Lemma 1 P0:0 LR x=0, P1:0 LR x=0"
    ∷ (codes " No source P0:0 LR x=0"
    ∷ (codes "Case part P0:0 LR x=0, P1:0 LR x=0: By lemma 1"
    ∷ (codes "Case part P0:0 LR x=0, P2:0 LR x=0: No source P0:0 LR x=0"
    ∷ (codes "So part P1:0 LR x=0, P2:0 LR x=0: No source P1:0 LR x=0"
    ∷ (codes "Verdict No"
    ∷ [])))))))))

-- none of them has it: nobody is left who reads the initial word
abbrev pub none_asked : Litmus
none_asked = asking lock_of_three NotExists none_has_it

abbrev pub none_lines : List ℕ
none_lines = printed_lines
    (codes "Test lock"
    ∷ (codes "Never tso leaves=1"
    ∷ (codes "Asked ~exists true"
    ∷ (codes "Given P0:0 LR x=1, P1:0 LR x=1, P2:0 LR x=1"
    ∷ (codes "No reader x initial"
    ∷ (codes "Verdict Ok"
    ∷ []))))))

-- ---- others

-- a counter that counts 2 of 3
abbrev pub count_asked : Litmus
count_asked = asking counter_of_three Exists counts_two

abbrev pub count_lines : List ℕ
count_lines = printed_lines
    (codes "Test counter"
    ∷ (codes "Never tso leaves=1"
    ∷ (codes "Asked exists true"
    ∷ (codes "False x=3"
    ∷ (codes "Verdict No"
    ∷ [])))))

-- a location to which two cores store 1 and 2, and which is to have 3: both are left
abbrev pub words_asked : Litmus
words_asked = asking crossed Exists (LocClaim 0 3)

abbrev pub words_lines : List ℕ
words_lines = printed_lines
    (codes "Test 2+2W"
    ∷ (codes "Never tso leaves=1"
    ∷ (codes "Asked exists true"
    ∷ (codes "False x=1|2"
    ∷ (codes "Verdict No"
    ∷ [])))))

-- a counter of which one core of three is to find 3: no value is left to what it finds
abbrev pub found_asked : Litmus
found_asked = asking counter_of_three Exists (RegClaim 0 Eax 3)

abbrev pub found_lines : List ℕ
found_lines = printed_lines
    (codes "Test counter"
    ∷ (codes "Never tso leaves=1"
    ∷ (codes "Asked exists true"
    ∷ (codes "Given P0:0 LR x=3"
    ∷ (codes "False 0:EAX="
    ∷ (codes "Verdict No"
    ∷ []))))))

abbrev pub found_value : List ℕ
found_value =
    codes "{\"answer\":\"never\",\"asked\":{\"kind\":\"exists\",\"truth\":true},\"leaves\":1,\"model\":\"tso\","
    ++ (codes "\"steps\":[{\"facts\":[\"P0:0 LR x=3\"],\"step\":\"given\"},"
    ++ (codes "{\"closing\":{\"places\":{\"0:EAX\":[]},\"step\":\"false\"},\"depth\":0,\"step\":\"leaf\"}],"
    ++ codes "\"test\":\"counter\",\"verdict\":\"No\"}\n"))

-- what is asked of both is false
abbrev pub false_alone : List Node
false_alone = FalseClaim ∷ []

-- a word of an exchange that nobody reads, and that isn't the last one
abbrev pub turns_asked : Litmus
turns_asked = asking exchanged_in_turn Exists second_first_and_last

abbrev pub turns_lines : List ℕ
turns_lines = printed_lines
    (codes "Test turns"
    ∷ (codes "Never tso leaves=1"
    ∷ (codes "Asked exists true"
    ∷ (codes "Given P1:0 LR x=0, x=2"
    ∷ (codes "No reader P0:0 LW x=1"
    ∷ (codes "Verdict No"
    ∷ []))))))

-- n6's neighbour, behind a question that isn't needed: two cases with parts of their own
abbrev pub n6_part : List Node
n6_part =
    ReadsFrom (entry 0 1 R loc_x 0)
    ∷ (Globally (entry 1 0 W loc_y 0 ∷ (entry 1 1 W loc_x 0 ∷ (entry 0 1 R loc_x 0 ∷ (entry 0 2 R loc_y 0 ∷ [])))) ∷ [])

abbrev pub n6_tree : List Node
n6_tree = Asks (Before (entry 0 0 W loc_x 0) (entry 1 1 W loc_x 0)) ∷ (n6_part ++ n6_part)

abbrev pub n6_lines : List ℕ
n6_lines = printed_lines
    (codes "Test n6"
    ∷ (codes "Never tso leaves=2"
    ∷ (codes "Asked ~exists true"
    ∷ (codes "Given P0:1 R x=2, P0:2 R y=0"
    ∷ (codes "Case P0:0 W x=1 before P1:1 W x=2"
    ∷ (codes " So P0:1 R x=2 from P1:1 W x=2: Cycle P1:0 W y=2 po P1:1 W x=2 rf P0:1 R x=2 po P0:2 R y=0 fr P1:0 W y=2"
    ∷ (codes "Case P1:1 W x=2 before P0:0 W x=1"
    ∷ (codes " So P0:1 R x=2 from P1:1 W x=2: Cycle P1:0 W y=2 po P1:1 W x=2 rf P0:1 R x=2 po P0:2 R y=0 fr P1:0 W y=2"
    ∷ (codes "Endcases"
    ∷ (codes "Verdict Ok"
    ∷ []))))))))))
