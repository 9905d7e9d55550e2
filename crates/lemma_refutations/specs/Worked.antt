-- Worked refutations: the literature's small tests, a lock and a counter of three cores, and why what is asked of them can't be.
-- (Herding Cats, 2014; x86-TSO, 2010.)
use Rattle.std.specs.Prelude.{ℕ, true, List, [], ◌∷◌, Some, None, codes}
use Rattle.tso_terms.specs.Litmus.{Litmus}
use Rattle.tso_terms.specs.Thread.{entry}
use Rattle.tso_terms.specs.Condition.{Claim, RegClaim, LocClaim, AndClaim, OrClaim}
use Rattle.tso_terms.specs.Examples.{loc_x, loc_y}
use Rattle.basic_laws.specs.Types.{Eax, Instr, StoreImm, Xchg, Xadd, Entry, R, W, LR, LW}
use Rattle.relational_model.specs.WorkedCandidates.{on_x_and_y, two_cores, one_in_eax}
use Rattle.possible_reads.specs.Facts.{Returns}
use Rattle.lemma_refutations.specs.Refutations.{Node, Lemma, ReadsFrom, IsReadBy, HasCase, Globally, Between, FalseClaim, ByLemma}

-- store buffering, both loads reading 0: each before the other core's store, and after its own core's one
abbrev pub sb_refuted : List Node
sb_refuted =
    Globally (entry 0 0 W loc_x 0 ∷ (entry 0 1 R loc_y 0 ∷ (entry 1 0 W loc_y 0 ∷ (entry 1 1 R loc_x 0 ∷ [])))) ∷ []

-- with a fence in each core the same cycle, of fences in place of program order
abbrev pub fenced_refuted : List Node
fenced_refuted =
    Globally (entry 0 0 W loc_x 0 ∷ (entry 0 2 R loc_y 0 ∷ (entry 1 0 W loc_y 0 ∷ (entry 1 2 R loc_x 0 ∷ [])))) ∷ []

-- message passing: the flag y is read as set, and x as not yet stored
abbrev pub passing_refuted : List Node
passing_refuted =
    Globally (entry 0 0 W loc_x 0 ∷ (entry 0 1 W loc_y 0 ∷ (entry 1 0 R loc_y 0 ∷ (entry 1 1 R loc_x 0 ∷ [])))) ∷ []

-- two cores store 1 to their own location and 2 to the other's, and each location is left with 1: so its 1 is the last there
abbrev pub crossed : Litmus
crossed = on_x_and_y (codes "2+2W")
    ((StoreImm loc_x 1 ∷ (StoreImm loc_y 2 ∷ [])) ∷ ((StoreImm loc_y 1 ∷ (StoreImm loc_x 2 ∷ [])) ∷ [])) two_cores

abbrev pub first_ones_last : Claim
first_ones_last = AndClaim (LocClaim 0 1) (LocClaim 1 1)

abbrev pub crossed_refuted : List Node
crossed_refuted =
    Globally (entry 0 0 W loc_x 0 ∷ (entry 0 1 W loc_y 0 ∷ (entry 1 0 W loc_y 0 ∷ (entry 1 1 W loc_x 0 ∷ [])))) ∷ []

-- a locked addition of 0 reads 0, and yet a store of another core is lost
abbrev pub lost_refuted : List Node
lost_refuted = Between (entry 0 0 LR loc_x 0) (entry 1 0 W loc_x 0) (entry 0 0 LW loc_x 0) ∷ []

-- ---- three cores that do one locked instruction each on x, which begins as 0, with 1 in EAX

abbrev pub each_of_three : List ℕ → Instr → Litmus
each_of_three name instruction = record {
  name = name;
  locations = codes "x" ∷ [];
  words = 0 ∷ [];
  registers = one_in_eax ∷ (one_in_eax ∷ (one_in_eax ∷ []));
  programs = (instruction ∷ []) ∷ ((instruction ∷ []) ∷ ((instruction ∷ []) ∷ []));
  condition = None;
}

-- a core has the lock if its XCHG read 0
abbrev pub lock_of_three : Litmus
lock_of_three = each_of_three (codes "lock") (Xchg loc_x Eax)

abbrev pub counter_of_three : Litmus
counter_of_three = each_of_three (codes "counter") (Xadd loc_x Eax)

abbrev pub load_part : ℕ → Entry
load_part core = entry core 0 LR loc_x 0

abbrev pub both_read : ℕ → ℕ → ℕ → Claim
both_read core other value = AndClaim (RegClaim core Eax value) (RegClaim other Eax value)

-- two cores have the lock
abbrev pub two_have_it : Claim
two_have_it = OrClaim (both_read 0 1 0) (OrClaim (both_read 0 2 0) (both_read 1 2 0))

-- in each case the initial word is read by both, so there is nothing that one of them can read from
abbrev pub two_refuted : List Node
two_refuted = HasCase 0 ∷ (ReadsFrom (load_part 0) ∷ (ReadsFrom (load_part 0) ∷ (ReadsFrom (load_part 1) ∷ [])))

-- the same with the first case as a lemma
abbrev pub first_two : List Lemma
first_two = record { facts = Returns (load_part 0) 0 true ∷ (Returns (load_part 1) 0 true ∷ []); tree = ReadsFrom (load_part 0) ∷ [] } ∷ []

abbrev pub two_refuted_by_lemma : List Node
two_refuted_by_lemma = HasCase 0 ∷ (ByLemma 0 ∷ (ReadsFrom (load_part 0) ∷ (ReadsFrom (load_part 1) ∷ [])))

-- no core has it: nobody is left who reads the initial word
abbrev pub none_has_it : Claim
none_has_it = AndClaim (both_read 0 1 1) (RegClaim 2 Eax 1)

abbrev pub none_refuted : List Node
none_refuted = IsReadBy 0 None ∷ []

-- a counter that counts 2 of 3
abbrev pub counts_two : Claim
counts_two = LocClaim 0 2

abbrev pub counts_two_refuted : List Node
counts_two_refuted = FalseClaim ∷ []

-- two cores of a counter get one number: both from the third, and so neither
abbrev pub two_refused : List Node
two_refused = ReadsFrom (load_part 0) ∷ []

-- ---- two cores exchange 1 and 2 for x: the second reads 0, and its 2 is left

abbrev pub exchanged_in_turn : Litmus
exchanged_in_turn = record {
  name = codes "turns";
  locations = codes "x" ∷ [];
  words = 0 ∷ [];
  registers = one_in_eax ∷ ((2 ∷ (0 ∷ (0 ∷ (0 ∷ (0 ∷ (0 ∷ [])))))) ∷ []);
  programs = (Xchg loc_x Eax ∷ []) ∷ ((Xchg loc_x Eax ∷ []) ∷ []);
  condition = None;
}

abbrev pub second_first_and_last : Claim
second_first_and_last = AndClaim (RegClaim 1 Eax 0) (LocClaim 0 2)

-- nobody reads the first one's 1, which isn't the last word either
abbrev pub turns_refuted : List Node
turns_refuted = IsReadBy 0 (Some (entry 0 0 LW loc_x 0)) ∷ []

-- ---- a word that never gets small again

-- 1 is loaded after an addition of 2
abbrev pub small_again : Claim
small_again = RegClaim 0 Eax 1

-- whatever order the additions have: the one that is read leaves at least 2
abbrev pub small_again_refuted : List Node
small_again_refuted = FalseClaim ∷ []
