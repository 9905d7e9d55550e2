-- Worked refutations: the literature's small tests, what is asked of each, and why it can't be. (Herding Cats, 2014; x86-TSO, 2010.)
use Rattle.std.specs.Prelude.{List, [], ◌∷◌}
use Rattle.tso_terms.specs.Thread.{entry}
use Rattle.tso_terms.specs.Condition.{Claim, RegClaim, LocClaim, AndClaim}
use Rattle.tso_terms.specs.Examples.{loc_x, loc_y}
use Rattle.basic_laws.specs.Types.{Eax, Ebx, Entry, R, W, LR, LW}
use Rattle.refutation_laws.specs.Refutations.{Node, ReadsFrom, ComesFirst, OnLocation, Globally, Between, FalseClaim}

-- store buffering: both loads read 0
abbrev pub both_zero : Claim
both_zero = AndClaim (RegClaim 0 Eax 0) (RegClaim 1 Eax 0)

-- under sequential consistency: each load before the other core's store, and after its own core's one
abbrev pub sb_refuted : List Node
sb_refuted =
    ReadsFrom (entry 0 1 R loc_y 0)
    ∷ (ReadsFrom (entry 1 1 R loc_x 0)
    ∷ (Globally
    (entry 0 0 W loc_x 0 ∷ (entry 0 1 R loc_y 0 ∷ (entry 1 0 W loc_y 0 ∷ (entry 1 1 R loc_x 0 ∷ []))))
    ∷ (FalseClaim ∷ (FalseClaim ∷ []))))

-- with a fence in each core the same cycle, of fences in place of program order
abbrev pub fenced_refuted : List Node
fenced_refuted =
    ReadsFrom (entry 0 2 R loc_y 0)
    ∷ (ReadsFrom (entry 1 2 R loc_x 0)
    ∷ (Globally
    (entry 0 0 W loc_x 0 ∷ (entry 0 2 R loc_y 0 ∷ (entry 1 0 W loc_y 0 ∷ (entry 1 2 R loc_x 0 ∷ []))))
    ∷ (FalseClaim ∷ (FalseClaim ∷ []))))

-- message passing: the flag y is read as set, and x as not yet stored
abbrev pub passed : Claim
passed = AndClaim (RegClaim 1 Eax 1) (RegClaim 1 Ebx 0)

abbrev pub passing_refuted : List Node
passing_refuted =
    ReadsFrom (entry 1 0 R loc_y 0)
    ∷ (FalseClaim
    ∷ (ReadsFrom (entry 1 1 R loc_x 0)
    ∷ (Globally
    (entry 0 0 W loc_x 0 ∷ (entry 0 1 W loc_y 0 ∷ (entry 1 0 R loc_y 0 ∷ (entry 1 1 R loc_x 0 ∷ []))))
    ∷ (FalseClaim ∷ []))))

-- independent reads of independent writes: the readers see the two stores in opposite orders
abbrev pub opposite : Claim
opposite = AndClaim (AndClaim (RegClaim 2 Eax 1) (RegClaim 2 Ebx 0)) (AndClaim (RegClaim 3 Eax 1) (RegClaim 3 Ebx 0))

abbrev pub independent_refuted : List Node
independent_refuted =
    ReadsFrom (entry 2 0 R loc_x 0)
    ∷ (FalseClaim
    ∷ (ReadsFrom (entry 2 1 R loc_y 0)
    ∷ (ReadsFrom (entry 3 0 R loc_y 0)
    ∷ (FalseClaim
    ∷ (ReadsFrom (entry 3 1 R loc_x 0)
    ∷ (Globally
    (entry 0 0 W loc_x 0
    ∷ (entry 2 0 R loc_x 0 ∷ (entry 2 1 R loc_y 0 ∷ (entry 1 0 W loc_y 0 ∷ (entry 3 0 R loc_y 0 ∷ (entry 3 1 R loc_x 0 ∷ []))))))
    ∷ (FalseClaim ∷ (FalseClaim ∷ []))))))))

-- n6's neighbour: the core reads x from the other core's store, in place of its own, and y as it was
abbrev pub other_first : Claim
other_first = AndClaim (RegClaim 0 Eax 2) (RegClaim 0 Ebx 0)

abbrev pub n6_refuted : List Node
n6_refuted =
    ReadsFrom (entry 0 1 R loc_x 0)
    ∷ (FalseClaim
    ∷ (FalseClaim
    ∷ (ReadsFrom (entry 0 2 R loc_y 0)
    ∷ (Globally
    (entry 1 0 W loc_y 0 ∷ (entry 1 1 W loc_x 0 ∷ (entry 0 1 R loc_x 0 ∷ (entry 0 2 R loc_y 0 ∷ []))))
    ∷ (FalseClaim ∷ [])))))

-- a locked addition of 0 reads 0, and yet a store of another core is lost
abbrev pub lost : Claim
lost = AndClaim (RegClaim 0 Eax 0) (LocClaim 0 0)

abbrev pub load_part : Entry
load_part = entry 0 0 LR loc_x 0

abbrev pub store_part : Entry
store_part = entry 0 0 LW loc_x 0

abbrev pub store : Entry
store = entry 1 0 W loc_x 0

-- a refutation with each kind of node but `Globally`: the addition reads the initial word, its own sum, or what is stored
abbrev pub between_refuted : List Node
between_refuted =
    ReadsFrom load_part
    ∷ (ComesFirst store_part store
    ∷ (FalseClaim ∷ (Between load_part store store_part ∷ (OnLocation (load_part ∷ (store_part ∷ [])) ∷ (FalseClaim ∷ [])))))

-- a load that doesn't see its own core's store: a cycle of uniproc
abbrev pub not_seen : Claim
not_seen = RegClaim 0 Eax 0

abbrev pub unseen_refuted : List Node
unseen_refuted =
    ReadsFrom (entry 0 1 R loc_x 0) ∷ (OnLocation (entry 0 0 W loc_x 0 ∷ (entry 0 1 R loc_x 0 ∷ [])) ∷ (FalseClaim ∷ []))

-- a value that nothing writes: false whatever the load reads from
abbrev pub unwritten : Claim
unwritten = RegClaim 0 Eax 2

abbrev pub unwritten_refuted : List Node
unwritten_refuted = ReadsFrom (entry 0 1 R loc_x 0) ∷ (FalseClaim ∷ (FalseClaim ∷ []))

-- n6: the core reads x from its own store and y as it was, and its store reaches memory last
abbrev pub own_last : Claim
own_last = AndClaim (AndClaim (RegClaim 0 Eax 1) (RegClaim 0 Ebx 0)) (LocClaim 0 1)
