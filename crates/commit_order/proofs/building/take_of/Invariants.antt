use Rattle.commit_order.proofs.Vocabulary.{◌≡◌, ◌++◌, take, drop, first_of_core, others_of}
use Rattle.commit_order.proofs.building.take_of.Given as goal

-- none of those passed is of the core
abbrev pub invariant-loop-i : goal.invariant-loop-i
invariant-loop-i l =
    (first_of_core l.core.0 l.fn.entries.items ≡ first_of_core l.core.0 (drop l.i l.entries.items))
    × (others_of l.core.0 l.fn.entries.items ≡ take l.i l.entries.items ++ others_of l.core.0 (drop l.i l.entries.items))
    × (l.entries.items ≡ l.fn.entries.items)
