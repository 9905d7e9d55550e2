-- What a choice leaves of the hardware, from what its core's action says: of one that is refused memory, nothing.
use Rattle.machine_core.proofs.Vocabulary.{set-get_or, ◌≡◌, ℕ, None, Result, Ok, Err, IfOk, OnOk, OnErr, List, slice_index_or, slice_set}
use Rattle.machine_core.proofs.Vocabulary.{refl, ap, ◌∙◌, Effect, MemoryAccess, Noted, BusModel, holder_of, Hardware, Processor, Turn}
use Rattle.machine_core.proofs.Vocabulary.{ChoiceAnswer, IsUndone, Acts, AreUnchanged, by_way}

pub acts-holder : {E : Type 0} (r : Result ChoiceAnswer E) (turn : Turn) (access : MemoryAccess)
    (does : ℕ → Processor → List ℕ → Effect) (p q : Processor) (b b' : BusModel) (noted noted' : Noted)
    → IfOk r (Acts turn access does p q b b' noted noted') → OnOk r (holder_of b' ≡ by_way turn.way (holder_of b) None)
acts-holder (Ok x) turn what does p q b b' noted noted' acts = acts.holder
acts-holder (Err e) turn what does p q b b' noted noted' acts = tt

pub undone : {P V E : Type 0} (r : Result V E) (m new : Hardware P) (i : ℕ) (p q : Processor)
    → p ≡ slice_index_or m.processors.items i p
    → new.processors.items ≡ slice_set m.processors.items i q
    → new.next ≡ m.next
    → OnErr r (AreUnchanged p q m.bus new.bus m.commits new.commits) → OnErr r (IsUndone m new)
undone (Ok x) m new i p q at processors next unchanged = tt
undone (Err e) m new i p q at processors next unchanged =
    let same : new.processors.items ≡ m.processors.items =
    processors ∙ ap (slice_set m.processors.items i) (unchanged.core ∙ at) ∙ set-get_or m.processors.items i p in
    record { state = rw (same, unchanged.bus, next) refl; commits = unchanged.commits; bus = unchanged.bus }
