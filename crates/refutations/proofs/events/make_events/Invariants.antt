use Rattle.refutations.proofs.Vocabulary.{◌≡◌, ◌++◌, map, drop, [], events_from, bare}
use Rattle.refutations.proofs.events.make_events.Given as goal

abbrev pub invariant-loop-number : goal.invariant-loop-number
invariant-loop-number l =
    map bare (events_from 0 l.test.programs l.test.registers [])
    ≡ l.events.items ++ map bare (events_from l.number (drop l.number l.test.programs) l.test.registers [])

-- the events of one core, one by one
abbrev pub invariant-loop-e : goal.invariant-loop-e
invariant-loop-e l = l.initial.events.items ++ map bare l.e-items ≡ l.events.items ++ map bare (drop l.e-index l.e-items)
