use Rattle.found_reasons.proofs.Vocabulary.{◌≡◌, ◌+◌, drop, knowledge_of}
use Rattle.found_reasons.specs.inner.Cases as spec
use Rattle.found_reasons.proofs.leaves.find_between.Given as goal

abbrev pub invariant-loop-r : goal.invariant-loop-r
invariant-loop-r l =
    spec.first_write_between l.told.test.now (knowledge_of l.told) l.told.events.now l.told.events.now
    ≡ spec.first_write_between l.told.test.now (knowledge_of l.told) (drop l.r-index l.told.events.now) l.told.events.now

-- what is left of the store parts of r, and the load parts behind it
abbrev pub invariant-loop-w : goal.invariant-loop-w
invariant-loop-w l =
    spec.first_write_between l.told.test.now (knowledge_of l.told) l.told.events.now l.told.events.now
    ≡ spec.first_of_two (spec.write_between_from l.told.test.now (knowledge_of l.told) l.r (drop l.w-index l.told.events.now) l.told.events.now)
    (spec.first_write_between l.told.test.now (knowledge_of l.told) (drop (l.r-index + 1) l.told.events.now) l.told.events.now)

abbrev pub invariant-loop-v : goal.invariant-loop-v
invariant-loop-v l =
    spec.first_write_between l.told.test.now (knowledge_of l.told) l.told.events.now l.told.events.now
    ≡ spec.first_of_two (spec.first_of_two
    (spec.write_between_these l.told.test.now (knowledge_of l.told) l.r l.w (drop l.v-index l.told.events.now))
    (spec.write_between_from l.told.test.now (knowledge_of l.told) l.r (drop (l.w-index + 1) l.told.events.now) l.told.events.now))
    (spec.first_write_between l.told.test.now (knowledge_of l.told) (drop (l.r-index + 1) l.told.events.now) l.told.events.now)
