use Rattle.refutation_checker.proofs.Vocabulary.{◌≡◌, drop, filter, list_any, same_event, can_be_last, facts_of, readings_of}
use Rattle.refutation_checker.proofs.claims.may_come_last.Given as goal

abbrev pub invariant-loop-v : goal.invariant-loop-v
invariant-loop-v l =
    list_any (same_event l.w)
    (filter (can_be_last l.told.test.now (facts_of l.told.facts.now) (readings_of l.told.readings.now) l.loc) (drop l.v-index l.v-items))
    ≡ list_any (same_event l.w) (filter (can_be_last l.told.test.now (facts_of l.told.facts.now) (readings_of l.told.readings.now) l.loc) l.v-items)
