use Rattle.found_reasons.proofs.Vocabulary.{◌≡◌, true, sym, subst, list_any, IsIn, Ordered, is_edge, knowledge_of, relations_of}
use Rattle.found_reasons.proofs.Parting.{no-items}
use Rattle.found_reasons.proofs.Walking.{all-in-row}
use Rattle.found_reasons.proofs.cycle.find_cycle.Goals as goal

pub returns-then-is_empty : goal.returns-then-is_empty
returns-then-is_empty c =
    let edge = is_edge c.args.told.test.now (knowledge_of c.args.told) (relations_of c.args.acyclic) in
    subst (Ordered (λ x y. edge x y ≡ true)) c.requires.events
    (all-in-row edge c.args.told.events.now c.in_ok-sorted.sorted.row.items c.in_ok-sorted.sorted.rest.items c.in_ok-sorted.ensures
    (no-items c.in_ok-sorted.sorted.rest.items _ _ c.in_ok-sorted.sorted.rest.ok.0 c.is_empty.ensures c.if-is_empty.true))

pub walk_back-requires-clause-inside : goal.walk_back-requires-clause-inside
walk_back-requires-clause-inside c = λ x i.
    subst (λ es. IsIn es x) c.requires.events (c.in_ok-sorted.ensures.parted.in_rest x (subst (λ es. IsIn es x) c.deref.ensures.value i))

pub walk_back-requires-clause-stuck : goal.walk_back-requires-clause-stuck
walk_back-requires-clause-stuck c = λ x i.
    let edge = is_edge c.args.told.test.now (knowledge_of c.args.told) (relations_of c.args.acyclic) in
    subst (λ es. list_any (λ y. edge y x) es ≡ true) (sym c.deref.ensures.value)
    (c.in_ok-sorted.ensures.stuck x (subst (λ es. IsIn es x) c.deref.ensures.value i))
