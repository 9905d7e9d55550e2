use Rattle.tso_report.specs.inner.Objects.{HasMembers}
use Rattle.search_report.proofs.Vocabulary.{◌≡◌, ◌∙◌, ◌+◌, ◌-◌, ◌<◌, [], arith, ap, refl, subst, sym, drop, length, slice_index_or, put}
use Rattle.search_report.proofs.Vocabulary.{map, filter, string, array, items_of, printed_entry, writes_to, with_coherence}
use Rattle.search_report.proofs.Vocabulary.{coherence_members_by}
use Rattle.search_report.proofs.ShownReasons.{none-go, member-is, members-more}
use Rattle.search_report.proofs.reasons_as_json.coherence_value.Goals as goal

pub loop-number-preserved-then-has_write : goal.loop-number-preserved-then-has_write
loop-number-preserved-then-has_write c =
    let t = c.args.test.now in
    let order = c.args.order.now in
    let n = c.loop-number.number - 1 in
    let name = slice_index_or t.locations n [] in
    let ms = coherence_members_by t order c.loop-number.number (drop c.loop-number.number t.locations) in
    let next : c.loop-number.number ≡ n + 1 = omega (arith, c.loop-number-test.true) in
    let within : n < length t.locations = omega (arith, c.loop-number-test.true, c.loop-number.auto.number, c.locations-number.ensures.value) in
    subst (HasMembers c.member-members.result)
    (members-more t order t.locations n c.loop-number.number ms _ within next
    (ap (λ k. put k (array (items_of (map (λ v. string (printed_entry t v)) (filter (writes_to n) order)))) ms) c.location_name.ensures
    ∙ sym (member-is t name (writes_to n) order ms (sym c.has_write.ensures ∙ c.if-has_write.true))) refl)
    (c.member-members.ensures _ _ c.loop-number.invariant c.writes_value-writes.ensures)

pub loop-number-preserved : goal.loop-number-preserved
loop-number-preserved c =
    let t = c.args.test.now in
    let order = c.args.order.now in
    let n = c.loop-number.number - 1 in
    let ms = coherence_members_by t order c.loop-number.number (drop c.loop-number.number t.locations) in
    let next : c.loop-number.number ≡ n + 1 = omega (arith, c.loop-number-test.true) in
    let within : n < length t.locations = omega (arith, c.loop-number-test.true, c.loop-number.auto.number, c.locations-number.ensures.value) in
    subst (HasMembers c.loop-number.members)
    (members-more t order t.locations n c.loop-number.number ms ms within next
    (sym (ap (λ ws. with_coherence t (slice_index_or t.locations n []) ws ms)
    (none-go (writes_to n) order (sym c.has_write.ensures ∙ c.if-has_write.false)))) refl)
    c.loop-number.invariant
