use Rattle.order_breaches.proofs.Vocabulary.{ap, sym, ◌∙◌, slice_get-get_or, kept_in, slot_of}
use Rattle.order_breaches.proofs.Coming.{index-within, found-none, found-other}
use Rattle.order_breaches.proofs.index.find.Goals as goal

pub bounds-list-i : goal.bounds-list-i
bounds-list-i c =
    let there = ap (λ n. kept_in c.args.slots.now n) (sym c.slot.ensures) ∙ sym c.kept.ensures ∙ c.in-Some.is in
    index-within c.args.list.now c.args.slots.now c.requires (slot_of c.args.x.now) c.in-Some.i there

pub returns-in-Some-clause-found : goal.returns-in-Some-clause-found
returns-in-Some-clause-found c =
    let there = ap (λ n. kept_in c.args.slots.now n) (sym c.slot.ensures) ∙ sym c.kept.ensures ∙ c.in-Some.is in
    let within = index-within c.args.list.now c.args.slots.now c.requires (slot_of c.args.x.now) c.in-Some.i there in
    (_, slice_get-get_or c.args.list.now c.in-Some.i _ within, sym c.is_same_but_value.ensures ∙ c.if-is_same_but_value.true)

pub returns-in_default-clause-none : goal.returns-in_default-clause-none
returns-in_default-clause-none c _ =
    let there = ap (λ n. kept_in c.args.slots.now n) (sym c.slot.ensures) ∙ sym c.kept.ensures ∙ c.in-Some.is in
    let within = index-within c.args.list.now c.args.slots.now c.requires (slot_of c.args.x.now) c.in-Some.i there in
    let other = sym c.is_same_but_value.ensures ∙ c.if-is_same_but_value.false in
    found-other c.args.list.now c.args.slots.now c.requires c.args.x.now _ c.in-Some.i there (slice_get-get_or c.args.list.now c.in-Some.i _ within) other

pub returns-in_default-2-clause-none : goal.returns-in_default-2-clause-none
returns-in_default-2-clause-none c _ =
    found-none c.args.list.now c.args.slots.now c.requires c.args.x.now
    (ap (λ n. kept_in c.args.slots.now n) (sym c.slot.ensures) ∙ sym c.kept.ensures ∙ c.in_default.is)
