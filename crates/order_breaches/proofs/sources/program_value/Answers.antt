use Rattle.order_breaches.proofs.Vocabulary.{ap, sym, ◌∙◌, get_or_from_slice_get}
use Rattle.order_breaches.proofs.Actions.{same_but_value-parts, value-at, looked-up}
use Rattle.order_breaches.proofs.Coming.{index-none-twice}
use Rattle.order_breaches.proofs.sources.program_value.Goals as goal

pub returns-in-Some : goal.returns-in-Some
returns-in-Some c _ =
    let e = c.in-Some.ensures.found in
    ap (λ z. z.value) (get_or_from_slice_get c.args.made.now c.in-Some.i e.0 _ e.1)
    ∙ sym (value-at c.args.made.now (index-none-twice c.args.made.now c.args.slots.now c.requires.index) c.in-Some.i e.0 e.1)
    ∙ looked-up e.0 c.args.x.now c.args.made.now (same_but_value-parts e.0 c.args.x.now e.2).action
