use Rattle.order_breaches.proofs.Vocabulary.{length, arith, sym, ◌∙◌, subst, Ascends, EntriesAreWithin}
use Rattle.order_breaches.proofs.Made.{reads-few, reading-ascends, reading-within, made-ascends, made-within}
use Rattle.order_breaches.proofs.layout.lay_out.Goals as goal

pub made_entries-requires : goal.made_entries-requires
made_entries-requires g c =
    let t = c.args.test.now in
    let few = reads-few (length t.locations) t.programs c.know_limits.ensures.programs_fit in
    let cores = c.know_limits.ensures.cores in
    omega (arith, few, cores)

pub index_of-requires-clause-ascends : goal.index_of-requires-clause-ascends
index_of-requires-clause-ascends g c = subst Ascends (sym (c.deref.ensures.value ∙ c.in_ok-shape.ensures)) (reading-ascends c.args.test.now _)

pub index_of-requires-clause-within : goal.index_of-requires-clause-within
index_of-requires-clause-within g c =
    let t = c.args.test.now in (
      length t.locations,
      subst (λ n. EntriesAreWithin n (length t.locations) c.deref.result.now) (sym c.cores.ensures.value)
          (subst (EntriesAreWithin (length t.programs) (length t.locations))
          (sym (c.deref.ensures.value ∙ c.in_ok-shape.ensures)) (reading-within t c.know_limits.ensures _)),
    )

pub own_writes-requires-clause-ascends : goal.own_writes-requires-clause-ascends
own_writes-requires-clause-ascends g c =
    subst Ascends (sym (c.deref-4.ensures.value ∙ c.in_ok-made.ensures.made)) (made-ascends c.args.test.now c.args.order.now.order)

pub own_writes-requires-clause-within : goal.own_writes-requires-clause-within
own_writes-requires-clause-within g c =
    let t = c.args.test.now in (
      length t.programs,
      subst (λ n. EntriesAreWithin (length t.programs) n c.deref-4.result.now) (sym c.locations.ensures.value)
          (subst (EntriesAreWithin (length t.programs) (length t.locations))
          (sym (c.deref-4.ensures.value ∙ c.in_ok-made.ensures.made))
          (made-within t c.args.order.now.order c.know_limits.ensures)),
    )
