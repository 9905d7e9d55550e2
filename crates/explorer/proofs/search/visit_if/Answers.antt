use Rattle.explorer.proofs.Vocabulary.{subst, sym, inr, state_of_snapshot, LeadToExchanged}
use Rattle.explorer.proofs.Searching.{grows-none}
use Rattle.explorer.proofs.search.visit_if.Goals as goal

pub reach-requires-clause-cores : goal.reach-requires-clause-cores
reach-requires-clause-cores c = c.requires.found.current

pub reach-requires-clause-room : goal.reach-requires-clause-room
reach-requires-clause-room c = c.requires.found.room

pub returns-in_ok-keep-clause-found : goal.returns-in_ok-keep-clause-found
returns-in_ok-keep-clause-found c =
    let h = c.requires.found in
    let current = c.requires.current in
    c.in_ok-keep.ensures.found c.args.plan.now (record { cores = h.cores; linked = h.linked; current = h.current; room = c.in_ok-reach.ensures.room })
    (inr (
      current.kept,
      current.stands,
      subst (λ z.
          LeadToExchanged c.args.plan.now.depth c.args.plan.now.test.now c.args.plan.now.hidden.now z
          c.reach.new.reached.choices.items c.reach.new.reached.exchanges.items
          (state_of_snapshot c.reach.new.reached.state))
          (sym current.state_is) (c.in_ok-reach.ensures.reached c.if-branch.true).leads,
    ))

pub returns-in_ok-keep-clause-current : goal.returns-in_ok-keep-clause-current
returns-in_ok-keep-clause-current c = c.in_ok-keep.ensures.current

pub returns-in_ok-keep-clause-grows : goal.returns-in_ok-keep-clause-grows
returns-in_ok-keep-clause-grows c = c.in_ok-keep.ensures.grows

pub returns-else-branch-clause-grows : goal.returns-else-branch-clause-grows
returns-else-branch-clause-grows c = grows-none _

pub returns-else-branch-clause-found : goal.returns-else-branch-clause-found
returns-else-branch-clause-found c =
    let h = c.requires.found in
    record { cores = h.cores; linked = h.linked; current = h.current; room = c.in_ok-reach.ensures.room }
