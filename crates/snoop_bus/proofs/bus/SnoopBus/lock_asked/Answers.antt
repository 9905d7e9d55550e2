use Rattle.snoop_bus.proofs.Vocabulary.{Some, refl, ap, slice_index, Write}
use Rattle.snoop_bus.proofs.Completed.{word_due, words_beside, locked, same_machine, completes}
use Rattle.snoop_bus.proofs.bus.SnoopBus.lock_asked.Goals as goal

pub returns-clause-word : goal.returns-clause-word
returns-clause-word g c =
    rw c.from.ensures
    (word_due (g.P.Protocol.table c.self.inside.protocol) c.self.inside.shape c.self.inside.locations c.self.inside.held
    c.args.self.now c.self.inside.hierarchy c.acquire_asked.new.self c.unwrap-held.result c.args.core c.args.loc Write
    c.target_of-at.result
    (record {
      now_is = c.self.view_is;
      bus = c.self.invariant;
      holds = c.requires.holds;
      found = c.unwrap-held.ensures;
      target_is = c.target_of-at.ensures.value;
      ways = c.acquire_asked.ensures.ways;
    })
    (slice_index c.acquire_asked.result.0 c.target_of-at.result.offset)
    (ap (λ words. slice_index words c.target_of-at.result.offset) c.acquire_asked.ensures.found))

pub returns-clause-words : goal.returns-clause-words
returns-clause-words g c =
    words_beside (g.P.Protocol.table c.self.inside.protocol) c.self.inside.shape c.self.inside.locations
    c.self.inside.held c.args.self.now c.self.inside.hierarchy c.acquire_asked.new.self c.unwrap-held.result c.args.core
    c.args.loc Write c.target_of-at.result
    (record {
      now_is = c.self.view_is;
      bus = c.self.invariant;
      holds = c.requires.holds;
      found = c.unwrap-held.ensures;
      target_is = c.target_of-at.ensures.value;
      ways = c.acquire_asked.ensures.ways;
    })
    c.acquire_asked.ensures.words c.held_at.result c.held_at.ensures

pub invariant_of-self : goal.invariant_of-self
invariant_of-self g c =
    locked (g.P.Protocol.table c.self.inside.protocol) c.self.inside.shape c.self.inside.locations c.self.inside.held
    c.args.self.now c.self.inside.hierarchy c.acquire_asked.new.self c.unwrap-held.result c.args.core c.args.loc Write
    c.target_of-at.result
    (record {
      now_is = c.self.view_is;
      bus = c.self.invariant;
      holds = c.requires.holds;
      found = c.unwrap-held.ensures;
      target_is = c.target_of-at.ensures.value;
      ways = c.acquire_asked.ensures.ways;
    })
    c.acquire_asked.ensures.words c.acquire_asked.result.1 c.held_at.result c.held_at.ensures (rw c.acquire_asked.ensures.own refl) c.acquire_asked.ensures.ok

pub returns-clause-coherent : goal.returns-clause-coherent
returns-clause-coherent g c = (invariant_of-self g c).coherent

pub returns-clause-machine : goal.returns-clause-machine
returns-clause-machine g c =
    same_machine (g.P.Protocol.table c.self.inside.protocol) c.self.inside.shape c.self.inside.locations
    c.self.inside.held c.args.self.now c.self.inside.hierarchy c.acquire_asked.new.self c.unwrap-held.result c.args.core
    c.args.loc Write c.target_of-at.result
    (record {
      now_is = c.self.view_is;
      bus = c.self.invariant;
      holds = c.requires.holds;
      found = c.unwrap-held.ensures;
      target_is = c.target_of-at.ensures.value;
      ways = c.acquire_asked.ensures.ways;
    })
    (Some c.held_at.result)

pub returns-clause-done : goal.returns-clause-done
returns-clause-done g c =
    completes (g.P.Protocol.table c.self.inside.protocol) c.self.inside.shape c.self.inside.locations c.self.inside.held
    c.args.self.now c.self.inside.hierarchy c.acquire_asked.new.self c.unwrap-held.result c.args.core c.args.loc Write
    c.target_of-at.result
    (record {
      now_is = c.self.view_is;
      bus = c.self.invariant;
      holds = c.requires.holds;
      found = c.unwrap-held.ensures;
      target_is = c.target_of-at.ensures.value;
      ways = c.acquire_asked.ensures.ways;
    })
    c.acquire_asked.result.1 (Some c.held_at.result) c.acquire_asked.ensures.ok

pub returns-clause-holds : goal.returns-clause-holds
returns-clause-holds g c = ap (λ held. Some held.holder) c.held_at.ensures

pub returns-clause-awaited : goal.returns-clause-awaited
returns-clause-awaited g c = rw c.held_at.ensures refl
