use Rattle.snoop_bus.proofs.Vocabulary.{None, Load}
use Rattle.snoop_bus.proofs.Completed.{word_due, words_stay, freed, same_machine, completes}
use Rattle.snoop_bus.proofs.bus.SnoopBus.read_asked.Goals as goal

pub returns-clause-word : goal.returns-clause-word
returns-clause-word g c =
    word_due (g.P.Protocol.table c.self.inside.protocol) c.self.inside.shape c.self.inside.locations c.self.inside.held
    c.args.self.now c.self.inside.hierarchy c.complete_load-done.new.self c.unwrap-held.result c.args.core c.args.loc
    Load c.target_of-target.result
    (record {
      now_is = c.self.view_is;
      bus = c.self.invariant;
      holds = c.requires.holds;
      found = c.unwrap-held.ensures;
      target_is = c.target_of-target.ensures.value;
      ways = c.complete_load-done.ensures.ways;
    })
    c.complete_load-done.result.0 c.complete_load-done.ensures.word

pub returns-clause-words : goal.returns-clause-words
returns-clause-words g c =
    words_stay (g.P.Protocol.table c.self.inside.protocol) c.self.inside.shape c.self.inside.locations
    c.self.inside.held c.args.self.now c.self.inside.hierarchy c.complete_load-done.new.self c.unwrap-held.result
    c.args.core c.args.loc Load c.target_of-target.result
    (record {
      now_is = c.self.view_is;
      bus = c.self.invariant;
      holds = c.requires.holds;
      found = c.unwrap-held.ensures;
      target_is = c.target_of-target.ensures.value;
      ways = c.complete_load-done.ensures.ways;
    })
    c.complete_load-done.ensures.words

pub invariant_of-self : goal.invariant_of-self
invariant_of-self g c =
    freed (g.P.Protocol.table c.self.inside.protocol) c.self.inside.shape c.self.inside.locations c.self.inside.held
    c.args.self.now c.self.inside.hierarchy c.complete_load-done.new.self c.unwrap-held.result c.args.core c.args.loc
    Load c.target_of-target.result
    (record {
      now_is = c.self.view_is;
      bus = c.self.invariant;
      holds = c.requires.holds;
      found = c.unwrap-held.ensures;
      target_is = c.target_of-target.ensures.value;
      ways = c.complete_load-done.ensures.ways;
    })
    c.complete_load-done.ensures.words c.complete_load-done.result.1 c.complete_load-done.ensures.ok

pub returns-clause-coherent : goal.returns-clause-coherent
returns-clause-coherent g c = (invariant_of-self g c).coherent

pub returns-clause-machine : goal.returns-clause-machine
returns-clause-machine g c =
    same_machine (g.P.Protocol.table c.self.inside.protocol) c.self.inside.shape c.self.inside.locations
    c.self.inside.held c.args.self.now c.self.inside.hierarchy c.complete_load-done.new.self c.unwrap-held.result
    c.args.core c.args.loc Load c.target_of-target.result
    (record {
      now_is = c.self.view_is;
      bus = c.self.invariant;
      holds = c.requires.holds;
      found = c.unwrap-held.ensures;
      target_is = c.target_of-target.ensures.value;
      ways = c.complete_load-done.ensures.ways;
    })
    None

pub returns-clause-done : goal.returns-clause-done
returns-clause-done g c =
    completes (g.P.Protocol.table c.self.inside.protocol) c.self.inside.shape c.self.inside.locations c.self.inside.held
    c.args.self.now c.self.inside.hierarchy c.complete_load-done.new.self c.unwrap-held.result c.args.core c.args.loc
    Load c.target_of-target.result
    (record {
      now_is = c.self.view_is;
      bus = c.self.invariant;
      holds = c.requires.holds;
      found = c.unwrap-held.ensures;
      target_is = c.target_of-target.ensures.value;
      ways = c.complete_load-done.ensures.ways;
    })
    c.complete_load-done.result.1 None c.complete_load-done.ensures.ok
