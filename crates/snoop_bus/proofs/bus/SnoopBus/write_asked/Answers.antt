use Rattle.snoop_bus.proofs.Vocabulary.{◌∙◌}
use Rattle.snoop_bus.proofs.bus.SnoopBus.write_asked.Goals as goal

pub returns-clause-done : goal.returns-clause-done
returns-clause-done g c =
    let read = c.lock_asked.ensures.done in
    record {
      report_is = read.report_is;
      contents = c.complete_write.ensures.contents ∙ read.contents;
      memory = c.complete_write.ensures.memory ∙ read.memory;
    }
