use Rattle.snoop_bus.proofs.Vocabulary.{ap, slice_index}
use Rattle.snoop_bus.proofs.AcquireAsked.{kept_words}
use Rattle.snoop_bus.proofs.hierarchy.Hierarchy.complete_load.Goals as goal

pub fill_asked-report-requires : goal.fill_asked-report-requires
fill_asked-report-requires g c =
    let awaits = rw c.unwrap-transaction.ensures at c.requires.awaited.awaits in
    record {
      coherent = rw c.unwrap-transaction.ensures at c.requires.awaited.coherent;
      core = c.requires.awaited.core_in;
      some_set = c.requires.awaited.some_set;
      line = c.requires.awaited.line_in;
      absent = awaits.1;
    }

pub returns-clause-words : goal.returns-clause-words
returns-clause-words g c = rw c.unwrap-transaction.ensures c.fill_asked-report.ensures.words

pub returns-clause-ways : goal.returns-clause-ways
returns-clause-ways g c = c.fill_asked-report.ensures.ways

pub returns-clause-ok : goal.returns-clause-ok
returns-clause-ok g c =
    let awaits = rw c.unwrap-transaction.ensures at c.requires.awaited.awaits in
    rw (c.unwrap-transaction.ensures, awaits.0) (record {
      report_is = c.fill_asked-report.ensures.report;
      tags = c.fill_asked-report.ensures.tags;
      memory = c.fill_asked-report.ensures.memory;
    })

pub returns-clause-word : goal.returns-clause-word
returns-clause-word g c =
    let held = c.requires.awaited in
    rw (c.unwrap-transaction.ensures, c.from.ensures)
    (ap (λ words. slice_index words c.args.target.offset)
    (kept_words c.args.self.now.caches.items c.args.self.now.memory.items c.args.target.core c.args.target.line
    c.unwrap-transaction.result.copy (rw c.unwrap-transaction.ensures at held.coherent) held.core_in held.some_set
    held.line_in))
