use Rattle.snoop_bus.proofs.Vocabulary.{◌≡◌, Option, Some, None, IsSome, refl, in_place, M, Line, state_of_copy, copy_at}
use Rattle.snoop_bus.proofs.AcquireAsked.{filled_asked, hit_acquired, kept_words, own_acquired, upgrade_acquired}
use Rattle.snoop_bus.proofs.hierarchy.Hierarchy.acquire_asked.Goals as goal

-- a copy that is written in place is there
placed_there : (o : Option Line) → in_place (state_of_copy o) ≡ Some M → IsSome o
placed_there None w = cc
placed_there (Some copy) w = refl

pub returns-in-None-clause-words : goal.returns-in-None-clause-words
returns-in-None-clause-words g c =
    rw (c.in-None.is, c.enter.ensures.memory)
    (hit_acquired c.args.self.now.caches.items c.enter.new.self.caches.items c.args.self.now.memory.items c.args.core c.args.line
    (rw c.in-None.is at c.requires.awaited.coherent) c.requires.awaited.line_in
    (rw c.in-None.is at c.requires.awaited.awaits) c.enter.ensures.copies c.enter.ensures.ways).1

pub returns-in-SmD-clause-own : goal.returns-in-SmD-clause-own
returns-in-SmD-clause-own g c =
    let awaits = rw c.in-Some.is at c.requires.awaited.awaits in
    rw c.in-Some.is
    (upgrade_acquired c.args.self.now.caches.items c.enter-in-SmD.new.self.caches.items c.args.self.now.memory.items
    c.args.core c.args.line c.in-Some.transaction
    (rw c.in-Some.is at c.requires.awaited.coherent) c.requires.awaited.core_in c.requires.awaited.some_set
    c.requires.awaited.line_in (rw c.in-SmD.is at awaits.1) c.enter-in-SmD.ensures.copies c.enter-in-SmD.ensures.ways).0

pub returns-in-SmD-clause-words : goal.returns-in-SmD-clause-words
returns-in-SmD-clause-words g c =
    let awaits = rw c.in-Some.is at c.requires.awaited.awaits in
    rw (c.in-Some.is, c.enter-in-SmD.ensures.memory)
    (upgrade_acquired c.args.self.now.caches.items c.enter-in-SmD.new.self.caches.items c.args.self.now.memory.items
    c.args.core c.args.line c.in-Some.transaction
    (rw c.in-Some.is at c.requires.awaited.coherent) c.requires.awaited.core_in c.requires.awaited.some_set
    c.requires.awaited.line_in (rw c.in-SmD.is at awaits.1) c.enter-in-SmD.ensures.copies c.enter-in-SmD.ensures.ways).1

pub returns-in-SmD-clause-found : goal.returns-in-SmD-clause-found
returns-in-SmD-clause-found g c =
    rw c.in-Some.is (kept_words c.args.self.now.caches.items c.args.self.now.memory.items c.args.core c.args.line
    c.in-Some.transaction.copy (rw c.in-Some.is at c.requires.awaited.coherent) c.requires.awaited.core_in
    c.requires.awaited.some_set c.requires.awaited.line_in)

pub enter-requires-clause-present : goal.enter-requires-clause-present
enter-requires-clause-present g c = placed_there (copy_at c.args.self.now.caches.items c.args.core c.args.line) (rw c.in-None.is at c.requires.awaited.awaits)

pub returns-in-None-clause-own : goal.returns-in-None-clause-own
returns-in-None-clause-own g c =
    rw c.in-None.is (hit_acquired c.args.self.now.caches.items c.enter.new.self.caches.items c.args.self.now.memory.items c.args.core c.args.line
    (rw c.in-None.is at c.requires.awaited.coherent) c.requires.awaited.line_in
    (rw c.in-None.is at c.requires.awaited.awaits) c.enter.ensures.copies c.enter.ensures.ways).0

pub returns-in-None-clause-ok : goal.returns-in-None-clause-ok
returns-in-None-clause-ok g c = rw c.in-None.is (record { report_is = c.quiet.ensures; tags = c.enter.ensures.tags; memory = c.enter.ensures.memory })

pub returns-in-SmD-clause-ok : goal.returns-in-SmD-clause-ok
returns-in-SmD-clause-ok g c =
    let awaits = rw c.in-Some.is at c.requires.awaited.awaits in
    let asked = rw c.in-SmD.is at awaits.1 in
    rw (c.in-Some.is, c.in-SmD.is, asked.1) (record {
      report_is = c.quiet-in-SmD.ensures;
      tags = c.enter-in-SmD.ensures.tags;
      memory = c.enter-in-SmD.ensures.memory;
    })

pub fill_asked-report-requires : goal.fill_asked-report-requires
fill_asked-report-requires g c =
    let awaits = rw c.in-Some.is at c.requires.awaited.awaits in
    record {
      coherent = rw c.in-Some.is at c.requires.awaited.coherent;
      core = c.requires.awaited.core_in;
      some_set = c.requires.awaited.some_set;
      line = c.requires.awaited.line_in;
      absent = (filled_asked c.in-Some.transaction (copy_at c.args.self.now.caches.items c.args.core c.args.line) awaits c.in-IsD.is).absent;
    }

pub returns-in-IsD : goal.returns-in-IsD
returns-in-IsD g c =
    let awaits = rw c.in-Some.is at c.requires.awaited.awaits in
    let coherent = rw c.in-Some.is at c.requires.awaited.coherent in
    let held = c.requires.awaited in
    let caches = c.args.self.now.caches.items in
    let asked = filled_asked c.in-Some.transaction (copy_at caches c.args.core c.args.line) awaits c.in-IsD.is in
    let filled = c.fill_asked-report.ensures in
    record {
      found =
          rw c.in-Some.is
          (kept_words caches c.args.self.now.memory.items c.args.core c.args.line c.in-Some.transaction.copy coherent
          held.core_in held.some_set held.line_in);
      ok = rw (c.in-Some.is, asked.transient) (record { report_is = filled.report; tags = filled.tags; memory = filled.memory });
      own =
          rw c.in-Some.is
          (own_acquired caches c.fill_asked-report.new.self.caches.items c.args.self.now.memory.items c.args.core
          c.args.line c.in-Some.transaction coherent held.core_in held.some_set held.line_in
          asked.state filled.own);
      words = rw c.in-Some.is filled.words;
      ways = filled.ways;
    }
