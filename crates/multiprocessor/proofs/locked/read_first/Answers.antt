use Rattle.multiprocessor.proofs.Vocabulary.{ap}
use Rattle.multiprocessor.specs.declared.accesses.Next.TheVariants.{Write}
use Rattle.multiprocessor.proofs.Locking.{first-entry, first-noted, first-uses}
use Rattle.multiprocessor.proofs.locked.read_first.Goals as goal

pub returns-clause-next : goal.returns-clause-next
returns-clause-next g c =
    ap Write (first-entry c.args.core c.args.place c.args.loc c.args.bus.now c.lock_asked-value.new.self
    c.lock_asked-value.result.0 c.lock_asked-value.ensures.word c.entry-read.result c.entry-read.ensures)

pub returns-clause-used : goal.returns-clause-used
returns-clause-used g c =
    first-uses c.args.bus.now c.lock_asked-value.new.self c.args.core.0 c.args.loc.0 c.lock_asked-value.result.1
    c.lock_asked-value.ensures.done c.lock_asked-value.ensures.machine c.lock_asked-value.ensures.awaited

pub returns-clause-commits : goal.returns-clause-commits
returns-clause-commits g c =
    first-noted c.args.core c.args.place c.args.loc c.args.bus.now c.lock_asked-value.new.self
    c.lock_asked-value.result.0 c.lock_asked-value.ensures.word c.entry-read.result c.entry-read.ensures
    c.args.commits.now c.make_room.new.self c.note.new.self c.make_room.ensures.same (rw c.unwrap.ensures at c.note.ensures.ok)

-- there is room for the entry
pub unwrap-requires : goal.unwrap-requires
unwrap-requires g c = c.note.ensures.succeeds c.in_ok-make_room.ensures.ok
