use Rattle.multiprocessor.proofs.Vocabulary.{arith, refl, ap, ◌∙◌, length, length-set, locked_access, words_of, pending_in, effect_of_lock, Whole}
use Rattle.multiprocessor.proofs.CoreLemmas.{lock-waits}
use Rattle.multiprocessor.proofs.Locking.{acts-locks, both-noted, lock-commits, may-lock}
use Rattle.multiprocessor.proofs.ActedLemmas.{acts-stalls}
use Rattle.multiprocessor.proofs.locked.read_and_write.Goals as goal

pub returns-then-not-is_empty-clause-acts : goal.returns-then-not-is_empty-clause-acts
returns-then-not-is_empty-clause-acts g c =
    let p = c.args.processor.now in
    let words = words_of c.args.bus.now in
    acts-stalls Whole
    (locked_access c.args.locked.loc (pending_in c.args.core.0 p)) c.args.core.0 p c.args.bus.now c.args.commits.now
    (effect_of_lock c.args.locked.loc c.args.locked.reg c.args.locked.update c.args.core.0 p words) _ refl
    (lock-waits c.args.core.0 p words c.args.locked.loc c.args.locked.reg c.args.locked.update c.is_empty.result c.is_empty.ensures.1 c.if-not-is_empty.true)

pub returns-clause-acts : goal.returns-clause-acts
returns-clause-acts g c =
    acts-locks c.args.core c.args.locked.loc c.args.locked.reg c.args.locked.update c.args.processor.now
    c.advance_taking.new.processor c.args.bus.now c.update-updated.new.self
    c.update-updated.result (c.is_empty.ensures.0 c.if-not-is_empty.false) c.update-updated.ensures.before
    c.update-updated.ensures.after c.update-updated.ensures.done c.update-updated.ensures.machine
    c.args.commits.now c.make_room.new.self c.note-2.new.self c.make_room.ensures.same
    (both-noted c.args.core.0 c.args.processor.now.place c.args.locked.loc c.update-updated.result.before
    c.update-updated.result.after c.make_room.new.self c.note.new.self c.note-2.new.self c.entry-load_part.result
    c.entry-store_part.result
    c.entry-load_part.ensures c.entry-store_part.ensures (rw c.unwrap.ensures at c.note.ensures.ok) (rw c.unwrap-2.ensures at c.note-2.ensures.ok))
    c.advance_taking.ensures

pub returns-in_err-make_room-clause-succeeds : goal.returns-in_err-make_room-clause-succeeds
returns-in_err-make_room-clause-succeeds g c =
    lock-commits _ c.args.core.0 c.args.locked.loc c.args.locked.reg c.args.locked.update c.args.processor.now
    (words_of c.args.bus.now) (c.is_empty.ensures.0 c.if-not-is_empty.false)

pub update-updated-requires-clause-free : goal.update-updated-requires-clause-free
update-updated-requires-clause-free g c =
    may-lock c.args.core c.args.locked.loc c.args.processor.now c.args.bus.now (c.is_empty.ensures.0 c.if-not-is_empty.false) c.requires.access.free

pub returns-clause-sizes : goal.returns-clause-sizes
returns-clause-sizes g c = record {
  cores = c.update-updated.ensures.machine.cores;
  count = ap length c.update-updated.ensures.done.words ∙ length-set (words_of c.args.bus.now) c.args.locked.loc.0 c.update-updated.result.after;
}

pub returns-clause-stores : goal.returns-clause-stores
returns-clause-stores g c = ap (λ p. p.stores) c.advance_taking.ensures

-- there is room for both parts
pub unwrap-requires : goal.unwrap-requires
unwrap-requires g c = c.note.ensures.succeeds (omega (arith, c.in_ok-make_room.ensures.ok))

pub unwrap-requires-2 : goal.unwrap-requires-2
unwrap-requires-2 g c = c.note-2.ensures.succeeds (omega (arith, c.in_ok-make_room.ensures.ok, c.note.ensures.room))
