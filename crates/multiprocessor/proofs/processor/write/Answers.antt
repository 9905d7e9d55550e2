use Rattle.multiprocessor.proofs.Vocabulary.{rules}
use Rattle.multiprocessor.proofs.processor.write.Goals as goal

pub returns-clause-stored : goal.returns-clause-stored
returns-clause-stored g c = search rules

-- there is room for the entry
pub unwrap-requires : goal.unwrap-requires
unwrap-requires g c = c.note.ensures.succeeds c.in_ok-make_room.ensures.ok
