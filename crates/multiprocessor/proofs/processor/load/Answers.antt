use Rattle.multiprocessor.proofs.processor.load.Goals as goal

-- there is room for the entry
pub unwrap-requires : goal.unwrap-requires
unwrap-requires g c = c.note.ensures.succeeds c.in_ok-make_room.ensures.ok

pub see-value-requires : goal.see-value-requires
see-value-requires g c = record { access = c.requires.access }

pub advance-requires : goal.advance-requires
advance-requires g c = c.requires.place
