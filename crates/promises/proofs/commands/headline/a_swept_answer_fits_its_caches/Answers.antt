use Rattle.promises.proofs.commands.headline.a_swept_answer_fits_its_caches.Goals as goal

pub returns : goal.returns
returns given = record { answers = λ t kind c plan out status said. said.answers }
