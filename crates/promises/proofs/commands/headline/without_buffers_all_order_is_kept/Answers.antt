use Rattle.promises.proofs.commands.headline.without_buffers_all_order_is_kept.Goals as goal

pub returns : goal.returns
returns given = record { unbuffered = λ t kind c json r out said. said.unbuffered }
