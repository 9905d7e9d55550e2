use Rattle.promises.proofs.models.branches.what_is_cut_off_has_a_mark.Goals as goal

pub returns : goal.returns
returns c = c.cut_off_paths_show.ensures
