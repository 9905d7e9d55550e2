use Rattle.promises.proofs.models.branches.one_test_shows_its_paths.Goals as goal

pub returns : goal.returns
returns c = c.final_states_show_the_path.ensures
