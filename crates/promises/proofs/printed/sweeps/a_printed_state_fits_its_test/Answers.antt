use Rattle.promises.proofs.printed.sweeps.a_printed_state_fits_its_test.Goals as goal

pub returns : goal.returns
returns c = c.printed_states_fit_their_test.ensures
