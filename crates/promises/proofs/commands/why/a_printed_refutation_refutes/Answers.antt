use Rattle.promises.proofs.commands.why.a_printed_refutation_refutes.Goals as goal

pub returns : goal.returns
returns c = λ t model json out said. (said.lemmas, said.tree, said.printed, said.refuted)
