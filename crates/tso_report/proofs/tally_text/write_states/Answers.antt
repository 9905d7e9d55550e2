use Rattle.tso_report.proofs.Vocabulary.{All, length, sym, subst, NameExists}
use Rattle.tso_report.proofs.Looking.{looked-known}
use Rattle.tso_report.proofs.tally_text.write_states.Goals as goal

pub write_values-requires : goal.write_values-requires
write_values-requires c =
    let t = c.args.test.now in
    subst (All (NameExists (length t.programs) (length t.locations))) (sym c.requires) (looked-known t)
