use Rattle.branch_laws.proofs.Logged.{path-with, path-without}
use Rattle.branch_laws.proofs.notes_add_nothing.Goals as goal

pub returns : goal.returns
returns c = record { noted = path-with c.same_paths_leave_the_same.ensures; unnoted = path-without c.same_paths_leave_the_same.ensures }
