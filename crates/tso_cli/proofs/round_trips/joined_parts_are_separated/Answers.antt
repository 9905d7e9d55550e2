use Rattle.tso_cli.proofs.Joined.{joined_are_separated}
use Rattle.tso_cli.proofs.round_trips.joined_parts_are_separated.Goals as goal

pub returns : goal.returns
returns c = λ test rest joinable. joined_are_separated test rest joinable.ends joinable.undivided
