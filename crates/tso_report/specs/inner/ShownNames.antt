-- What is shown, as far as the names were gone through.
use Rattle.std.specs.Prelude.{◌≡◌, List, ◌++◌, filter}
use Rattle.tso_terms.specs.Litmus.{Litmus}
use Rattle.tso_report.specs.declared.named.Named.{Named}
use Rattle.tso_report.specs.ShownNames.{is_shown}
use Rattle.tso_report.specs.declared.show.Show.{Show}

-- of these names those that are shown are put after the list
abbrev pub ShownAreNoted : Show → Litmus → List Named → List Named → List Named → Type 0
ShownAreNoted show t names old new = new ≡ old ++ filter (is_shown show t) names
