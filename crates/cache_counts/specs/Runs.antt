-- What a contract sees of what the code has counted.
use Rattle.std.specs.Prelude.{ℕ, ◌+◌, ◌<◌}
use Rattle.tso_terms.specs.Litmus.{Litmus}
use Rattle.protocol_tables.specs.declared.kind.ProtocolKind.{ProtocolKind}
use Rattle.multiprocessor.specs.Configuration.{Configuration}
use Rattle.machine_runs.specs.Runs.{AnswersFit}
use Rattle.cache_counts.specs.Counted.{Counted, choices_of}
use Rattle.cache_counts.specs.declared.runs.CountedRuns.{CountedRuns}

abbrev pub runs_counted : CountedRuns → Counted
runs_counted k = record { ended = k.ended; unfinished = k.unfinished; spreads = k.spreads.items }

-- in the run of each of so many seeds, from this one on, the answers are such as caches may give
abbrev pub AnswersFitFrom : Litmus → ProtocolKind → Configuration → ℕ → ℕ → ℕ → Type 0
AnswersFitFrom t kind c count from seeds = (n : ℕ) → n < seeds → AnswersFit t kind c (choices_of t count (from + n))
