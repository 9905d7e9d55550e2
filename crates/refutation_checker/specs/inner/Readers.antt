-- Tests of events, as the definitions of readers and of locations that locked instructions write have them.
use Rattle.std.specs.Prelude.{ℕ, ◌==◌, ◌&&◌, Bool, true, if◌then◌else◌, Option}
use Rattle.std.specs.List.{list_any}
use Rattle.tso_terms.specs.Litmus.{Litmus}
use Rattle.tso_terms.specs.ProgramOrder.{same_kind, writes_to}
use Rattle.basic_laws.specs.Types.{Entry, LR, LW}
use Rattle.possible_reads.specs.Possible.{same_source, sources_read}
use Rattle.lemma_refutations.specs.Edges.{Knowledge}

abbrev pub reads_word : Litmus → Knowledge → ℕ → Option Entry → Entry → Bool
reads_word t k loc word r = same_kind r.kind LR && (r.loc.0 == loc) && list_any (same_source word) (sources_read t k.readings r)

abbrev pub is_locked_write : ℕ → Entry → Bool
is_locked_write loc e = if writes_to loc e then same_kind e.kind LW else true
