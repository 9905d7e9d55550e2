-- The statistics of a run: what the accesses of each core's cache were. (Primer, chapters 2, 6 and 7, for hits, misses and
-- upgrades; that an access on a split bus is counted at its completion is this project's profile.)
use Rattle.std.specs.Prelude.{ℕ, ◌+◌, Bool, true, false, if◌then◌else◌, Option, Some, None, List, [], ◌∷◌, length, replicate, slice_set, slice_index_or}
use Rattle.multiprocessor.specs.Vocabulary.{BusState, chosen, Geometry, has_ended, Litmus, new_bus, start, Table, unheld}
use Rattle.basic_laws.specs.Types.{Bus, Core, Choice}
use Rattle.snoop_bus.specs.declared.access.AccessKind.{AccessKind}
use Rattle.snoop_bus.specs.declared.access.AccessKind.TheVariants.{Hit, Upgrade, Miss}
use Rattle.multiprocessor.specs.declared.counts.Counts.{Counts}
use Rattle.multiprocessor.specs.declared.accesses.CacheUse.{CacheUse}
use Rattle.multiprocessor.specs.declared.accesses.CacheUse.TheVariants.{Unused, Forwarded, Asked, Through}
use Rattle.multiprocessor.specs.Caches.{Caches, Used, caches_of, use_on, state_after_on}

abbrev pub counts : ℕ → ℕ → ℕ → ℕ → ℕ → ℕ → Counts
counts hits misses upgrades forwards write_backs flushes =
    record { hits = hits; misses = misses; upgrades = upgrades; forwards = forwards; write_backs = write_backs; flushes = flushes }

abbrev pub no_counts : Counts
no_counts = counts 0 0 0 0 0 0

-- one more access of this kind
abbrev pub with_access : AccessKind → Counts → Counts
with_access Hit c = counts (c.hits + 1) c.misses c.upgrades c.forwards c.write_backs c.flushes
with_access Miss c = counts c.hits (c.misses + 1) c.upgrades c.forwards c.write_backs c.flushes
with_access Upgrade c = counts c.hits c.misses (c.upgrades + 1) c.forwards c.write_backs c.flushes

abbrev pub with_forward : Counts → Counts
with_forward c = counts c.hits c.misses c.upgrades (c.forwards + 1) c.write_backs c.flushes

-- one more write-back, if there was one
abbrev pub with_write_back : Bool → Counts → Counts
with_write_back true c = counts c.hits c.misses c.upgrades c.forwards (c.write_backs + 1) c.flushes
with_write_back false c = c

abbrev pub with_flush : Counts → Counts
with_flush c = counts c.hits c.misses c.upgrades c.forwards c.write_backs (c.flushes + 1)

-- the counts of all cores once those of one were changed
abbrev pub counts_at_core : ℕ → (Counts → Counts) → List Counts → List Counts
counts_at_core core change cs = slice_set cs core (change (slice_index_or cs core no_counts))

-- a flush counts for the core whose copy was sent to memory
abbrev pub flush_counted : Option Core → List Counts → List Counts
flush_counted None cs = cs
flush_counted (Some core) cs = counts_at_core core.0 with_flush cs

-- the counts of all cores once one core's use of the caches is counted: what an access was and a write-back count for
-- the core itself
abbrev pub with_use_counted : ℕ → CacheUse → List Counts → List Counts
with_use_counted core Unused cs = cs
with_use_counted core Forwarded cs = counts_at_core core with_forward cs
with_use_counted core (Asked request) cs = cs
with_use_counted core (Through r) cs =
    flush_counted r.access.flushed (counts_at_core core (λ c. with_write_back r.access.wrote_back (with_access r.access.kind c)) cs)

-- how far the statistics of a run have come: the caches, and the counts of each core
pub record Statistics : Type 0 where
  pub caches : Caches
  pub counts : List Counts

abbrev pub statistics_with : ℕ → Used → List Counts → Statistics
statistics_with core u cs = record { caches = u.caches; counts = with_use_counted core u.how cs }

-- the statistics after a choice
abbrev pub statistics_after : Bus → Litmus → ℕ → BusState → Choice → Statistics → Statistics
statistics_after bus t depth state choice s = statistics_with (chosen choice) (use_on bus t depth state choice s.caches) s.counts

-- the statistics once the choices were made from a state on, up to the first moment at which the test has ended
abbrev pub statistics_from : Bus → Litmus → ℕ → BusState → List Choice → Statistics → Statistics
statistics_from bus t depth state [] s = s
statistics_from bus t depth state (c ∷ cs) s =
    if has_ended t state.flat
    then s
    else statistics_from bus t depth (state_after_on bus t depth state s.caches c) cs (statistics_after bus t depth state c s)

-- at the beginning the caches are empty, nothing is awaited and nothing is counted
abbrev pub no_statistics : Table → Geometry → Litmus → Statistics
no_statistics table shape t = record {
  caches = caches_of (new_bus table (length t.programs) shape t.words);
  counts = replicate (length t.programs) no_counts;
}

-- the counts of each core in a test's run, by the kind of bus, the protocol's table, the shape of the caches, the depth of
-- the store buffers, and the choices
abbrev pub counts_of : Bus → Table → Geometry → Litmus → ℕ → List Choice → List Counts
counts_of bus table shape t depth choices =
    (statistics_from bus t depth (unheld (start t)) choices (no_statistics table shape t)).counts
