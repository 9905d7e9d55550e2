-- What one walk over the caches finds of a line that a core asks for: of several copies that supply it the first one's
-- words are taken, which is as good as any, since all copies are equal.
use Rattle.std.specs.Prelude.{ℕ, true, false, replicate, slice_set, Some, None, if◌then◌else◌}
use Rattle.std.specs.Option.{option_or}
use Rattle.tso_terms.specs.Limits.{most_cores}
use Rattle.protocol_tables.specs.declared.state.Snoop.{Snoop}
use Rattle.cache_set.specs.declared.Line.{Line}
use Rattle.cache_set.specs.declared.finding.Found.{Found}

-- before the walk
abbrev pub nothing_found : Found
nothing_found = record { words = None; supplier = None; shared = false; flushed = None; states = replicate most_cores None }

-- once this core's copy was seen too, which does this at the request: the first that supplies gives the words, and the
-- first that is sent is flushed
abbrev pub noting : ℕ → Line → Snoop → Found → Found
noting core copy snoop found = record {
  words = option_or found.words (if snoop.supplies then Some copy.words else None);
  supplier = option_or found.supplier (if snoop.supplies then Some (record { 0 = core }) else None);
  shared = true;
  flushed = option_or found.flushed (if snoop.to_memory then Some (record { 0 = core }) else None);
  states = slice_set found.states core (Some copy.state);
}
