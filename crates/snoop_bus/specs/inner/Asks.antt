-- The transaction that an ask opens on a split bus: what its line awaits, and the words that the bus keeps for it until the
-- completion. (Primer, chapter 7.)
use Rattle.std.specs.Prelude.{ℕ, Bool, List, Option, option_map}
use Rattle.snoop_bus.specs.Vocabulary.{copy_with, Core, Loc, Request, Table, Transient}
use Rattle.snoop_bus.specs.declared.holding.Transaction.{Transaction}
use Rattle.snoop_bus.specs.declared.holding.HeldBus.{HeldBus}
use Rattle.cache_set.specs.Lines.{Words}
use Rattle.cache_set.specs.CacheTags.{TagSets}
use Rattle.cache_set.specs.Copies.{Sets, tags_of}
use Rattle.snoop_bus.specs.Held.{stage_for}
use Rattle.snoop_bus.specs.inner.Held.{held_by}
use Rattle.snoop_bus.specs.Bus.{current_words}
use Rattle.snoop_bus.specs.Asks.{asked_for, request_for, requesting, to_fill}

-- the transaction of a request, where the line has these words, and what it awaits
unfoldable pub transacting : Table → Request → ℕ → Words → List TagSets → Transient → Transaction
transacting t request line words caches transient =
    record { transient = transient; copy = copy_with (to_fill t request line caches) words; request = requesting t request line caches transient }

-- the transaction that an ask begins; a write access that hits has none
abbrev pub transaction_of : Table → Request → ℕ → ℕ → Words → List TagSets → Option Transaction
transaction_of t request core line words caches =
    option_map (transacting t request line words caches) (asked_for request core line caches)

-- the same of a line of these caches and this memory, with its current words
abbrev pub transacting_at : Table → Request → ℕ → List Sets → List Words → Transient → Transaction
transacting_at t request line caches memory transient =
    transacting t request line (current_words caches memory line) (tags_of caches) transient

abbrev pub transaction_at : Table → Request → ℕ → ℕ → List Sets → List Words → Option Transaction
transaction_at t request core line caches memory =
    transaction_of t request core line (current_words caches memory line) (tags_of caches)

-- what holds the bus after a core's ask for an access at a location of this line
abbrev pub held_after_ask : Table → Core → Loc → ℕ → Bool → List Sets → List Words → HeldBus
held_after_ask t core loc line write caches memory =
    held_by core loc (stage_for write) line (transaction_at t (request_for write) core.0 line caches memory)
