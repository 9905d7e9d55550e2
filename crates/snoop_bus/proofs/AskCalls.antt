-- What an ask does, in the bus's own words.
use Rattle.snoop_bus.proofs.Vocabulary.{◌≡◌, ℕ, ◌*◌, ◌/◌, ◌<◌, ◌≤◌, Bool, Option, Some, None, option_map, List, length, refl, sym, ap, ◌∙◌}
use Rattle.snoop_bus.proofs.Vocabulary.{Core, Loc, Table, Request, Transient, HeldBus, Geometry, Words, rows_of, table_of_rows, TagSets}
use Rattle.snoop_bus.proofs.Vocabulary.{Sets, cache_of, tags_of, counted_copies_of, stage_for, held_by, current_words, bus_with, KeepsWords}
use Rattle.snoop_bus.proofs.Vocabulary.{BusRequest, request_in, requesting, awaiting, asked_for, request_for, asking, asked_caches}
use Rattle.snoop_bus.proofs.Vocabulary.{asked_memory, awaited_in, transacting, transaction_of, AsksFor}
use Rattle.snoop_bus.proofs.RowLemmas.{table_of-rows}
use Rattle.snoop_bus.proofs.WordLemmas.{words-same}

-- what a transaction awaits goes by the lines and states alone
pub awaited-for : (t : Table) (request : Request) (core line : ℕ) (words : Words) (caches : List TagSets) →
    awaited_in (transaction_of t request core line words caches) ≡ option_map (awaiting t request line caches) (asked_for request core line caches)
unfolding transacting awaiting requesting
awaited-for t request core line words caches = by_transient (asked_for request core line caches)
  where
    by_transient : (o : Option Transient) → awaited_in (option_map (transacting t request line words caches) o) ≡ option_map (awaiting t request line caches) o
    by_transient None = refl
    by_transient (Some x) = refl

-- and so does what goes on the bus
pub requested-for : (t : Table) (request : Request) (core line : ℕ) (words : Words) (caches : List TagSets) →
    request_in (transaction_of t request core line words caches) ≡ option_map (requesting t request line caches) (asked_for request core line caches)
unfolding transacting
requested-for t request core line words caches = by_transient (asked_for request core line caches)
  where
    by_transient : (o : Option Transient)
        → request_in (option_map (transacting t request line words caches) o)
        ≡ option_map (requesting t request line caches) o
    by_transient None = refl
    by_transient (Some x) = refl

module _ (t : Table) (shape : Geometry) (locations : ℕ) (c0 c2 : List Sets) (m0 m2 : List Words) (core : Core) (loc : Loc) where
  abbrev line : ℕ
  line = loc.0 / shape.words

  back : t ≡ table_of_rows (rows_of t)
  back = sym (table_of-rows t)

  -- the steps of an ask
  pub record AskSteps (write : Bool) (h : HeldBus) : Type 0 where
    pub some_word : 0 < shape.words
    pub enough : locations ≤ length m0 * shape.words
    pub exact : h ≡ held_by core loc (stage_for write) line (transaction_of t (request_for write) core.0 line (current_words c0 m0 line) (tags_of c0))
    pub tags : tags_of c2 ≡ asked_caches t (request_for write) core.0 line (tags_of c0)
    pub memory : m2 ≡ asked_memory t (request_for write) line c0 m0
    pub own : cache_of c2 core.0 ≡ cache_of c0 core.0
    pub words : KeepsWords c0 (counted_copies_of (Some h) c2) m0 m2

  pub ask_done : (write : Bool) (h : HeldBus) (request : Option BusRequest) → request ≡ request_in h.transaction → AskSteps write h
      → AsksFor (bus_with t shape locations c0 m0 None) (bus_with t shape locations c2 m2 (Some h)) core loc write request
  ask_done write h request told s = record {
    request_is =
        told
        ∙ ap (λ (x : HeldBus). request_in x.transaction) s.exact
        ∙ requested-for t (request_for write) core.0 line (current_words c0 m0 line) (tags_of c0)
        ∙ ap (λ (u : Table). (asking u (request_for write) core.0 line (tags_of c0)).request) back;
    own = s.own;
    words =
        words-same shape.words locations (length m0) (current_words c0 m0)
        (current_words (counted_copies_of (Some h) c2) m2) s.some_word s.enough s.words.words;
    holder_is = rw s.exact refl;
    awaited_is = ap (λ (x : HeldBus). awaited_in x.transaction) s.exact ∙ awaited-for t (request_for write) core.0 line (current_words c0 m0 line) (tags_of c0)
        ∙ ap (λ (u : Table). (asking u (request_for write) core.0 line (tags_of c0)).awaited) back;
    contents = s.tags ∙ ap (λ (u : Table). (asking u (request_for write) core.0 line (tags_of c0)).caches) back;
    memory = s.memory ∙ ap (λ (u : Table). asked_memory u (request_for write) line c0 m0) back;
  }
