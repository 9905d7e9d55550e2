-- What a place where a word is found says: of the core's line, of who holds the bus, and of who supplies what is asked for.
use Rattle.std.proofs.Common.{◌≡◌, ◌∙◌, ℕ, Option, None, Some, subst, sym}
use Rattle.std.specs.Prelude.{is_some, true}
use Rattle.tso_terms.specs.FlatMachine.{chosen}
use Rattle.tso_terms.specs.MemoryAccess.{MemoryAccess}
use Rattle.tso_terms.specs.SplitMachine.{Holder, Free, HeldBy}
use Rattle.basic_laws.specs.Types.{Choice, Core}
use Rattle.cache_set.specs.CacheTags.{first_supplier}
use Rattle.cache_set.specs.Requests.{snoop_column}
use Rattle.snoop_bus.specs.Asks.{tag_at}
use Rattle.snoop_bus.specs.Rows.{table_of_rows}
use Rattle.snoop_bus.specs.declared.access.BusRequest.{BusRequest}
use Rattle.multiprocessor.specs.Caches.{Caches}
use Rattle.multiprocessor.specs.declared.accesses.CacheUse.{CacheUse}
use Rattle.trace_report.specs.SupplyLaws.{AwaitsItsLine, HasItsLine, IsSupplied, line_accessed, request_made}

same-line : (one other : ℕ) → Some one ≡ Some other → one ≡ other
same-line one other q = cc

same-request : (one other : BusRequest) → Some one ≡ Some other → one ≡ other
same-request one other q = cc

pub own-copy : (c : Caches) (core line : ℕ) (what : MemoryAccess)
    → HasItsLine c core what
    → line_accessed c what ≡ Some line
    → is_some (tag_at core line c.contents) ≡ true
own-copy c core line what h q = subst (λ l. is_some (tag_at core l c.contents) ≡ true) (same-line h.line line (sym h.accessed ∙ q)) h.copy

pub bus-held : (c : Caches) (holder : Holder) (choice : Choice) (what : MemoryAccess)
    → AwaitsItsLine c holder choice what
    → (holder ≡ HeldBy choice) × (is_some c.awaited ≡ true)
bus-held c holder choice what h = (h.holds, h.awaited)

pub bus-absent : (c : Caches) (holder : Holder) (choice : Choice) (line : ℕ) (what : MemoryAccess)
    → AwaitsItsLine c holder choice what
    → line_accessed c what ≡ Some line
    → tag_at (chosen choice) line c.contents ≡ None
bus-absent c holder choice line what h q =
    subst (λ l. tag_at (chosen choice) l c.contents ≡ None) (same-line h.line line (sym h.accessed ∙ q)) h.absent

module _ (c : Caches) (holder : Holder) (core : ℕ) (what : MemoryAccess) (how : CacheUse) (supplier : Option Core) where
  pub supplied-free : IsSupplied c holder core what how supplier → holder ≡ Free
  supplied-free h = h.resting

  pub supplied-absent : (line : ℕ) → IsSupplied c holder core what how supplier → line_accessed c what ≡ Some line → tag_at core line c.contents ≡ None
  supplied-absent line h q = subst (λ l. tag_at core l c.contents ≡ None) (same-line h.request.line line (sym h.accessed ∙ q)) h.absent

  pub supplied-first : (request : BusRequest)
      → IsSupplied c holder core what how supplier
      → request_made how ≡ Some request
      → first_supplier 0 (snoop_column (table_of_rows c.rows) request.request) request.line c.contents ≡ supplier
  supplied-first request h q =
      subst (λ r. first_supplier 0 (snoop_column (table_of_rows c.rows) r.request) r.line c.contents ≡ supplier)
      (same-request h.request request (sym h.made ∙ q)) h.first
