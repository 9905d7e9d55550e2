-- What the second pass over an order goes by: the programs' entries with the order's own read values, and their tables.
use Rattle.std.specs.Prelude.{◌≡◌, List}
use Rattle.tso_terms.specs.Litmus.{Litmus, IsTest}
use Rattle.tso_terms.specs.ProgramEntries.{made}
use Rattle.tso_terms.specs.declared.execution.Entry.{Entry}
use Rattle.order_breaches.specs.inner.Matched.{IsMatched}
use Rattle.order_breaches.specs.inner.Slots.{IsIndex}
use Rattle.order_breaches.specs.inner.Sources.{TellsSources}
use Rattle.order_breaches.specs.declared.layout.Layout.{Layout}

-- the order holds each action of the programs once, and these are what they make with its reads
pub record IsLaidOut (t : Litmus) (order : List Entry) (layout : Layout) : Type 0 where
  pub test : IsTest t
  pub matched : IsMatched t order
  pub made_is : layout.made.items ≡ made t order
  pub index : IsIndex layout.made.items layout.slots.items
  pub sources_tell : TellsSources layout.made.items layout.sources.items
