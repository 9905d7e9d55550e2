-- The names of the protocols, by which a command line chooses one and a report tells which it was.
use Rattle.std.specs.Prelude.{ℕ, List, codes}
use Rattle.protocol_tables.specs.declared.kind.ProtocolKind.{ProtocolKind}
use Rattle.protocol_tables.specs.declared.kind.ProtocolKind.TheVariants.{Msi, Mesi, Moesi, Mosi}

abbrev pub protocol_name : ProtocolKind → List ℕ
protocol_name Msi = codes "msi"
protocol_name Mesi = codes "mesi"
protocol_name Moesi = codes "moesi"
protocol_name Mosi = codes "mosi"
