-- What a request on the bus asks of another core's copy: the column of the protocol's table for it (the snoop). (Primer,
-- chapter 7.)
use Rattle.protocol_tables.specs.Tables.{Table}
use Rattle.protocol_tables.specs.declared.requests.Request.{Request}
use Rattle.protocol_tables.specs.declared.requests.Request.TheVariants.{GetM, GetS}
use Rattle.protocol_tables.specs.declared.state.Snoop.{Snoop}
use Rattle.protocol_tables.specs.declared.state.State.{State}

-- a column of the protocol's table
abbrev pub snoop_column : Table → Request → State → Snoop
snoop_column t GetS = t.on_get_s
snoop_column t GetM = t.on_get_m
