-- What a line is in between its core's request and the words' coming in (transient states): which of them tells whether its
-- own core may still read it. (Primer, chapter 7.)
use Rattle.std.specs.Prelude.{Option, Some, None}
use Rattle.protocol_tables.specs.declared.state.State.{State}
use Rattle.protocol_tables.specs.declared.state.State.TheVariants.{I, S, E, O, M}
use Rattle.protocol_tables.specs.declared.requests.Request.{Request}
use Rattle.protocol_tables.specs.declared.requests.Request.TheVariants.{GetS, GetM}
use Rattle.protocol_tables.specs.declared.requests.Transient.{Transient}
use Rattle.protocol_tables.specs.declared.requests.Transient.TheVariants.{IsD, ImD, SmD}

-- a reader asks where it has no copy, a writer also where its copy is in S or O
abbrev pub transient_of : State → Request → Option Transient
transient_of I GetS = Some IsD
transient_of S GetS = None
transient_of E GetS = None
transient_of O GetS = None
transient_of M GetS = None
transient_of I GetM = Some ImD
transient_of S GetM = Some SmD
transient_of O GetM = Some SmD
transient_of E GetM = None
transient_of M GetM = None
