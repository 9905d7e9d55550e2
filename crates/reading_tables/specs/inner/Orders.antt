-- What is put before what, by program order and by facts apart.
use Rattle.std.specs.Prelude.{◌&&◌, Bool, false, List}
use Rattle.std.specs.List.{list_any}
use Rattle.tso_terms.specs.ProgramOrder.{is_before, writes_to}
use Rattle.basic_laws.specs.Types.{Entry}
use Rattle.refutation_laws.specs.Known.{same_event}
use Rattle.possible_reads.specs.Facts.{Fact, Before}

-- v is a later write of w's program to its location
abbrev pub is_followed_by : Entry → Entry → Bool
is_followed_by w v = is_before w v && writes_to w.loc.0 v

-- a fact puts w before one of these
abbrev pub puts_before_some : List Entry → Entry → Fact → Bool
puts_before_some events w (Before first second) = same_event first w && list_any (same_event second) events
puts_before_some events w _ = false
