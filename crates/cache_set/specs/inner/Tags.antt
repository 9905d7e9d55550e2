-- The tags of a set once no line is dirty: M and O are S, and the order of last use is as it was.
use Rattle.std.specs.Prelude.{map}
use Rattle.protocol_tables.specs.declared.state.State.{State}
use Rattle.protocol_tables.specs.declared.state.State.TheVariants.{E, I, M, O, S}
use Rattle.cache_set.specs.Tags.{TagSet, tag_set}

-- the dirty states become S once memory has their words
abbrev pub clean : State → State
clean M = S
clean O = S
clean E = E
clean S = S
clean I = I

abbrev pub cleaned : TagSet → TagSet
cleaned s = tag_set (map (λ t. (t.0, clean t.1)) s.tags) s.ways
