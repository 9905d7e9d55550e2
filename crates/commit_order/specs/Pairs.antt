-- The two parts of locked instructions in a list of commits.
-- (Primer, chapter 4: the load part and the store part of a read-modify-write are together in the order.)
use Rattle.std.specs.Prelude.{◌==◌, ◌&&◌, Bool, true, false, IsTrue, if◌then◌else◌, List, [], ◌∷◌}
use Rattle.tso_terms.specs.ProgramOrder.{same_kind}
use Rattle.tso_terms.specs.ProgramEntries.{is_at}
use Rattle.basic_laws.specs.Types.{Entry, LR, LW}

-- whether, of these entries, the first of the load part's core is its store part
abbrev pub has_its_store_part : Entry → List Entry → Bool
has_its_store_part x [] = false
has_its_store_part x (e ∷ es) = if e.core.0 == x.core.0 then is_at x.core.0 x.place LW e else has_its_store_part x es

abbrev pub are_answered : List Entry → Bool
are_answered [] = true
are_answered (e ∷ es) = (if same_kind e.kind LR then has_its_store_part e es else true) && are_answered es

-- after each load part of a locked instruction its store part comes, before any other entry of its core
abbrev pub IsPaired : List Entry → Type 0
IsPaired commits = IsTrue (are_answered commits)
