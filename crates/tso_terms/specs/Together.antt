-- Commits with the two parts of each locked instruction side by side.
-- (Primer, chapter 4: the load and the store of a read-modify-write are together in the order.)
use Rattle.std.specs.Prelude.{if◌then◌else◌, List, [], ◌∷◌}
use Rattle.tso_terms.specs.ProgramOrder.{same_kind}
use Rattle.tso_terms.specs.ProgramEntries.{is_at}
use Rattle.tso_terms.specs.Runs.{Run}
use Rattle.tso_terms.specs.declared.execution.Entry.{Entry}
use Rattle.tso_terms.specs.declared.execution.Kind.TheVariants.{LR, LW}

-- a load part, put directly before its store part, the first LW of its core and place; at the end where there is none
abbrev pub put_before : Entry → List Entry → List Entry
put_before x [] = x ∷ []
put_before x (e ∷ es) = if is_at x.core.0 x.place LW e then x ∷ (e ∷ es) else e ∷ put_before x es

-- each load part directly before its store part; all else stays in its order
abbrev pub put_together : List Entry → List Entry
put_together [] = []
put_together (e ∷ es) = if same_kind e.kind LR then put_before e (put_together es) else e ∷ put_together es

-- the run with its commits put together
abbrev pub together : Run → Run
together r = record {
  ended = r.ended;
  state = r.state;
  commits = put_together r.commits;
  used = r.used;
  stalled = r.stalled;
  unused = r.unused;
}
