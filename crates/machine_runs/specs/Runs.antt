-- The run of a test under choices, on a machine of a protocol and a configuration. (Primer, chapter 4, for the two parts of
-- a locked instruction, which are together in the order; the rest is this project's profile.)
use Rattle.std.specs.Prelude.{List}
use Rattle.tso_terms.specs.Litmus.{Litmus}
use Rattle.tso_terms.specs.FlatMachine.{start}
use Rattle.tso_terms.specs.Runs.{Run, run}
use Rattle.tso_terms.specs.EitherBus.{unheld, run_on, HitsFit}
use Rattle.tso_terms.specs.Together.{together}
use Rattle.basic_laws.specs.Types.{Bus, Atomic, Split, Choice}
use Rattle.protocol_tables.specs.Tables.{Table, table_of}
use Rattle.protocol_tables.specs.declared.kind.ProtocolKind.{ProtocolKind}
use Rattle.multiprocessor.specs.Answered.{answered}
use Rattle.multiprocessor.specs.Configuration.{Configuration}
use Rattle.multiprocessor.specs.Statistics.{counts_of}
use Rattle.multiprocessor.specs.declared.counts.Counts.{Counts}

-- on the atomic bus, the flat machine's run: neither the protocol nor the caches have a part in it. On the split bus, the
-- split machine's run with the caches' answers whether an access hits, each locked instruction's load part put directly
-- before its store part.
abbrev pub run_by : Bus → Table → Configuration → Litmus → List Choice → Run
run_by Atomic table c t choices = run t c.depth choices
run_by Split table c t choices = together (run_on Split t c.depth (answered Split table c.shape t c.depth choices)).run

abbrev pub run_under : Litmus → ProtocolKind → Configuration → List Choice → Run
run_under t kind c choices = run_by c.bus (table_of kind) c t choices

-- the counts of each core's accesses along the run
abbrev pub counts_by : Table → Configuration → Litmus → List Choice → List Counts
counts_by table c t choices = counts_of c.bus table c.shape t c.depth choices

abbrev pub counts_under : Litmus → ProtocolKind → Configuration → List Choice → List Counts
counts_under t kind c choices = counts_by (table_of kind) c t choices

-- the answers along the run are such as caches may give: between the two parts of a locked instruction no write of another
-- core to its location hits. On the atomic bus this is so of all answers.
abbrev pub AnswersFitBy : Table → Configuration → Litmus → List Choice → Type 0
AnswersFitBy table c t choices = HitsFit c.bus t c.depth (unheld (start t)) (answered c.bus table c.shape t c.depth choices)

abbrev pub AnswersFit : Litmus → ProtocolKind → Configuration → List Choice → Type 0
AnswersFit t kind c choices = AnswersFitBy (table_of kind) c t choices
