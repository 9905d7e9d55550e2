-- The run of a test on the split bus, where a request and its answer are two moments. (Primer, chapters 6 and 7; the rest is this
-- project's profile.)
use Rattle.std.specs.Prelude.{List}
use Rattle.tso_cli.specs.Vocabulary.{Choice, Configuration, Litmus, ProtocolKind, Run, Split, table_of}
use Rattle.tso_terms.specs.EitherBus.{run_on}
use Rattle.tso_terms.specs.Together.{together}
use Rattle.multiprocessor.specs.Answered.{answered}

-- the split machine's run, with the caches' answers whether an access hits; in its order each locked instruction's load part is
-- put directly before its store part
abbrev pub split_run : Litmus → ProtocolKind → Configuration → List Choice → Run
split_run t kind c choices = together (run_on Split t c.depth (answered Split (table_of kind) c.shape t c.depth choices)).run
