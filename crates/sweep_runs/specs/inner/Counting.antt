-- What is said of each protocol with the same table: a machine knows its table, and an answer names its protocol. And one who makes
-- one run after the other.
use Rattle.std.specs.Prelude.{◌≡◌, List}
use Rattle.tso_terms.specs.Litmus.{Litmus}
use Rattle.tso_terms.specs.Runs.{Run}
use Rattle.tso_terms.specs.declared.choice.Choice.{Choice}
use Rattle.protocol_tables.specs.Tables.{Table, table_of}
use Rattle.protocol_tables.specs.declared.kind.ProtocolKind.{ProtocolKind}

-- of each protocol that has this table
abbrev pub EachKindWith : Table → (ProtocolKind → Type 0) → Type 0
EachKindWith table P = (kind : ProtocolKind) → table ≡ table_of kind → P kind

-- one makes runs of this test again, which are those that the other makes, and so are the answers of the caches
pub record CanRunAgain {R : Type 0} (runs : R → Litmus → Type 0) (run_of : R → Litmus → List Choice → Run)
    (fits : R → List Choice → Type 0) (t : Litmus) (old new : R) : Type 0 where
  pub again : runs new t
  pub same : (choices : List Choice) → run_of new t choices ≡ run_of old t choices
  pub fit : (choices : List Choice) → fits new choices → fits old choices
