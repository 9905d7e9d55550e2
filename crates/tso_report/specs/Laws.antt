-- What the laws say that are too long for a line: each is the contract of the function of the same name. So a printed order
-- is read back, and a report has a bound.
use Rattle.std.specs.Prelude.{ℕ, ◌≡◌, ◌≢◌, ◌+◌, ◌<◌, ◌≤◌, ◌^◌, List, length}
use Rattle.tso_terms.specs.Litmus.{Litmus, IsTest}
use Rattle.order_builder.specs.Spelling.{IsOrderFor, SpellsOrder}
use Rattle.protocol_tables.specs.declared.kind.ProtocolKind.{ProtocolKind}
use Rattle.cache_set.specs.Geometry as shape
use Rattle.multiprocessor.specs.Configuration.{Configuration, IsConfigurationWithinLimits}
use Rattle.tso_report.specs.Shown.{ShownRun}
use Rattle.tso_report.specs.Report.{report}
use Rattle.tso_report.specs.Limits.{longest_report, IsSmall}
use Rattle.tso_report.specs.Tally.{count_of_runs, with_values, Ascend}

abbrev pub ReportSpellsItsOrder : Type 0
ReportSpellsItsOrder =
    (t : Litmus) (kind : ProtocolKind) (c : Configuration) (s : ShownRun)
    → IsTest t → c.depth < 2 ^ 64 → shape.IsShapeWithinLimits c.shape → IsOrderFor t s.order
    → SpellsOrder t (report t kind c s) s.order

abbrev pub ReportsAreShort : Type 0
ReportsAreShort =
    (t : Litmus) (kind : ProtocolKind) (c : Configuration) (s : ShownRun)
    → IsTest t → IsConfigurationWithinLimits c → IsSmall t s → length (report t kind c s) ≤ longest_report

-- of one more run with these values: their own count grows by one, no other changes, and the lists stay in order
pub record OneMoreRunIsCounted : Type 0 where
  pub own : (values : List ℕ) (states : List (List ℕ × ℕ))
      → count_of_runs values (with_values values states) ≡ count_of_runs values states + 1
  pub others : (values other : List ℕ) (states : List (List ℕ × ℕ))
      → other ≢ values → count_of_runs other (with_values values states) ≡ count_of_runs other states
  pub order : (values : List ℕ) (states : List (List ℕ × ℕ)) → Ascend states → Ascend (with_values values states)
