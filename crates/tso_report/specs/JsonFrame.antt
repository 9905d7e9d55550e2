-- A report as JSON, of which the members `cache` and `machine` are left open: what else is there no cache has a part
-- in, on the atomic bus.
use Rattle.std.specs.Prelude.{ℕ, List, codes}
use Rattle.serde_json.specs.Data.{Data, object, no_members, member}
use Rattle.serde_json.specs.Written.{compact_text}
use Rattle.tso_report.specs.Report.{line}

-- the other members
pub record OtherMembers : Type 0 where
  pub choices : Data
  pub condition : Data
  pub memory : Data
  pub order : Data
  pub registers : Data
  pub test : Data

-- the line that has them, and these two
abbrev pub json_with : OtherMembers → Data → Data → List ℕ
json_with others cache machine =
    line (compact_text (object
    (member (codes "cache") cache
    (member (codes "choices") others.choices
    (member (codes "condition") others.condition
    (member (codes "machine") machine
    (member (codes "memory") others.memory
    (member (codes "order") others.order
    (member (codes "registers") others.registers
    (member (codes "test") others.test no_members))))))))))
