-- The members of a report that the caches have no part in: two machines on the atomic bus have these alike.
use Rattle.serde_json.specs.Data.{string}
use Rattle.tso_terms.specs.Litmus.{Litmus}
use Rattle.tso_report.specs.Shown.{ShownRun}
use Rattle.tso_report.specs.Json.{choices_value, condition_value, memory_value, order_value, cores_value}
use Rattle.tso_report.specs.JsonFrame.{OtherMembers}

-- those of the report of a run
abbrev pub other_members : Litmus → ShownRun → OtherMembers
other_members t s = record {
  choices = choices_value s.used s.stalled s.unused;
  condition = condition_value t.condition s.holds;
  memory = memory_value t s.memory;
  order = order_value t s.order;
  registers = cores_value s.registers;
  test = string t.name;
}
