-- A machine whose choices are told, at the beginning.
use Rattle.trace_report.proofs.Vocabulary.{refl, Litmus, Table, length-starts, Configuration, new_machine, IsTraced}
use Rattle.trace_report.proofs.Places.{stores-first}

pub traced-first : (table : Table) (config : Configuration) (t : Litmus) → IsTraced t config (new_machine table config t)
traced-first table config t = record {
  test = refl;
  config = refl;
  whole = refl;
  cores = length-starts 0 t.programs t.registers;
  stores = stores-first t;
}
