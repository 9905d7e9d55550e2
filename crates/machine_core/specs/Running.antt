-- What a contract sees of a machine, and how a choice changes it. (This project's profile; what a choice does is the
-- machine's on either bus.)
use Rattle.std.specs.Prelude.{ℕ, Bool, false, List, [], ◌++◌}
use Rattle.machine_core.specs.Vocabulary.{Attempt, BusEffect, BusState, effect_on, HitFits, Litmus, start, Table, table_of_rows, unheld}
use Rattle.basic_laws.specs.Types.{Bus, Entry, Choice}
use Rattle.multiprocessor.specs.Configuration.{Configuration}
use Rattle.multiprocessor.specs.Statistics.{Statistics, no_statistics, statistics_after}
use Rattle.multiprocessor.specs.Caches.{Used, attempt_of, use_on, state_after_on}

-- a machine: its test, the kind of its bus, the depth of its store buffers, the flat machine's state with who holds the bus,
-- the entries committed so far, the statistics so far, and whether memory was refused to it
pub record Running : Type 0 where
  pub test : Litmus
  pub bus : Bus
  pub depth : ℕ
  pub state : BusState
  pub commits : List Entry
  pub statistics : Statistics
  pub failed : Bool

-- a new machine is in the flat machine's first state, nobody holds its bus, it has committed nothing, and has empty caches
abbrev pub new_machine : Table → Configuration → Litmus → Running
new_machine table config t = record {
  test = t;
  bus = config.bus;
  depth = config.depth;
  state = unheld (start t);
  commits = [];
  statistics = no_statistics table config.shape t;
  failed = false;
}

-- its protocol's table, and its configuration
abbrev pub table_in : Running → Table
table_in m = table_of_rows m.statistics.caches.rows

abbrev pub configuration_of : Running → Configuration
configuration_of m = record { depth = m.depth; shape = m.statistics.caches.shape; bus = m.bus }

-- the machine at the beginning of its test: a new one of the same protocol and configuration
abbrev pub restarted : Running → Running
restarted m = new_machine (table_in m) (configuration_of m) m.test

-- a choice on a machine, with its caches' answer whether the choice's access hits
abbrev pub attempt_on : Running → Choice → Attempt
attempt_on m choice = attempt_of m.test m.depth m.state.flat m.statistics.caches choice

-- what a choice does to a machine
abbrev pub machine_effect : Running → Choice → BusEffect
machine_effect m choice = effect_on m.bus m.test m.depth m.state (attempt_on m choice)

-- what a choice has to do with the caches of a machine
abbrev pub machine_use : Running → Choice → Used
machine_use m choice = use_on m.bus m.test m.depth m.state choice m.statistics.caches

-- the machine after a choice: the next state on its bus, what the choice commits after the earlier commits, and what it had
-- to do with the caches counted
abbrev pub machine_after : Running → Choice → Running
machine_after m choice = record {
  test = m.test;
  bus = m.bus;
  depth = m.depth;
  state = state_after_on m.bus m.test m.depth m.state m.statistics.caches choice;
  commits = m.commits ++ (machine_effect m choice).effect.commits;
  statistics = statistics_after m.bus m.test m.depth m.state choice m.statistics;
  failed = m.failed;
}

-- the answer is one that caches may give
abbrev pub AnswerFits : Running → Choice → Type 0
AnswerFits m choice = HitFits m.test m.depth m.state.flat (attempt_on m choice) m.state.holder
