-- What the choices of a run had to do with the caches, one for each choice, up to the first moment at which the test has ended.
-- (This project's profile; what a choice has to do with them is the machine's on either bus.)
use Rattle.std.specs.Prelude.{if◌then◌else◌, List, [], ◌∷◌}
use Rattle.tso_terms.specs.Litmus.{Litmus}
use Rattle.tso_terms.specs.Runs.{has_ended}
use Rattle.tso_terms.specs.declared.choice.Choice.{Choice}
use Rattle.protocol_tables.specs.Tables.{Table}
use Rattle.multiprocessor.specs.Configuration.{Configuration}
use Rattle.multiprocessor.specs.Keeping.{core_in}
use Rattle.machine_core.specs.Running.{Running, new_machine, machine_after, machine_use}
use Rattle.cache_counts.specs.declared.noting.CoreUse.{CoreUse}

-- of a choice on a machine
abbrev pub core_use_at : Running → Choice → CoreUse
core_use_at m choice = record { core = core_in choice; how = (machine_use m choice).how }

-- of the choices from a machine on
abbrev pub uses_from : Running → List Choice → List CoreUse
uses_from m [] = []
uses_from m (c ∷ cs) = if has_ended m.test m.state.flat then [] else core_use_at m c ∷ uses_from (machine_after m c) cs

-- of a test's run under choices, on a machine of this protocol's table and this configuration
abbrev pub uses_of : Table → Configuration → Litmus → List Choice → List CoreUse
uses_of table c t choices = uses_from (new_machine table c t) choices
