use Rattle.std.proofs.Common.{◌≤◌, ◌∙◌, List, length, arith, sym, subst}
use Rattle.protocol_tables.specs.Tables.{table_of}
use Rattle.scheduler.specs.Limits.{most_choices}
use Rattle.machine_core.specs.Running.{new_machine}
use Rattle.machine_runs.specs.Runs.{run_under, counts_under}
use Rattle.machine_runs.specs.Simulation.{IsEndingOf, HasCounts}
use Rattle.cache_counts.specs.declared.noting.CoreUse.{CoreUse}
use Rattle.cache_counts.proofs.Noted.{noted-whole, few-noted}
use Rattle.cache_counts.proofs.Numbers.{ended-numbers}
use Rattle.cache_counts.proofs.one_run.count_run.Goals as goal

pub numbers_of-requires-clause-few : goal.numbers_of-requires-clause-few
numbers_of-requires-clause-few c =
    let t = c.args.setup.now.test.now in
    let m = new_machine (table_of c.args.setup.now.protocol) c.args.setup.now.config t in
    let uses = noted-whole m c.new-noter.result c.simulate_observed.new.observer c.args.choices.now c.in_ok-run.ensures.watched c.new-noter.ensures in
    let few = few-noted m c.args.choices.now in
    let most = c.requires.few in
    subst (λ (us : List CoreUse). length us ≤ most_choices) (sym (c.deref.ensures.value ∙ uses)) (omega arith)

pub returns-in-Ended-clause-numbers : goal.returns-in-Ended-clause-numbers
returns-in-Ended-clause-numbers c =
    let t = c.args.setup.now.test.now in
    let kind = c.args.setup.now.protocol in
    let config = c.args.setup.now.config in
    let choices = c.args.choices.now in
    let m = new_machine (table_of kind) config t in
    let uses = noted-whole m c.new-noter.result c.simulate_observed.new.observer choices c.in_ok-run.ensures.watched c.new-noter.ensures in
    let ending = subst (IsEndingOf t (run_under t kind config choices)) c.in-Ended.is c.in_ok-run.ensures.ending in
    let counts = subst (HasCounts (counts_under t kind config choices)) c.in-Ended.is c.in_ok-run.ensures.counts in
    ended-numbers t kind config choices c.in_ok-numbers-in-Ended.numbers.items c.deref.result.now c.deref-in-Ended.result.now ending.0
    (c.deref.ensures.value ∙ uses) (c.deref-in-Ended.ensures.value ∙ counts) c.in_ok-numbers-in-Ended.ensures
