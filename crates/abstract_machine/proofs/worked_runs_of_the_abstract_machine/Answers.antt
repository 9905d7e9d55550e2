use Rattle.abstract_machine.proofs.Vocabulary.{List, rules, Litmus, IsTest, IsTsoExecution, sb, sb_order, n6, n6_order, added}
use Rattle.abstract_machine.proofs.Vocabulary.{separated_order, Entry, short_order, turned_order, wrong_order, IsReachedFreely}
use Rattle.abstract_machine.proofs.Bounded.{Returns}
use Rattle.abstract_machine.proofs.worked_runs_of_the_abstract_machine.Goals as goal

sb-is-test : IsTest sb
sb-is-test = search rules

n6-is-test : IsTest n6
n6-is-test = search rules

added-is-test : IsTest added
added-is-test = search rules

none : Returns → (t : Litmus) (order : List Entry) → IsTest t → (IsTsoExecution t order → ⊥) → IsReachedFreely t order → ⊥
none returns t order test not r = not (returns t order r.0 test r.1)

pub returns-clause-sb_is_reached : goal.returns-clause-sb_is_reached
returns-clause-sb_is_reached c =
    c.executions_are_runs_of_the_abstract_machine.ensures sb sb_order sb-is-test c.worked_orders.ensures.sb_is_allowed

pub returns-clause-n6_is_reached : goal.returns-clause-n6_is_reached
returns-clause-n6_is_reached c =
    c.executions_are_runs_of_the_abstract_machine.ensures n6 n6_order n6-is-test c.worked_orders.ensures.n6_is_allowed

pub returns-clause-short_is_not_reached : goal.returns-clause-short_is_not_reached
returns-clause-short_is_not_reached c =
    none c.runs_of_the_abstract_machine_are_executions.ensures.order sb short_order sb-is-test c.worked_orders.ensures.short_is_not_whole

pub returns-clause-turned_is_not_reached : goal.returns-clause-turned_is_not_reached
returns-clause-turned_is_not_reached c =
    none c.runs_of_the_abstract_machine_are_executions.ensures.order n6 turned_order n6-is-test
    c.worked_orders.ensures.turned_breaks_program_order

pub returns-clause-separated_is_not_reached : goal.returns-clause-separated_is_not_reached
returns-clause-separated_is_not_reached c =
    none c.runs_of_the_abstract_machine_are_executions.ensures.order added separated_order added-is-test
    c.worked_orders.ensures.separated_is_not_adjacent

pub returns-clause-wrong_is_not_reached : goal.returns-clause-wrong_is_not_reached
returns-clause-wrong_is_not_reached c =
    none c.runs_of_the_abstract_machine_are_executions.ensures.order sb wrong_order sb-is-test
    c.worked_orders.ensures.wrong_has_another_value
