use Rattle.promises.proofs.models.runs_so_far.what_holds_in_each_run.Goals as goal

pub returns-clause-entry_core : goal.returns-clause-entry_core
returns-clause-entry_core c = λ t depth choices p8 e p9. ((c.what_holds_so_far.ensures.in_runs t depth choices p8).each_issued e p9).fits.core

pub returns-clause-entry_place : goal.returns-clause-entry_place
returns-clause-entry_place c = λ t depth choices p8 e p9. ((c.what_holds_so_far.ensures.in_runs t depth choices p8).each_issued e p9).fits.place

pub returns-clause-location : goal.returns-clause-location
returns-clause-location c = λ t depth choices p8 e p9. ((c.what_holds_so_far.ensures.in_runs t depth choices p8).each_issued e p9).fits.location

pub returns-clause-fence : goal.returns-clause-fence
returns-clause-fence c = λ t depth choices p8 e p9. ((c.what_holds_so_far.ensures.in_runs t depth choices p8).each_issued e p9).fits.fence

pub returns-clause-entry : goal.returns-clause-entry
returns-clause-entry c = λ t depth choices p8 e p9. ((c.what_holds_so_far.ensures.in_runs t depth choices p8).each_issued e p9).entry

pub returns-clause-program_order : goal.returns-clause-program_order
returns-clause-program_order c = λ t depth choices p8. (c.what_holds_so_far.ensures.in_runs t depth choices p8).program_order

pub returns-clause-adjacent : goal.returns-clause-adjacent
returns-clause-adjacent c = λ t depth choices p8. (c.what_holds_so_far.ensures.in_runs t depth choices p8).adjacent

pub returns-clause-read_values : goal.returns-clause-read_values
returns-clause-read_values c = λ t depth choices p8. (c.what_holds_so_far.ensures.in_runs t depth choices p8).read_values

pub returns-clause-memory : goal.returns-clause-memory
returns-clause-memory c = λ t depth choices p8. (c.what_holds_so_far.ensures.in_runs t depth choices p8).memory

pub returns-clause-size : goal.returns-clause-size
returns-clause-size c = λ t depth choices p8. (c.what_holds_so_far.ensures.in_runs t depth choices p8).size

pub returns-clause-core_place : goal.returns-clause-core_place
returns-clause-core_place c = λ t depth choices p8 k p10. ((c.what_holds_so_far.ensures.in_runs t depth choices p8).cores k p10).place

pub returns-clause-pending : goal.returns-clause-pending
returns-clause-pending c = λ t depth choices p8 k p10. ((c.what_holds_so_far.ensures.in_runs t depth choices p8).cores k p10).pending

pub returns-clause-room : goal.returns-clause-room
returns-clause-room c = λ t depth choices p8 k p10. ((c.what_holds_so_far.ensures.in_runs t depth choices p8).cores k p10).room

pub returns-clause-order : goal.returns-clause-order
returns-clause-order c = λ t depth choices p8 k p10. ((c.what_holds_so_far.ensures.in_runs t depth choices p8).cores k p10).order

pub returns-clause-core_locations : goal.returns-clause-core_locations
returns-clause-core_locations c = λ t depth choices p8 k p10. ((c.what_holds_so_far.ensures.in_runs t depth choices p8).cores k p10).locations

pub returns-clause-committed : goal.returns-clause-committed
returns-clause-committed c = λ t depth choices p8 k p10. ((c.what_holds_so_far.ensures.in_runs t depth choices p8).cores k p10).others

pub returns-clause-registers : goal.returns-clause-registers
returns-clause-registers c = λ t depth choices p8 k p10. ((c.what_holds_so_far.ensures.in_runs t depth choices p8).cores k p10).registers
