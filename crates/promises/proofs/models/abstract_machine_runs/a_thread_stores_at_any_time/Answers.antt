use Rattle.promises.proofs.models.abstract_machine_runs.a_thread_stores_at_any_time.Goals as goal

pub returns-clause-store : goal.returns-clause-store
returns-clause-store c = c.stores_and_moves_are_made_at_any_time.ensures.store

pub returns-clause-locked_write : goal.returns-clause-locked_write
returns-clause-locked_write c = c.stores_and_moves_are_made_at_any_time.ensures.locked_write

pub returns-clause-register_move : goal.returns-clause-register_move
returns-clause-register_move c = c.stores_and_moves_are_made_at_any_time.ensures.move

pub returns-clause-locked_instruction : goal.returns-clause-locked_instruction
returns-clause-locked_instruction c = λ t m p h loc reg update p1 p2. (c.locked_instructions_begin_whatever_the_buffer_has.ensures t m p h loc reg update p1 p2)
