use Rattle.promises.proofs.models.abstract_machine_runs.a_blocked_thread_changes_neither_memory_nor_the_lock.Goals as goal

pub returns-clause-given : goal.returns-clause-given
returns-clause-given c = λ t m p h es o p1 p2. (c.blocked_threads_read_and_flush_nothing.ensures t m p h es o p1 p2).given

pub returns-clause-memory : goal.returns-clause-memory
returns-clause-memory c = λ t m p h es o p1 p2. (c.blocked_threads_read_and_flush_nothing.ensures t m p h es o p1 p2).memory

pub returns-clause-buffer : goal.returns-clause-buffer
returns-clause-buffer c = λ t m p h es o p1 p2. (c.blocked_threads_read_and_flush_nothing.ensures t m p h es o p1 p2).buffer

pub returns-clause-lock : goal.returns-clause-lock
returns-clause-lock c = λ t m p h es o p1 p2. (c.blocked_threads_read_and_flush_nothing.ensures t m p h es o p1 p2).lock
