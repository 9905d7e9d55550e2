use Rattle.promises.proofs.machine.both_buses.halves_leave_the_words_and_lines_of_whole_accesses.Goals as goal

pub returns-clause-load_word : goal.returns-clause-load_word
returns-clause-load_word c = λ old whole between new core loc word other a b p1 p2 p3.
    (c.halves_leave_what_whole_accesses_do.ensures.loads old whole between new core loc word other a b p1 p2 p3).answers

pub returns-clause-load_report : goal.returns-clause-load_report
returns-clause-load_report c = λ old whole between new core loc word other a b p1 p2 p3.
    (c.halves_leave_what_whole_accesses_do.ensures.loads old whole between new core loc word other a b p1 p2 p3).same.report

pub returns-clause-load_words : goal.returns-clause-load_words
returns-clause-load_words c = λ old whole between new core loc word other a b p1 p2 p3.
    (c.halves_leave_what_whole_accesses_do.ensures.loads old whole between new core loc word other a b p1 p2 p3).same.words

pub returns-clause-load_memory : goal.returns-clause-load_memory
returns-clause-load_memory c = λ old whole between new core loc word other a b p1 p2 p3.
    (c.halves_leave_what_whole_accesses_do.ensures.loads old whole between new core loc word other a b p1 p2 p3).same.memory

pub returns-clause-load_contents : goal.returns-clause-load_contents
returns-clause-load_contents c = λ old whole between new core loc word other a b p1 p2 p3.
    (c.halves_leave_what_whole_accesses_do.ensures.loads old whole between new core loc word other a b p1 p2 p3).same.contents

pub returns-clause-write_report : goal.returns-clause-write_report
returns-clause-write_report c = λ old whole between new core loc word a b p1 p2 p3 p4 p5.
    (c.halves_leave_what_whole_accesses_do.ensures.writes old whole between new core loc word a b p1 p2 p3 p4 p5).report

pub returns-clause-write_words : goal.returns-clause-write_words
returns-clause-write_words c = λ old whole between new core loc word a b p1 p2 p3 p4 p5.
    (c.halves_leave_what_whole_accesses_do.ensures.writes old whole between new core loc word a b p1 p2 p3 p4 p5).words

pub returns-clause-write_memory : goal.returns-clause-write_memory
returns-clause-write_memory c = λ old whole between new core loc word a b p1 p2 p3 p4 p5.
    (c.halves_leave_what_whole_accesses_do.ensures.writes old whole between new core loc word a b p1 p2 p3 p4 p5).memory

pub returns-clause-write_contents : goal.returns-clause-write_contents
returns-clause-write_contents c = λ old whole between new core loc word a b p1 p2 p3 p4 p5.
    (c.halves_leave_what_whole_accesses_do.ensures.writes old whole between new core loc word a b p1 p2 p3 p4 p5).contents
