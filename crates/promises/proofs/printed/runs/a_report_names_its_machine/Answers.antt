use Rattle.promises.proofs.printed.runs.a_report_names_its_machine.Goals as goal

pub returns-clause-line_test : goal.returns-clause-line_test
returns-clause-line_test given = λ t u kind other_kind c d s other p1 p2 p3 p4 p5 p6 p7.
    (given.reports_tell_their_machines.ensures.lines t u kind other_kind c d s other p1 p2 p3 p4 p5 p6 p7).test

pub returns-clause-line_protocol : goal.returns-clause-line_protocol
returns-clause-line_protocol given = λ t u kind other_kind c d s other p1 p2 p3 p4 p5 p6 p7.
    (given.reports_tell_their_machines.ensures.lines t u kind other_kind c d s other p1 p2 p3 p4 p5 p6 p7).protocol

pub returns-clause-line_configuration : goal.returns-clause-line_configuration
returns-clause-line_configuration given = λ t u kind other_kind c d s other p1 p2 p3 p4 p5 p6 p7.
    (given.reports_tell_their_machines.ensures.lines t u kind other_kind c d s other p1 p2 p3 p4 p5 p6 p7).configuration

pub returns-clause-json_test : goal.returns-clause-json_test
returns-clause-json_test given = λ t u kind other_kind c d s other p1 p2 p3 p4 p5 p6 p7.
    (given.reports_tell_their_machines.ensures.json t u kind other_kind c d s other p1 p2 p3 p4 p5 p6 p7).test

pub returns-clause-json_protocol : goal.returns-clause-json_protocol
returns-clause-json_protocol given = λ t u kind other_kind c d s other p1 p2 p3 p4 p5 p6 p7.
    (given.reports_tell_their_machines.ensures.json t u kind other_kind c d s other p1 p2 p3 p4 p5 p6 p7).protocol

pub returns-clause-json_configuration : goal.returns-clause-json_configuration
returns-clause-json_configuration given = λ t u kind other_kind c d s other p1 p2 p3 p4 p5 p6 p7.
    (given.reports_tell_their_machines.ensures.json t u kind other_kind c d s other p1 p2 p3 p4 p5 p6 p7).configuration
