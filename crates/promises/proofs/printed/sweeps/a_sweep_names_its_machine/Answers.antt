use Rattle.promises.proofs.printed.sweeps.a_sweep_names_its_machine.Goals as goal

pub returns-clause-test : goal.returns-clause-test
returns-clause-test given = λ t u kind other_kind c d plan other_plan counts other x y p q v w m n same.
    (given.sweeps_tell_their_machines.ensures t u kind other_kind c d plan other_plan counts other x y p q v w m n same).0.test

pub returns-clause-protocol : goal.returns-clause-protocol
returns-clause-protocol given = λ t u kind other_kind c d plan other_plan counts other x y p q v w m n same.
    (given.sweeps_tell_their_machines.ensures t u kind other_kind c d plan other_plan counts other x y p q v w m n same).0.protocol

pub returns-clause-configuration : goal.returns-clause-configuration
returns-clause-configuration given = λ t u kind other_kind c d plan other_plan counts other x y p q v w m n same.
    (given.sweeps_tell_their_machines.ensures t u kind other_kind c d plan other_plan counts other x y p q v w m n same).0.configuration

pub returns-clause-plan : goal.returns-clause-plan
returns-clause-plan given = λ t u kind other_kind c d plan other_plan counts other x y p q v w m n same.
    (given.sweeps_tell_their_machines.ensures t u kind other_kind c d plan other_plan counts other x y p q v w m n same).1
