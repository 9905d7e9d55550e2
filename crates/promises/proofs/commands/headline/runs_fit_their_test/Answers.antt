use Rattle.promises.proofs.commands.headline.runs_fit_their_test.Goals as goal

pub returns-clause-of_test : goal.returns-clause-of_test
returns-clause-of_test given = λ t kind c choices p1 p2 p3 p4. (given.runs_fit_their_tests.ensures.ended t kind c choices p1 p2 p3 p4).of_test

pub returns-clause-small : goal.returns-clause-small
returns-clause-small given = λ t kind c choices p1 p2 p3 p4. (given.runs_fit_their_tests.ensures.ended t kind c choices p1 p2 p3 p4).small

pub returns-clause-states : goal.returns-clause-states
returns-clause-states given = λ t kind c plan p1 p2 p3. (given.runs_fit_their_tests.ensures.swept t kind c plan p1 p2 p3).states

pub returns-clause-verdicts : goal.returns-clause-verdicts
returns-clause-verdicts given = λ t kind c plan p1 p2 p3. (given.runs_fit_their_tests.ensures.swept t kind c plan p1 p2 p3).verdicts

pub returns-clause-few : goal.returns-clause-few
returns-clause-few given = λ t kind c plan p1 p2 p3. (given.runs_fit_their_tests.ensures.swept t kind c plan p1 p2 p3).few
