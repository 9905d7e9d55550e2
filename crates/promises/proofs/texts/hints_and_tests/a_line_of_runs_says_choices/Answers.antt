use Rattle.promises.proofs.Vocabulary.{◌≤◌, ℕ, List, ap, arith, inl, inr, length, length-append}
use Rattle.tso_cli.specs.Hints.{IsHintWithRuns}
use Rattle.promises.proofs.texts.hints_and_tests.a_line_of_runs_says_choices.Goals as goal

pub returns-clause-is : goal.returns-clause-is
returns-clause-is c = λ text said. said.is

pub returns-clause-short : goal.returns-clause-short
returns-clause-short c = λ text said. said.short

both-short : (text : List ℕ) → IsHintWithRuns text → length text ≤ 2304
both-short text (hint, runs, first, inl none, is) = let n = first.short in let m = ap length none in rw (is, length-append hint runs) (omega (arith, n, m))
both-short text (hint, runs, first, inr second, is) = let n = first.short in let m = second.short in rw (is, length-append hint runs) (omega (arith, n, m))

pub returns-clause-both : goal.returns-clause-both
returns-clause-both c = both-short
