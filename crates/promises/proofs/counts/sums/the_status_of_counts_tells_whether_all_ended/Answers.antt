use Rattle.std.proofs.Common.{◌≡◌, ◌<◌, ◌==◌, ℕ, Bool, if◌then◌else◌, refl, ap, arith}
use Rattle.basic_laws.proofs.Basics.{test-false}
use Rattle.tso_cli.specs.declared.answer.Status.TheVariants.{Good, Unended}
use Rattle.promises.proofs.counts.sums.the_status_of_counts_tells_whether_all_ended.Goals as goal

unended : (n : ℕ) → 0 < n → (if n == 0 then Good else Unended) ≡ Unended
unended n some = ap (λ (b : Bool). if b then Good else Unended) (test-false n 0 (λ e. omega (arith, e, some)))

pub returns-clause-all : goal.returns-clause-all
returns-clause-all given = λ k none. rw none refl

pub returns-clause-some : goal.returns-clause-some
returns-clause-some given = λ k some. unended k.unfinished some

pub returns-clause-answers : goal.returns-clause-answers
returns-clause-answers given = λ t kind c plan json out status said. said.answers
