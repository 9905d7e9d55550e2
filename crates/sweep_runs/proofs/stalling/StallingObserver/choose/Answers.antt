use Rattle.sweep_runs.proofs.Vocabulary.{◌≤◌, sym, subst, ap, ◌∙◌, Ok, Running, length}
use Rattle.tso_terms.specs.Limits.{most_cores}
use Rattle.tso_terms.specs.declared.choice.Outcome.{Outcome}
use Rattle.sweep_runs.specs.declared.stalling.Stalling.{Stalling}
use Rattle.sweep_runs.specs.inner.Stalling.{AllStall, Stalls}
use Rattle.sweep_runs.proofs.StallsAgain.{none-noted, noted-stall}
use Rattle.sweep_runs.proofs.stalling.StallingObserver.choose.Goals as goal

pub returns-in-Some-clause-outcome : goal.returns-in-Some-clause-outcome
returns-in-Some-clause-outcome g c = sym (c.requires.watches.stall c.args.choice c.in-Some.reason (sym c.reason.ensures ∙ c.in-Some.is)).outcome

pub returns-in-Stalled-clause-watches : goal.returns-in-Stalled-clause-watches
returns-in-Stalled-clause-watches g c =
    let same = c.in_ok-outcome.ensures.stall c.in-Stalled.reason (ap (λ (o : Outcome). Ok o) c.in-Stalled.is) in
    let this : Stalls c.args.machine.now c.args.choice c.in-Stalled.reason = record {
      outcome = sym c.in_ok-outcome.ensures.outcome ∙ c.in-Stalled.is;
      same = sym c.in_ok-outcome.ensures.after ∙ same;
      answer = c.in_ok-outcome.ensures.answer;
    } in
    let noted = noted-stall c.args.self.now c.args.machine.now c.args.choice c.in-Stalled.reason c.requires.watches.stall this in
    record {
      stall =
          subst (λ (m : Running). AllStall c.note.new.self m) (sym same)
          (subst (λ (s : Stalling). AllStall s c.args.machine.now) (sym c.note.ensures) noted);
      cores = subst (λ (m : Running). length m.test.programs ≤ most_cores) (sym same) c.requires.watches.cores;
    }

pub choose-requires : goal.choose-requires
choose-requires g c = c.requires.core

pub returns-in-Some-clause-after : goal.returns-in-Some-clause-after
returns-in-Some-clause-after g c = sym (c.requires.watches.stall c.args.choice c.in-Some.reason (sym c.reason.ensures ∙ c.in-Some.is)).same

pub returns-in-Some-clause-answer : goal.returns-in-Some-clause-answer
returns-in-Some-clause-answer g c = (c.requires.watches.stall c.args.choice c.in-Some.reason (sym c.reason.ensures ∙ c.in-Some.is)).answer

pub returns-in-Some-clause-watches : goal.returns-in-Some-clause-watches
returns-in-Some-clause-watches g c = c.requires.watches

pub returns-in-Committed-clause-watches : goal.returns-in-Committed-clause-watches
returns-in-Committed-clause-watches g c = record {
  stall = none-noted c.nothing.result c.choose.new.self c.nothing.ensures;
  cores = subst (λ (m : Running). length m.test.programs ≤ most_cores) (sym c.in_ok-outcome.ensures.after) c.requires.watches.cores;
}

pub returns-in-Stalled-clause-after : goal.returns-in-Stalled-clause-after
returns-in-Stalled-clause-after g c = c.in_ok-outcome.ensures.after
