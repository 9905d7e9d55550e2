use Rattle.tso_cli.proofs.Vocabulary.{◌<◌, ◌∙◌, ◌++◌, ap, refl, subst, length, string_bytes, Litmus, chosen, ShownStep, shown_step, trace_step_line}
use Rattle.trace_report.proofs.RunsTold.{step-outcome}
use Rattle.tso_cli.proofs.ToldLines.{told-is}
use Rattle.tso_cli.proofs.told_run.TellerObserver.choose.Goals as goal

pub tell_or_stall-requires-clause-core : goal.tell_or_stall-requires-clause-core
tell_or_stall-requires-clause-core g c = subst (λ (t : Litmus). chosen c.args.choice < length t.programs) c.requires.watches.machine.test c.requires.core

pub returns-in_ok-write_stall-in-Stalled-clause-makes : goal.returns-in_ok-write_stall-in-Stalled-clause-makes
returns-in_ok-write_stall-in-Stalled-clause-makes g c =
    let o = c.args.self.now in
    let is = told-is c.args.machine.now c.args.choice c.in_ok-told.told _ c.in_ok-told.ensures.step c.in-Stalled.is in
    record {
      test = refl;
      config = refl;
      number = refl;
      text =
          c.in_ok-write_stall-in-Stalled.ensures
          ∙ ap (λ (s : ShownStep). string_bytes o.text ++ trace_step_line o.test.now o.config.shape.words c.args.number s) is;
    }

pub returns-in_ok-write_stall-in-Stalled-clause-outcome : goal.returns-in_ok-write_stall-in-Stalled-clause-outcome
returns-in_ok-write_stall-in-Stalled-clause-outcome g c =
    ap (λ (s : ShownStep). s.outcome) (told-is c.args.machine.now c.args.choice c.in_ok-told.told _ c.in_ok-told.ensures.step c.in-Stalled.is)
    ∙ step-outcome c.args.machine.now c.args.choice

pub returns-in_ok-write_step-in-Made-clause-makes : goal.returns-in_ok-write_step-in-Made-clause-makes
returns-in_ok-write_step-in-Made-clause-makes g c =
    let o = c.args.self.now in
    let is = told-is c.args.machine.now c.args.choice c.in_ok-told.told _ c.in_ok-told.ensures.step c.in-Made.is in
    record {
      test = refl;
      config = refl;
      number = refl;
      text =
          c.in_ok-write_step-in-Made.ensures
          ∙ (ap (λ n. string_bytes o.text ++ trace_step_line o.test.now n c.args.number (shown_step c.in-Made.step)) c.words-words.ensures.value
          ∙ ap (λ (s : ShownStep). string_bytes o.text ++ trace_step_line o.test.now o.config.shape.words c.args.number s) is);
    }

pub returns-in_ok-write_step-in-Made-clause-outcome : goal.returns-in_ok-write_step-in-Made-clause-outcome
returns-in_ok-write_step-in-Made-clause-outcome g c =
    ap (λ (s : ShownStep). s.outcome) (told-is c.args.machine.now c.args.choice c.in_ok-told.told _ c.in_ok-told.ensures.step c.in-Made.is)
    ∙ step-outcome c.args.machine.now c.args.choice
