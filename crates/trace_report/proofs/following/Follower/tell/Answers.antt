use Rattle.trace_report.proofs.Vocabulary.{rules, with_items_is, sym, ap, subst, ◌∙◌, ◌<◌, length, own_words, Litmus, chosen, IsLookedAt, IsLineSize, ShownStep}
use Rattle.trace_report.proofs.Whole.{looked-at}
use Rattle.trace_report.proofs.RunsTold.{step-outcome}
use Rattle.trace_report.proofs.Tracing.{each-after}
use Rattle.trace_report.proofs.following.Follower.tell.Goals as goal

pub tell-requires-clause-core : goal.tell-requires-clause-core
tell-requires-clause-core g c = subst (λ (t : Litmus). chosen c.args.choice < length t.programs) c.requires.follows.0.machine.test c.requires.core

pub follow_words-requires-clause-looked : goal.follow_words-requires-clause-looked
follow_words-requires-clause-looked g c =
    subst (λ n. IsLookedAt c.args.self.now.test.now n c.tell.new.machine) (sym c.words-words.ensures.value)
    (looked-at c.args.self.now.test.now c.args.self.now.config c.tell.new.machine c.in_ok-step.ensures.told.machine
    (subst IsLineSize c.words-words.ensures.value c.words-words.ensures.within))

pub follow_words-requires-clause-each : goal.follow_words-requires-clause-each
follow_words-requires-clause-each g c = each-after c.args.machine.now c.tell.new.machine c.args.choice _ c.in_ok-step.ensures.after c.requires.follows.1.each

pub returns-clause-follows : goal.returns-clause-follows
returns-clause-follows g c =
    let own = with_items_is c.args.self.now.memory c.follow_words.new.memory (search rules) in (
      c.in_ok-step.ensures.told,
      record {
        each = each-after c.args.machine.now c.tell.new.machine c.args.choice _ c.in_ok-step.ensures.after c.requires.follows.1.each;
        own_each = ap length own ∙ c.follow_words.ensures.each;
      },
    )

pub returns-clause-memory : goal.returns-clause-memory
returns-clause-memory g c =
    with_items_is c.args.self.now.memory c.follow_words.new.memory (search rules)
    ∙ (c.follow_words.ensures.words ∙ ap (own_words c.tell.new.machine) c.deref_mut.ensures.value)

pub returns-clause-step : goal.returns-clause-step
returns-clause-step g c = (λ i. record { step = c.in_ok-step.ensures.step i; supplied = c.in_ok-step.ensures.supplied i })

pub returns-clause-outcome : goal.returns-clause-outcome
returns-clause-outcome g c = ap (λ (s : ShownStep). s.outcome) c.in_ok-step.ensures.step ∙ step-outcome c.args.machine.now c.args.choice
