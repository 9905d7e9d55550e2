use Rattle.sweep_runs.proofs.Vocabulary.{◌≡◌, ◌==◌, ◌&&◌, ◌+◌, ℕ, Bool, List, map, refl, ap, sym, subst, ◌∙◌, add-one, arith, Run, Choice}
use Rattle.sweep_runs.proofs.Vocabulary.{choice_of_word, drawn_words, seeded_choices, RunCounts, Ascend, runs_in, run_under, AnswersFit}
use Rattle.sweep_runs.proofs.Vocabulary.{choices_of, seeded_run, with_one_run, counts_from}
use Rattle.sweep_runs.proofs.StateLemmas.{ascend-none}
use Rattle.sweep_runs.proofs.RunsCounted.{ended-with, ascend-run, runs-with, fit-more}
use Rattle.sweep_runs.proofs.runner.count_runs.Goals as goal
use Rattle.sweep_runs.proofs.runner.count_runs.Goals.{then-all_ended, else-all_ended}

pub count_run-requires-clause-room : goal.count_run-requires-clause-room
count_run-requires-clause-room g c =
    let so_far = c.loop-at.invariant.number in
    let within = c.seeds-at-end.ensures.within in
    let here = c.loop-at-test.true in
    let seeds = c.seeds-at-end.ensures.value in
    omega arith

pub loop-at-init : goal.loop-at-init
loop-at-init g c = record {
  test = c.requires.tally;
  runs = c.requires.runs;
  same = λ cs. refl;
  fits = λ cs fit. fit;
  counts = λ kind config is. c.requires.nothing;
  answers = λ kind config fit n l. absurd (omega (arith, l));
  ascend = subst (λ (k : RunCounts). Ascend k.states) (sym c.requires.nothing) ascend-none;
  number = ap runs_in c.requires.nothing;
  ended = ap (λ (k : RunCounts). k.unfinished == 0) (sym c.requires.nothing);
}

pub loop-at-preserved : goal.loop-at-preserved
loop-at-preserved g c =
    let i = c.loop-at.invariant in
    let t = c.args.test.now in
    let before = c.loop-at.tally.counts in
    let cs : List Choice = map (choice_of_word c.new-choices.result.cores) (drawn_words c.new-choices.result.left c.new-choices.result.generator) in
    let r = g.R.Runner.run_of c.loop-at.runner t cs in
    let drawn : cs ≡ choices_of t c.args.plan.length (c.args.plan.from + c.loop-at.at) =
    c.new-choices.ensures.exact ∙ ap (λ (n : ℕ). seeded_choices n c.seed.result c.length-length.result) c.cores.ensures.value
    ∙ ap (λ (s : ℕ). choices_of t c.length-length.result s) c.seed.ensures
    ∙ ap (λ (n : ℕ). choices_of t n (c.args.plan.from + c.loop-at.at)) c.length-length.ensures in
    let one : c.count_run.new.tally.counts ≡ with_one_run t r before = c.in_ok-ended.ensures.counts in
    let joined : c.if-all_ended.all_ended ≡ (c.loop-at.all_ended && c.in_ok-ended.ended) = elim c.if-all_ended.branch [
      | then-all_ended w ↦ w.all_ended-is ∙ ap (λ (b : Bool). b && c.in_ok-ended.ended) (sym w.if-all_ended.true)
      | else-all_ended w ↦ w.all_ended-is ∙ w.if-all_ended.false ∙ ap (λ (b : Bool). b && c.in_ok-ended.ended) (sym w.if-all_ended.false)
    ] in
    record {
      test = c.in_ok-ended.ensures.test ∙ i.test;
      runs = c.in_ok-ended.ensures.again.again;
      same = λ cs. c.in_ok-ended.ensures.again.same cs ∙ i.same cs;
      fits = λ cs fit. i.fits cs (c.in_ok-ended.ensures.again.fit cs fit);
      counts = λ kind config is. rw add-one (one
          ∙ ap (λ (r : Run). with_one_run t r before) (i.same cs ∙ (is cs ∙ ap (λ (l : List Choice). run_under t kind config l) drawn))
          ∙ ap (λ (k : RunCounts). with_one_run t (seeded_run t kind config c.args.plan.length (c.args.plan.from + c.loop-at.at)) k) (i.counts kind config is));
      answers = λ kind config fit.
          fit-more t kind config c.args.plan.length c.args.plan.from c.loop-at.at c.args.plan.length
          (c.args.plan.from + c.loop-at.at) (i.answers kind config fit) refl refl
          (subst (λ (l : List Choice). AnswersFit t kind config l) drawn (fit cs (i.fits cs c.in_ok-ended.ensures.answers)));
      ascend = subst (λ (k : RunCounts). Ascend k.states) (sym one) (ascend-run t r before i.ascend);
      number = ap runs_in one ∙ runs-with t r before i.ascend ∙ ap (λ (n : ℕ). n + 1) i.number;
      ended =
          joined
          ∙ ap (λ (e : Bool). c.loop-at.all_ended && e) c.in_ok-ended.ensures.ended
          ∙ ended-with t r before c.loop-at.all_ended i.ended
          ∙ ap (λ (k : RunCounts). k.unfinished == 0) (sym one);
    }

pub returns-clause-counts : goal.returns-clause-counts
returns-clause-counts g c = λ kind config new.
    let all : c.loop-at.at ≡ c.args.plan.seeds = omega (arith, c.loop-at-test.false, c.loop-at.auto.at-end, c.seeds-at-end.ensures.value) in
    c.loop-at.invariant.counts kind config new ∙ ap (λ (n : ℕ). counts_from c.args.test.now kind config c.args.plan.length c.args.plan.from n) all

pub returns-clause-answers : goal.returns-clause-answers
returns-clause-answers g c = λ kind config new n l.
    c.loop-at.invariant.answers kind config new n (omega (arith, l, c.loop-at-test.false, c.loop-at.auto.at-end, c.seeds-at-end.ensures.value))
