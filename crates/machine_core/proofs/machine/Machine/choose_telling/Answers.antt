use Rattle.machine_core.proofs.Vocabulary.{◌≡◌, OnOk, subst, ap, sym, ◌∙◌, ◌++◌, append-nil, is_err, BusState, Stalled, AnswerFits}
use Rattle.machine_core.proofs.Vocabulary.{state_in, statistics_in, statistics_after, HasEffect, attempt_in, effect_in}
use Rattle.std.proofs.lemmas.Result.{IfOk-at_ok}
use Rattle.machine_core.proofs.RunningLemmas.{Running-same, statistics_after-nothing, same-state, on-ok, possible-next}
use Rattle.machine_core.proofs.Telling.{outcome-told, how-told, after-told, succeeds-told, refused-told}
use Rattle.machine_core.proofs.Alone.{alone-in}
use Rattle.machine_core.proofs.machine.Machine.choose_telling.Goals as goal

pub returns-clause-stall : goal.returns-clause-stall
returns-clause-stall g c = λ why how h.
    let t = c.self.inside.test.now in
    let hardware = c.self.inside.hardware in
    let new = c.make_choice-made.new.hardware in
    let choice = c.args.choice in
    let bus = hardware.config.bus in
    let depth = hardware.config.depth in
    let done : HasEffect hardware new choice (effect_in t hardware choice) (Stalled why) =
    IfOk-at_ok (λ r. HasEffect hardware new choice (effect_in t hardware choice) r.0) h c.make_choice-made.ensures.ok in
    let rests =
    c.stalls_on_either_bus_change_nothing.ensures bus t depth hardware.commits.entries (state_in hardware)
    (attempt_in t hardware choice) why c.self.invariant.possible (sym done.outcome) in
    let flat = done.flat ∙ ap (λ (s : BusState). s.flat) rests.same in
    let holder = ap (λ (s : BusState). s.holder) rests.same in
    let state : state_in new ≡ state_in hardware = same-state (state_in new) (state_in hardware) flat (done.holder ∙ holder) in
    let commits = done.commits ∙ ap (λ es. hardware.commits.entries ++ es) rests.none ∙ append-nil hardware.commits.entries in
    let counted : statistics_in new ≡ statistics_after bus t depth (state_in hardware) choice (statistics_in hardware) =
    subst (λ r.
    OnOk r (statistics_in new ≡ statistics_after bus t depth (state_in hardware) choice (statistics_in hardware)))
    h c.make_choice-made.ensures.statistics in
    let statistics = counted ∙ statistics_after-nothing bus t depth (state_in hardware) choice (statistics_in hardware) rests.none holder in
    let failed = c.is_err-self-inside.ensures.value ∙ ap (λ r. is_err r) h ∙ sym c.if-self.false in
    Running-same c.args.self.now t bus new.config.bus depth new.config.depth (state_in hardware) (state_in new)
    hardware.commits.entries new.commits.entries (statistics_in hardware) (statistics_in new) c.self.inside.failed
    c.is_err-self-inside.result
    c.self.view_is (ap (λ config. config.bus) c.make_choice-made.ensures.config)
    (ap (λ config. config.depth) c.make_choice-made.ensures.config) state commits statistics failed

pub make_choice-made-requires-clause-consistent : goal.make_choice-made-requires-clause-consistent
make_choice-made-requires-clause-consistent g c =
    let hardware = c.self.inside.hardware in
    let so_far =
    c.what_holds_so_far_on_either_bus.ensures.so_far hardware.config.bus c.self.inside.test.now
    hardware.config.depth hardware.commits.entries (state_in hardware) c.self.invariant.possible in
    record { fits = c.self.invariant.fits; held = c.self.invariant.held; holder = so_far.holder }

pub invariant_of-self : goal.invariant_of-self
invariant_of-self g c =
    let hardware = c.self.inside.hardware in
    let t = c.self.inside.test.now in
    let made = c.make_choice-made.ensures in
    record {
      fits = made.of_test.fits;
      held = made.of_test.held;
      possible = possible-next c.make_choice-made.result t hardware c.make_choice-made.new.hardware c.args.choice c.self.invariant.possible
          (c.attempts_lead_from_state_to_state.ensures.next hardware.config.bus t hardware.config.depth hardware.commits.entries (state_in hardware))
          made.answer made.ok made.err_state made.err_commits made.config;
      tallied = made.tallied;
    }

pub returns-clause-answer : goal.returns-clause-answer
returns-clause-answer g c =
    on-ok c.make_choice-made.result (AnswerFits c.args.self.now c.args.choice)
    (subst (λ m. AnswerFits m c.args.choice) c.self.view_is c.make_choice-made.ensures.answer)

pub returns-clause-outcome : goal.returns-clause-outcome
returns-clause-outcome g c =
    outcome-told c.make_choice-made.result c.self.inside.test.now c.self.inside.hardware c.make_choice-made.new.hardware
    c.args.choice c.args.self.now c.self.inside.failed c.self.view_is c.make_choice-made.ensures.ok

pub returns-clause-how : goal.returns-clause-how
returns-clause-how g c =
    how-told c.make_choice-made.result c.self.inside.test.now c.self.inside.hardware c.make_choice-made.new.hardware
    c.args.choice c.args.self.now c.self.inside.failed c.self.view_is c.make_choice-made.ensures.how

pub returns-clause-after : goal.returns-clause-after
returns-clause-after g c =
    after-told c.make_choice-made.result c.self.inside.test.now c.self.inside.hardware c.make_choice-made.new.hardware
    c.args.choice c.args.self.now c.self.inside.failed c.self.view_is c.is_err-self-inside.result
    c.make_choice-made.ensures.config c.if-self.false c.is_err-self-inside.ensures.value c.make_choice-made.ensures.ok
    c.make_choice-made.ensures.statistics

pub returns-clause-succeeds : goal.returns-clause-succeeds
returns-clause-succeeds g c = λ sound.
    succeeds-told c.make_choice-made.result c.self.inside.test.now c.self.inside.hardware
    c.make_choice-made.new.hardware c.args.choice c.args.self.now c.self.inside.failed c.self.view_is
    c.make_choice-made.ensures.succeeds

pub returns-clause-refused : goal.returns-clause-refused
returns-clause-refused g c =
    refused-told c.make_choice-made.result c.self.inside.test.now c.self.inside.hardware c.make_choice-made.new.hardware
    c.args.choice c.args.self.now c.self.inside.failed c.self.view_is c.is_err-self-inside.result
    c.make_choice-made.ensures.config c.is_err-self-inside.ensures.value c.make_choice-made.ensures.err_state
    c.make_choice-made.ensures.err_commits c.make_choice-made.ensures.err_statistics

pub returns-clause-alone : goal.returns-clause-alone
returns-clause-alone g c =
    on-ok c.make_choice-made.result _
    (alone-in c.self.inside.test.now c.make_choice-made.new.hardware c.make_choice-made.ensures.of_test.held c.who_holds-holder.ensures.alone)
