use Rattle.trace_report.proofs.Vocabulary.{◌≡◌, ◌∙◌, ◌<◌, length, ap, sym, subst, Ok, unwrap_or, div_ceil, chosen, core_of, IsLineSize}
use Rattle.trace_report.proofs.Vocabulary.{machine_after, StepNamesExist, found_by, stalled_step, states_of, trace_step_of}
use Rattle.trace_report.proofs.Looking.{place-of}
use Rattle.trace_report.proofs.Stalls.{stall-shown, stall-source}
use Rattle.trace_report.proofs.Whole.{Leaves, left-looked, WasLookedAt, told-whole, told-next, looked-next, step-known}
use Rattle.trace_report.proofs.telling.tell_or_stall.Goals as goal
use Rattle.trace_report.proofs.telling.tell_or_stall.Goals.{In-Stalled}

-- ---- a stall

-- it changes nothing
unchanged : (g : _) (c : In-Stalled g) → c.choose_telling.new.self ≡ c.args.machine.now
unchanged g c = c.in_ok-outcome.ensures.stall c.in-Stalled.stall c.in_ok-outcome.cache_use (ap (λ o. Ok (o, c.in_ok-outcome.cache_use)) c.in-Stalled.is)

same : (g : _) (c : In-Stalled g) → machine_after c.args.machine.now c.args.choice ≡ c.args.machine.now
same g c = sym c.in_ok-outcome.ensures.after ∙ unchanged g c

bare : (g : _) (c : In-Stalled g) → stalled_step c.args.choice c.in-Stalled.stall ≡ trace_step_of c.args.machine.now c.args.choice
bare g c = stall-shown c.args.machine.now c.args.choice c.in-Stalled.stall (same g c) (sym c.in_ok-outcome.ensures.outcome ∙ c.in-Stalled.is)

pub returns-in-Stalled-clause-step : goal.returns-in-Stalled-clause-step
returns-in-Stalled-clause-step g c = bare g c

pub returns-in-Stalled-clause-supplied : goal.returns-in-Stalled-clause-supplied
returns-in-Stalled-clause-supplied g c =
    stall-source c.args.machine.now c.args.choice c.in-Stalled.stall (same g c) (sym c.in_ok-outcome.ensures.outcome ∙ c.in-Stalled.is)

pub returns-in-Stalled-clause-known : goal.returns-in-Stalled-clause-known
returns-in-Stalled-clause-known g c =
    subst (StepNamesExist c.args.test.now c.args.config.shape.words) (sym (bare g c))
    (step-known c.args.test.now c.args.config c.args.machine.now c.args.choice c.know_limits.ensures
    c.requires.told.machine
    (subst IsLineSize c.words.ensures.value c.words.ensures.within))

pub returns-in-Stalled-clause-same : goal.returns-in-Stalled-clause-same
returns-in-Stalled-clause-same g c = λ _. unchanged g c

pub returns-in-Stalled-clause-told : goal.returns-in-Stalled-clause-told
returns-in-Stalled-clause-told g c =
    told-next c.args.test.now c.args.config c.args.machine.now c.choose_telling.new.self c.args.choice
    c.args.states.now.items c.know_limits.ensures c.requires.told.machine
    c.in_ok-outcome.ensures.after (c.requires.told.states_are ∙ sym (ap states_of (same g c)))

-- ---- any other choice

pub left_behind-requires : goal.left_behind-requires
left_behind-requires g c =
    looked-next c.args.test.now c.args.config c.args.machine.now c.choose_telling.new.self c.args.choice c.know_limits.ensures c.requires.told.machine
    c.in_ok-outcome.ensures.after (subst IsLineSize c.words.ensures.value c.words.ensures.within)

-- what was looked at again
leaves : (g : _) (c : goal.After-written_back g) → Leaves c.args.machine.now c.args.choice c.in_ok-left.left
leaves g c =
    let m = c.args.machine.now in
    let there : chosen c.args.choice < length m.state.flat.cores = subst (λ n. chosen c.args.choice < n) (sym c.requires.told.machine.cores) c.requires.core in
    left-looked m c.choose_telling.new.self c.args.choice c.in_ok-outcome.outcome c.args.states.now.items
    (length c.committed-committed.result.now) c.in_ok-left.left
    there c.in_ok-outcome.ensures.after c.in_ok-outcome.ensures.outcome c.requires.told.states_are
    (ap length c.committed-committed.ensures) c.in_ok-left.ensures.left

pub returns-clause-told : goal.returns-clause-told
returns-clause-told g c =
    told-next c.args.test.now c.args.config c.args.machine.now c.choose_telling.new.self c.args.choice
    c.left_behind.new.states.items c.know_limits.ensures c.requires.told.machine
    c.in_ok-outcome.ensures.after (c.in_ok-left.ensures.states ∙ ap states_of c.in_ok-outcome.ensures.after)

pub returns-clause-step : goal.returns-clause-step
returns-clause-step g c =
    let m = c.args.machine.now in
    let next = c.choose_telling.new.self in
    let choice = c.args.choice in
    let how = c.in_ok-outcome.cache_use in
    let core = c.core_of-core.ensures in
    let left = c.in_ok-left.left in
    let looked : WasLookedAt c.args.test.now c.args.config m next choice how c.in_ok-outcome.outcome
    c.unwrap_or-place.result c.div_ceil-lines.result left =
    record {
      machine = c.requires.told.machine;
      next_is = c.in_ok-outcome.ensures.after;
      outcome_is = c.in_ok-outcome.ensures.outcome;
      how_is = c.in_ok-outcome.ensures.how;
      place_is =
          c.unwrap_or-place.ensures
          ∙ (ap (λ o. unwrap_or o 0) c.place.ensures
          ∙ (place-of m c.core_of-core.result.0 ∙ ap (λ i. (core_of m.state.flat i).place) core));
      lines_are =
          c.div_ceil-lines.ensures
          ∙ (ap (λ n. div_ceil n c.words.result) c.locations.ensures.value
          ∙ ap (λ n. div_ceil (length c.args.test.now.locations) n) c.words.ensures.value);
      left_is = leaves g c;
    } in
    told-whole c.args.test.now c.args.config m next choice how c.in_ok-outcome.outcome c.unwrap_or-place.result c.div_ceil-lines.result left
    c.moved_in.result c.answered_by-forwarded.result.0 c.answered_by-forwarded.result.1 c.sent_by-sent.result
    c.written_back.result looked c.moved_in.ensures c.answered_by-forwarded.ensures.forwarded
    c.answered_by-forwarded.ensures.access
    c.sent_by-sent.ensures c.written_back.ensures

pub returns-clause-supplied : goal.returns-clause-supplied
returns-clause-supplied g c =
    let m = c.args.machine.now in
    let core = c.core_of-core.ensures in
    let place =
    c.unwrap_or-place.ensures
    ∙ (ap (λ o. unwrap_or o 0) c.place.ensures
    ∙ (place-of m c.core_of-core.result.0 ∙ ap (λ i. (core_of m.state.flat i).place) core)) in
    let test : c.args.test.now ≡ m.test = sym c.requires.told.machine.test in
    let how = c.in_ok-outcome.ensures.how in
    c.found_by.ensures ∙ (λ i. found_by (test i) (place i) c.args.choice (how i))

pub returns-clause-known : goal.returns-clause-known
returns-clause-known g c =
    subst (StepNamesExist c.args.test.now c.args.config.shape.words) (sym (returns-clause-step g c))
    (step-known c.args.test.now c.args.config c.args.machine.now c.args.choice c.know_limits.ensures
    c.requires.told.machine
    (subst IsLineSize c.words.ensures.value c.words.ensures.within))

-- ---- what the machine's own clauses say

pub returns-in-Stalled-clause-after : goal.returns-in-Stalled-clause-after
returns-in-Stalled-clause-after g c = c.in_ok-outcome.ensures.after

pub returns-in-Stalled-clause-answer : goal.returns-in-Stalled-clause-answer
returns-in-Stalled-clause-answer g c = c.in_ok-outcome.ensures.answer

pub returns-clause-after : goal.returns-clause-after
returns-clause-after g c = c.in_ok-outcome.ensures.after

pub returns-clause-answer : goal.returns-clause-answer
returns-clause-answer g c = c.in_ok-outcome.ensures.answer

pub moved_in-requires : goal.moved_in-requires
moved_in-requires g c = c.requires.core

pub found_by-requires : goal.found_by-requires
found_by-requires g c = c.requires.core
