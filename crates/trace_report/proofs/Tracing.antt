-- The steps of a run, one after the other.
use Rattle.trace_report.proofs.Vocabulary.{◌≡◌, ◌∙◌, ℕ, ◌+◌, Bool, true, false, if◌then◌else◌, List, [], ◌∷◌, ◌++◌, length, map, refl, sym}
use Rattle.trace_report.proofs.Vocabulary.{ap, append_assoc, append-nil, option_map, slice_set, length-set, Data, array, items_of, view}
use Rattle.trace_report.proofs.Vocabulary.{Value, Litmus, memory_after, has_ended, Entry, Choice, Configuration, Running, machine_effect}
use Rattle.trace_report.proofs.Vocabulary.{machine_after, IsTraced, own_words, machine_json, sourced, sourced_by, alone, last_or, step_to}
use Rattle.trace_report.proofs.Vocabulary.{steps_json, IsMachineOfTest, told_last, trace_with}
use Rattle.tso_terms.specs.ProgramOrder.{is_write}
use Rattle.machine_runs.specs.inner.Observed.{Watched, none_left, over, next, IsWatched}
use Rattle.trace_report.specs.inner.Observing.{told_as, told_by, told_from, OpensTrace, MakesStep}
use Rattle.trace_report.specs.declared.kept_trace.Extent.{Extent}
use Rattle.trace_report.specs.declared.kept_trace.Extent.TheVariants.{Whole, LastStep}
use Rattle.trace_report.specs.declared.kept_trace.Tracer.{Tracer}

steps-end : (m : Running) (memory : List ℕ) (cs : List Choice) → has_ended m.test m.state.flat ≡ true → steps_json m memory cs ≡ []
steps-end m memory [] h = refl
steps-end m memory (c ∷ cs) h = ap (λ b. if b
    then []
    else step_to (sourced_by m c) (machine_after m c) (own_words (machine_after m c) memory)
    ∷ steps_json (machine_after m c) (own_words (machine_after m c) memory) cs)
    h

steps-next : (m : Running) (memory : List ℕ) (c : Choice) (cs : List Choice) → has_ended m.test m.state.flat ≡ false
    → steps_json m memory (c ∷ cs)
    ≡ step_to (sourced_by m c) (machine_after m c) (own_words (machine_after m c) memory)
    ∷ steps_json (machine_after m c) (own_words (machine_after m c) memory) cs
steps-next m memory c cs h = ap (λ b. if b
    then []
    else step_to (sourced_by m c) (machine_after m c) (own_words (machine_after m c) memory)
    ∷ steps_json (machine_after m c) (own_words (machine_after m c) memory) cs)
    h

-- what is kept along choices, from one observer to another
record Along (o last : Tracer) (m left : Running) (choices : List Choice) : Type 0 where
  extent : last.extent ≡ o.extent
  start_is : view last.told ≡ view o.told
  steps_are : o.extent ≡ Whole → map view last.steps.items ≡ map view o.steps.items ++ steps_json m o.follower.memory.items choices
  last_is : told_last (option_map sourced last.last) left last.follower.memory.items
      ≡ last_or (told_last (option_map sourced o.last) m o.follower.memory.items) (steps_json m o.follower.memory.items choices)

kept-along : (o last : Tracer) (m left : Running) (number : ℕ) (choices : List Choice)
    → Watched MakesStep o m number choices last left
    → Along o last m left choices
kept-along o _ m _ _ _ (none_left _ _ _) = record { extent = refl; start_is = refl; steps_are = λ _. sym (append-nil (map view o.steps.items)); last_is = refl }
kept-along o _ m _ _ choices (over _ _ _ _ ended) =
    let none = sym (steps-end m o.follower.memory.items choices ended) in
    record {
      extent = refl;
      start_is = refl;
      steps_are = λ _. sym (append-nil (map view o.steps.items)) ∙ ap (λ l. map view o.steps.items ++ l) none;
      last_is = ap (last_or (told_last (option_map sourced o.last) m o.follower.memory.items)) none;
    }
kept-along o last m left number _ (next _ mid _ _ _ _ c rest live one w) =
    let after = machine_after m c in
    let own = own_words after o.follower.memory.items in
    let step : List ℕ → Data = step_to (sourced_by m c) after in
    let all = sym (steps-next m o.follower.memory.items c rest live) in
    let later = kept-along mid last after left (number + 1) rest w in
    record {
      extent = later.extent ∙ one.extent;
      start_is = later.start_is ∙ one.start_is;
      steps_are = λ whole. later.steps_are (one.extent ∙ whole) ∙ (ap (λ x. map view mid.steps.items ++ steps_json after x rest) one.memory
          ∙ (ap (λ l. l ++ steps_json after own rest) (one.steps_are whole ∙ ap (λ x. map view o.steps.items ++ step x ∷ []) one.memory)
          ∙ (append_assoc (map view o.steps.items) (step own ∷ []) (steps_json after own rest) ∙ ap (λ l. map view o.steps.items ++ l) all)));
      last_is = later.last_is ∙ (ap (λ t. last_or (told_last t after mid.follower.memory.items) (steps_json after mid.follower.memory.items rest)) one.last_is
          ∙ (ap (λ x. last_or (step x) (steps_json after x rest)) one.memory
          ∙ ap (last_or (told_last (option_map sourced o.last) m o.follower.memory.items)) all));
    }

by_extent : (extent : Extent) (start start' : Data) (steps steps' : List Data) (last last' : Data)
    → (extent ≡ Whole → start ≡ start')
    → (extent ≡ Whole → steps ≡ steps')
    → last ≡ last'
    → told_as extent start steps last ≡ told_as extent start' steps' last'
by_extent Whole start start' steps steps' last last' start_is steps_are last_is = (λ i. trace_with (start_is refl i) (array (items_of (steps_are refl i))))
by_extent LastStep start start' steps steps' last last' start_is steps_are last_is = last_is

pub told-whole : (extent : Extent) (m : Running) (old new : Tracer) (choices : List Choice)
    → IsWatched OpensTrace MakesStep (λ o m n. view n.told ≡ told_by o m) old m choices new
    → old.extent ≡ extent → old.steps.items ≡ [] → old.follower.memory.items ≡ m.test.words → view new.told ≡ told_from extent m choices
told-whole extent m old new choices w extent_is none words =
    let all = kept-along w.begun w.driven m w.left 1 choices w.watched in
    let begun = w.opens.extent ∙ extent_is in
    let memory = w.opens.memory ∙ words in
    w.ends
    ∙ (ap (λ e.
    told_as e (view w.driven.told) (map view w.driven.steps.items)
    (told_last (option_map sourced w.driven.last) w.left w.driven.follower.memory.items))
    (all.extent ∙ begun)
    ∙ by_extent extent _ _ _ _ _ _ (λ whole. all.start_is ∙ (w.opens.start_is (extent_is ∙ whole) ∙ ap (λ x. machine_json m x) words))
    (λ whole.
    all.steps_are (begun ∙ whole)
    ∙ (ap (λ (l : List Value). map view l ++ steps_json m w.begun.follower.memory.items choices) (w.opens.steps_are ∙ none)
    ∙ ap (λ x. steps_json m x choices) memory))
    (all.last_is ∙ (ap (λ t. last_or (told_last t m w.begun.follower.memory.items) (steps_json m w.begun.follower.memory.items choices)) w.opens.last_is
    ∙ ap (λ x. last_or (alone m x) (steps_json m x choices)) memory)))

-- ---- the machine after a choice has its words, and is one that is shown

length-memory_after : (es : List Entry) (memory : List ℕ) → length (memory_after es memory) ≡ length memory
length-memory_after [] memory = refl
length-memory_after (e ∷ es) memory = length-memory_after es _ ∙ same (is_write e)
  where
    same : (b : Bool) → length (if b then slice_set memory e.loc.0 e.value else memory) ≡ length memory
    same true = length-set memory e.loc.0 e.value
    same false = refl

pub each-after : (m later : Running) (c : Choice) (n : ℕ) → later ≡ machine_after m c → length m.state.flat.memory ≡ n → length later.state.flat.memory ≡ n
each-after m later c n later_is each =
    ap (λ (x : Running). length x.state.flat.memory) later_is ∙ (length-memory_after (machine_effect m c).effect.commits m.state.flat.memory ∙ each)

pub is-shown : (t : Litmus) (config : Configuration) (m : Running)
    → IsTraced t config m
    → length m.state.flat.memory ≡ length t.locations
    → IsMachineOfTest t config m
is-shown t config m traced each = record { test = traced.test; config = traced.config; each = each }
