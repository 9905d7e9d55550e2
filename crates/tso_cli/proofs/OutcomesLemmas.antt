-- What the answer of a search means.
use Rattle.tso_cli.proofs.Vocabulary.{◌≡◌, ◌∙◌, ◌≤◌, ℕ, zero, suc, Bool, List, [], map, length, All, Contains, refl, ap, subst, arith}
use Rattle.tso_cli.proofs.Vocabulary.{append-nil, All-weaker, All-contains, most_depth, Litmus, IsTest, well-formed, IsTsoExecution, final_words}
use Rattle.tso_cli.proofs.Vocabulary.{final_registers, Entry, SpellsChoices, printed_choices, Named, names_shown, values_at, Outcome}
use Rattle.tso_cli.proofs.Vocabulary.{shown_values, Search, AreAllOutcomes, IsOutcomesAnswer, found, HeadlineOfOutcomes, all, Status}
use Rattle.tso_laws.specs.Outcomes.{IsEnd, IsSequentiallyConsistent, EndsAreWhatTsoAllows, ChoicesToAnEndAreCounted}
use Rattle.tso_cli.specs.Outcomes.{too_many}
use Rattle.tso_cli.specs.OutcomesHeadline.{shown_after, AreExactly, AreSomeOf, too_many}
use Rattle.tso_cli.proofs.WitnessLemmas.{Reaching, work-within}
use Rattle.tso_cli.proofs.FoundOutcomes.{Leads, made-of}

-- what the crates below say of the ends of runs, and of the choices that lead there
pub record Searches : Type 0 where
  pub ends : EndsAreWhatTsoAllows
  pub counted : ChoicesToAnEndAreCounted

-- ---- what the answer means

pub end-of : (t : Litmus) (depth : ℕ) (o : Outcome) → Leads t depth o → IsEnd t depth o.registers o.memory
end-of t depth o lead = record {
  choices = o.choices;
  cores = lead.cores;
  ended = lead.ended;
  registers_are = lead.registers_are;
  memory_is = lead.memory_is;
}

abbrev From : Litmus → ℕ → (List Entry → Type 0) → Type 0
From t depth Allowed =
    (registers : List (List ℕ)) (memory : List ℕ)
    → IsEnd t depth registers memory
    → (order : List Entry) × Allowed order × (final_registers t order ≡ registers) × (final_words t order ≡ memory)

-- an end has the values that are printed
among : (t : Litmus) (names : List Named) (depth : ℕ) (outcomes : List Outcome) (Allowed : List Entry → Type 0)
    → All (Leads t depth) outcomes
    → From t depth Allowed
    → AreSomeOf t names outcomes Allowed
among t names depth outcomes Allowed leads from values has =
    let made = made-of (shown_values names) outcomes values has in
    let o = made.0 in
    let allowed = from o.registers o.memory (end-of t depth o (All-contains (Leads t depth) outcomes o leads made.1)) in
    (allowed.0, allowed.1, ap (λ r. values_at names r (final_words t allowed.0)) allowed.2 ∙ (ap (λ m. values_at names o.registers m) allowed.3 ∙ made.2))

-- and values are printed exactly where an end has them
exactly : (t : Litmus) (names : List Named) (depth : ℕ) (outcomes : List Outcome) (Allowed : List Entry → Type 0)
    → AreAllOutcomes t names depth outcomes
    → From t depth Allowed
    → ((order : List Entry) → Allowed order → IsEnd t depth (final_registers t order) (final_words t order))
    → AreExactly t names outcomes Allowed
exactly t names depth outcomes Allowed are from to values = (among t names depth outcomes Allowed are.reached from values, back)
  where
    back : (order : List Entry) × Allowed order × (shown_after t names order ≡ values) → Contains (map (shown_values names) outcomes) values
    back (order, allowed, is) =
        subst (λ v. Contains (map (shown_values names) outcomes) v) is (are.complete (final_registers t order) (final_words t order) (to order allowed))

from-tso : (t : Litmus) → EndsAreWhatTsoAllows → IsTest t → From t most_depth (IsTsoExecution t)
from-tso t laws test registers memory end =
    let allowed = (laws.at_the_greatest t registers memory test).0 end in
    (allowed.order, allowed.execution, allowed.registers_are, allowed.memory_is)

from-sequential : (t : Litmus) → EndsAreWhatTsoAllows → IsTest t → From t 0 (IsSequentiallyConsistent t)
from-sequential t laws test registers memory end =
    let allowed = (laws.unbuffered t registers memory (well-formed t test)).0 end in
    (allowed.order, allowed.consistent, allowed.registers_are, allowed.memory_is)

among-tso : (t : Litmus) (names : List Named) (outcomes : List Outcome)
    → EndsAreWhatTsoAllows
    → IsTest t
    → All (Leads t most_depth) outcomes
    → AreSomeOf t names outcomes (IsTsoExecution t)
among-tso t names outcomes laws test leads = among t names most_depth outcomes (IsTsoExecution t) leads (from-tso t laws test)

among-sequential : (t : Litmus) (names : List Named) (outcomes : List Outcome)
    → EndsAreWhatTsoAllows
    → IsTest t
    → All (Leads t 0) outcomes
    → AreSomeOf t names outcomes (IsSequentiallyConsistent t)
among-sequential t names outcomes laws test leads = among t names 0 outcomes (IsSequentiallyConsistent t) leads (from-sequential t laws test)

exactly-tso : (t : Litmus) (names : List Named) (outcomes : List Outcome) → EndsAreWhatTsoAllows → IsTest t → AreAllOutcomes t names most_depth outcomes
    → AreExactly t names outcomes (IsTsoExecution t)
exactly-tso t names outcomes laws test are =
    exactly t names most_depth outcomes (IsTsoExecution t) are (from-tso t laws test)
    (λ order is. (laws.at_the_greatest t (final_registers t order) (final_words t order) test).1
    (record { order = order; execution = is; registers_are = refl; memory_is = refl }))

exactly-sequential : (t : Litmus) (names : List Named) (outcomes : List Outcome) → EndsAreWhatTsoAllows → IsTest t → AreAllOutcomes t names 0 outcomes
    → AreExactly t names outcomes (IsSequentiallyConsistent t)
exactly-sequential t names outcomes laws test are =
    exactly t names 0 outcomes (IsSequentiallyConsistent t) are (from-sequential t laws test)
    (λ order is. (laws.unbuffered t (final_registers t order) (final_words t order) (well-formed t test)).1
    (record { order = order; consistent = is; registers_are = refl; memory_is = refl }))

pub few-to-end : (t : Litmus) (depth : ℕ) (o : Outcome) → ChoicesToAnEndAreCounted → IsTest t → Leads t depth o → length o.choices ≤ 512
few-to-end t zero o laws test lead =
    let work = work-within t test in
    let count = laws.unbuffered t o.choices o.registers o.memory lead in
    omega arith
few-to-end t (suc n) o laws test lead =
    let work = work-within t test in
    let count = laws.buffered t (suc n) o.choices o.registers o.memory (omega arith) lead in
    omega arith

pub choices-spell : (t : Litmus) (depth : ℕ) (o : Outcome) → Reaching → Searches → IsTest t → Leads t depth o
    → SpellsChoices (length t.programs) (printed_choices o.choices) o.choices
choices-spell t depth o reaching searches test lead =
    let cores = test.cores in
    let few = few-to-end t depth o searches.counted test lead in
    subst (λ text. SpellsChoices (length t.programs) text o.choices) (append-nil (printed_choices o.choices))
    (reaching.spelled (length t.programs) o.choices [] (omega arith) lead.cores (omega arith) refl)

pub outcomes-mean : (t : Litmus) (s : Search) (json assert : Bool) (out : List ℕ) (status : Status) → Reaching → Searches → IsTest t
    → IsOutcomesAnswer t s json assert out status → HeadlineOfOutcomes t s json out
outcomes-mean t s json assert _ _ reaching searches test (found outcomes are) =
    all (record {
      outcomes = outcomes;
      printed = refl;
      all = are;
      tso = λ greatest.
          exactly-tso t (names_shown s.show t) outcomes searches.ends test
          (subst (λ depth. AreAllOutcomes t (names_shown s.show t) depth outcomes) greatest are);
      sequential = λ none.
          exactly-sequential t (names_shown s.show t) outcomes searches.ends test
          (subst (λ depth. AreAllOutcomes t (names_shown s.show t) depth outcomes) none are);
      spelled = All-weaker (Leads t s.depth) (λ o. SpellsChoices (length t.programs) (printed_choices o.choices) o.choices)
          (λ o lead. choices-spell t s.depth o reaching searches test lead) outcomes are.reached;
    })
outcomes-mean t s json assert _ _ reaching searches test (too_many outcomes more are) =
    let names = names_shown s.show t in
    too_many more (record {
      outcomes = outcomes;
      printed = refl;
      some = are;
      tso = λ greatest. among-tso t names outcomes searches.ends test (subst (λ depth. All (Leads t depth) outcomes) greatest are.reached);
      sequential = λ none. among-sequential t names outcomes searches.ends test (subst (λ depth. All (Leads t depth) outcomes) none are.reached);
      spelled = All-weaker (Leads t s.depth) (λ o. SpellsChoices (length t.programs) (printed_choices o.choices) o.choices)
          (λ o lead. choices-spell t s.depth o reaching searches test lead) outcomes are.reached;
    })
