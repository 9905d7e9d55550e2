-- What the headline decides of `outcomes`.
use Rattle.tso_cli.proofs.Vocabulary.{◌≡◌, ◌∙◌, ◌<◌, ◌≤◌, ◌⊎◌, inl, inr, ℕ, Bool, true, false, List, [], ◌∷◌, ◌++◌, map, length, Contains}
use Rattle.tso_cli.proofs.Vocabulary.{Option, Some, None, refl, sym, ap, subst, ForSome, nat_cmp, slice_cmp, IsStrictlySortedBy, length-map}
use Rattle.tso_cli.proofs.Vocabulary.{HasMoreStates, Litmus, IsTest, Condition, Choice, SpellsTest, Instructions, TextFault, test_line}
use Rattle.tso_cli.proofs.Vocabulary.{Named, names_shown, verdict_line, outcomes_verdict_value, Outcome, shown_values, held_in, failed_in}
use Rattle.tso_cli.proofs.Vocabulary.{is_met_in, outcomes_in, OutcomesAreAlike, OutcomesOfTheSameValuesAreAlike, Search, longest_input}
use Rattle.tso_cli.proofs.Vocabulary.{Parts, parts_of, test_refusal, HeadlineOfOutcomes, all, PartsHeadline, InputHeadline, AreReadOneWay}
use Rattle.tso_cli.proofs.Vocabulary.{true_in, outcomes_line, state_line, by_line, outcome_lines, observation_line, true_line}
use Rattle.tso_cli.proofs.Vocabulary.{condition_lines}
use Rattle.litmus_reader.specs.Spelling.{IsRefused as IsRefusedTest}
use Rattle.search_report.specs.OutcomesJson.{state_value, holds_in, observation_value}
use Rattle.command_line.specs.declared.settings.Settings.TheVariants as settings
use Rattle.tso_cli.specs.OutcomesHeadline.{PrintsSomeOutcomes, too_many}
use Rattle.tso_cli.specs.OneSearch.{without_choices, AreOneSearch, ShowsSomeStates, one_text, both_show, first_shows_some, second_shows_some}
use Rattle.tso_cli.proofs.OneTextLemmas.{AreDecided, sizes}
use Rattle.tso_cli.proofs.Revisited.{each-there, same-met}

-- ---- with the choices left out

abbrev without : List Outcome → List Outcome
without outcomes = map without_choices outcomes

abbrev values_of : List Named → List Outcome → List (List ℕ)
values_of names outcomes = map (shown_values names) outcomes

same-values : (names : List Named) (outcomes : List Outcome) → values_of names (without outcomes) ≡ values_of names outcomes
same-values names [] = refl
same-values names (o ∷ os) = ap (λ vs. shown_values names o ∷ vs) (same-values names os)

lines_of : Litmus → List Named → List (List ℕ) → List ℕ
lines_of t names [] = []
lines_of t names (v ∷ vs) = state_line t names v ++ (by_line [] ++ lines_of t names vs)

lines-are : (t : Litmus) (names : List Named) (outcomes : List Outcome) → outcome_lines t names (without outcomes) ≡ lines_of t names (values_of names outcomes)
unfolding lines_of
lines-are t names [] = refl
lines-are t names (o ∷ os) = ap (λ l. state_line t names (shown_values names o) ++ (by_line [] ++ l)) (lines-are t names os)

-- what is made of each state, by its values and by whether the proposition is true in it
made_of : {X : Type 0} → (List ℕ → Option Bool → X) → List (List ℕ) → List (Option Bool) → List X
made_of f [] holds = []
made_of f (v ∷ vs) [] = []
made_of f (v ∷ vs) (h ∷ hs) = f v h ∷ made_of f vs hs

states-are : {X : Type 0} (f : List ℕ → List Choice → Option Bool → X) (t : Litmus) (names : List Named) (outcomes : List Outcome)
    → map (λ o. f (shown_values names o) o.choices (holds_in t.condition o)) (without outcomes)
    ≡ made_of (λ v h. f v [] h) (values_of names outcomes) (map (holds_in t.condition) (without outcomes))
unfolding made_of
states-are f t names [] = refl
states-are f t names (o ∷ os) = ap (λ l. f (shown_values names o) [] (holds_in t.condition (without_choices o)) ∷ l) (states-are f t names os)

observed-line : (name : List ℕ) (condition : Option Condition) (a b : List Outcome) → ForSome condition (λ c. held_in c.claim a ≡ held_in c.claim b)
    → ForSome condition (λ c. failed_in c.claim a ≡ failed_in c.claim b) → observation_line name condition a ≡ observation_line name condition b
observed-line name None a b held failed = refl
observed-line name (Some c) a b held failed = rw (held c refl, failed c refl) refl

numbers-line : (condition : Option Condition) (a b : List Outcome)
    → ForSome condition (λ c. true_in c.claim a ≡ true_in c.claim b)
    → true_line condition a ≡ true_line condition b
numbers-line None a b numbers = refl
numbers-line (Some c) a b numbers = rw (numbers c refl) refl

observed-value : (condition : Option Condition) (a b : List Outcome) → ForSome condition (λ c. held_in c.claim a ≡ held_in c.claim b)
    → ForSome condition (λ c. failed_in c.claim a ≡ failed_in c.claim b) → observation_value condition a ≡ observation_value condition b
observed-value None a b held failed = refl
observed-value (Some c) a b held failed = rw (held c refl, failed c refl) refl

module _ (t : Litmus) (names : List Named) (depth : ℕ) (outcomes others : List Outcome) (same : values_of names outcomes ≡ values_of names others)
    (alike : OutcomesAreAlike t names (without outcomes) (without others)) where
  met : is_met_in t.condition (without outcomes) ≡ is_met_in t.condition (without others)
  met = same-met t.condition (without outcomes) (without others) alike.held alike.failed

  as-lines : outcomes_in false t names depth (without outcomes) ≡ outcomes_in false t names depth (without others)
  as-lines =
      let size : length (without outcomes) ≡ length (without others) =
      length-map outcomes without_choices ∙ sym (length-map outcomes (shown_values names)) ∙ ap (λ (vs : List (List ℕ)). length vs) same
      ∙ length-map others (shown_values names) ∙ sym (length-map others without_choices) in
      let lines : outcome_lines t names (without outcomes) ≡ outcome_lines t names (without others) =
      lines-are t names outcomes ∙ ap (lines_of t names) same ∙ sym (lines-are t names others) in
      let observed = observed-line t.name t.condition (without outcomes) (without others) alike.held alike.failed in
      let numbers = numbers-line t.condition (without outcomes) (without others) alike.numbers in
      let last : condition_lines t.name t.condition (without outcomes) ≡ condition_lines t.name t.condition (without others) =
      λ i. observed i ++ (numbers i ++ verdict_line t.condition (met i)) in
      λ i. test_line t ++ (outcomes_line depth (size i) ++ (lines i ++ last i))

  as-json : outcomes_in true t names depth (without outcomes) ≡ outcomes_in true t names depth (without others)
  as-json =
      let value = λ (v : List ℕ) (h : Option Bool). state_value t names v [] h in
      let states = states-are (state_value t names) t names outcomes ∙ ap (λ vs. made_of value vs (map (holds_in t.condition) (without outcomes))) same
      ∙ ap (made_of value (values_of names others)) alike.holds ∙ sym (states-are (state_value t names) t names others) in
      let observation = observed-value t.condition (without outcomes) (without others) alike.held alike.failed in
      let verdict = ap (outcomes_verdict_value t.condition) met in
      rw (observation, verdict, states) refl

  in-either : (form : Bool) → outcomes_in form t names depth (without outcomes) ≡ outcomes_in form t names depth (without others)
  in-either false = as-lines
  in-either true = as-json

-- ---- of a test

abbrev Ascends : List (List ℕ) → Type 0
Ascends values = IsStrictlySortedBy (slice_cmp nat_cmp) values

shows-some : (t : Litmus) (s : Search) (json : Bool) (out : List ℕ)
    → HasMoreStates t s.depth s.states
    → PrintsSomeOutcomes t s json out
    → ShowsSomeStates t s json out
shows-some t s json out more p = record { outcomes = p.outcomes; more = more; some = p.some; printed = p.printed }

one-search : (set : Instructions) (test : List ℕ) (t : Litmus) (s : Search) (json again : Bool) (out other : List ℕ)
    → OutcomesOfTheSameValuesAreAlike
    → IsTest t
    → SpellsTest set test t
    → HeadlineOfOutcomes t s json out → HeadlineOfOutcomes t s again other → AreOneSearch set test s json again out other
one-search set test t s json again out other law is spelled (too_many more p) q = first_shows_some t spelled (shows-some t s json out more p)
one-search set test t s json again out other law is spelled (all p) (too_many more q) = second_shows_some t spelled (shows-some t s again other more q)
one-search set test t s json again out other law is spelled (all p) (all q) =
    let names = names_shown s.show t in
    let there = each-there t names s.depth p.outcomes q.outcomes p.all q.all in
    let back = each-there t names s.depth q.outcomes p.outcomes q.all p.all in
    let alike = law s.show t p.outcomes q.outcomes is p.all.ascending q.all.ascending (λ values. (there values, back values)) in
    let left = same-values names p.outcomes in
    let right = same-values names q.outcomes in
    let stripped =
    law s.show t (without p.outcomes) (without q.outcomes) is (subst Ascends (sym left) p.all.ascending) (subst Ascends (sym right) q.all.ascending)
    (λ values. (
      (λ has. subst (λ vs. Contains vs values) (sym right) (there values (subst (λ vs. Contains vs values) left has))),
      (λ has. subst (λ vs. Contains vs values) (sym left) (back values (subst (λ vs. Contains vs values) right has))),
    )) in
    both_show t spelled (record {
      outcomes = p.outcomes;
      others = q.outcomes;
      first = p.printed;
      second = q.printed;
      alike = alike;
      but_for_choices = in-either t names s.depth p.outcomes q.outcomes alike.values stripped;
    })

-- ---- of whole inputs

parts-one-search : (s : Search) (set : Instructions) (json again assert asserted : Bool) (parts : Parts)
    (out other : List ℕ)
    → AreReadOneWay
    → AreDecided
    → OutcomesOfTheSameValuesAreAlike
    → PartsHeadline (settings.Outcomes s set json assert) parts out
    → PartsHeadline (settings.Outcomes s set again asserted) parts other
    → AreOneSearch set parts.test s json again out other
parts-one-search s set json again assert asserted parts out other texts decided law p q = by_text (decided.tests set parts.test).always
  where
    by_text : ((t : Litmus) × SpellsTest set parts.test t) ⊎ ((fault : TextFault) × IsRefusedTest set parts.test fault)
        → AreOneSearch set parts.test s json again out other
    by_text (inl spells) =
        one-search set parts.test spells.0 s json again out other law (texts.test set parts.test spells.0 spells.1)
        spells.1 (p.every_test spells.0 spells.1) (q.every_test spells.0 spells.1)
    by_text (inr faulty) =
        let none : (t : Litmus) → ¬ (SpellsTest set parts.test t) = λ t spelled. texts.refused_or_not set parts.test t faulty.0 spelled faulty.1 in
        let first = p.every_other none in
        let second = q.every_other none in
        one_text (first.2 ∙ ap test_refusal (texts.one_refusal set parts.test first.0 second.0 first.1 second.1) ∙ sym second.2)

pub searches-one : (s : Search) (set : Instructions) (json again assert asserted : Bool) (input out other : List ℕ)
    → AreReadOneWay
    → AreDecided
    → OutcomesOfTheSameValuesAreAlike
    → InputHeadline (settings.Outcomes s set json assert) input out → InputHeadline (settings.Outcomes s set again asserted) input other
    → AreOneSearch set (parts_of input).test s json again out other
searches-one s set json again assert asserted input out other texts decided law p q = by_size (sizes (length input) longest_input)
  where
    by_size : (length input ≤ longest_input) ⊎ (longest_input < length input) → AreOneSearch set (parts_of input).test s json again out other
    by_size (inl small) = parts-one-search s set json again assert asserted (parts_of input) out other texts decided law (p.within small) (q.within small)
    by_size (inr large) = one_text (p.above large ∙ sym (q.above large))
