-- The JSON object of `outcomes` tells the states, and in which the condition's proposition is true.
use Rattle.printed_laws.proofs.Vocabulary.{◌≡◌, ℕ, ◌^◌, ◌<◌, Bool, true, List, [], ◌∷◌, ◌++◌, refl, sym, ap, subst, ◌∙◌, Option, arith}
use Rattle.printed_laws.proofs.Vocabulary.{length, All, Some, None, map, not, decimal_injective, length-map, max_depth, Data, Members}
use Rattle.printed_laws.proofs.Vocabulary.{no_members, member, object, outline, compact_text, members_outline, codes, IsNumber-decimal}
use Rattle.printed_laws.proofs.Vocabulary.{memory_members, Litmus, IsTest, Condition, truth_of, IsStateAt, count_by-le-length, Named}
use Rattle.printed_laws.proofs.Vocabulary.{names_shown, Show, key_of, states_value, observation_value, value_members, holds_in, with_holds}
use Rattle.printed_laws.proofs.Vocabulary.{state_value, outcomes_value, printed_choices, Outcome, shown_values, held_in, failed_in}
use Rattle.printed_laws.proofs.Vocabulary.{is_met_in, alike, OutcomesTellTheirStates, OutcomesTellTheirTests, OutcomesFit}
use Rattle.printed_laws.proofs.Vocabulary.{outcomes_verdict_value}
use Rattle.json.specs.Json as json
use Rattle.printed_laws.proofs.json.JsonTexts.{members_in, items_in, value_at, text_at, items-told}
use Rattle.printed_laws.proofs.json.JsonReading.{ReadsBack, MembersReadBack, all-back, line-told}
use Rattle.printed_laws.proofs.reports.JsonNumbers.{memory-back}
use Rattle.printed_laws.proofs.json.JsonMemory.{memory-told}
use Rattle.printed_laws.proofs.states.Keys.{keys-distinct}
use Rattle.printed_laws.proofs.states.OutcomeLines.{choices_of}

-- the members behind the first
abbrev after_first : json.Members → json.Members
after_first json.no_members = json.no_members
after_first (json.member k j ms) = ms

as-memory : (t : Litmus) (names : List Named) (values : List ℕ) → value_members t names values ≡ memory_members (map (key_of t) names) values
as-memory t (n ∷ names) (v ∷ values) = rw (as-memory t names values) refl
as-memory t [] values = refl
as-memory t (n ∷ names) [] = refl

-- ---- it is read back

module _ (t : Litmus) (names : List Named) where
  abbrev value : Outcome → Data
  value o = state_value t names (shown_values names o) o.choices (holds_in t.condition o)

  abbrev IsState : Outcome → Type 0
  IsState o = IsStateAt names (shown_values names o)

  -- with `holds` before them, or without
  with-back : (levels : ℕ) (holds : Option Bool) (ms : Members)
      → MembersReadBack levels (members_outline ms)
      → MembersReadBack levels (members_outline (with_holds holds ms))
  with-back levels None ms all = all
  with-back levels (Some h) ms all = (tt, all)

  state-back : (o : Outcome) → IsState o → ReadsBack 126 (outline (value o))
  state-back o p =
      let values =
      subst (λ ms. MembersReadBack 124 (members_outline ms)) (sym (as-memory t names (shown_values names o)))
      (memory-back 124 (map (key_of t) names) (shown_values names o) p.words) in
      (tt, with-back 125 (holds_in t.condition o) (member (codes "values") (object (value_members t names (shown_values names o))) no_members) (values, tt))

observation-back : (condition : Option Condition) (xs : List Outcome) → length xs < 2 ^ 64 → ReadsBack 127 (outline (observation_value condition xs))
observation-back None xs few = tt
observation-back (Some c) xs few =
    let held = count_by-le-length (λ (o : Outcome). truth_of o.registers o.memory c.claim) xs in
    let failed = count_by-le-length (λ (o : Outcome). not (truth_of o.registers o.memory c.claim)) xs in
    (IsNumber-decimal (failed_in c.claim xs) (omega (arith, failed, few)), (IsNumber-decimal (held_in c.claim xs) (omega (arith, held, few)), (tt, tt)))

pub verdict-back : (levels : ℕ) (condition : Option Condition) (met : Bool) → ReadsBack levels (outline (outcomes_verdict_value condition met))
verdict-back levels None met = tt
verdict-back levels (Some c) met = tt

whole-back : (t : Litmus) (names : List Named) (depth : ℕ) (xs : List Outcome)
    → depth < 2 ^ 64
    → OutcomesFit names xs
    → ReadsBack max_depth (outline (outcomes_value t names depth xs))
whole-back t names depth xs small fit =
    let states = all-back 126 (IsState t names) (value t names) xs (state-back t names) fit.states in
    (IsNumber-decimal depth small, (observation-back t.condition xs fit.few, (states, (tt, (verdict-back 127 t.condition (is_met_in t.condition xs), tt)))))

-- ---- states

module _ (show : Show) (t : Litmus) (test : IsTest t) where
  abbrev names : List Named
  names = names_shown show t

  values-told : (xs ys : List ℕ) → IsStateAt names xs → IsStateAt names ys
      → members_outline (value_members t names xs) ≡ members_outline (value_members t names ys) → xs ≡ ys
  values-told xs ys p q same =
      let keys = map (key_of t) names in
      let size = length-map names (key_of t) in
      let each : members_outline (memory_members keys xs) ≡ members_outline (memory_members keys ys) =
      ap members_outline (sym (as-memory t names xs)) ∙ (same ∙ ap members_outline (as-memory t names ys)) in
      memory-told keys xs ys (keys-distinct show t test) (p.each ∙ sym size) (q.each ∙ sym size) p.words q.words each

  -- where a test has a condition `holds` comes before the values
  values-in : (condition : Option Condition) (x y : Outcome) (a b : Members)
      → members_outline (with_holds (holds_in condition x) (member (codes "values") (object a) no_members))
      ≡ members_outline (with_holds (holds_in condition y) (member (codes "values") (object b) no_members))
      → members_outline a ≡ members_outline b
  values-in None x y a b same = ap (λ (ms : json.Members). members_in (value_at 0 (json.object ms))) same
  values-in (Some c) x y a b same = ap (λ (ms : json.Members). members_in (value_at 1 (json.object ms))) same

  state-told : (x y : Outcome) → IsState t names x → IsState t names y → outline (value t names x) ≡ outline (value t names y)
      → (shown_values names x ≡ shown_values names y) × (printed_choices x.choices ≡ printed_choices y.choices)
  state-told x y p q same =
      let behind = ap (λ (j : json.Json). after_first (members_in j)) same in (
        values-told (shown_values names x) (shown_values names y) p q
            (values-in t.condition x y (value_members t names (shown_values names x)) (value_members t names (shown_values names y)) behind),
        ap (text_at 0) same,
      )

  states-told : (xs ys : List Outcome)
      → All (IsState t names) xs
      → All (IsState t names) ys
      → outline (states_value t names xs) ≡ outline (states_value t names ys)
      → (map (shown_values names) xs ≡ map (shown_values names) ys) × (choices_of xs ≡ choices_of ys)
  states-told xs ys p q same = (
    items-told (IsState t names) (value t names) (shown_values names) (λ x y a b e. (state-told x y a b e).0) xs ys p q (ap items_in same),
    items-told (IsState t names) (value t names) (λ o. printed_choices o.choices) (λ x y a b e. (state-told x y a b e).1) xs ys p q (ap items_in same),
  )

-- ---- the whole object

same-outline : (t u : Litmus) (names others_names : List Named) (depth other_depth : ℕ) (xs ys : List Outcome) → depth < 2 ^ 64 → other_depth < 2 ^ 64
    → OutcomesFit names xs → OutcomesFit others_names ys
    → compact_text (outcomes_value t names depth xs) ++ 10 ∷ [] ≡ compact_text (outcomes_value u others_names other_depth ys) ++ 10 ∷ []
    → outline (outcomes_value t names depth xs) ≡ outline (outcomes_value u others_names other_depth ys)
same-outline t u names others_names depth other_depth xs ys p p' fit fit' e =
    let a = outcomes_value t names depth xs in
    let b = outcomes_value u others_names other_depth ys in
    line-told a b (whole-back t names depth xs p fit) (whole-back u others_names other_depth ys p' fit') e

pub objects-tell : OutcomesTellTheirStates true
objects-tell show t depth other_depth xs ys test p p' fit fit' e =
    let shown = names_shown show t in
    let same = same-outline t t shown shown depth other_depth xs ys p p' fit fit' e in
    let first = decimal_injective depth other_depth p p' (ap (text_at 0) same) in
    let states = states-told show t test xs ys fit.states fit'.states (ap (value_at 2) same) in
    (first, record { alike = alike show t xs ys test states.0; choices = states.1 })

pub objects-name : OutcomesTellTheirTests true
objects-name t u names others_names depth other_depth xs ys test test' p p' fit fit' e =
    let same = same-outline t u names others_names depth other_depth xs ys p p' fit fit' e in
    (ap (text_at 3) same, decimal_injective depth other_depth p p' (ap (text_at 0) same))
