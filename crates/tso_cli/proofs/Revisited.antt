-- What `outcomes` prints, once more; and what `run` answers to its choices.
use Rattle.tso_cli.proofs.Vocabulary.{◌≡◌, ◌∙◌, ℕ, Bool, List, map, length, Contains, Option, Some, None, refl, sym, ap, subst, arith}
use Rattle.tso_cli.proofs.Vocabulary.{ForSome, All, All-weaker, All-contains, ◌⊎◌, inl, inr, Litmus, IsTest, Condition, run, Atomic}
use Rattle.tso_cli.proofs.Vocabulary.{SpellsTest, Instructions, printed_choices, ProtocolKind, Configuration, Named, names_shown, values_at}
use Rattle.tso_cli.proofs.Vocabulary.{Outcome, shown_values, held_in, failed_in, is_met_in, outcomes_in, OutcomesAreAlike}
use Rattle.tso_cli.proofs.Vocabulary.{OutcomesOfTheSameValuesAreAlike, Search, IsInputAnswer, too_large, refused, answered, IsPrinted}
use Rattle.tso_cli.proofs.Vocabulary.{ShowTheSameStates, AreAllOutcomes, IsOutcomesAnswer, is_claimed_of, found, too_many, parts_of}
use Rattle.tso_cli.proofs.Vocabulary.{joined_parts, counts_under, shown_of, Status, AreReadOneWay}
use Rattle.tso_cli.specs.Verdicts.{status_of_verdict}
use Rattle.tso_cli.specs.OneSearch.{ShowsSomeStates}
use Rattle.tso_cli.specs.OneText.{ShowsPart}
use Rattle.tso_cli.specs.Revisited.{IsRevisited, AreRevisited, ShowsOutcomes}
use Rattle.tso_cli.specs.declared.answer.Status.TheVariants.{Refused}
use Rattle.command_line.specs.declared.settings.Settings.TheVariants as settings
use Rattle.tso_cli.proofs.PrintedLemmas.{refused-is-none}
use Rattle.tso_cli.proofs.OutcomesLemmas.{Searches, end-of, few-to-end, choices-spell}
use Rattle.tso_cli.proofs.Replayed.{choices-short, replayed-joined}
use Rattle.tso_cli.proofs.WitnessLemmas.{Reaching}
use Rattle.tso_cli.proofs.FoundOutcomes.{Leads, made-of}

-- ---- which states `outcomes` shows

record Found (t : Litmus) (search : Search) (json assert : Bool) (out : List ℕ) (status : Status) : Type 0 where
  outcomes : List Outcome
  are : AreAllOutcomes t (names_shown search.show t) search.depth outcomes
  is : out ≡ outcomes_in json t (names_shown search.show t) search.depth outcomes
  ended : status ≡ status_of_verdict assert (is_claimed_of t outcomes)

-- all states of a test that is spelled, or some
record Shows (set : Instructions) (search : Search) (json assert : Bool) (input out : List ℕ) (status : Status) : Type 0 where
  t : Litmus
  spelled : SpellsTest set (parts_of input).test t
  states : Found t search json assert out status ⊎ ShowsSomeStates t search json out

states-of : (t : Litmus) (search : Search) (json assert : Bool) (out : List ℕ) (status : Status) → IsOutcomesAnswer t search json assert out status
    → Found t search json assert out status ⊎ ShowsSomeStates t search json out
states-of t search json assert _ _ (found outcomes are) = inl (record { outcomes = outcomes; are = are; is = refl; ended = refl })
states-of t search json assert _ _ (too_many outcomes more are) = inr (record { outcomes = outcomes; more = more; some = are; printed = refl })

states-shown : (set : Instructions) (search : Search) (json assert : Bool) (input out : List ℕ) (status : Status) → ¬ (status ≡ Refused)
    → IsInputAnswer (settings.Outcomes search set json assert) input out status → Shows set search json assert input out status
states-shown set search json assert input _ _ good (too_large large) = absurd (good refl)
states-shown set search json assert input _ _ good (refused fault small is) = absurd (good refl)
states-shown set search json assert input _ _ good (answered t out status small spelled is) =
    record { t = t; spelled = spelled; states = states-of t search json assert out status is }

-- ---- the same states

pub each-there : (t : Litmus) (names : List Named) (depth : ℕ) (outcomes others : List Outcome)
    → AreAllOutcomes t names depth outcomes
    → AreAllOutcomes t names depth others
    → (values : List ℕ) → Contains (map (shown_values names) outcomes) values → Contains (map (shown_values names) others) values
each-there t names depth outcomes others are more values has =
    let made = made-of (shown_values names) outcomes values has in
    let o = made.0 in
    subst (λ v. Contains (map (shown_values names) others) v) made.2
    (more.complete o.registers o.memory (end-of t depth o (All-contains (Leads t depth) outcomes o are.reached made.1)))

-- of outcomes that are alike the condition is as claimed by both, or by neither
pub same-met : (condition : Option Condition) (outcomes others : List Outcome) → ForSome condition (λ c. held_in c.claim outcomes ≡ held_in c.claim others)
    → ForSome condition (λ c. failed_in c.claim outcomes ≡ failed_in c.claim others) → is_met_in condition outcomes ≡ is_met_in condition others
same-met None outcomes others held failed = refl
same-met (Some c) outcomes others held failed = rw (held c refl, failed c refl) refl

pub same-claimed : (t : Litmus) (names : List Named) (outcomes others : List Outcome)
    → OutcomesAreAlike t names outcomes others
    → is_claimed_of t outcomes ≡ is_claimed_of t others
same-claimed t names outcomes others alike = rw (same-met t.condition outcomes others alike.held alike.failed) refl

module _ (search : Search) (json assert : Bool) (out other : List ℕ) (status again : Status)
    (law : OutcomesOfTheSameValuesAreAlike) (t : Litmus) (test : IsTest t)
    (f : Found t search json assert out status) (g : Found t search json assert other again) where
  abbrev names : List Named
  names = names_shown search.show t

  alike-found : OutcomesAreAlike t names f.outcomes g.outcomes
  alike-found =
      law search.show t f.outcomes g.outcomes test f.are.ascending g.are.ascending
      (λ values. (
        each-there t names search.depth f.outcomes g.outcomes f.are g.are values,
        each-there t names search.depth g.outcomes f.outcomes g.are f.are values,
      ))

  same-found : ShowTheSameStates search json out other × (status ≡ again)
  same-found = (
    record { t = t; outcomes = f.outcomes; others = g.outcomes; first = f.is; second = g.is; alike = alike-found },
    f.ended ∙ (ap (status_of_verdict assert) (same-claimed t names f.outcomes g.outcomes alike-found) ∙ sym g.ended),
  )

not-refused : (status : Status) → IsPrinted status → ¬ (status ≡ Refused)
not-refused status good is = refused-is-none (subst IsPrinted is good)

pub same-states-shown : (search : Search) (set : Instructions) (json assert : Bool) (input out other : List ℕ)
    (status again : Status)
    → AreReadOneWay
    → OutcomesOfTheSameValuesAreAlike
    → IsPrinted status → IsPrinted again → IsInputAnswer (settings.Outcomes search set json assert) input out status
    → IsInputAnswer (settings.Outcomes search set json assert) input other again
    → (ShowTheSameStates search json out other × (status ≡ again)) ⊎ (ShowsPart search json out ⊎ ShowsPart search json other)
same-states-shown search set json assert input out other status again texts law good fine is too = by f.states states-too
  where
    f : Shows set search json assert input out status
    f = states-shown set search json assert input out status (not-refused status good) is

    g : Shows set search json assert input other again
    g = states-shown set search json assert input other again (not-refused again fine) too

    states-too : Found f.t search json assert other again ⊎ ShowsSomeStates f.t search json other
    states-too =
        subst (λ t. Found t search json assert other again ⊎ ShowsSomeStates t search json other)
        (texts.one_test set (parts_of input).test g.t f.t g.spelled f.spelled) g.states

    by : Found f.t search json assert out status ⊎ ShowsSomeStates f.t search json out
        → Found f.t search json assert other again ⊎ ShowsSomeStates f.t search json other
        → (ShowTheSameStates search json out other × (status ≡ again)) ⊎ (ShowsPart search json out ⊎ ShowsPart search json other)
    by (inl a) (inl b) = inl (same-found search json assert out other status again law f.t (texts.test set (parts_of input).test f.t f.spelled) a b)
    by (inl a) (inr q) = inr (inr (f.t, q))
    by (inr p) q = inr (inl (f.t, p))

-- ---- what `run` answers

one-revisited : (kind : ProtocolKind) (c : Configuration) (set : Instructions) (json : Bool) (test : List ℕ)
    (t : Litmus) (names : List Named) (o : Outcome)
    → AreReadOneWay
    → Reaching
    → Searches
    → c.bus ≡ Atomic
    → SpellsTest set test t → (parts_of (joined_parts test (printed_choices o.choices)) ≡ record { test = test; rest = printed_choices o.choices })
    → Leads t c.depth o → IsRevisited kind c set json test t names o
one-revisited kind c set json test t names o texts reaching searches atomic spelled separated lead answer status answered_so =
    let fits = texts.test set test t spelled in
    let cores = fits.cores in
    let few = few-to-end t c.depth o searches.counted fits lead in
    let short = choices-short (length t.programs) o.choices (omega arith) lead.cores in
    let answers =
    replayed-joined kind c set json test (printed_choices o.choices) (joined_parts test (printed_choices o.choices))
    answer status t o.choices texts refl separated
    (omega arith) spelled (choices-spell t c.depth o reaching searches fits lead) atomic lead.ended answered_so in
    let r = run t c.depth o.choices in (
      record {
        shown = shown_of t (counts_under t kind c o.choices) r;
        printed = answers.0;
        values_are =
            ap (λ registers. values_at names registers r.state.memory) lead.registers_are
            ∙ ap (λ memory. values_at names o.registers memory) lead.memory_is;
        stalled = lead.stalled;
        unused = lead.unused;
      },
      answers.1,
    )

-- which states are printed, and that each is reached
record Reached (t : Litmus) (search : Search) (told : Bool) (out : List ℕ) : Type 0 where
  outcomes : List Outcome
  reached : All (Leads t search.depth) outcomes
  shows : ShowsOutcomes told t search out outcomes

states-reached : (t : Litmus) (search : Search) (told assert : Bool) (out : List ℕ) (status : Status)
    → Found t search told assert out status ⊎ ShowsSomeStates t search told out
    → Reached t search told out
states-reached t search told assert out status (inl f) = record { outcomes = f.outcomes; reached = f.are.reached; shows = inl f.is }
states-reached t search told assert out status (inr s) = record { outcomes = s.outcomes; reached = s.some.reached; shows = inr s.printed }

pub revisited : (kind : ProtocolKind) (c : Configuration) (set : Instructions) (search : Search)
    (json told assert : Bool) (input out : List ℕ) (status : Status)
    → AreReadOneWay
    → Reaching
    → Searches
    → c.bus ≡ Atomic
    → search.depth ≡ c.depth → ((rest : List ℕ) → parts_of (joined_parts (parts_of input).test rest) ≡ record { test = (parts_of input).test; rest = rest })
    → ¬ (status ≡ Refused)
    → IsInputAnswer (settings.Outcomes search set told assert) input out status
    → AreRevisited kind c set search json told (parts_of input).test out
revisited kind c set search json told assert input out status texts reaching searches atomic depth separated good is =
    let f = states-shown set search told assert input out status good is in
    let names = names_shown search.show f.t in
    let states = states-reached f.t search told assert out status f.states in
    record {
      t = f.t;
      spelled = f.spelled;
      outcomes = states.outcomes;
      printed = states.shows;
      each = All-weaker (Leads f.t search.depth) (IsRevisited kind c set json (parts_of input).test f.t names)
          (λ o lead.
          one-revisited kind c set json (parts_of input).test f.t names o texts reaching searches atomic f.spelled
          (separated (printed_choices o.choices))
          (subst (λ d. Leads f.t d o) depth lead))
          states.outcomes states.reached;
    }
