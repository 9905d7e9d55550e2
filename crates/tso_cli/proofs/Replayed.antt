-- What `witness` prints, and what `run` answers to it.
use Rattle.tso_cli.proofs.Vocabulary.{◌≡◌, ◌*◌, ◌≤◌, ◌<◌, ℕ, Bool, true, List, [], ◌∷◌, ◌++◌, length, codes, length-append, refl, sym, ap}
use Rattle.tso_cli.proofs.Vocabulary.{subst, ◌∙◌, arith, decimal, Litmus, IsTest, well-formed, IsTsoExecution, chosen, run, CoresExist, Atomic, Entry}
use Rattle.tso_cli.proofs.Vocabulary.{Choice, choices_along, LeadTo, needed, Instructions, SpellsTest, SpellsChoices, printed_choice}
use Rattle.tso_cli.proofs.Vocabulary.{printed_after, printed_choices, SpellsOrder, table_of, ProtocolKind, Configuration}
use Rattle.tso_cli.proofs.Vocabulary.{IsConfigurationWithinLimits, Parts, parts_of, joined_parts, run_under, counts_under, report_in}
use Rattle.tso_cli.proofs.Vocabulary.{shown_of, witness_line, IsWitness, IsWitnessAnswer, reached, too_small, invalid, judged}
use Rattle.tso_cli.proofs.Vocabulary.{IsInputAnswer, too_large, answered, IsRunAnswer, ran, Status, Good, atomic-run, AreReadOneWay}
use Rattle.std.proofs.lemmas.Fmt.{length-decimal-le}
use Rattle.tso_terms.specs.declared.choice.Choice.TheVariants.{Step, Drain}
use Rattle.litmus_reader.specs.Spelling.{IsRefused as IsRefusedTest}
use Rattle.tso_cli.specs.Witness.{ReportsOrder, refused}
use Rattle.tso_cli.specs.Answers.{refused}
use Rattle.tso_cli.specs.CommandAnswers.{refused}
use Rattle.command_line.specs.declared.settings.Settings.TheVariants as settings
use Rattle.tso_cli.proofs.WitnessLemmas.{Reaching, choices-few, line-spells}

-- ---- the line of choices is short

choice-short : (c : Choice) → chosen c < 8 → length (printed_choice c) ≤ 5
choice-short (Step core) small =
    let digits = length-decimal-le 1 core.0 (omega arith) (omega arith) (omega arith) in
    omega (arith, length-append (decimal core.0) (codes "s"))
choice-short (Drain core) small =
    let digits = length-decimal-le 1 core.0 (omega arith) (omega arith) (omega arith) in
    omega (arith, length-append (decimal core.0) (codes "d"))

after-short : (cores : ℕ) (cs : List Choice) → cores ≤ 8 → CoresExist cores cs → length (printed_after cs) ≤ 6 * length cs
after-short cores [] few there = omega arith
after-short cores (c ∷ cs) few there =
    let below : chosen c < 8 = let b = there.0 in omega (arith, b, few) in
    let first = choice-short c below in
    let others = after-short cores cs few there.1 in
    omega (arith, length-append (printed_choice c) (printed_after cs))

pub choices-short : (cores : ℕ) (cs : List Choice) → cores ≤ 8 → CoresExist cores cs → length (printed_choices cs) ≤ 6 * length cs
choices-short cores [] few there = omega arith
choices-short cores (c ∷ cs) few there =
    let below : chosen c < 8 = let b = there.0 in omega (arith, b, few) in
    let first = choice-short c below in
    let others = after-short cores cs few there.1 in
    omega (arith, length-append (printed_choice c) (printed_after cs))

line-short : (t : Litmus) (depth : ℕ) (choices : List Choice) (order : List Entry) → Reaching → IsTest t → LeadTo t depth choices order
    → length (witness_line choices) ≤ 4000
line-short t depth choices order laws test lead =
    let cores = test.cores in
    let few = choices-few t depth choices order laws test lead in
    let short = choices-short (length t.programs) choices (omega arith) lead.cores in
    omega (arith, length-append (printed_choices choices) (10 ∷ []))

-- ---- where `witness` finds choices

record Found (set : Instructions) (depth : ℕ) (input out : List ℕ) : Type 0 where
  t : Litmus
  order : List Entry
  test_spelled : SpellsTest set (parts_of input).test t
  order_spelled : SpellsOrder t (parts_of input).rest order
  execution : IsTsoExecution t order
  enough : needed order ≤ depth
  is : out ≡ witness_line (choices_along t order)

order-found : (set : Instructions) (t : Litmus) (depth : ℕ) (order : List Entry) (input out : List ℕ) (status : Status) → SpellsTest set (parts_of input).test t
    → SpellsOrder t (parts_of input).rest order → status ≡ Good → IsWitness t depth order out status → Found set depth input out
order-found set t depth order input _ _ spelled spells good (reached is enough) =
    record { t = t; order = order; test_spelled = spelled; order_spelled = spells; execution = is; enough = enough; is = refl }
order-found set t depth order input _ _ spelled spells good (too_small is less) = absurd (let no : ⊥ = cc in no)
order-found set t depth order input _ _ spelled spells good (invalid b first) = absurd (let no : ⊥ = cc in no)

test-found : (set : Instructions) (t : Litmus) (depth : ℕ) (input out : List ℕ) (status : Status) → SpellsTest set (parts_of input).test t → status ≡ Good
    → IsWitnessAnswer t depth (parts_of input).rest out status → Found set depth input out
test-found set t depth input _ _ spelled good (refused fault h) = absurd (let no : ⊥ = cc in no)
test-found set t depth input _ _ spelled good (judged order out status spells is) = order-found set t depth order input out status spelled spells good is

found : (set : Instructions) (depth : ℕ) (input out : List ℕ) (status : Status)
    → status ≡ Good
    → IsInputAnswer (settings.Witness depth set) input out status
    → Found set depth input out
found set depth input _ _ good (too_large large) = absurd (let no : ⊥ = cc in no)
found set depth input _ _ good (refused fault small is) = absurd (let no : ⊥ = cc in no)
found set depth input _ _ good (answered t out status small spelled is) = test-found set t depth input out status spelled good is

-- ---- what `run` answers to these choices

abbrev pub Replays : ProtocolKind → Configuration → Bool → Litmus → List Choice → List ℕ → Status → Type 0
Replays kind c json t choices answer status =
    (answer ≡ report_in json t kind c (shown_of t (counts_under t kind c choices) (run t c.depth choices))) × (status ≡ Good)

replays : (kind : ProtocolKind) (c : Configuration) (json : Bool) (t : Litmus) (choices : List Choice)
    (out answer : List ℕ) (status : Status)
    → AreReadOneWay
    → IsTest t
    → SpellsChoices (length t.programs) out choices → c.bus ≡ Atomic → (run t c.depth choices).ended ≡ true
    → IsRunAnswer t kind c json out answer status → Replays kind c json t choices answer status
replays kind c json t choices out _ _ laws test spells atomic ended (refused fault h) =
    absurd ((laws.decided (length t.programs) out test.some_core).never_both choices fault spells h)
replays kind c json t choices out _ _ laws test spells atomic ended (ran others read fit) =
    let same : others ≡ choices = (laws.decided (length t.programs) out test.some_core).one_list others choices read spells in
    let flat : run_under t kind c others ≡ run t c.depth choices =
    atomic-run (table_of kind) c t others atomic ∙ ap (λ (cs : List Choice). run t c.depth cs) same in
    rw (flat, same, ended) (refl, refl)

pub replayed-joined : (kind : ProtocolKind) (c : Configuration) (set : Instructions) (json : Bool)
    (test out input answer : List ℕ) (status : Status) (t : Litmus) (choices : List Choice)
    → AreReadOneWay
    → input ≡ joined_parts test out → parts_of (joined_parts test out) ≡ record { test = test; rest = out } → length out ≤ 4000 → SpellsTest set test t
    → SpellsChoices (length t.programs) out choices → c.bus ≡ Atomic → (run t c.depth choices).ended ≡ true
    → IsInputAnswer (settings.Run kind c set json) input answer status → Replays kind c json t choices answer status
replayed-joined kind c set json test out input _ _ t choices laws same separated short spelled spells atomic ended (too_large large) =
    let size : length test ≤ 65536 = laws.short set test t spelled in
    absurd (omega (arith, ap (λ (l : List ℕ). length l) same, length-append test (codes "====\n" ++ out), length-append (codes "====\n") out))
replayed-joined kind c set json test out input _ _ t choices laws same separated short spelled spells atomic ended (refused fault small is) =
    let first : (parts_of input).test ≡ test = ap (λ i. (parts_of i).test) same ∙ ap (λ (p : Parts). p.test) separated in
    absurd (laws.refused_or_not set test t fault spelled (subst (λ text. IsRefusedTest set text fault) first is))
replayed-joined kind c set json test out input _ _ t choices laws same separated short spelled spells atomic ended (answered other answer status small too is) =
    let first : (parts_of input).test ≡ test = ap (λ i. (parts_of i).test) same ∙ ap (λ (p : Parts). p.test) separated in
    let second : (parts_of input).rest ≡ out = ap (λ i. (parts_of i).rest) same ∙ ap (λ (p : Parts). p.rest) separated in
    let one : other ≡ t = laws.one_test set test other t (subst (λ text. SpellsTest set text other) first too) spelled in
    replays kind c json t choices out answer status laws (laws.test set test t spelled) spells atomic ended
    (subst (λ (u : Litmus). IsRunAnswer u kind c json out answer status) one (subst (λ text. IsRunAnswer other kind c json text answer status) second is))

pub replayed : (kind : ProtocolKind) (c : Configuration) (set : Instructions) (json : Bool) (input out answer : List ℕ)
    (status : Status)
    → AreReadOneWay
    → Reaching
    → c.bus ≡ Atomic
    → IsConfigurationWithinLimits c
    → parts_of (joined_parts (parts_of input).test out) ≡ record { test = (parts_of input).test; rest = out }
    → IsInputAnswer (settings.Witness c.depth set) input out Good
    → IsInputAnswer (settings.Run kind c set json) (joined_parts (parts_of input).test out) answer status
    → ReportsOrder kind c set json (parts_of input) answer × (status ≡ Good)
replayed kind c set json input out answer status texts reaching atomic within separated is answered_so =
    let f = found set c.depth input out Good refl is in
    let test = texts.test set (parts_of input).test f.t f.test_spelled in
    let choices : List Choice = choices_along f.t f.order in
    let lead = reaching.lead f.t c.depth f.order (well-formed f.t test) f.execution f.enough in
    let spells : SpellsChoices (length f.t.programs) out choices =
    subst (λ text. SpellsChoices (length f.t.programs) text choices) (sym f.is) (line-spells f.t c.depth choices f.order reaching test lead) in
    let short : length out ≤ 4000 = subst (λ (text : List ℕ). length text ≤ 4000) (sym f.is) (line-short f.t c.depth choices f.order reaching test lead) in
    let answers =
    replayed-joined kind c set json (parts_of input).test out (joined_parts (parts_of input).test out) answer status
    f.t choices texts refl separated short f.test_spelled spells atomic lead.ended answered_so in (
      record {
        t = f.t;
        order = f.order;
        test_spelled = f.test_spelled;
        order_spelled = f.order_spelled;
        shown = shown_of f.t (counts_under f.t kind c choices) (run f.t c.depth choices);
        printed = answers.0;
        reached = lead.commits;
        stalled = lead.stalled;
        unused = lead.unused;
      },
      answers.1,
    )
