-- What `run` answers to the choices that `why` prints.
use Rattle.tso_cli.proofs.Vocabulary.{◌≡◌, ℕ, Bool, List, length, refl, sym, subst, arith, Litmus, run, Atomic, Choice, Entry, LeadTo}
use Rattle.tso_cli.proofs.Vocabulary.{SpellsTest, depth_of, SpellsChoices, printed_choices, ProtocolKind, Configuration, counts_under}
use Rattle.tso_cli.proofs.Vocabulary.{shown_of, Explanation, Instructions, parts_of, joined_parts, IsWhyAnswer, Status, IsInputAnswer}
use Rattle.tso_cli.proofs.Vocabulary.{too_large, refused, answered, IsPrinted, AreReadOneWay}
use Rattle.command_line.specs.declared.settings.Settings.TheVariants as settings
use Rattle.tso_cli.specs.Why.{never, allowed, too_many}
use Rattle.tso_cli.specs.Explained.{AreRunAgain, IsExplained, never, allowed}
use Rattle.tso_cli.proofs.PrintedLemmas.{refused-is-none, unended-is-none}
use Rattle.tso_cli.proofs.Replayed.{choices-short, replayed-joined}
use Rattle.tso_cli.proofs.WitnessLemmas.{Reaching, choices-few}
use Rattle.tso_cli.proofs.WhyLemmas.{Refuting, refutation-means, execution-means}

run-again : (kind : ProtocolKind) (c : Configuration) (set : Instructions) (json : Bool) (test : List ℕ) (t : Litmus)
    (choices : List Choice) (order : List Entry)
    → AreReadOneWay
    → Reaching
    → c.bus ≡ Atomic
    → SpellsTest set test t → (parts_of (joined_parts test (printed_choices choices)) ≡ record { test = test; rest = printed_choices choices })
    → SpellsChoices (length t.programs) (printed_choices choices) choices → LeadTo t c.depth choices order → AreRunAgain kind c set json test t choices order
run-again kind c set json test t choices order texts reaching atomic spelled separated spells lead answer status answered_so =
    let fits = texts.test set test t spelled in
    let cores = fits.cores in
    let few = choices-few t c.depth choices order reaching fits lead in
    let short = choices-short (length t.programs) choices (omega arith) lead.cores in
    let answers =
    replayed-joined kind c set json test (printed_choices choices) (joined_parts test (printed_choices choices))
    answer status t choices texts refl separated
    (omega arith) spelled spells atomic lead.ended answered_so in (
      record {
        shown = shown_of t (counts_under t kind c choices) (run t c.depth choices);
        printed = answers.0;
        reached = lead.commits;
        stalled = lead.stalled;
        unused = lead.unused;
      },
      answers.1,
    )

module _ (kind : ProtocolKind) (c : Configuration) (set : Instructions) (e : Explanation) (json told assert : Bool)
    (input : List ℕ) (texts : AreReadOneWay) (reaching : Reaching) (laws : Refuting)
    (atomic : c.bus ≡ Atomic) (depth : c.depth ≡ depth_of e.model)
    (separated : (rest : List ℕ) → parts_of (joined_parts (parts_of input).test rest) ≡ record { test = (parts_of input).test; rest = rest }) where
  of-a-test : (t : Litmus) (out : List ℕ) (status : Status) → SpellsTest set (parts_of input).test t → IsPrinted status → IsWhyAnswer t e told assert out status
      → IsExplained kind c set json e.model told (parts_of input).test out
  of-a-test t _ _ spelled good (never lemmas tree refuted) =
      never t spelled (refutation-means t e.model told lemmas tree laws (texts.test set (parts_of input).test t spelled) refuted)
  of-a-test t _ _ spelled good (allowed out is) =
      let said = execution-means t e told out reaching (texts.test set (parts_of input).test t spelled) is in
      allowed t spelled said
      (run-again kind c set json (parts_of input).test t said.choices said.order texts reaching atomic spelled
      (separated (printed_choices said.choices)) said.spelled
      (subst (λ d. LeadTo t d said.choices said.order) (sym depth) said.lead))
  of-a-test t _ _ spelled good (too_many fewer) = absurd (unended-is-none good)

  pub explained : (out : List ℕ) (status : Status) → IsPrinted status → IsInputAnswer (settings.Why e set told assert) input out status
      → IsExplained kind c set json e.model told (parts_of input).test out
  explained _ _ good (too_large large) = absurd (refused-is-none good)
  explained _ _ good (refused fault small is) = absurd (refused-is-none good)
  explained _ _ good (answered t out status small spelled is) = of-a-test t out status spelled good is
