-- What the headline decides of `why`.
use Rattle.tso_cli.proofs.Vocabulary.{◌≡◌, ◌∙◌, ◌<◌, ◌≤◌, ◌⊎◌, inl, inr, ℕ, Bool, List, length, sym, ap, subst, Litmus, Instructions}
use Rattle.tso_cli.proofs.Vocabulary.{SpellsTest, TextFault, Explanation, longest_input, Parts, parts_of, test_refusal, PrintsRefutation}
use Rattle.tso_cli.proofs.Vocabulary.{PrintsExecutionOf, HeadlineOfReasons, PartsHeadline, InputHeadline, AreReadOneWay}
use Rattle.litmus_reader.specs.Spelling.{IsRefused as IsRefusedTest}
use Rattle.command_line.specs.declared.settings.Settings.TheVariants as settings
use Rattle.tso_cli.specs.WhyHeadline.{never, allowed, too_many}
use Rattle.tso_cli.specs.OneReason.{AreOneReason, one_text, both_never, both_allowed, first_gives_none, second_gives_none}
use Rattle.tso_cli.proofs.OneTextLemmas.{AreDecided, sizes}

one-reason : (set : Instructions) (test : List ℕ) (t : Litmus) (e f : Explanation) (json again : Bool)
    (out other : List ℕ)
    → e.model ≡ f.model
    → SpellsTest set test t
    → HeadlineOfReasons t e json out → HeadlineOfReasons t f again other → AreOneReason set test e f json again out other
one-reason set test t e f json again out other same spelled (too_many fewer is) q =
    first_gives_none t spelled (record { fewer = fewer; printed = is })
one-reason set test t e f json again out other same spelled (never p) (too_many fewer is) =
    second_gives_none t spelled (record { fewer = fewer; printed = is })
one-reason set test t e f json again out other same spelled (allowed p) (too_many fewer is) =
    second_gives_none t spelled (record { fewer = fewer; printed = is })
one-reason set test t e f json again out other same spelled (never p) (never q) = both_never t spelled p q
one-reason set test t e f json again out other same spelled (allowed p) (allowed q) = both_allowed t spelled p q
one-reason set test t e f json again out other same spelled (never p) (allowed q) =
    let r : PrintsExecutionOf t e.model again other = subst (λ model. PrintsExecutionOf t model again other) (sym same) q in
    absurd (p.executions r.order r.execution r.holds)
one-reason set test t e f json again out other same spelled (allowed p) (never q) =
    let r : PrintsRefutation t e.model again other = subst (λ model. PrintsRefutation t model again other) (sym same) q in
    absurd (r.executions p.order p.execution p.holds)

parts-one-reason : (e f : Explanation) (set : Instructions) (json again assert asserted : Bool) (parts : Parts)
    (out other : List ℕ)
    → AreReadOneWay
    → AreDecided
    → e.model ≡ f.model
    → PartsHeadline (settings.Why e set json assert) parts out
    → PartsHeadline (settings.Why f set again asserted) parts other
    → AreOneReason set parts.test e f json again out other
parts-one-reason e f set json again assert asserted parts out other texts decided same p q = by_text (decided.tests set parts.test).always
  where
    by_text : ((t : Litmus) × SpellsTest set parts.test t) ⊎ ((fault : TextFault) × IsRefusedTest set parts.test fault)
        → AreOneReason set parts.test e f json again out other
    by_text (inl spells) =
        one-reason set parts.test spells.0 e f json again out other same spells.1 (p.every_test spells.0 spells.1) (q.every_test spells.0 spells.1)
    by_text (inr faulty) =
        let none : (t : Litmus) → ¬ (SpellsTest set parts.test t) = λ t spelled. texts.refused_or_not set parts.test t faulty.0 spelled faulty.1 in
        let first = p.every_other none in
        let second = q.every_other none in
        one_text (first.2 ∙ ap test_refusal (texts.one_refusal set parts.test first.0 second.0 first.1 second.1) ∙ sym second.2)

pub reasons-one : (e f : Explanation) (set : Instructions) (json again assert asserted : Bool)
    (input out other : List ℕ)
    → AreReadOneWay
    → AreDecided
    → e.model ≡ f.model
    → InputHeadline (settings.Why e set json assert) input out → InputHeadline (settings.Why f set again asserted) input other
    → AreOneReason set (parts_of input).test e f json again out other
reasons-one e f set json again assert asserted input out other texts decided same p q = by_size (sizes (length input) longest_input)
  where
    by_size : (length input ≤ longest_input) ⊎ (longest_input < length input) → AreOneReason set (parts_of input).test e f json again out other
    by_size (inl small) = parts-one-reason e f set json again assert asserted (parts_of input) out other texts decided same (p.within small) (q.within small)
    by_size (inr large) = one_text (p.above large ∙ sym (q.above large))
