-- What a verdict means, that both commands print one, and that the status says the same.
use Rattle.printed_laws.proofs.Vocabulary.{Instructions, ◌≡◌, ℕ, ◌<◌, Bool, true, false, List, [], ◌⊎◌, inl, inr, refl, sym, ap, subst, ◌∙◌}
use Rattle.printed_laws.proofs.Vocabulary.{arith, Some, ◌==◌, not, Contains, eqb-true, Litmus, IsTest, Condition, Claim, truth_of, Entry}
use Rattle.printed_laws.proofs.Vocabulary.{names_shown, Outcome, shown_values, held_in, failed_in, is_met_in, verdict_word, is_well, is_met}
use Rattle.printed_laws.proofs.Vocabulary.{is_as_claimed, PrintsVerdict, IsAsClaimed, IsNotAsClaimed, VerdictMeans, VerdictsAgree}
use Rattle.printed_laws.proofs.Vocabulary.{StatusTells, IsSoEverywhere, IsSoSomewhere, Model, truth_asked, final_words, final_registers}
use Rattle.printed_laws.proofs.Vocabulary.{EndsAreWhatTsoAllows, SpellsTest, TruthIsShown, parts_of, made-of, Search, shown_after}
use Rattle.printed_laws.proofs.Vocabulary.{PrintsAllOutcomes, PrintsSomeOutcomes, HeadlineOfOutcomes, all, AreSomeOf, AreExactly}
use Rattle.printed_laws.proofs.Vocabulary.{unfinished_search_in, StatusTellsNoVerdict, Tso, Sequential, Quantifier, Exists, NotExists}
use Rattle.printed_laws.proofs.Vocabulary.{Forall, too_many}
use Rattle.refutation_laws.specs.Models.{IsExecutionOf, depth_of}
use Rattle.litmus_reader.specs.Spelling.{IsRefused as IsRefusedTest}
use Rattle.litmus_reader.specs.declared.fault.TextFault.{TextFault}
use Rattle.command_line.specs.Explanation.{Explanation}
use Rattle.command_line.specs.declared.settings.Settings.TheVariants as settings
use Rattle.tso_cli.specs.Outcomes.{IsOutcomesAnswer, found, too_many}
use Rattle.tso_cli.specs.Verdicts.{status_of_verdict, status_of_met}
use Rattle.tso_cli.specs.Why.{IsWhyAnswer, never, allowed, too_many}
use Rattle.tso_cli.specs.declared.answer.Status.{Status}
use Rattle.tso_cli.specs.declared.answer.Status.TheVariants.{Good, Unended}
use Rattle.tso_cli.specs.Answers.{too_large, refused, answered}
use Rattle.search_report.specs.PrintedReasons.{unfinished_cases_in}
use Rattle.tso_laws.specs.Outcomes.{IsSequentiallyConsistent}
use Rattle.tso_terms.specs.Axioms.{IsTsoExecution}
use Rattle.tso_terms.specs.Limits.{most_depth}
use Rattle.tso_cli.specs.WhyHeadline.{IsSoIn, PrintsRefutation, PrintsExecutionOf, HeadlineOfReasons, never, allowed, too_many}
use Rattle.printed_laws.proofs.texts.Endings.{EndsIn, verdict_tail, ends-so, one-verdict}
use Rattle.printed_laws.proofs.states.LastLines.{outcomes-end}
use Rattle.printed_laws.proofs.states.MetEnds.{met-ends, none-undecided}
use Rattle.printed_laws.proofs.states.Meaning.{TestsAreWithin, AreReachable, all-reachable, some-reachable, none-counted, some-counted}
use Rattle.printed_laws.proofs.states.Meaning.{some-if, mapped, not-true, not-false, everywhere, somewhere}
use Rattle.printed_laws.proofs.lines.ReasonEnds as reasons
use Rattle.printed_laws.proofs.lines.ReasonEnds.{refutation-end, execution-end}

-- ---- what is asked for, in one of the states or in none

abbrev truth_in : Claim → Outcome → Bool
truth_in claim o = truth_of o.registers o.memory claim

eq-zero : (n : ℕ) → not (n == 0) ≡ false → n ≡ 0
eq-zero n is = by (n == 0) refl is
  where
    by : (b : Bool) → (n == 0) ≡ b → not b ≡ false → n ≡ 0
    by true e isnt = eqb-true n 0 e
    by false e isnt = absurd (let bad : ⊥ = cc in bad)

above-zero : (n : ℕ) → not (n == 0) ≡ true → 0 < n
above-zero n is = by (n == 0) refl is
  where
    by : (b : Bool) → (n == 0) ≡ b → not b ≡ true → 0 < n
    by true e isnt = absurd (let bad : ⊥ = cc in bad)
    by false e isnt = some-if n e

abbrev IsThere : Quantifier → Claim → List Outcome → Type 0
IsThere q claim outcomes = (o : Outcome) × Contains outcomes o × (truth_in claim o ≡ truth_asked q)

met-there : (q : Quantifier) (claim : Claim) (outcomes : List Outcome)
    → is_met q (held_in claim outcomes) (failed_in claim outcomes) ≡ true
    → IsThere q claim outcomes
met-there Exists claim outcomes met = some-counted (truth_in claim) outcomes (above-zero (held_in claim outcomes) met)
met-there NotExists claim outcomes met = some-counted (truth_in claim) outcomes (above-zero (held_in claim outcomes) met)
met-there Forall claim outcomes met =
    let some = some-counted (λ o. not (truth_in claim o)) outcomes (above-zero (failed_in claim outcomes) met) in
    (some.0, some.1, not-false (truth_in claim some.0) some.2)

unmet-nowhere : (q : Quantifier) (claim : Claim) (outcomes : List Outcome) → is_met q (held_in claim outcomes) (failed_in claim outcomes) ≡ false
    → (o : Outcome) → Contains outcomes o → truth_in claim o ≡ not (truth_asked q)
unmet-nowhere Exists claim outcomes unmet = none-counted (truth_in claim) outcomes (eq-zero (held_in claim outcomes) unmet)
unmet-nowhere NotExists claim outcomes unmet = none-counted (truth_in claim) outcomes (eq-zero (held_in claim outcomes) unmet)
unmet-nowhere Forall claim outcomes unmet =
    λ o has. not-true (truth_in claim o) (none-counted (λ p. not (truth_in claim p)) outcomes (eq-zero (failed_in claim outcomes) unmet) o has)

-- a truth isn't also its opposite
both-ways : (a b : Bool) → a ≡ b → a ≡ not b → ⊥
both-ways true true is isnt = let no : ⊥ = cc in no
both-ways a b is isnt = let no : ⊥ = cc in no

-- where it is there it is met
there-met : (q : Quantifier) (claim : Claim) (outcomes : List Outcome)
    → IsThere q claim outcomes
    → is_met q (held_in claim outcomes) (failed_in claim outcomes) ≡ true
there-met q claim outcomes there = by (is_met q (held_in claim outcomes) (failed_in claim outcomes)) refl
  where
    by : (b : Bool) → is_met q (held_in claim outcomes) (failed_in claim outcomes) ≡ b → b ≡ true
    by true is = refl
    by false is = absurd (both-ways (truth_in claim there.0) (truth_asked q) there.2 (unmet-nowhere q claim outcomes is there.0 there.1))

nowhere-unmet : (q : Quantifier) (claim : Claim) (outcomes : List Outcome)
    → (IsThere q claim outcomes → ⊥)
    → is_met q (held_in claim outcomes) (failed_in claim outcomes) ≡ false
nowhere-unmet q claim outcomes none = by (is_met q (held_in claim outcomes) (failed_in claim outcomes)) refl
  where
    by : (b : Bool) → is_met q (held_in claim outcomes) (failed_in claim outcomes) ≡ b → b ≡ false
    by true is = absurd (none (met-there q claim outcomes is))
    by false is = refl

-- ---- of the states that were printed

module _ (t : Litmus) (condition : Condition) (s : Search) (outcomes : List Outcome) (laws : EndsAreWhatTsoAllows) (shown : TruthIsShown) (test : IsTest t)
    (is : t.condition ≡ Some condition) (p : AreReachable t s outcomes) where
  abbrev met_by : Quantifier → Bool
  met_by q = is_met q (held_in condition.claim outcomes) (failed_in condition.claim outcomes)

  so-somewhere : (q : Quantifier) (truth : Bool) → truth_asked q ≡ truth → met_by q ≡ true → IsSoSomewhere t s.depth condition.claim truth
  so-somewhere q truth asked met =
      let there = met-there q condition.claim outcomes met in
      somewhere t condition s outcomes laws shown test is p truth there.0 there.1 (there.2 ∙ asked)

  -- what is asked for is met: whatever other states there are
  ok-if-met : (q : Quantifier) → met_by q ≡ true → is_well q true ≡ true → IsAsClaimed q t s.depth condition.claim
  ok-if-met Exists met ok = so-somewhere Exists true refl met
  ok-if-met NotExists met ok = absurd (let no : ⊥ = cc in no)
  ok-if-met Forall met ok = absurd (let no : ⊥ = cc in no)

  no-if-met : (q : Quantifier) → met_by q ≡ true → is_well q true ≡ false → IsNotAsClaimed q t s.depth condition.claim
  no-if-met Exists met isnt = absurd (let no : ⊥ = cc in no)
  no-if-met NotExists met isnt = so-somewhere NotExists true refl met
  no-if-met Forall met isnt = so-somewhere Forall false refl met

module _ (t : Litmus) (condition : Condition) (s : Search) (json : Bool) (out : List ℕ) (laws : EndsAreWhatTsoAllows) (shown : TruthIsShown) (test : IsTest t)
    (is : t.condition ≡ Some condition) (p : PrintsAllOutcomes t s json out) where
  abbrev met_in : Quantifier → Bool
  met_in q = is_met q (held_in condition.claim p.outcomes) (failed_in condition.claim p.outcomes)

  there-somewhere : (q : Quantifier) (truth : Bool) → truth_asked q ≡ truth → met_in q ≡ true → IsSoSomewhere t s.depth condition.claim truth
  there-somewhere q truth asked met = so-somewhere t condition s p.outcomes laws shown test is (all-reachable t s json out p) q truth asked met

  so-everywhere : (q : Quantifier) (truth : Bool) → not (truth_asked q) ≡ truth → met_in q ≡ false → IsSoEverywhere t s.depth condition.claim truth
  so-everywhere q truth unasked unmet =
      everywhere t condition s json out laws shown test is p truth (λ o has. unmet-nowhere q condition.claim p.outcomes unmet o has ∙ unasked)

  ok-means : (q : Quantifier) → is_well q (met_in q) ≡ true → IsAsClaimed q t s.depth condition.claim
  ok-means Exists ok = there-somewhere Exists true refl ok
  ok-means NotExists ok = so-everywhere NotExists false refl (not-false (met_in NotExists) ok)
  ok-means Forall ok = so-everywhere Forall true refl (not-false (met_in Forall) ok)

  no-means : (q : Quantifier) → is_well q (met_in q) ≡ false → IsNotAsClaimed q t s.depth condition.claim
  no-means Exists isnt = so-everywhere Exists false refl isnt
  no-means NotExists isnt = there-somewhere NotExists true refl (not-true (met_in NotExists) isnt)
  no-means Forall isnt = there-somewhere Forall false refl (not-true (met_in Forall) isnt)

-- the verdict that was printed is that of the counts
printed-is : (t : Litmus) (condition : Condition) (s : Search) (json verdict : Bool) (out : List ℕ)
    → t.condition ≡ Some condition
    → (p : PrintsAllOutcomes t s json out)
    → PrintsVerdict json (verdict_word verdict) out
    → is_well condition.quantifier (is_met condition.quantifier (held_in condition.claim p.outcomes) (failed_in condition.claim p.outcomes)) ≡ verdict
printed-is t condition s json verdict out is p says =
    one-verdict json _ verdict out
    (subst (EndsIn (verdict_tail json (is_well condition.quantifier (is_met_in (Some condition) p.outcomes)))) (sym p.printed)
    (outcomes-end json t (names_shown s.show t) condition s.depth p.outcomes is))
    (ends-so json verdict out says)

-- the same of some states: a verdict was printed, so one of them decides it
record IsDecided (condition : Condition) (outcomes : List Outcome) (verdict : Bool) : Type 0 where
  met : is_met condition.quantifier (held_in condition.claim outcomes) (failed_in condition.claim outcomes) ≡ true
  verdict_is : is_well condition.quantifier true ≡ verdict

decided-is : (t : Litmus) (condition : Condition) (s : Search) (json verdict : Bool) (out : List ℕ) (outcomes : List Outcome) → t.condition ≡ Some condition
    → out ≡ unfinished_search_in json t (names_shown s.show t) s.states outcomes
    → PrintsVerdict json (verdict_word verdict) out
    → IsDecided condition outcomes verdict
decided-is t condition s json verdict out outcomes is printed says = by (is_met_in t.condition outcomes) refl
  where
    ends : EndsIn (verdict_tail json verdict) (unfinished_search_in json t (names_shown s.show t) s.states outcomes)
    ends = subst (EndsIn (verdict_tail json verdict)) printed (ends-so json verdict out says)

    by : (met : Bool) → is_met_in t.condition outcomes ≡ met → IsDecided condition outcomes verdict
    by false unmet = absurd (none-undecided json verdict t (names_shown s.show t) s.states outcomes unmet ends)
    by true met = record {
      met = ap (λ c. is_met_in c outcomes) (sym is) ∙ met;
      verdict_is =
          one-verdict json (is_well condition.quantifier true) verdict _
          (met-ends json t (names_shown s.show t) condition s.states outcomes is met) ends;
    }

-- ---- of an input

-- from the states that were printed, all or some, to what is meant of the test
record Tells (verdict : Bool) (Meant : Quantifier → Litmus → ℕ → Claim → Type 0) : Type 0 where
  from_all : (t : Litmus) (condition : Condition) (s : Search) (json : Bool) (out : List ℕ)
      → EndsAreWhatTsoAllows
      → TruthIsShown
      → IsTest t
      → t.condition ≡ Some condition
      → (p : PrintsAllOutcomes t s json out)
      → is_well condition.quantifier (is_met condition.quantifier (held_in condition.claim p.outcomes) (failed_in condition.claim p.outcomes)) ≡ verdict
      → Meant condition.quantifier t s.depth condition.claim
  from_some : (t : Litmus) (condition : Condition) (s : Search) (outcomes : List Outcome)
      → EndsAreWhatTsoAllows
      → TruthIsShown
      → IsTest t
      → t.condition ≡ Some condition
      → AreReachable t s outcomes → IsDecided condition outcomes verdict → Meant condition.quantifier t s.depth condition.claim

means : (verdict : Bool) (Meant : Quantifier → Litmus → ℕ → Claim → Type 0) → Tells verdict Meant
    → TestsAreWithin → EndsAreWhatTsoAllows → TruthIsShown → VerdictMeans (verdict_word verdict) Meant
means verdict Meant tells within laws shown search set json assert input out t condition small spelled is headline says =
    by ((headline.within small).every_test t spelled)
  where
    test : IsTest t
    test = within set (parts_of input).test t spelled

    by : HeadlineOfOutcomes t search json out → Meant condition.quantifier t search.depth condition.claim
    by (all p) = tells.from_all t condition search json out laws shown test is p (printed-is t condition search json verdict out is p says)
    by (too_many more p) =
        tells.from_some t condition search p.outcomes laws shown test is (some-reachable t search json out p)
        (decided-is t condition search json verdict out p.outcomes is p.printed says)

pub ok-is : TestsAreWithin → EndsAreWhatTsoAllows → TruthIsShown → VerdictMeans (verdict_word true) IsAsClaimed
ok-is = means true IsAsClaimed (record {
  from_all = λ t condition s json out laws shown test is p. ok-means t condition s json out laws shown test is p condition.quantifier;
  from_some = λ t condition s outcomes laws shown test is p d. ok-if-met t condition s outcomes laws shown test is p condition.quantifier d.met d.verdict_is;
})

pub no-is : TestsAreWithin → EndsAreWhatTsoAllows → TruthIsShown → VerdictMeans (verdict_word false) IsNotAsClaimed
no-is = means false IsNotAsClaimed (record {
  from_all = λ t condition s json out laws shown test is p. no-means t condition s json out laws shown test is p condition.quantifier;
  from_some = λ t condition s outcomes laws shown test is p d. no-if-met t condition s outcomes laws shown test is p condition.quantifier d.met d.verdict_is;
})

-- ---- both commands

-- each state of a text is that of an execution of the model
among-those : (model : Model) (t : Litmus) (s : Search) (outcomes : List Outcome)
    → s.depth ≡ depth_of model
    → (s.depth ≡ most_depth → AreSomeOf t (names_shown s.show t) outcomes (IsTsoExecution t))
    → (s.depth ≡ 0 → AreSomeOf t (names_shown s.show t) outcomes (IsSequentiallyConsistent t))
    → AreSomeOf t (names_shown s.show t) outcomes (IsExecutionOf model t)
among-those Tso t s outcomes depth tso sequential = tso depth
among-those Sequential t s outcomes depth tso sequential = sequential depth

-- the states of a text are those of the model's executions
exactly-of : (model : Model) (t : Litmus) (s : Search) (json : Bool) (out : List ℕ) → s.depth ≡ depth_of model → (p : PrintsAllOutcomes t s json out)
    → AreExactly t (names_shown s.show t) p.outcomes (IsExecutionOf model t)
exactly-of Tso t s json out depth p = p.tso depth
exactly-of Sequential t s json out depth p = p.sequential depth

module _ (model : Model) (t : Litmus) (condition : Condition) (s : Search) (shown : TruthIsShown) (test : IsTest t) (is : t.condition ≡ Some condition) where
  truth-after-is : (o : Outcome) (order : List Entry) → shown_after t (names_shown s.show t) order ≡ shown_values (names_shown s.show t) o
      → truth_of (final_registers t order) (final_words t order) condition.claim ≡ truth_in condition.claim o
  truth-after-is o order same =
      shown s.show t condition (record { registers = final_registers t order; memory = final_words t order; choices = [] }) o test is same

  -- where no execution has it, no state has
  unmet-if-never : (outcomes : List Outcome) → AreSomeOf t (names_shown s.show t) outcomes (IsExecutionOf model t)
      → ((order : List Entry) → IsExecutionOf model t order → ¬ IsSoIn (Some condition) (final_registers t order) (final_words t order))
      → is_met condition.quantifier (held_in condition.claim outcomes) (failed_in condition.claim outcomes) ≡ false
  unmet-if-never outcomes among none = nowhere-unmet condition.quantifier condition.claim outcomes (λ there.
      let made = among (shown_values (names_shown s.show t) there.0) (mapped (shown_values (names_shown s.show t)) outcomes there.0 there.1) in
      none made.0 made.1 (truth-after-is there.0 made.0 made.2 ∙ there.2))

  -- where an execution has it, a state has
  met-if-so : (json : Bool) (out : List ℕ) → s.depth ≡ depth_of model → (p : PrintsAllOutcomes t s json out) (order : List Entry) → IsExecutionOf model t order
      → IsSoIn (Some condition) (final_registers t order) (final_words t order)
      → is_met condition.quantifier (held_in condition.claim p.outcomes) (failed_in condition.claim p.outcomes)
      ≡ true
  met-if-so json out depth p order execution so =
      let has = (exactly-of model t s json out depth p (shown_after t (names_shown s.show t) order)).1 (order, execution, refl) in
      let made = made-of (shown_values (names_shown s.show t)) p.outcomes (shown_after t (names_shown s.show t) order) has in
      there-met condition.quantifier condition.claim p.outcomes (made.0, made.1, sym (truth-after-is made.0 order (sym made.2)) ∙ so)

module _ (t : Litmus) (condition : Condition) (s : Search) (e : Explanation) (json again verdict other_verdict : Bool)
    (out other : List ℕ) (shown : TruthIsShown) (test : IsTest t)
    (is : t.condition ≡ Some condition) (depth : s.depth ≡ depth_of e.model) (says : PrintsVerdict again (verdict_word other_verdict) other) where
  -- what `why` prints of a refutation, and of an execution
  refuted-word : (r : PrintsRefutation t e.model again other) → is_well condition.quantifier false ≡ other_verdict
  refuted-word r =
      one-verdict again _ other_verdict other
      (subst (EndsIn (verdict_tail again (is_well condition.quantifier false))) (sym r.printed) (refutation-end again e.model t condition r.lemmas r.tree is))
      (ends-so again other_verdict other says)

  allowed-word : (r : PrintsExecutionOf t e.model again other) → is_well condition.quantifier true ≡ other_verdict
  allowed-word r =
      one-verdict again _ other_verdict other
      (subst (EndsIn (verdict_tail again (is_well condition.quantifier true))) (sym r.shown.printed)
      (execution-end again e.model t condition r.shown.candidate r.choices is))
      (ends-so again other_verdict other says)

  none-has : (r : PrintsRefutation t e.model again other)
      → (order : List Entry) → IsExecutionOf e.model t order
      → ¬ IsSoIn (Some condition) (final_registers t order) (final_words t order)
  none-has r = subst (λ c. (order : List Entry) → IsExecutionOf e.model t order → ¬ IsSoIn c (final_registers t order) (final_words t order)) is r.executions

  none-said : other ≡ unfinished_cases_in again t e.cases → ⊥
  none-said printed =
      reasons.none-unfinished again other_verdict t e.cases
      (subst (EndsIn (verdict_tail again other_verdict)) printed (ends-so again other_verdict other says))

  reason-is : (p : PrintsAllOutcomes t s json out) → HeadlineOfReasons t e again other
      → is_well condition.quantifier (is_met condition.quantifier (held_in condition.claim p.outcomes) (failed_in condition.claim p.outcomes))
      ≡ verdict
      → verdict ≡ other_verdict
  reason-is p (never r) same =
      sym same ∙ (ap (is_well condition.quantifier)
      (unmet-if-never e.model t condition s shown test is p.outcomes (λ values. (exactly-of e.model t s json out depth p values).0) (none-has r))
      ∙ refuted-word r)
  reason-is p (allowed r) same =
      sym same ∙ (ap (is_well condition.quantifier) (met-if-so e.model t condition s shown test is json out depth p r.order r.execution
      (subst (λ c. IsSoIn c (final_registers t r.order) (final_words t r.order)) is r.holds)) ∙ allowed-word r)
  reason-is p (too_many fewer printed) same = absurd (none-said printed)

  -- a state that decides it is that of an execution, so there is no refutation
  some-reason-is : (p : PrintsSomeOutcomes t s json out) → HeadlineOfReasons t e again other → IsDecided condition p.outcomes verdict → verdict ≡ other_verdict
  some-reason-is p (never r) d =
      absurd (
      let clash : true ≡ false =
      sym d.met
      ∙ unmet-if-never e.model t condition s shown test is p.outcomes
      (among-those e.model t s p.outcomes depth p.tso p.sequential) (none-has r) in
      let no : ⊥ = cc in no)
  some-reason-is p (allowed r) d = sym d.verdict_is ∙ allowed-word r
  some-reason-is p (too_many fewer printed) d = absurd (none-said printed)

pub verdicts-agree : TestsAreWithin → TruthIsShown → VerdictsAgree
verdicts-agree within shown search plan set json again assert asserted input out other t condition verdict other_verdict
    small spelled is depth first says second other_says =
    by ((first.within small).every_test t spelled)
  where
    test : IsTest t
    test = within set (parts_of input).test t spelled

    by : HeadlineOfOutcomes t search json out → verdict ≡ other_verdict
    by (all p) =
        reason-is t condition search plan json again verdict other_verdict out other shown test is depth other_says p
        ((second.within small).every_test t spelled) (printed-is t condition search json verdict out is p says)
    by (too_many more p) =
        some-reason-is t condition search plan json again verdict other_verdict out other shown test is depth other_says p
        ((second.within small).every_test t spelled) (decided-is t condition search json verdict out p.outcomes is p.printed says)

-- ---- statuses

-- a text spells one test, and isn't refused then
pub record TextsAreDecided : Type 0 where
  pub once : (set : Instructions) (text : List ℕ) (t other : Litmus) → SpellsTest set text t → SpellsTest set text other → t ≡ other
  pub never_both : (set : Instructions) (text : List ℕ) (t : Litmus) (fault : TextFault) → SpellsTest set text t → IsRefusedTest set text fault → ⊥

-- a verdict, asserted: of all states or of some
outcomes-status : (t : Litmus) (condition : Condition) (s : Search) (json verdict : Bool) (out : List ℕ) (status : Status) → t.condition ≡ Some condition
    → IsOutcomesAnswer t s json true out status → PrintsVerdict json (verdict_word verdict) out → status ≡ status_of_verdict true verdict
outcomes-status t condition s json verdict _ _ is (found outcomes are) says =
    let claimed = ap (λ c. is_as_claimed c (is_met_in c outcomes)) is in
    ap (status_of_verdict true)
    (claimed
    ∙ one-verdict json _ verdict _ (outcomes-end json t (names_shown s.show t) condition s.depth outcomes is) (ends-so json verdict _ says))
outcomes-status t condition s json verdict _ _ is (too_many outcomes more are) says =
    let d = decided-is t condition s json verdict _ outcomes is refl says in
    let met : is_met_in t.condition outcomes ≡ true = ap (λ c. is_met_in c outcomes) is ∙ d.met in
    ap (status_of_met true t.condition) met ∙ ap (status_of_verdict true) (ap (λ c. is_as_claimed c true) is ∙ d.verdict_is)

-- not asserted, it tells nothing of the verdict
outcomes-unasserted : (t : Litmus) (s : Search) (json : Bool) (out : List ℕ) (status : Status)
    → IsOutcomesAnswer t s json false out status
    → (status ≡ Good) ⊎ (status ≡ Unended)
outcomes-unasserted t s json _ _ (found outcomes are) = inl refl
outcomes-unasserted t s json _ _ (too_many outcomes more are) = inr (by (is_met_in t.condition outcomes))
  where
    by : (met : Bool) → status_of_met false t.condition met ≡ Unended
    by true = refl
    by false = refl

why-status : (t : Litmus) (condition : Condition) (e : Explanation) (json assert verdict : Bool) (out : List ℕ) (status : Status) → t.condition ≡ Some condition
    → IsWhyAnswer t e json assert out status → PrintsVerdict json (verdict_word verdict) out → status ≡ status_of_verdict assert verdict
why-status t condition e json assert verdict _ _ is (never lemmas tree refuted) says =
    let claimed = ap (λ c. is_as_claimed c false) is in
    ap (status_of_verdict assert)
    (claimed
    ∙ one-verdict json _ verdict _ (refutation-end json e.model t condition lemmas tree is) (ends-so json verdict _ says))
why-status t condition e json assert verdict _ _ is (allowed out r) says =
    let claimed = ap (λ c. is_as_claimed c true) is in
    ap (status_of_verdict assert) (claimed ∙ one-verdict json _ verdict out
    (subst (EndsIn (verdict_tail json (is_well condition.quantifier true))) (sym r.shown.printed)
    (execution-end json e.model t condition r.shown.candidate r.choices is))
    (ends-so json verdict out says))
why-status t condition e json assert verdict _ _ is (too_many fewer) says =
    absurd (reasons.none-unfinished json verdict t e.cases (ends-so json verdict _ says))

pub outcomes-tell : (search : Search) (set : Instructions) (json verdict : Bool)
    → TextsAreDecided
    → StatusTells (settings.Outcomes search set json true) json (verdict_word verdict) (status_of_verdict true verdict)
outcomes-tell search set json verdict decided input _ _ t condition small spelled is (too_large large) says = absurd (omega (arith, small, large))
outcomes-tell search set json verdict decided input _ _ t condition small spelled is (refused fault less refusal) says =
    absurd (decided.never_both set (parts_of input).test t fault spelled refusal)
outcomes-tell search set json verdict decided input _ _ t condition small spelled is (answered u out status less too answer) says =
    outcomes-status t condition search json verdict out status is
    (subst (λ v. IsOutcomesAnswer v search json true out status) (decided.once set (parts_of input).test u t too spelled) answer) says

pub outcomes-tell-nothing : (search : Search) (set : Instructions) (json verdict : Bool)
    → TextsAreDecided
    → StatusTellsNoVerdict (settings.Outcomes search set json false) json (verdict_word verdict)
outcomes-tell-nothing search set json verdict decided input _ _ t condition small spelled is (too_large large) says = absurd (omega (arith, small, large))
outcomes-tell-nothing search set json verdict decided input _ _ t condition small spelled is (refused fault less refusal) says =
    absurd (decided.never_both set (parts_of input).test t fault spelled refusal)
outcomes-tell-nothing search set json verdict decided input _ _ t condition small spelled is (answered u out status less too answer) says =
    outcomes-unasserted u search json out status answer

pub why-tells : (plan : Explanation) (set : Instructions) (json assert verdict : Bool)
    → TextsAreDecided
    → StatusTells (settings.Why plan set json assert) json (verdict_word verdict) (status_of_verdict assert verdict)
why-tells plan set json assert verdict decided input _ _ t condition small spelled is (too_large large) says = absurd (omega (arith, small, large))
why-tells plan set json assert verdict decided input _ _ t condition small spelled is (refused fault less refusal) says =
    absurd (decided.never_both set (parts_of input).test t fault spelled refusal)
why-tells plan set json assert verdict decided input _ _ t condition small spelled is (answered u out status less too answer) says =
    why-status t condition plan json assert verdict out status is
    (subst (λ v. IsWhyAnswer v plan json assert out status) (decided.once set (parts_of input).test u t too spelled) answer) says

-- with `Ok` nothing is told, asserted or not
pub ok-is-good : (assert : Bool) → status_of_verdict assert true ≡ Good
ok-is-good true = refl
ok-is-good false = refl
