-- Whether a condition is as it claims: what `Verdict` and `True` mean, for the machine's runs at that depth and for what TSO allows; and
-- that the status says the same where that is asserted. (Primer, chapter 4, for the axioms, and chapter 3 for sequential consistency.)
use Rattle.litmus_tokens.specs.declared.instructions.Instructions.{Instructions}
use Rattle.command_line.specs.Instructions.{instructions_of}
use Rattle.std.specs.Prelude.{ℕ, ◌+◌, ◌≡◌, ◌⊎◌, ◌<◌, ◌≤◌, ◌↔◌, Bool, true, false, List, ◌++◌, length, Some, Contains, slice_get, codes}
use Rattle.printed_laws.specs.Vocabulary.{Claim, Condition, Exists, Forall, InputHeadline, IsTest, line, Litmus, longest_input, Named}
use Rattle.printed_laws.specs.Vocabulary.{names_shown, NotExists, Outcome, parts_of, printed_numbers, Quantifier, Search, shown_values}
use Rattle.printed_laws.specs.Vocabulary.{SpellsTest, truth_of, values_at, verdict_word}
use Rattle.refutation_laws.specs.Models.{depth_of}
use Rattle.search_report.specs.OutcomesJson.{holds_in}
use Rattle.command_line.specs.Explanation.{Explanation}
use Rattle.command_line.specs.declared.settings.Settings.{Settings}
use Rattle.command_line.specs.declared.settings.Settings.TheVariants as settings
use Rattle.tso_cli.specs.declared.answer.Status.{Status}
use Rattle.tso_cli.specs.declared.answer.Status.TheVariants.{Good, Unended}
use Rattle.tso_cli.specs.Answers.{IsAnswer}
use Rattle.tso_cli.specs.OutcomesHeadline.{PrintsAllOutcomes}
use Rattle.printed_laws.specs.Observed.{IsSoEverywhere, IsSoSomewhere}

-- ---- where the verdict stands

-- the text's last line is `Verdict Ok`, or `Verdict No`
pub record EndsInVerdict (word out : List ℕ) : Type 0 where
  pub front : List ℕ
  pub text : out ≡ front ++ (codes "\nVerdict " ++ line word)

-- the object's last member has it: `..,"verdict":"Ok"}`
pub record EndsInVerdictMember (word out : List ℕ) : Type 0 where
  pub front : List ℕ
  pub text : out ≡ front ++ (codes ",\"verdict\":\"" ++ (word ++ codes "\"}\n"))

abbrev pub PrintsVerdict : Bool → List ℕ → List ℕ → Type 0
PrintsVerdict false word out = EndsInVerdict word out
PrintsVerdict true word out = EndsInVerdictMember word out

-- ---- what it means

-- of `exists` the proposition is true somewhere, of `~exists` nowhere, and of `forall` everywhere
abbrev pub IsAsClaimed : Quantifier → Litmus → ℕ → Claim → Type 0
IsAsClaimed Exists t depth claim = IsSoSomewhere t depth claim true
IsAsClaimed NotExists t depth claim = IsSoEverywhere t depth claim false
IsAsClaimed Forall t depth claim = IsSoEverywhere t depth claim true

-- of `exists` it is true nowhere, of `~exists` somewhere, and of `forall` somewhere false
abbrev pub IsNotAsClaimed : Quantifier → Litmus → ℕ → Claim → Type 0
IsNotAsClaimed Exists t depth claim = IsSoEverywhere t depth claim false
IsNotAsClaimed NotExists t depth claim = IsSoSomewhere t depth claim true
IsNotAsClaimed Forall t depth claim = IsSoSomewhere t depth claim false

-- where a text of which the headline holds has the verdict, this is so of the condition of the test that was given
abbrev pub VerdictMeans : List ℕ → (Quantifier → Litmus → ℕ → Claim → Type 0) → Type 0
VerdictMeans word Meant =
    (search : Search) (set : Instructions) (json assert : Bool) (input out : List ℕ) (t : Litmus) (condition : Condition)
    → length input ≤ longest_input → SpellsTest set (parts_of input).test t → t.condition ≡ Some condition
    → InputHeadline (settings.Outcomes search set json assert) input out → PrintsVerdict json word out
    → Meant condition.quantifier t search.depth condition.claim

-- of one input `why` under a model prints the verdict that `outcomes` prints at that model's depth, in whichever form
abbrev pub VerdictsAgree : Type 0
VerdictsAgree =
    (search : Search) (plan : Explanation) (set : Instructions) (json again assert asserted : Bool)
    (input out other : List ℕ) (t : Litmus) (condition : Condition)
    (verdict other_verdict : Bool)
    → length input ≤ longest_input → SpellsTest set (parts_of input).test t → t.condition ≡ Some condition → search.depth ≡ depth_of plan.model
    → InputHeadline (settings.Outcomes search set json assert) input out → PrintsVerdict json (verdict_word verdict) out
    → InputHeadline (settings.Why plan set again asserted) input other → PrintsVerdict again (verdict_word other_verdict) other
    → verdict ≡ other_verdict

-- ---- the status

-- an answer that has this verdict has this status
abbrev pub StatusTells : Settings → Bool → List ℕ → Status → Type 0
StatusTells s json word told =
    (input out : List ℕ) (status : Status) (t : Litmus) (condition : Condition)
    → length input ≤ longest_input → SpellsTest (instructions_of s) (parts_of input).test t → t.condition ≡ Some condition
    → IsAnswer s (Some input) out status → PrintsVerdict json word out → status ≡ told

-- an answer that has a verdict is a success, or tells that a search met its limit
abbrev pub StatusTellsNoVerdict : Settings → Bool → List ℕ → Type 0
StatusTellsNoVerdict s json word =
    (input out : List ℕ) (status : Status) (t : Litmus) (condition : Condition)
    → length input ≤ longest_input → SpellsTest (instructions_of s) (parts_of input).test t → t.condition ≡ Some condition
    → IsAnswer s (Some input) out status → PrintsVerdict json word out → (status ≡ Good) ⊎ (status ≡ Unended)

-- ---- the states in which the proposition is true

-- the text's last line but one is `True`, and these numbers
pub record EndsInNumbers (numbers out : List ℕ) : Type 0 where
  pub front : List ℕ
  pub as_claimed : Bool
  pub text : out ≡ front ++ (codes "\nTrue" ++ (line (printed_numbers numbers) ++ (codes "Verdict " ++ line (verdict_word as_claimed))))

-- the lines of the states are numbered from 1. A number is there exactly where the claim is true in each state that has the values
-- of its line, and there is no other number
pub record NumbersOfTrueStates (claim : Claim) (names : List Named) (outcomes : List Outcome) (numbers : List ℕ) : Type 0 where
  pub named : (i : ℕ) (o : Outcome) (registers : List (List ℕ)) (memory : List ℕ) → slice_get outcomes i ≡ Some o
      → values_at names registers memory ≡ shown_values names o → Contains numbers (i + 1) ↔ (truth_of registers memory claim ≡ true)
  pub within : (n : ℕ) → Contains numbers n → (0 < n) × (n ≤ length outcomes)

-- `True` has those numbers
pub record NamesTrueStates (t : Litmus) (search : Search) (claim : Claim) (outcomes : List Outcome) (out : List ℕ) : Type 0 where
  pub numbers : List ℕ
  pub last : EndsInNumbers numbers out
  pub states : NumbersOfTrueStates claim (names_shown search.show t) outcomes numbers

-- where states are printed as lines, so it is of a test with a condition
abbrev pub TrueNamesTrueStates : Type 0
TrueNamesTrueStates =
    (t : Litmus) (search : Search) (out : List ℕ) (condition : Condition) → IsTest t → t.condition ≡ Some condition
    → (said : PrintsAllOutcomes t search false out) → NamesTrueStates t search condition.claim said.outcomes out

-- `holds` of a state says whether the claim is true in each state that has its values
abbrev pub HoldsTellsTrueStates : Type 0
HoldsTellsTrueStates =
    (t : Litmus) (search : Search) (out : List ℕ) (condition : Condition) → IsTest t → t.condition ≡ Some condition
    → (said : PrintsAllOutcomes t search true out) (o : Outcome) (registers : List (List ℕ)) (memory : List ℕ) → Contains said.outcomes o
    → values_at (names_shown search.show t) registers memory ≡ shown_values (names_shown search.show t) o
    → holds_in t.condition o ≡ Some (truth_of registers memory condition.claim)
