-- The word that `outcomes` prints of a condition, and what it means: for the machine's runs at that depth, and for what TSO allows.
-- (Primer, chapter 4, for the axioms, and chapter 3 for sequential consistency.)
use Rattle.litmus_tokens.specs.declared.instructions.Instructions.{Instructions}
use Rattle.std.specs.Prelude.{ℕ, ◌≡◌, ◌<◌, ◌≤◌, Bool, true, false, List, ◌++◌, length, Some, codes}
use Rattle.std.specs.Fmt.{decimal}
use Rattle.printed_laws.specs.Vocabulary.{Claim, Condition, InputHeadline, line, Litmus, longest_input, parts_of, printed_numbers}
use Rattle.printed_laws.specs.Vocabulary.{registers_in, Search, SpellsTest, truth_of, verdict_word}
use Rattle.tso_terms.specs.Axioms.{IsTsoExecution}
use Rattle.tso_terms.specs.FinalState.{final_words, final_registers}
use Rattle.tso_terms.specs.Runs.{run, CoresExist}
use Rattle.basic_laws.specs.Types.{Choice, Entry}
use Rattle.tso_laws.specs.Depth.{needed}
use Rattle.tso_laws.specs.Outcomes.{IsSequentiallyConsistent}
use Rattle.command_line.specs.declared.settings.Settings.TheVariants as settings

-- ---- where the word stands

-- the text's last line but two ends in the word and two counts: ` Never 0 4`, and then `True` and `Verdict No`
pub record EndsInWord (word out : List ℕ) : Type 0 where
  pub front : List ℕ
  pub held : ℕ
  pub failed : ℕ
  pub numbers : List ℕ
  pub as_claimed : Bool
  pub text : out ≡ front ++ (codes " " ++ (word ++ (codes " " ++ (decimal held ++ (codes " " ++ (line (decimal failed)
      ++ (codes "True" ++ (line (printed_numbers numbers) ++ (codes "Verdict " ++ line (verdict_word as_claimed))))))))))

-- the object's second member has it: `{"depth":32,"observation":{"false":4,"true":0,"word":"Never"},..`
pub record HasWordInObject (word out : List ℕ) : Type 0 where
  pub depth : ℕ
  pub failed : ℕ
  pub held : ℕ
  pub back : List ℕ
  pub text : out ≡ codes "{\"depth\":" ++ (decimal depth ++ (codes ",\"observation\":{\"false\":" ++ (decimal failed
      ++ (codes ",\"true\":" ++ (decimal held ++ (codes ",\"word\":\"" ++ (word ++ (codes "\"}" ++ back))))))))

abbrev pub PrintsWord : Bool → List ℕ → List ℕ → Type 0
PrintsWord false word out = EndsInWord word out
PrintsWord true word out = HasWordInObject word out

-- ---- what it means

-- the claim's truth after a run, and after an order
abbrev pub truth_after_run : Litmus → ℕ → Claim → List Choice → Bool
truth_after_run t depth claim choices = let r = run t depth choices in truth_of (registers_in r.state) r.state.memory claim

abbrev pub truth_after : Litmus → Claim → List Entry → Bool
truth_after t claim order = truth_of (final_registers t order) (final_words t order) claim

-- the claim has this truth wherever a run at this depth ends; with store buffers also after each TSO execution that needs no more,
-- at depth 32 after each, and without them after each sequentially consistent one
pub record IsSoEverywhere (t : Litmus) (depth : ℕ) (claim : Claim) (truth : Bool) : Type 0 where
  pub runs : (choices : List Choice) → CoresExist (length t.programs) choices → (run t depth choices).ended ≡ true
      → truth_after_run t depth claim choices ≡ truth
  pub buffered : 0 < depth → (order : List Entry) → IsTsoExecution t order → needed order ≤ depth → truth_after t claim order ≡ truth
  pub tso : depth ≡ 32 → (order : List Entry) → IsTsoExecution t order → truth_after t claim order ≡ truth
  pub sequential : depth ≡ 0 → (order : List Entry) → IsSequentiallyConsistent t order → truth_after t claim order ≡ truth

-- a run ends where the claim has this truth; so it is with such an execution
pub record IsSoSomewhere (t : Litmus) (depth : ℕ) (claim : Claim) (truth : Bool) : Type 0 where
  pub runs : (choices : List Choice) × CoresExist (length t.programs) choices × ((run t depth choices).ended ≡ true)
      × (truth_after_run t depth claim choices ≡ truth)
  pub buffered : 0 < depth → (order : List Entry) × IsTsoExecution t order × (needed order ≤ depth) × (truth_after t claim order ≡ truth)
  pub sequential : depth ≡ 0 → (order : List Entry) × IsSequentiallyConsistent t order × (truth_after t claim order ≡ truth)

-- `Never`, `Always` and `Sometimes`
abbrev pub IsSoNowhere : Litmus → ℕ → Claim → Type 0
IsSoNowhere t depth claim = IsSoEverywhere t depth claim false

abbrev pub IsAlwaysSo : Litmus → ℕ → Claim → Type 0
IsAlwaysSo t depth claim = IsSoEverywhere t depth claim true

abbrev pub IsSometimesSo : Litmus → ℕ → Claim → Type 0
IsSometimesSo t depth claim = IsSoSomewhere t depth claim true × IsSoSomewhere t depth claim false

-- where a text of which the headline holds has the word, this is so of the condition of the test that was given
abbrev pub WordMeans : List ℕ → (Litmus → ℕ → Claim → Type 0) → Type 0
WordMeans word Meant =
    (search : Search) (set : Instructions) (json assert : Bool) (input out : List ℕ) (t : Litmus) (condition : Condition)
    → length input ≤ longest_input → SpellsTest set (parts_of input).test t → t.condition ≡ Some condition
    → InputHeadline (settings.Outcomes search set json assert) input out → PrintsWord json word out
    → Meant t search.depth condition.claim
