-- What is printed of the final states that a search found.
use Rattle.search_report.proofs.Vocabulary.{◌≡◌, ◌∙◌, ℕ, suc, ◌+◌, Bool, List, [], ◌∷◌, length, slice_index_or, All, refl, sym, ap, subst}
use Rattle.search_report.proofs.Vocabulary.{values_of, slice_get-get_or, Litmus, IsTest, IsWellFormed, well-formed, AreReached, FinalState}
use Rattle.search_report.proofs.Vocabulary.{Named, is_as_claimed}
use Rattle.search_report.proofs.Vocabulary.{Outcome, outcome_of, is_met_in, outcomes_in, PrintsOutcomes, IsOutcomeOf, kept_after, AreShown}
use Rattle.tso_terms.specs.FinalState.{words_from, registers_from}
use Rattle.tso_terms.specs.Runs.{run}
use Rattle.basic_laws.specs.Types.{Choice, Entry, Instr}
use Rattle.tso_laws.specs.EndedRuns.{End, IsExecution}
use Rattle.tso_laws.specs.Outcomes.{LeadToEnd}
use Rattle.search_report.proofs.Keeping.{kept-shown, kept-printed}

-- ---- a final state has registers for each core and a word for each location

as-many-words : (loc : ℕ) (words : List ℕ) (order : List Entry) → length (words_from loc words order) ≡ length words
as-many-words loc [] order = refl
as-many-words loc (word ∷ words) order = ap suc (as-many-words (loc + 1) words order)

as-many-cores : (core : ℕ) (programs : List (List Instr)) (registers : List (List ℕ)) (order : List Entry)
    → length (registers_from core programs registers order) ≡ length programs
as-many-cores core [] registers order = refl
as-many-cores core (p ∷ ps) registers order = ap suc (as-many-cores (core + 1) ps registers order)

abbrev pub EndedRunsAreExecutions : Type 0
EndedRunsAreExecutions = (t : Litmus) (depth : ℕ) (choices : List Choice) → IsWellFormed t → End t depth choices → IsExecution t (run t depth choices)

end-whole : (t : Litmus) (depth : ℕ) (f : FinalState)
    → EndedRunsAreExecutions
    → IsTest t
    → LeadToEnd t depth f.choices.items f.registers.items f.memory.items
    → IsOutcomeOf t (outcome_of f)
end-whole t depth f law test lead =
    let r = run t depth f.choices.items in
    let left = law t depth f.choices.items (well-formed t test) lead.ended in
    record {
      registers = ap length (sym lead.registers_are ∙ left.registers) ∙ as-many-cores 0 t.programs t.registers r.commits;
      memory = ap length (sym lead.memory_is ∙ left.memory) ∙ (as-many-words 0 t.words r.commits ∙ test.words_given);
    }

pub reached-whole : (t : Litmus) (depth : ℕ) (finals : List FinalState)
    → EndedRunsAreExecutions
    → IsTest t
    → AreReached t depth finals
    → All (λ f. IsOutcomeOf t (outcome_of f)) finals
reached-whole t depth finals law test reached k d lt =
    end-whole t depth (slice_index_or finals k d) law test (reached k (slice_index_or finals k d) (slice_get-get_or finals k d lt))

-- ---- what was printed are these final states

-- the names are handed on as they were found
pub kept-is-shown : (t : Litmus) (names given used : List Named) (finals : List FinalState)
    (kept : List (List ℕ × Outcome))
    → All (λ f. IsOutcomeOf t (outcome_of f)) finals
    → given ≡ names → used ≡ names → kept ≡ kept_after given [] finals → AreShown t used kept
kept-is-shown t names given used finals kept whole g u is =
    subst (AreShown t used) (sym is) (subst (λ n. AreShown t n (kept_after given [] finals)) (g ∙ sym u) (kept-shown t given finals whole))

pub kept-out : (t : Litmus) (shown names : List Named) (depth : ℕ) (json met as_claimed : Bool)
    (finals : List FinalState) (kept : List (List ℕ × Outcome)) (out : List ℕ)
    → All (λ f. IsOutcomeOf t (outcome_of f)) finals → names ≡ shown → kept ≡ kept_after names [] finals → out ≡ outcomes_in json t names depth (values_of kept)
    → met ≡ is_met_in t.condition (values_of kept) → as_claimed ≡ is_as_claimed t.condition met → PrintsOutcomes t shown depth json finals out as_claimed
kept-out t shown names depth json met as_claimed finals kept out whole same is printed found claimed =
    subst (λ n. PrintsOutcomes t n depth json finals out as_claimed) same (record {
      outcomes = values_of (kept_after names [] finals);
      printed = kept-printed t names finals whole;
      text = printed ∙ ap (λ k. outcomes_in json t names depth (values_of k)) is;
      verdict = claimed ∙ ap (is_as_claimed t.condition) (found ∙ ap (λ k. is_met_in t.condition (values_of k)) is);
    })
