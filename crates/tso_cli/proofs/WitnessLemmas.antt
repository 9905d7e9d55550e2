-- What `witness` answers, and what that means.
use Rattle.tso_cli.proofs.Vocabulary.{◌≡◌, ◌≢◌, ◌+◌, ◌*◌, ◌≤◌, ◌<◌, ◌^◌, ℕ, zero, suc, true, false, IsTrue, List, [], ◌∷◌, ◌++◌, length}
use Rattle.tso_cli.proofs.Vocabulary.{All, refl, sym, ap, subst, ◌∙◌, arith, list_all, All-head, All-tail, All-weaker, most_depth, Litmus}
use Rattle.tso_cli.proofs.Vocabulary.{IsTest, IsWellFormed, well-formed, IsProgram, IsTsoExecution, run, CoresExist, Instr, StoreImm, Entry}
use Rattle.tso_cli.proofs.Vocabulary.{Choice, choices_along}
use Rattle.tso_cli.proofs.Vocabulary.{LeadTo, needed, End, SpellsChoices, printed_choices, WitnessesOrder, WitnessesEachOrder, unreached}
use Rattle.tso_cli.proofs.Vocabulary.{broken, IsDepth, IsEndingOf, drains, witness_line, IsWitness, IsWitnessAnswer, too_small, invalid}
use Rattle.tso_cli.proofs.Vocabulary.{judged, Ending, Ended, Unfinished, Status, Good, AreReadOneWay}
use Rattle.tso_laws.specs.Counting.{is_plain_store, stores_in, instructions, stores_of_all}
use Rattle.scheduler.specs.Limits.{most_choices}
use Rattle.scheduler.specs.Words.{is_space}
use Rattle.tso_cli.specs.Judgement.{reached}
use Rattle.tso_cli.specs.Witness.{HasEndedWith, reached, refused}
use Rattle.tso_cli.proofs.CheckLemmas.{IsReal}

-- what the crates below say of choices that reach an order
pub record Reaching : Type 0 where
  pub lead : (t : Litmus) (depth : ℕ) (order : List Entry)
      → IsWellFormed t
      → IsTsoExecution t order
      → needed order ≤ depth
      → LeadTo t depth (choices_along t order) order
  pub never : (t : Litmus) (depth : ℕ) (order : List Entry) (choices : List Choice)
      → IsWellFormed t
      → 0 < depth
      → depth < needed order
      → (run t depth choices).commits ≢ order
  pub counted : (t : Litmus) (depth : ℕ) (choices : List Choice) → End t depth choices
      → (run t depth choices).used ≡ (run t depth choices).stalled + (instructions t.programs + drains t depth)
  pub spelled : (cores : ℕ) (choices : List Choice) (white : List ℕ) → cores < 2 ^ 64 → CoresExist cores choices → length choices ≤ most_choices
      → IsTrue (list_all is_space white) → SpellsChoices cores (printed_choices choices ++ white) choices

-- ---- how many choices reach an order

store-few : (x : Instr) → is_plain_store x ≤ 1
store-few (StoreImm loc value) = omega arith
store-few x = omega arith

stores_in-few : (p : List Instr) → stores_in p ≤ length p
stores_in-few [] = omega arith
stores_in-few (x ∷ xs) = let one = store-few x in let others = stores_in-few xs in omega arith

work-few : (programs : List (List Instr)) → All (λ p. length p ≤ 32) programs → instructions programs + stores_of_all programs ≤ 64 * length programs
work-few [] small = omega arith
work-few (p ∷ ps) small =
    let first : length p ≤ 32 = All-head (λ (p : List Instr). length p ≤ 32) p ps small in
    let here = stores_in-few p in
    let others = work-few ps (All-tail (λ (p : List Instr). length p ≤ 32) p ps small) in
    omega arith

drains-few : (t : Litmus) (depth : ℕ) → drains t depth ≤ stores_of_all t.programs
drains-few t zero = omega arith
drains-few t (suc n) = omega arith

-- one choice for each instruction, and one more for each plain store
pub work-within : (t : Litmus) → IsTest t → instructions t.programs + stores_of_all t.programs ≤ 512
work-within t test =
    let sizes : All (λ p. length p ≤ 32) t.programs =
    All-weaker (IsProgram (length t.locations)) (λ (p : List Instr). length p ≤ 32) (λ p fits. fits.size) t.programs test.programs_fit in
    let cores = test.cores in
    let work = work-few t.programs sizes in
    omega arith

pub choices-few : (t : Litmus) (depth : ℕ) (choices : List Choice) (order : List Entry)
    → Reaching
    → IsTest t
    → LeadTo t depth choices order
    → length choices ≤ 512
choices-few t depth choices order laws test lead =
    let work = work-within t test in
    let count = laws.counted t depth choices lead.ended in
    let drained = drains-few t depth in
    let used = lead.used in
    let stalled = lead.stalled in
    omega arith

-- ---- the line of the choices spells them

pub line-spells : (t : Litmus) (depth : ℕ) (choices : List Choice) (order : List Entry) → Reaching → IsTest t → LeadTo t depth choices order
    → SpellsChoices (length t.programs) (witness_line choices) choices
unfolding is_space
line-spells t depth choices order laws test lead =
    let cores = test.cores in
    let few = choices-few t depth choices order laws test lead in
    laws.spelled (length t.programs) choices (10 ∷ []) (omega arith) lead.cores (omega arith) refl

-- ---- what the answer means

order-means : (t : Litmus) (depth : ℕ) (order : List Entry) (out : List ℕ) (status : Status) → Reaching → IsTest t → IsDepth depth
    → IsWitness t depth order out status → WitnessesOrder t depth order out
order-means t depth order _ _ laws test within (reached is enough) =
    let lead = laws.lead t depth order (well-formed t test) is enough in
    reached (choices_along t order) is (line-spells t depth (choices_along t order) order laws test lead) lead
order-means t depth order _ _ laws test within (too_small is less) =
    unreached is (λ choices. laws.never t depth order choices (well-formed t test) (let least = within.0 in omega arith) less) refl
order-means t depth order _ _ laws test within (invalid b first) = broken b first refl

pub witness-means : (t : Litmus) (depth : ℕ) (text out : List ℕ) (status : Status) → AreReadOneWay → Reaching → IsTest t → IsDepth depth → length text < 2 ^ 64
    → IsWitnessAnswer t depth text out status → WitnessesEachOrder t depth text out
witness-means t depth text _ _ texts laws test within short (refused fault has) = record {
  every_order = λ order spelled. absurd (texts.never_both t text order fault test short spelled has);
  every_other = λ none. (fault, has, refl);
}
witness-means t depth text _ _ texts laws test within short (judged order out status spelled is) = record {
  every_order = λ other again. subst (λ o. WitnessesOrder t depth o out) (texts.once t text order other test short spelled again)
      (order-means t depth order out status laws test within is);
  every_other = λ none. absurd (none order spelled);
}

-- ---- a simulation under choices that lead to an order

pub led-ends : (t : Litmus) (depth : ℕ) (choices : List Choice) (order : List Entry) (ending : Ending) → LeadTo t depth choices order
    → IsEndingOf t (run t depth choices) ending → HasEndedWith order ending
led-ends t depth choices order (Ended run) lead is =
    (ap (λ s. s.order) is.1 ∙ lead.commits, ap (λ s. s.stalled) is.1 ∙ lead.stalled, ap (λ s. s.unused) is.1 ∙ lead.unused)
led-ends t depth choices order (Unfinished used stalled) lead is = absurd (let both : true ≡ false = sym lead.ended ∙ is.0 in let no : ⊥ = cc in no)

-- ---- at the greatest depth

pub found-at-greatest : (t : Litmus) (order : List Entry) (out : List ℕ) (status : Status) → needed order ≤ most_depth → IsReal → IsTsoExecution t order
    → IsWitness t most_depth order out status → (out ≡ witness_line (choices_along t order)) × (status ≡ Good)
found-at-greatest t order _ _ enough real execution (reached is also) = (refl, refl)
found-at-greatest t order _ _ enough real execution (too_small is less) = absurd (omega arith)
found-at-greatest t order _ _ enough real execution (invalid b first) = absurd (real t order b first execution)
