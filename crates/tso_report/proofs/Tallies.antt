-- What a tally is tallied_in as, and what it holds.
use Rattle.tso_report.proofs.Vocabulary.{◌≡◌, ◌∙◌, ℕ, Bool, true, false, List, [], ◌++◌, length, sum, values_of, zero, Vec, refl, arith}
use Rattle.tso_report.proofs.Vocabulary.{All, sym, ap, subst, append_assoc, Litmus, Named, looked_at, sweep_line, counted_state_lines}
use Rattle.tso_report.proofs.Vocabulary.{observation, tally_text, Tallied, NameExists, counted_states, counts_in, IsKept}
use Rattle.std.proofs.Common.{BTreeMap, Global, if◌then◌else◌}
use Rattle.tso_report.specs.declared.counters.Counters.{Counters}
use Rattle.tso_report.proofs.Looking.{looked-known}

abbrev tallied_in : Litmus → Counters → Tallied
tallied_in t counters = record { test = t; counts = counts_in counters }

-- nothing is counted
pub nothing-kept : (judged : Bool) (states : BTreeMap (Vec ℕ Global) ℕ) → states.entries ≡ []
    → IsKept judged (record { states = states; ended = 0; held = 0; failed = 0; unfinished = 0 })
nothing-kept judged states none = record {
  ended = sym (ap (λ entries. sum (values_of (counted_states entries))) none);
  verdicts = none-judged judged;
  room = omega arith;
}
  where
    none-judged : (b : Bool) → zero ≡ (if b then zero else zero)
    none-judged true = refl
    none-judged false = refl

-- what is looked at is there in each state of the test
pub known-in-state : (t : Litmus) (counters : Counters) (tally : Tallied) (registers : List (List ℕ)) (memory : List ℕ)
    (names list : List Named)
    → tallied_in t counters ≡ tally
    → length registers ≡ length tally.test.programs → length memory ≡ length tally.test.locations
    → names ≡ looked_at t → list ≡ names → All (NameExists (length registers) (length memory)) list
known-in-state t counters tally registers memory names list view each_core each_location are same =
    let cores : length t.programs ≡ length registers = ap (λ m. length m.test.programs) view ∙ sym each_core in
    let locations : length t.locations ≡ length memory = ap (λ m. length m.test.locations) view ∙ sym each_location in
    subst (λ n. All (NameExists n (length memory)) list) cores
    (subst (λ n. All (NameExists (length t.programs) n) list) locations
    (subst (All (NameExists (length t.programs) (length t.locations))) (sym (same ∙ are)) (looked-known t)))

-- the text is put together from its parts
pub text-of-tally : (t : Litmus) (counters : Counters) (tally : Tallied) (judged : Bool) (from size : ℕ)
    (first second all : List ℕ)
    → tallied_in t counters ≡ tally
    → IsKept judged counters
    → first ≡ sweep_line counters.ended counters.unfinished from size → second ≡ first ++ counted_state_lines t (counted_states counters.states.entries)
    → all ≡ second ++ observation t.name t.condition counters.held counters.failed → all ≡ tally_text tally.test tally.counts from size
text-of-tally t counters tally judged from size first second all view kept is_first is_second is =
    let states = counted_state_lines t (counted_states counters.states.entries) in
    let last = observation t.name t.condition counters.held counters.failed in
    subst (λ m. all ≡ tally_text m.test m.counts from size) view
    (is ∙ (ap (λ text. text ++ last) is_second ∙ (append_assoc first states last ∙ (ap (λ text. text ++ (states ++ last)) is_first
    ∙ ap (λ ended. sweep_line ended counters.unfinished from size ++ (states ++ last)) kept.ended))))
