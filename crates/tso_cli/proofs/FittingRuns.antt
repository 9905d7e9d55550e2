-- Runs that end fit their test, and their choices are counted.
use Rattle.tso_cli.proofs.Vocabulary.{◌≡◌, ℕ, ◌+◌, Bool, List, [], ◌∷◌, length, suc, All, Option, Some, None, is_some, refl, ap, ◌∙◌}
use Rattle.tso_cli.proofs.Vocabulary.{option_map, Litmus, Condition, words_from, Entry, HasLocation, IsOrderFor, table_of, EndedRunsFit}
use Rattle.tso_cli.proofs.Vocabulary.{ChoicesAreCounted, run_under, counts-each, RunLaws}
use Rattle.tso_cli.proofs.HeadlineLemmas.{Runs}
use Rattle.tso_cli.proofs.Rechecked.{registers_each, choices-few, small-run}

-- what a law of order texts says
abbrev pub OrdersCanBePrinted : Type 0
OrdersCanBePrinted = (t : Litmus) (order : List Entry) → IsOrderFor t order → All (HasLocation t) order

words_each : (loc : ℕ) (words : List ℕ) (order : List Entry) → length (words_from loc words order) ≡ length words
words_each loc [] order = refl
words_each loc (word ∷ words) order = ap suc (words_each (loc + 1) words order)

verdict-there : (f : Condition → Bool) (condition : Option Condition) → is_some (option_map f condition) ≡ is_some condition
verdict-there f None = refl
verdict-there f (Some condition) = refl

pub run-fits : Runs → RunLaws → OrdersCanBePrinted → EndedRunsFit
run-fits runs laws printable t kind c choices test few fit ended =
    let r = run_under t kind c choices in
    let small = small-run t kind c choices runs laws test few fit ended in
    let execution = runs.executions (table_of kind) c t choices test fit ended in
    record {
      of_test = record {
        locations = printable t r.commits small.order;
        registers = ap (λ (l : List (List ℕ)). length l) execution.registers ∙ registers_each 0 t.programs t.registers r.commits;
        memory = ap (λ (l : List ℕ). length l) execution.memory ∙ (words_each 0 t.words r.commits ∙ test.words_given);
        verdict = verdict-there _ t.condition;
        counts = counts-each c.bus (table_of kind) c.shape t c.depth choices;
      };
      small = small;
    }

pub choices-counted : RunLaws → ChoicesAreCounted
choices-counted laws t kind c choices = let few = choices-few (table_of kind) c t choices laws in (few.count, few.stalls)
