-- A run, as far as it was made: what is left of the choices leaves from here on what the whole run leaves.
use Rattle.flat_machine.proofs.Vocabulary.{◌≡◌, ℕ, Bool, true, false, if◌then◌else◌, List, [], ◌∷◌, length, slice_set, refl, ap, sym, ◌∙◌}
use Rattle.flat_machine.proofs.Vocabulary.{length-set, Litmus, State, after_choice, effect_of, memory_after, is_write, Entry, Run}
use Rattle.flat_machine.proofs.Vocabulary.{has_ended, run_from, then_run, Choice}

pub record IsOnItsWay (t : Litmus) (depth : ℕ) (first : State) (all : List Choice) (now : State) (left : List Choice) : Type 0 where
  pub ended : (run_from t depth first all).ended ≡ (run_from t depth now left).ended
  pub state : (run_from t depth first all).state ≡ (run_from t depth now left).state

pub one-more : (t : Litmus) (depth : ℕ) (first : State) (all : List Choice) (now : State) (left : List Choice) (c : Choice) (rest : List Choice) (after : State)
    → IsOnItsWay t depth first all now left → has_ended t now ≡ false → left ≡ c ∷ rest → after ≡ after_choice t depth now c
    → IsOnItsWay t depth first all after rest
one-more t depth first all now left c rest after r going l a =
    let whole : run_from t depth now left ≡ then_run (effect_of t depth now c) (run_from t depth after rest) = rw (l, a, going) refl in
    record { ended = r.ended ∙ ap (λ (x : Run). x.ended) whole; state = r.state ∙ ap (λ (x : Run). x.state) whole }

-- where the test has ended, the run is over
pub over : (t : Litmus) (depth : ℕ) (first : State) (all : List Choice) (now : State) (left : List Choice)
    → IsOnItsWay t depth first all now left → has_ended t now ≡ true
    → (true ≡ (run_from t depth first all).ended) × (now ≡ (run_from t depth first all).state)
over t depth first all now [] r e = (sym (r.ended ∙ e), sym r.state)
over t depth first all now (c ∷ cs) r e =
    (sym (r.ended ∙ (rw e refl)), sym (r.state ∙ (rw e refl)))

-- ---- memory keeps its length

length-written : (b : Bool) (words : List ℕ) (loc value : ℕ) → length (if b then slice_set words loc value else words) ≡ length words
length-written true words loc value = length-set words loc value
length-written false words loc value = refl

length-memory : (es : List Entry) (words : List ℕ) → length (memory_after es words) ≡ length words
length-memory [] words = refl
length-memory (e ∷ es) words = length-memory es _ ∙ length-written (is_write e) words e.loc.0 e.value

pub as-many-words : (t : Litmus) (depth : ℕ) (now : State) (c : Choice) (after : State)
    → after ≡ after_choice t depth now c
    → length after.memory ≡ length now.memory
as-many-words t depth now c after a = ap (λ (s : State). length s.memory) a ∙ length-memory (effect_of t depth now c).commits now.memory
