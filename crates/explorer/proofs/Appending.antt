-- Choices that a run appends, step by step, and the state that is kept of it.
use Rattle.explorer.proofs.Vocabulary.{◌≡◌, ◌<◌, ℕ, Bool, List, [], ◌∷◌, ◌++◌, length, refl, sym, ap, ◌∙◌, subst, append_assoc, append-nil}
use Rattle.explorer.proofs.Vocabulary.{Litmus, State, Choice, after_choice, effect_of, chosen, stall_count, forgotten, exchanged_by}
use Rattle.explorer.proofs.Vocabulary.{LeadsBy, AreAppended, LeadToExchanged}
use Rattle.explorer.proofs.Exchanging.{none-alike}
use Rattle.explorer.proofs.Linking.{leads-append}

pub none-appended : (d : ℕ) (t : Litmus) (old new : State) (before after : List Choice) → old ≡ new → after ≡ before → AreAppended d t old new before after
none-appended d t old new before after e q = record { made = []; leads = e; appended = q ∙ sym (append-nil before) }

pub one-appended : (d : ℕ) (t : Litmus) (old new : State) (before after : List Choice) (c : Choice)
    → chosen c < length t.programs
    → stall_count (effect_of t d old c).outcome ≡ 0
    → new ≡ after_choice t d old c → after ≡ before ++ c ∷ [] → AreAppended d t old new before after
one-appended d t old new before after c l k n q = record { made = c ∷ []; leads = (l, k, sym n); appended = q }

pub all-appended : (d : ℕ) (t : Litmus) (old now new : State) (before between after : List Choice)
    → AreAppended d t old now before between
    → AreAppended d t now new between after
    → AreAppended d t old new before after
all-appended d t old now new before between after h k = record {
  made = h.made ++ k.made;
  leads = leads-append d t old h.made now k.made new h.leads k.leads;
  appended = k.appended ∙ ap (λ z. z ++ k.made) h.appended ∙ append_assoc before h.made k.made;
}

-- from a state that is kept, without what is dead at the end
pub appended-leads : (d : ℕ) (t : Litmus) (hidden : List (List Bool)) (from old new kept : State)
    (before after : List Choice) (es : List (ℕ × ℕ))
    → before ≡ []
    → es ≡ []
    → old ≡ from → AreAppended d t old new before after → kept ≡ forgotten t hidden new → LeadToExchanged d t hidden from after es kept
appended-leads d t hidden from old new kept before after es none q is h forgot = record {
  last = new;
  leads = subst (λ z. LeadsBy d t z after new) is (subst (λ z. LeadsBy d t old z new) (sym (h.appended ∙ ap (λ z. z ++ h.made) none)) h.leads);
  alike = none-alike t hidden es q;
  kept_is = ap (λ z. exchanged_by z (forgotten t hidden new)) q ∙ sym forgot;
}
