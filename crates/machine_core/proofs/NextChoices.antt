-- A choice on a split bus: the next one of the action that holds it, or another.
use Rattle.machine_core.proofs.Vocabulary.{◌≡◌, true, Bool, if◌then◌else◌, refl, sym, ap, ◌∙◌, Litmus, Holder, Free, HeldBy}
use Rattle.machine_core.proofs.Vocabulary.{HeldBetween, BusEffect, begins, same_choice, split_effect, Entry, Choice, Step}
use Rattle.machine_core.proofs.Vocabulary.{Hardware, state_in, attempt_in, IsOther, begins_in, split_effect_in, completes_in}
use Rattle.machine_core.proofs.Vocabulary.{writes_last_in}
use Rattle.tso_laws.proofs.Ways.{same-self}

-- another one begins
pub other-begins : {P : Type 0} (t : Litmus) (m : Hardware P) (choice : Choice)
    → IsOther (state_in m).holder choice
    → split_effect_in t m choice ≡ begins_in t m choice
other-begins t m choice = by_holder (state_in m).holder
  where
    by_holder : (holder : Holder) → IsOther holder choice
        → split_effect t m.config.depth (state_in m).flat (attempt_in t m choice) holder
        ≡ begins t m.config.depth (state_in m).flat (attempt_in t m choice) holder
    by_holder Free other = refl
    by_holder (HeldBy asked) other = rw other refl
    by_holder (HeldBetween e) other = rw other refl

chosen-by : (b : Bool) (f g : BusEffect) → true ≡ b → (if b then f else g) ≡ f
chosen-by b f g is = ap (λ (x : Bool). if x then f else g) (sym is)

-- the one that has asked completes
pub asked-completes : {P : Type 0} (t : Litmus) (m : Hardware P) (choice : Choice) → (state_in m).holder ≡ HeldBy choice
    → split_effect_in t m choice ≡ completes_in t m choice
asked-completes t m choice holder =
    ap (split_effect t m.config.depth (state_in m).flat (attempt_in t m choice)) holder
    ∙ chosen-by (same_choice choice choice) (completes_in t m choice) _ (sym (same-self choice))

-- the core with this load part writes
pub last-writes : {P : Type 0} (t : Litmus) (m : Hardware P) (e : Entry) (choice : Choice)
    → (state_in m).holder ≡ HeldBetween e
    → Step e.core ≡ choice
    → split_effect_in t m choice ≡ writes_last_in t m e
last-writes t m e choice holder is =
    ap (split_effect t m.config.depth (state_in m).flat (attempt_in t m choice)) holder
    ∙ chosen-by (same_choice (Step e.core) choice) (writes_last_in t m e) _ (sym (ap (same_choice (Step e.core)) (sym is) ∙ same-self (Step e.core)))
