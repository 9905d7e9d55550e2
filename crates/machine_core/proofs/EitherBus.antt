-- A choice on the hardware of a machine, by the kind of its bus.
use Rattle.machine_core.proofs.Vocabulary.{◌≡◌, inl, ℕ, Result, Ok, Err, IfOk, OnOk, OnErr, refl, sym, ap, ◌∙◌, Litmus, Holder, Free}
use Rattle.machine_core.proofs.Vocabulary.{Attempt, BusState, effect_on, HitFits, Bus, Atomic, Split, NoMemory, Choice, HolderFits}
use Rattle.machine_core.proofs.Vocabulary.{holder_of, Hardware, IsHeldForAccess, held_as, state_in, ChoiceAnswer, MayMakeIn, attempt_in}
use Rattle.machine_core.proofs.Vocabulary.{effect_in, split_effect_in, HasMade, IsUndone, effect_made_in, Whole}
use Rattle.machine_core.proofs.Vocabulary.{◌≢◌, false, NoAccess, access_of, after_choice, same_choice, acts, stalled, core_of, chosen}
use Rattle.tso_terms.specs.FlatMachine.{State}
use Rattle.tso_terms.specs.declared.choice.Stall.TheVariants as stall
use Rattle.machine_core.specs.OneChoice.{AreConsistent}
use Rattle.machine_core.specs.declared.split.Course.{Course}
use Rattle.machine_core.specs.declared.split.Course.TheVariants.{ActsAtOnce, Stalls}
use Rattle.machine_core.specs.inner.Split.{IsCourseOn}
use Rattle.machine_core.proofs.NextChoices.{other-begins}
use Rattle.machine_core.proofs.Splitting.{none-needed, bus-needed, may-act, begins-acts, begins-asks, asks-held, held-next}

-- on the atomic bus nobody holds it
free-holder : (bus : Bus) (t : Litmus) (depth : ℕ) (state : State) (holder : Holder) → bus ≡ Atomic → HolderFits bus t depth state holder → holder ≡ Free
free-holder Atomic t depth state Free h fits = refl
free-holder Atomic t depth state _ h fits = absurd fits
free-holder Split t depth state holder h fits = absurd (let z : ⊥ = cc in z)

pub is-free : {P : Type 0} (t : Litmus) (m : Hardware P)
    → m.config.bus ≡ Atomic
    → HolderFits m.config.bus t m.config.depth (state_in m).flat (state_in m).holder
    → (state_in m).holder ≡ Free
is-free t m h fits = free-holder m.config.bus t m.config.depth (state_in m).flat (state_in m).holder h fits

pub may-act-free : {P : Type 0} (t : Litmus) (m : Hardware P) (choice : Choice) → IsHeldForAccess t m → (state_in m).holder ≡ Free → MayMakeIn Whole t m choice
may-act-free t m choice held free = inl (held ∙ ap (held_as t m.config.depth (state_in m).flat) free)

pub effect-atomic : {P : Type 0} (t : Litmus) (m : Hardware P) (choice : Choice)
    → m.config.bus ≡ Atomic
    → effect_in t m choice ≡ effect_made_in Whole t m choice
effect-atomic t m choice h = ap (λ b. effect_on b t m.config.depth (state_in m) (attempt_in t m choice)) h

pub effect-split : {P : Type 0} (t : Litmus) (m : Hardware P) (choice : Choice) → m.config.bus ≡ Split → effect_in t m choice ≡ split_effect_in t m choice
effect-split t m choice h = ap (λ b. effect_on b t m.config.depth (state_in m) (attempt_in t m choice)) h

pub fits-free : (t : Litmus) (depth : ℕ) (state : State) (a : Attempt) (holder : Holder) → holder ≡ Free → HitFits t depth state a holder
fits-free t depth state a holder free = rw free tt

pub held-free : {P : Type 0} (r : Result ChoiceAnswer NoMemory) (t : Litmus) (m new : Hardware P) (choice : Choice)
    → IsHeldForAccess t m
    → (state_in m).holder ≡ Free
    → OnOk r (holder_of new.bus ≡ holder_of m.bus)
    → IfOk r (HasMade t m new choice (effect_made_in Whole t m choice))
    → OnErr r (IsUndone m new)
    → IsHeldForAccess t new
held-free (Ok x) t m new choice held free same done err =
    same ∙ held ∙ ap (held_as t m.config.depth (state_in m).flat) free ∙ sym (ap (held_as t new.config.depth (state_in new).flat) (done.ok.holder ∙ free))
held-free (Err x) t m new choice held free same done err =
    ap holder_of err.bus
    ∙ held
    ∙ ap (held_as t m.config.depth (state_in m).flat) free
    ∙ sym (ap (held_as t new.config.depth (state_in new).flat) (ap (λ (s : BusState). s.holder) err.state ∙ free))

-- a choice that acts at once may, and does what it does on the flat machine
module _ {P : Type 0} (t : Litmus) (m : Hardware P) (choice : Choice) where
  pub may-at-once : (bus : Bus) → AreConsistent bus t m → IsCourseOn bus t m choice ActsAtOnce → MayMakeIn Whole t m choice
  may-at-once Atomic consistent course =
      may-act-free t m choice consistent.held (free-holder Atomic t m.config.depth (state_in m).flat (state_in m).holder refl consistent.holder)
  may-at-once Split consistent course = may-act t m choice (none-needed t m choice course.1)

  pub effect-at-once : (bus : Bus) → m.config.bus ≡ bus → IsCourseOn bus t m choice ActsAtOnce → effect_in t m choice ≡ effect_made_in Whole t m choice
  effect-at-once Atomic on course = effect-atomic t m choice on
  effect-at-once Split on course =
      effect-split t m choice on ∙ other-begins t m choice course.0 ∙ begins-acts t m choice (none-needed t m choice course.1)

  pub held-at-once : (bus : Bus) (r : Result ChoiceAnswer NoMemory) (new : Hardware P)
      → AreConsistent bus t m
      → IsCourseOn bus t m choice ActsAtOnce
      → ((a b : Choice) → access_of t m.config.depth (state_in m).flat a ≢ NoAccess → same_choice a b ≡ false
      → access_of t m.config.depth (after_choice t m.config.depth (state_in m).flat b) a ≡ access_of t m.config.depth (state_in m).flat a)
      → new.config ≡ m.config
      → OnOk r (holder_of new.bus ≡ holder_of m.bus)
      → IfOk r (HasMade t m new choice (effect_made_in Whole t m choice))
      → OnErr r (IsUndone m new)
      → IsHeldForAccess t new
  held-at-once Atomic r new consistent course waits config same done err =
      held-free r t m new choice consistent.held
      (free-holder Atomic t m.config.depth (state_in m).flat (state_in m).holder refl consistent.holder) same done err
  held-at-once Split r new consistent course waits config same done err =
      held-next r t m new choice consistent.held course.0 consistent.holder waits config same done err

  -- a stall changes nothing
  pub effect-stalls : (bus : Bus) → m.config.bus ≡ bus → IsCourseOn bus t m choice Stalls
      → effect_in t m choice ≡ acts (stalled stall.Bus (core_of (state_in m).flat (chosen choice))) (state_in m).holder
  effect-stalls Atomic on course = absurd (let z : ⊥ = cc in z)
  effect-stalls Split on course =
      effect-split t m choice on
      ∙ other-begins t m choice course.0
      ∙ begins-asks t m choice (bus-needed t m choice course.2)
      ∙ asks-held (core_of (state_in m).flat (chosen choice)) choice (state_in m).holder course.1
