-- The holder's next choice on a split bus.
use Rattle.multiprocessor.proofs.Vocabulary.{◌≡◌, ℕ, zero, suc, List, [], ◌∷◌, Option, None, Some, All, slice_get, refl, ap, subst, arith}
use Rattle.multiprocessor.proofs.Vocabulary.{BusModel, IsFree, IsSameMachine, holder_in, transaction_in, awaited_in, CompletesAt}
use Rattle.multiprocessor.proofs.Vocabulary.{awaited_of, Through, caches_of, completion_by, HasUsed}
use Rattle.snoop_bus.specs.declared.access.AccessReport as bus_report
use Rattle.snoop_bus.specs.declared.holding.HeldBus.{HeldBus}

pub All-got : {X : Type 0} (P : X → Type 0) (xs : List X) (i : ℕ) (x : X) → All P xs → slice_get xs i ≡ Some x → P x
All-got P [] i x all h = absurd (let z : ⊥ = cc in z)
All-got P (y ∷ ys) zero x all h = subst P (let z : y ≡ x = cc in z) (all 0 y (omega arith))
All-got P (y ∷ ys) (suc i) x all h = All-got P ys i x (λ k d l. all (suc k) d (omega arith)) h

-- a bus that nobody holds awaits nothing
nothing-held : (h : Option HeldBus) → holder_in h ≡ None → awaited_in (transaction_in h) ≡ None
nothing-held None e = refl
nothing-held (Some h) e = absurd (let z : ⊥ = cc in z)

pub free-awaits : (b : BusModel) → IsFree b → awaited_of b ≡ None
free-awaits b free = nothing-held b.held free

pub completes : (old new : BusModel) (core loc : ℕ) (report : bus_report.AccessReport)
    → CompletesAt old new core loc report
    → IsSameMachine old new
    → awaited_of new ≡ None
    → HasUsed (completion_by (caches_of old) core loc) new (Through report)
completes old new core loc report done machine none =
    record { how_is = ap Through done.report_is; caches = rw (machine.rows, machine.shape, done.contents, none) refl }
