-- A plain store: one that waits in the buffer makes no access, and one without a buffer goes to memory at once.
use Rattle.multiprocessor.proofs.Vocabulary.{◌≡◌, ◌+◌, ◌<◌, ℕ, zero, suc, Bool, true, false, IsTrue, List, Result, refl, sym, ap, subst}
use Rattle.multiprocessor.proofs.Vocabulary.{arith, NoAccess, Writes, store_access, stored, entry, Loc, Committed, W, NoMemory, Noted}
use Rattle.multiprocessor.proofs.Vocabulary.{AccessReport, BusModel, Through, Processor, Turn, core_state, effect_of_store, MayAccess, Acts}
use Rattle.multiprocessor.proofs.Vocabulary.{HasActed, IsMade, IsStored, SucceedsUnlessCommitting}

pub buffered : (depth : ℕ) (loc : Loc) → 0 < depth → store_access depth loc ≡ NoAccess
buffered zero loc some = absurd (omega arith)
buffered (suc n) loc some = refl

pub unbuffered : (depth : ℕ) (b : Bool) → (0 < depth → IsTrue b) → b ≡ false → depth ≡ 0
unbuffered zero b tells e = refl
unbuffered (suc n) b tells e = let yes : b ≡ true = tells (omega arith) in cc

module _ (turn : Turn) (loc : Loc) (value : ℕ) (p : Processor) (b : BusModel) (none : p.stores.depth ≡ 0) where
  pub access-at_once : MayAccess turn b loc (store_access p.stores.depth loc) → MayAccess turn b loc (Writes loc)
  access-at_once access = subst (λ (d : ℕ). MayAccess turn b loc (store_access d loc)) none access

  -- memory is refused only where the store would commit
  pub succeeds-at_once : {A : Type 0} (r : Result A NoMemory) (words : List ℕ) → SucceedsUnlessCommitting r (effect_of_store loc value turn.core.0 p words)
  succeeds-at_once r words = λ other.
      absurd (other (ap (λ (d : ℕ). (stored d (core_state turn.core.0 p) (entry turn.core.0 p.place W loc value)).outcome) none))

  pub acts-at_once : (b' : BusModel) (noted noted' : Noted) (report : AccessReport)
      → IsStored turn.core.0 (record { place = p.place; loc = loc; value = value }) b b' noted noted'
      → IsMade turn true loc b b' report
      → Acts turn (store_access p.stores.depth loc) (effect_of_store loc value) p
      (record { place = p.place + 1; registers = p.registers; stores = p.stores }) b b' noted noted'
      (Committed, Through report)
  acts-at_once b' noted noted' report stored_is made =
      let q : Processor = record { place = p.place + 1; registers = p.registers; stores = p.stores } in
      subst (λ (d : ℕ).
      HasActed turn.way (store_access d loc) turn.core.0 p q b b' noted noted'
      (stored d (core_state turn.core.0 p) (entry turn.core.0 p.place W loc value)) (Committed, Through report))
      (sym none)
      (record { outcome = refl; after = refl; words = stored_is.words; commits = stored_is.commits; caches = made.caches; holder = made.holder })
