-- A step of a thread that isn't in a locked instruction: a choice of the flat machine, or the beginning of one.
use Rattle.std.specs.Prelude.{Option}
use Rattle.tso_terms.specs.Thread.{changed}
use Rattle.tso_terms.specs.FlatMachine.{advanced_to}
use Rattle.abstract_machine.proofs.Vocabulary.{◌≡◌, ℕ, ◌+◌, List, [], ◌∷◌, ◌++◌, filter, Some, None, slice_get, slice_set, slice_index}
use Rattle.abstract_machine.proofs.Vocabulary.{arith, ap, sym, ◌∙◌, refl, Litmus, entry, fence, value_of, writes_to, last_value, CoreState}
use Rattle.abstract_machine.proofs.Vocabulary.{State, Effect, advanced, advanced_with, memory_after, applied, Reg, Loc, Update, Store, Load}
use Rattle.abstract_machine.proofs.Vocabulary.{Move, Fence, Lock, Entry, R, W, Committed, Buffered, Moved, NotLocked, HasBegun, Machine}
use Rattle.abstract_machine.proofs.Vocabulary.{with_thread, with_lock, with_progress, StandsAt, ThreadStep, read, write, flush, move}
use Rattle.abstract_machine.proofs.Vocabulary.{mfence, lock, locked_read, locked_write, unlock, Each, each-append, each-at}
use Rattle.abstract_machine.proofs.Lists.{append-one}
use Rattle.abstract_machine.proofs.Reading.{was-read}
use Rattle.abstract_machine.proofs.States.{thread}
use Rattle.abstract_machine.proofs.Joining.{IsPlain, store-plain}
use Rattle.abstract_machine.proofs.FlatStates.{Nexts, HasRoom, IsKnown, IsStoreOf, IsSound, Base, base-step, draining, oldest-store, base-drain, stored-is}

-- what such a step of thread p does to machine m, which has the memory of the flat state, and the thread of core s
pub data Does (t : Litmus) (n : ℕ) (state : State) (commits : List Entry) (p : ℕ) (s : CoreState) (m : Machine)
    (es : List Entry) (o : Machine) : Type 0 where
  acts : (f : Effect) → Base t n (applied state p f) (commits ++ es) → Each IsPlain es → memory_after f.commits state.memory ≡ o.memory
      → o.threads ≡ slice_set m.threads p (thread f.after) → o.lock ≡ m.lock → Does t n state commits p s m es o
  locks : (loc : Loc) (reg : Option Reg) (update : Update) → StandsAt t p (thread s) NotLocked (Lock loc reg update) → m.lock ≡ None → es ≡ []
      → o ≡ with_lock (with_thread m p (with_progress (thread s) HasBegun)) (Some p) → Does t n state commits p s m es o

pub thread-does : Nexts → (t : Litmus) (n : ℕ) → HasRoom t n → IsKnown t → (state : State) (commits : List Entry) (p : ℕ) (s : CoreState)
    (m : Machine) (es : List Entry) (o : Machine) → Base t n state commits → slice_get state.cores p ≡ Some s → m.memory ≡ state.memory
    → ThreadStep t m p (thread s) es o → Does t n state commits p s m es o
thread-does next t n room known state commits p s m _ _ b g same (read reg loc v st free can) =
    let sound = each-at (IsSound t) state.cores p s b.sound g in
    let q : v ≡ last_value (filter (writes_to loc.0) s.pending) (slice_index state.memory loc.0) =
    was-read m (thread s) loc.0 v can ∙ ap (λ z. last_value (filter (writes_to loc.0) s.pending) (slice_index z loc.0)) same in
    let f : Effect = record { outcome = Committed; after = advanced_with s reg v; commits = entry p s.place R loc v ∷ [] } in
    acts f (base-step next t n state commits p s st.instruction (Load reg loc) b g st.is st.does f (rw (← q) refl)
    (sound.0, let l = sound.1 in omega arith))
    (record { load = refl; store = refl }, tt) (sym same) refl refl
thread-does next t n room known state commits p s m _ _ b g same (write loc operand st) =
    let sound = each-at (IsSound t) state.cores p s b.sound g in
    let e : Entry = entry p s.place W loc (value_of s.registers operand) in
    let r : CoreState = record { place = s.place + 1; registers = s.registers; pending = s.pending ++ (e ∷ []) } in
    let f : Effect = record { outcome = Buffered; after = r; commits = [] } in
    let free = room p s.place st.instruction st.is in
    acts f (base-step next t n state commits p s st.instruction (Store loc operand) b g st.is st.does f
    (stored-is n s.place s.registers s.pending e (let l = sound.1 in omega arith)) (
      each-append (IsStoreOf t) s.pending (e ∷ []) sound.0 ((refl, known p s.place st.instruction loc operand st.is st.does), tt),
      let k = append-one s.pending e in let l = sound.1 in omega arith,
    ))
    tt (sym same) refl refl
thread-does next t n room known state commits p s m _ _ b g same (flush w rest free is) =
    let k = oldest-store t n state commits p s w rest b g is in
    acts (draining s w rest) (base-drain next t n state commits p s w rest b g is)
    (store-plain w k.0, tt) (rw (k.0, same) refl) refl refl
thread-does next t n room known state commits p s m _ _ b g same (move change st) =
    let sound = each-at (IsSound t) state.cores p s b.sound g in
    let f : Effect = record { outcome = Moved; after = advanced_to s (changed change s.registers); commits = [] } in
    acts f (base-step next t n state commits p s st.instruction (Move change) b g st.is st.does f refl
    (sound.0, let l = sound.1 in omega arith))
    tt (sym same) refl refl
thread-does next t n room known state commits p s m _ _ b g same (mfence st none) =
    let sound = each-at (IsSound t) state.cores p s b.sound g in
    let f : Effect = record { outcome = Committed; after = advanced s; commits = fence p s.place ∷ [] } in
    acts f (base-step next t n state commits p s st.instruction Fence b g st.is st.does f (rw none refl)
    (sound.0, let l = sound.1 in omega arith))
    (record { load = refl; store = refl }, tt) (sym same) refl refl
thread-does next t n room known state commits p s m _ _ b g same (lock loc reg update st free) = locks loc reg update st free refl refl
thread-does next t n room known state commits p s m _ _ b g same (locked_read loc reg update v st free can) =
    absurd (let q = st.so_far in let z : ⊥ = cc in z)
thread-does next t n room known state commits p s m _ _ b g same (locked_write loc reg update v st) =
    absurd (let q = st.so_far in let z : ⊥ = cc in z)
thread-does next t n room known state commits p s m _ _ b g same (unlock q l e) = absurd (let z : ⊥ = cc in z)
