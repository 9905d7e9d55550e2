-- One step of a thread in any machine, rule by rule, against the lock.
use Rattle.abstract_machine.proofs.Vocabulary.{◌≡◌, ℕ, zero, suc, List, [], ◌∷◌, Some, None, slice_get, slice_set, ap, sym, refl, ◌⊎◌, inl}
use Rattle.abstract_machine.proofs.Vocabulary.{inr, Litmus, Entry, NotLocked, HasWritten, HardwareThread, Machine, IsNotBlocked}
use Rattle.abstract_machine.proofs.Vocabulary.{with_buffer, ThreadStep, read, write, flush, move, mfence, lock, locked_read, locked_write}
use Rattle.abstract_machine.proofs.Vocabulary.{unlock, IsBlocked, KeepsBuffer, ReadsAndFlushesNothing, Unlocks, append-nil}

-- what is at a place that was written
put : (xs : List HardwareThread) (p : ℕ) (h after : HardwareThread) → slice_get (slice_set xs p h) p ≡ Some after → h ≡ after
put [] p h after e = absurd (let z : ⊥ = cc in z)
put (x ∷ xs) zero h after e = let z : h ≡ after = cc in z
put (x ∷ xs) (suc p) h after e = put xs p h after e

-- a blocked thread holds no lock, and the lock is held
blocked-not : (m : Machine) (p : ℕ) → IsBlocked m p → IsNotBlocked m p → ⊥
blocked-not m p b (inl n) = let q = b.1 in let z : ⊥ = cc in z
blocked-not m p b (inr s) = b.2 (let q = b.1 in let z : b.0 ≡ p = cc in z)

keeps : (buffer : List Entry) → KeepsBuffer buffer buffer
keeps buffer = ([], sym (append-nil buffer))

-- a step that gives nothing and changes its thread alone, to one whose buffer has all that it had
pub silent : (m : Machine) (p : ℕ) (h next : HardwareThread) → KeepsBuffer h.buffer next.buffer
    → (after : HardwareThread) → slice_get (slice_set m.threads p next) p ≡ Some after → KeepsBuffer h.buffer after.buffer
silent m p h next k after e = rw (← put m.threads p next after e) k

pub blocked-waits : (t : Litmus) (m : Machine) (p : ℕ) (h : HardwareThread) (es : List Entry) (o : Machine)
    → IsBlocked m p → ThreadStep t m p h es o → ReadsAndFlushesNothing m p h es o
blocked-waits t m p h _ _ b (read reg loc v st free can) = absurd (blocked-not m p b free)
blocked-waits t m p h _ _ b (write loc operand st) =
    record { given = inl refl; memory = refl; buffer = silent m p h _ (_, refl); lock = refl }
blocked-waits t m p h _ _ b (flush w rest free is) = absurd (blocked-not m p b free)
blocked-waits t m p h _ _ b (move change st) =
    record { given = inl refl; memory = refl; buffer = silent m p h _ (keeps h.buffer); lock = refl }
blocked-waits t m p h _ _ b (mfence st none) =
    record { given = inr refl; memory = refl; buffer = silent m p h _ (keeps h.buffer); lock = refl }
blocked-waits t m p h _ _ b (lock loc reg update st free) = absurd (blocked-not m p b (inl free))
blocked-waits t m p h _ _ b (locked_read loc reg update v st free can) = absurd (blocked-not m p b free)
blocked-waits t m p h _ _ b (locked_write loc reg update v st) =
    record { given = inl refl; memory = refl; buffer = silent m p h _ (_, refl); lock = refl }
blocked-waits t m p h _ _ b (unlock q l e) = absurd (blocked-not m p b (inr l))

pub held-stays : (t : Litmus) (m : Machine) (p : ℕ) (h : HardwareThread) (es : List Entry) (o : Machine) (q : ℕ)
    → ThreadStep t m p h es o → m.lock ≡ Some q → (o.lock ≡ Some q) ⊎ Unlocks m p h o
held-stays t m p h _ _ q (read reg loc v st free can) is = inl is
held-stays t m p h _ _ q (write loc operand st) is = inl is
held-stays t m p h _ _ q (flush w rest free e) is = inl is
held-stays t m p h _ _ q (move change st) is = inl is
held-stays t m p h _ _ q (mfence st none) is = inl is
held-stays t m p h _ _ q (lock loc reg update st free) is = absurd (let z : ⊥ = cc in z)
held-stays t m p h _ _ q (locked_read loc reg update v st free can) is = inl is
held-stays t m p h _ _ q (locked_write loc reg update v st) is = inl is
held-stays t m p h _ _ q (unlock w l e) is = inr (record { holder = l; drained = e; free = refl })

pub free-stays : (t : Litmus) (m : Machine) (p : ℕ) (h : HardwareThread) (es : List Entry) (o : Machine)
    → ThreadStep t m p h es o → m.lock ≡ None → (o.lock ≡ None) ⊎ (o.lock ≡ Some p)
free-stays t m p h _ _ (read reg loc v st free can) is = inl is
free-stays t m p h _ _ (write loc operand st) is = inl is
free-stays t m p h _ _ (flush w rest free e) is = inl is
free-stays t m p h _ _ (move change st) is = inl is
free-stays t m p h _ _ (mfence st none) is = inl is
free-stays t m p h _ _ (lock loc reg update st free) is = inr refl
free-stays t m p h _ _ (locked_read loc reg update v st free can) is = inl is
free-stays t m p h _ _ (locked_write loc reg update v st) is = inl is
free-stays t m p h _ _ (unlock w l e) is = inl refl

pub end-unlocks : (t : Litmus) (m : Machine) (p : ℕ) (h : HardwareThread) (es : List Entry) (o : Machine) (after : HardwareThread)
    → ThreadStep t m p h es o → h.progress ≡ HasWritten → slice_get o.threads p ≡ Some after → after.progress ≡ NotLocked → Unlocks m p h o
end-unlocks t m p h _ _ after (read reg loc v st free can) is at ends = absurd (let q = st.so_far in let z : ⊥ = cc in z)
end-unlocks t m p h _ _ after (write loc operand st) is at ends = absurd (let q = st.so_far in let z : ⊥ = cc in z)
end-unlocks t m p h _ _ after (flush w rest free e) is at ends =
    absurd (let q : with_buffer h rest ≡ after = put m.threads p (with_buffer h rest) after at in
    let r : h.progress ≡ after.progress = ap (λ (z : HardwareThread). z.progress) q in let z : ⊥ = cc in z)
end-unlocks t m p h _ _ after (move change st) is at ends = absurd (let q = st.so_far in let z : ⊥ = cc in z)
end-unlocks t m p h _ _ after (mfence st none) is at ends = absurd (let q = st.so_far in let z : ⊥ = cc in z)
end-unlocks t m p h _ _ after (lock loc reg update st free) is at ends = absurd (let q = st.so_far in let z : ⊥ = cc in z)
end-unlocks t m p h _ _ after (locked_read loc reg update v st free can) is at ends = absurd (let q = st.so_far in let z : ⊥ = cc in z)
end-unlocks t m p h _ _ after (locked_write loc reg update v st) is at ends = absurd (let q = st.so_far in let z : ⊥ = cc in z)
end-unlocks t m p h _ _ after (unlock w l e) is at ends = record { holder = l; drained = e; free = refl }
