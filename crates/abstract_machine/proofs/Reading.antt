-- What a thread can read is what a load of the flat machine gets.
use Rattle.abstract_machine.proofs.Vocabulary.{◌≡◌, ◌<◌, ℕ, Bool, true, false, List, [], ◌∷◌, ◌++◌, length, filter, slice_index, slice_set}
use Rattle.abstract_machine.proofs.Vocabulary.{ap, sym, refl, ◌⊎◌, inl, inr, subst, get_or-set_same, get_or-set_other, writes_to}
use Rattle.abstract_machine.proofs.Vocabulary.{last_value, Entry, W, HardwareThread, Machine, CanRead, from_memory, from_buffer, decide}
use Rattle.abstract_machine.proofs.Vocabulary.{test-true, test-false}

record Newest (loc : ℕ) (q : List Entry) : Type 0 where
  older : List Entry
  newer : List Entry
  store : Entry
  is : q ≡ older ++ (store ∷ newer)
  writes : writes_to loc store ≡ true
  last : filter (writes_to loc) newer ≡ []
  value : (word : ℕ) → last_value (filter (writes_to loc) q) word ≡ store.value

newest : (loc : ℕ) (q : List Entry) → (filter (writes_to loc) q ≡ []) ⊎ Newest loc q
newest loc [] = inl refl
newest loc (x ∷ q) =
    elim (newest loc q) [ inl e ↦ none (writes_to loc x) refl e | inr n ↦ inr (some (writes_to loc x) refl n) ]
  where
    none : (b : Bool) → writes_to loc x ≡ b → filter (writes_to loc) q ≡ []
        → (filter (writes_to loc) (x ∷ q) ≡ []) ⊎ Newest loc (x ∷ q)
    none true w e = inr (record { older = []; newer = q; store = x; is = refl; writes = w; last = e; value = λ word. rw (w, e) refl })
    none false w e = inl (rw w e)

    some : (b : Bool) → writes_to loc x ≡ b → Newest loc q → Newest loc (x ∷ q)
    some b w n = record {
      older = x ∷ n.older;
      newer = n.newer;
      store = n.store;
      is = ap (λ z. x ∷ z) n.is;
      writes = n.writes;
      last = n.last;
      value = λ word. value b w word;
    }
      where
        value : (b : Bool) → writes_to loc x ≡ b → (word : ℕ) → last_value (filter (writes_to loc) (x ∷ q)) word ≡ n.store.value
        value true w word = rw w (n.value x.value)
        value false w word = rw w (n.value word)

-- the value that a load would get can be read
pub can-read : (m : Machine) (h : HardwareThread) (loc : ℕ)
    → CanRead m h loc (last_value (filter (writes_to loc) h.buffer) (slice_index m.memory loc))
can-read m h loc = elim (newest loc h.buffer) [
  | inl e ↦ subst (λ z. CanRead m h loc z) (rw e refl) (from_memory e)
  | inr n ↦
      subst (λ z. CanRead m h loc z) (sym (n.value (slice_index m.memory loc)))
      (from_buffer n.older n.newer n.store n.is n.writes n.last)
]

last-is : (loc : ℕ) (older newer : List Entry) (w : Entry) (word : ℕ) → writes_to loc w ≡ true → filter (writes_to loc) newer ≡ []
    → last_value (filter (writes_to loc) (older ++ (w ∷ newer))) word ≡ w.value
last-is loc [] newer w word h e = rw (h, e) refl
last-is loc (x ∷ older) newer w word h e = go (writes_to loc x) refl (λ word. last-is loc older newer w word h e)
  where
    go : (b : Bool) → writes_to loc x ≡ b → ((word : ℕ) → last_value (filter (writes_to loc) (older ++ (w ∷ newer))) word ≡ w.value)
        → last_value (filter (writes_to loc) (x ∷ (older ++ (w ∷ newer)))) word ≡ w.value
    go true q f = rw q (f x.value)
    go false q f = rw q (f word)

-- and no other can
pub was-read : (m : Machine) (h : HardwareThread) (loc v : ℕ) → CanRead m h loc v
    → v ≡ last_value (filter (writes_to loc) h.buffer) (slice_index m.memory loc)
was-read m h loc _ (from_memory e) = rw e refl
was-read m h loc _ (from_buffer older newer w is writes last) =
    rw is (sym (last-is loc older newer w (slice_index m.memory loc) writes last))

-- the flush of the oldest own write leaves what the thread would read
pub flush-leaves : (memory : List ℕ) (w : Entry) (rest : List Entry) (loc : ℕ) → w.kind ≡ W → w.loc.0 < length memory
    → last_value (filter (writes_to loc) rest) (slice_index (slice_set memory w.loc.0 w.value) loc)
    ≡ last_value (filter (writes_to loc) (w ∷ rest)) (slice_index memory loc)
flush-leaves memory w rest loc k l = elim (decide w.loc.0 loc) [
  | inl q ↦
      rw (k, test-true w.loc.0 loc q) (ap (λ z. last_value (filter (writes_to loc) rest) z)
      (subst (λ z. slice_index (slice_set memory w.loc.0 w.value) z ≡ w.value) q (get_or-set_same memory w.loc.0 w.value 0 l)))
  | inr n ↦
      rw (k, test-false w.loc.0 loc n) (ap (λ z. last_value (filter (writes_to loc) rest) z)
      (get_or-set_other memory w.loc.0 loc w.value 0 (λ q. n (sym q))))
]
