-- Hits beside an action that holds the bus: what counts then, and that the action still finds what it left.
use Rattle.snoop_bus.proofs.Vocabulary.{cases_eq, ◌≡◌, ◌≢◌, ◌⊎◌, inl, inr, ℕ, ◌&&◌, nat_eq, Option, Some, None, IfSome, List, length, refl}
use Rattle.snoop_bus.proofs.Vocabulary.{sym, ap, ◌∙◌, if◌then◌else◌, in_place, S, M, Transient, IsD, ImD, SmD, Line, Words, state_of_copy}
use Rattle.snoop_bus.proofs.Vocabulary.{Sets, copy_at, ways_of, ChangesCopy, HeldBus, Stage, Load, Write, Locked, Transaction, counted_in}
use Rattle.snoop_bus.proofs.Vocabulary.{counted_copies_of, IsHeld, Awaits, AskedOf}
use Rattle.cache_set.proofs.Numbers.{differ, itself}
use Rattle.snoop_bus.proofs.NewLemmas.{same_cores}
use Rattle.snoop_bus.proofs.HeldLemmas.{counting-at, ways-counting, same_sets}

-- the copy that counts, by a core's own
abbrev pub over_in : ℕ → ℕ → Option Transaction → ℕ → ℕ → Option Line → Option Line
over_in core line None i k o = o
over_in core line (Some x) i k o = (if nat_eq i core && nat_eq k line then Some x.copy else o)

abbrev pub over : Option HeldBus → ℕ → ℕ → Option Line → Option Line
over None i k o = o
over (Some h) i k o = over_in h.holder.core.0 h.line h.transaction i k o

pub counted-at : (held : Option HeldBus) (caches : List Sets) (memory : List Words) (i k : ℕ)
    → IfSome held (IsHeld caches memory)
    → copy_at (counted_copies_of held caches) i k ≡ over held i k (copy_at caches i k)
counted-at None caches memory i k h = refl
counted-at (Some h) caches memory i k held = by_transaction h.transaction
  where
    by_transaction : (x : Option Transaction)
        → copy_at (counted_in h.holder.core.0 h.line x caches) i k
        ≡ over_in h.holder.core.0 h.line x i k (copy_at caches i k)
    by_transaction None = refl
    by_transaction (Some x) = counting-at caches h.holder.core.0 h.line x.copy i k held.core_in held.some_set

pub ways-counted : (held : Option HeldBus) (caches : List Sets) → ways_of (counted_copies_of held caches) ≡ ways_of caches
ways-counted None caches = refl
ways-counted (Some h) caches = by_transaction h.transaction
  where
    by_transaction : (x : Option Transaction) → ways_of (counted_in h.holder.core.0 h.line x caches) ≡ ways_of caches
    by_transaction None = refl
    by_transaction (Some x) = ways-counting caches h.holder.core.0 h.line x.copy

-- a copy that is written in place isn't one for which the bus keeps words
placed_free : (s : Stage) (x : Transaction) (own : Option Line) → Awaits s (Some x) own → in_place (state_of_copy own) ≡ Some M → S ≡ M
placed_free Load x own a placed = let no_copy : in_place (state_of_copy own) ≡ None = rw a.1 refl in cc
placed_free Locked x own a placed = absurd a
placed_free Write x own a placed = by_transient x.transient refl a.1
  where
    by_transient : (y : Transient) → x.transient ≡ y → AskedOf y x.copy own → S ≡ M
    by_transient IsD e b = absurd (a.0 e)
    by_transient ImD e b = let no_copy : in_place (state_of_copy own) ≡ None = rw b.0 refl in cc
    by_transient SmD e b = elim b.0 [
      | inl p ↦ let shared : in_place (state_of_copy own) ≡ None = rw p refl in cc
      | inr p ↦ let shared : in_place (state_of_copy own) ≡ None = rw p refl in cc
    ]

-- at a copy that is written in place the caches' own copy counts
pub placed-over : (held : Option HeldBus) (caches : List Sets) (memory : List Words) (core line : ℕ)
    → IfSome held (IsHeld caches memory)
    → in_place (state_of_copy (copy_at caches core line)) ≡ Some M →
    (o : Option Line) → over held core line o ≡ o
placed-over None caches memory core line h placed o = refl
placed-over (Some h) caches memory core line held placed o = by_transaction h.transaction held.awaits
  where
    by_transaction : (x : Option Transaction)
        → Awaits h.holder.stage x (copy_at caches h.holder.core.0 h.line)
        → over_in h.holder.core.0 h.line x core line o ≡ o
    by_transaction None a = refl
    by_transaction (Some x) a = elim (cases_eq core h.holder.core.0) [
      | inl p ↦ elim (cases_eq line h.line) [
        | inl q ↦ let e : S ≡ M = placed_free h.holder.stage x (copy_at caches h.holder.core.0 h.line) a (rw (p, q) at placed) in cc
        | inr q ↦ rw (p, itself h.holder.core.0, differ line h.line q) refl
      ]
      | inr p ↦ rw (differ core h.holder.core.0 p) refl
    ]

-- the same copies count where each core has the same
pub counted-same : (held : Option HeldBus) (c0 c2 : List Sets) (memory : List Words)
    → IfSome held (IsHeld c0 memory)
    → IfSome held (IsHeld c2 memory)
    → ((i k : ℕ) → copy_at c2 i k ≡ copy_at c0 i k) →
    (i k : ℕ) → copy_at (counted_copies_of held c2) i k ≡ copy_at (counted_copies_of held c0) i k
counted-same held c0 c2 memory h0 h2 same i k = counted-at held c2 memory i k h2 ∙ ap (over held i k) (same i k) ∙ sym (counted-at held c0 memory i k h0)

-- a change of a copy that is written in place is one of those that count
pub counted-changes : (held : Option HeldBus) (c0 c2 : List Sets) (memory : List Words) (core line : ℕ)
    (o : Option Line)
    → IfSome held (IsHeld c0 memory)
    → IfSome held (IsHeld c2 memory) →
    in_place (state_of_copy (copy_at c0 core line)) ≡ Some M
    → ChangesCopy core line o c0 c2
    → ChangesCopy core line o (counted_copies_of held c0) (counted_copies_of held c2)
counted-changes held c0 c2 memory core line o h0 h2 placed to i k =
    rw (counted-at held c2 memory i k h2, counted-at held c0 memory i k h0, to i k) (by_core (cases_eq i core) (cases_eq k line))
  where
    by_core : (i ≡ core) ⊎ (i ≢ core)
        → (k ≡ line) ⊎ (k ≢ line)
        → over held i k (if nat_eq i core && nat_eq k line then o else copy_at c0 i k)
        ≡ (if nat_eq i core && nat_eq k line then o else over held i k (copy_at c0 i k))
    by_core (inl p) (inl q) = rw (p, q, itself core, itself line) (placed-over held c0 memory core line h0 placed o)
    by_core (inl p) (inr q) = rw (p, itself core, differ k line q) refl
    by_core (inr p) q = rw (differ i core p) refl

pub placed-counts : (held : Option HeldBus) (caches : List Sets) (memory : List Words) (core line : ℕ)
    → IfSome held (IsHeld caches memory)
    → in_place (state_of_copy (copy_at caches core line)) ≡ Some M →
    copy_at (counted_copies_of held caches) core line ≡ copy_at caches core line
placed-counts held caches memory core line h placed =
    counted-at held caches memory core line h
    ∙ placed-over held caches memory core line h placed (copy_at caches core line)

-- any own copy has the word that counts
pub own_word : (held : Option HeldBus) (caches : List Sets) (memory : List Words) (core line : ℕ) (copy : Line)
    → IfSome held (IsHeld caches memory)
    → copy_at caches core line ≡ Some copy →
    (other : Line) × (copy_at (counted_copies_of held caches) core line ≡ Some other) × (copy.words ≡ other.words)
own_word None caches memory core line copy h found = (copy, found, refl)
own_word (Some h) caches memory core line copy held found = by_transaction h.transaction refl held.awaits
  where
    masked : (s : Stage) (x : Transaction) → Awaits s (Some x) (Some copy) → copy.words ≡ x.copy.words
    masked Load x a = let none : Some copy ≡ None = a.1 in cc
    masked Locked x a = absurd a
    masked Write x a = by_transient x.transient refl a.1
      where
        by_transient : (y : Transient) → x.transient ≡ y → AskedOf y x.copy (Some copy) → copy.words ≡ x.copy.words
        by_transient IsD e b = absurd (a.0 e)
        by_transient ImD e b = let none : Some copy ≡ None = b.0 in cc
        by_transient SmD e b = elim b.0 [ inl p ↦ cc p | inr p ↦ cc p ]

    by_transaction : (x : Option Transaction) → h.transaction ≡ x → Awaits h.holder.stage x (copy_at caches h.holder.core.0 h.line) →
        (other : Line) × (copy_at (counted_copies_of (Some h) caches) core line ≡ Some other) × (copy.words ≡ other.words)
    by_transaction None e a = (copy, rw e found, refl)
    by_transaction (Some x) e a =
        let at : copy_at (counted_copies_of (Some h) caches) core line
        ≡ over_in h.holder.core.0 h.line (Some x) core line (copy_at caches core line) =
        counted-at (Some h) caches memory core line held
        ∙ ap (λ (y : Option Transaction). over_in h.holder.core.0 h.line y core line (copy_at caches core line)) e in
        elim (cases_eq core h.holder.core.0) [
          | inl p ↦ elim (cases_eq line h.line) [
            | inl q ↦
                let own : copy_at caches h.holder.core.0 h.line ≡ Some copy = rw (p, q) at found in
                (x.copy, at ∙ rw (p, q, itself h.holder.core.0, itself h.line) refl, masked h.holder.stage x (rw own at a))
            | inr q ↦ (copy, at ∙ rw (p, itself h.holder.core.0, differ line h.line q) (rw p at found), refl)
          ]
          | inr p ↦ (copy, at ∙ rw (differ core h.holder.core.0 p) found, refl)
        ]

-- the action finds what it left where its own copy is as it was
pub held-same : (held : Option HeldBus) (c0 c2 : List Sets) (m0 m2 : List Words)
    → IfSome held (IsHeld c0 m0)
    → ways_of c2 ≡ ways_of c0
    → length m2 ≡ length m0
    → ((i k : ℕ) → copy_at c2 i k ≡ copy_at c0 i k)
    → IfSome held (IsHeld c2 m2)
held-same None c0 c2 m0 m2 h ways size same = tt
held-same (Some h) c0 c2 m0 m2 held ways size same = record {
  core_in = rw (same_cores c0 c2 ways) held.core_in;
  line_in = rw size held.line_in;
  some_set = same_sets c0 c2 h.holder.core.0 ways held.some_set;
  awaits = rw (same h.holder.core.0 h.line) held.awaits;
}

-- and where a copy that is written in place went to M
pub held-placed : (held : Option HeldBus) (c0 c2 : List Sets) (memory : List Words) (core line : ℕ) (o : Option Line)
    → IfSome held (IsHeld c0 memory)
    → ways_of c2 ≡ ways_of c0 →
    in_place (state_of_copy (copy_at c0 core line)) ≡ Some M → state_of_copy o ≡ M → ChangesCopy core line o c0 c2 → IfSome held (IsHeld c2 memory)
held-placed None c0 c2 memory core line o h ways placed now to = tt
held-placed (Some h) c0 c2 memory core line o held ways placed now to = record {
  core_in = rw (same_cores c0 c2 ways) held.core_in;
  line_in = held.line_in;
  some_set = same_sets c0 c2 h.holder.core.0 ways held.some_set;
  awaits = elim (cases_eq h.holder.core.0 core) [
    | inl p ↦ elim (cases_eq h.line line) [
      | inl q ↦ rw (to h.holder.core.0 h.line, p, q, itself core, itself line) (by_stage h.holder.stage h.transaction (rw (p, q) at held.awaits))
      | inr q ↦ rw (to h.holder.core.0 h.line, p, itself core, differ h.line line q) (rw p at held.awaits)
    ]
    | inr p ↦ rw (to h.holder.core.0 h.line, differ h.holder.core.0 core p) held.awaits
  ];
}
  where
    by_stage : (s : Stage) (x : Option Transaction) → Awaits s x (copy_at c0 core line) → Awaits s x o
    by_stage Load None a = absurd a
    by_stage Write None a = rw now refl
    by_stage Locked None a = now
    by_stage s (Some x) a = let e : S ≡ M = placed_free s x (copy_at c0 core line) a placed in cc
