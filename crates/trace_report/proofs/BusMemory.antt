-- Memory's own words, followed from step to step, are those of the bus's memory.
use Rattle.trace_report.proofs.Vocabulary.{arith, ◌≡◌, ◌∙◌, ◌<◌, ◌≤◌, ◌+◌, ◌/◌, ◌%◌, ◌||◌, ℕ, zero, suc, Bool, true, false, if◌then◌else◌}
use Rattle.trace_report.proofs.Vocabulary.{List, [], ◌∷◌, length, map, slice_index, Option, Some, None, inl, inr, refl, sym, ap, subst}
use Rattle.trace_report.proofs.Vocabulary.{get_or_past, length-set, Choice, table_of, ProtocolKind, Caches, Running, new_machine}
use Rattle.trace_report.proofs.Vocabulary.{machine_after, line_state, number_of_lines, is_newer, is_newer_in, own_word, own_words_from}
use Rattle.trace_report.proofs.Vocabulary.{own_words}
use Rattle.std.specs.List.{range_with_len}
use Rattle.basic_laws.proofs.Basics.{lt-or}
use Rattle.protocol_tables.specs.Laws.{is_dirty}
use Rattle.protocol_tables.specs.declared.requests.Transient.TheVariants.{IsD, ImD, SmD}
use Rattle.protocol_tables.specs.declared.state.State.{State}
use Rattle.snoop_bus.specs.Coherent.{state_of_copy}
use Rattle.cache_set.specs.Lines.{Words, line_in, word_in_lines}
use Rattle.cache_set.specs.Copies.{Sets, copy_at, copy_in}
use Rattle.snoop_bus.specs.Rows.{rows_of}
use Rattle.snoop_bus.specs.Held.{counted_copies_of, counted_in}
use Rattle.snoop_bus.specs.Bus.{BusModel, counted_copies, current_words, IsSameMachine}
use Rattle.snoop_bus.specs.inner.Accesses.{memory_words_of}
use Rattle.snoop_bus.specs.declared.holding.HeldBus.{HeldBus}
use Rattle.snoop_bus.specs.declared.holding.Transaction.{Transaction}
use Rattle.machine_core.specs.Owners.{IsOwner}
use Rattle.machine_core.specs.inner.Calls.{IsCalled}
use Rattle.machine_core.proofs.Victims.{AllNeat}
use Rattle.machine_core.proofs.Called.{called-stale}
use Rattle.trace_report.specs.StepLaws.{after_choices}
use Rattle.trace_report.specs.declared.step.LineState.{LineState}
use Rattle.trace_report.specs.declared.step.LineState.TheVariants.{Stable, Transient}
use Rattle.trace_report.proofs.Kept.{IsKept, kept-first, kept-after, rows-kept, line-below}
use Rattle.trace_report.proofs.WriteBacksTold.{protocols-keep}
use Rattle.trace_report.specs.inner.BusMemory.{ShowsAs, IsBusOf, ToldMemoryIsTheBuses}

-- ---- along the choices

-- the machine is of a run, and has the rows of its protocol's table
record IsAlong (kind : ProtocolKind) (m : Running) : Type 0 where
  kept : IsKept m
  rows : m.statistics.caches.rows ≡ rows_of (table_of kind)

along : (kind : ProtocolKind) (m : Running) (choices : List Choice) → IsAlong kind m → IsAlong kind (after_choices m choices)
along kind m [] h = h
along kind m (c ∷ cs) h = along kind (machine_after m c) cs (record { kept = kept-after m c h.kept; rows = rows-kept m c ∙ h.rows })

-- ---- where a copy may have newer words

shows-newer : (told : LineState) (state : State) → ShowsAs told state → is_newer told ≡ is_dirty state
shows-newer (Stable s) state h = ap is_dirty (sym h)
shows-newer (Transient IsD) state h = sym h
shows-newer (Transient ImD) state h = ap is_dirty (sym h)
shows-newer (Transient SmD) state h = ap is_dirty (sym h)

-- some core's copy does
record HasNewer (m : Running) (line : ℕ) : Type 0 where
  core : ℕ
  newer : is_newer (line_state m core line) ≡ true

newer-found : (m : Running) (line cores : ℕ) → is_newer_in m line cores ≡ true → HasNewer m line
newer-found m line zero h = absurd (let z : ⊥ = cc in z)
newer-found m line (suc core) h = by_test (is_newer (line_state m core line)) refl h (newer-found m line core)
  where
    by_test : (b : Bool)
        → is_newer (line_state m core line) ≡ b
        → (b || is_newer_in m line core) ≡ true
        → (is_newer_in m line core ≡ true → HasNewer m line)
        → HasNewer m line
    by_test true q h rest = record { core = core; newer = q }
    by_test false q h rest = rest h

none-newer : (m : Running) (line cores core : ℕ) → is_newer_in m line cores ≡ false → core < cores → is_newer (line_state m core line) ≡ false
none-newer m line zero core h l = absurd (omega arith)
none-newer m line (suc last) core h l = by_test (is_newer (line_state m last line)) refl h (none-newer m line last core)
  where
    by_test : (b : Bool)
        → is_newer (line_state m last line) ≡ b
        → (b || is_newer_in m line last) ≡ false
        → (is_newer_in m line last ≡ false → core < last → is_newer (line_state m core line) ≡ false)
        → is_newer (line_state m core line) ≡ false
    by_test true q h rest = absurd (let z : ⊥ = cc in z)
    by_test false q h rest = elim (lt-or last core) [
      | inl less ↦ rest h less
      | inr more ↦ let same : core ≡ last = omega arith in subst (λ k. is_newer (line_state m k line) ≡ false) (sym same) q
    ]

-- past the cores there is no copy
counted-many : (held : Option HeldBus) (caches : List Sets) → length (counted_copies_of held caches) ≡ length caches
counted-many None caches = refl
counted-many (Some h) caches = by_transaction h.transaction
  where
    by_transaction : (x : Option Transaction) → length (counted_in h.holder.core.0 h.line x caches) ≡ length caches
    by_transaction None = refl
    by_transaction (Some x) = length-set caches _ _

past-clean : (caches : List Sets) (core line : ℕ) → length caches ≤ core → is_dirty (state_of_copy (copy_at caches core line)) ≡ false
past-clean caches core line past = ap (λ (sets : Sets). is_dirty (state_of_copy (copy_in sets line))) (get_or_past caches core [] past)

-- ---- one word

all-clean : (b : BusModel) (m : Running) (line core : ℕ)
    → IsBusOf b m
    → is_newer_in m line (length m.test.programs) ≡ false
    → is_dirty (state_of_copy (copy_at (counted_copies b) core line)) ≡ false
all-clean b m line core is none = elim (lt-or (length m.test.programs) core) [
  | inl l ↦
      sym (shows-newer (line_state m core line) (state_of_copy (copy_at (counted_copies b) core line)) (is.lines core line))
      ∙ none-newer m line (length m.test.programs) core none l
  | inr past ↦ past-clean (counted_copies b) core line (subst (λ n. n ≤ core) (sym (counted-many b.held b.caches ∙ is.cores)) past)
]

memory-is : (kind : ProtocolKind) (m n : Running) (old new : BusModel) (loc : ℕ)
    → IsAlong kind m
    → IsBusOf old m
    → IsBusOf new n
    → IsSameMachine old new
    → IsCalled old new
    → loc < new.locations
    → own_word n loc (word_in_lines new.shape.words (line_in old.memory) loc)
    (word_in_lines new.shape.words (current_words (counted_copies new) new.memory) loc)
    ≡ word_in_lines new.shape.words (line_in new.memory) loc
memory-is kind m n old new loc is before after same called within =
    ap (λ w.
    if is_newer_in n (loc / w) (length n.test.programs)
    then word_in_lines words (line_in old.memory) loc
    else word_in_lines words (current_words (counted_copies new) new.memory) loc)
    (sym shape)
    ∙ by_newer (is_newer_in n line (length n.test.programs)) refl
  where
    words : ℕ
    words = new.shape.words

    line : ℕ
    line = loc / words

    shape : words ≡ n.statistics.caches.shape.words
    shape = ap (λ (c : Caches). c.shape.words) after.caches

    in_memory : line < length new.memory
    in_memory = subst (λ n. line < n) (sym after.sound.as_many_lines) (line-below new.locations words loc after.sound.some_word within)

    rows : old.rows ≡ rows_of (table_of kind)
    rows = ap (λ (c : Caches). c.rows) before.caches ∙ is.rows

    by_newer : (b : Bool) → is_newer_in n line (length n.test.programs) ≡ b
        → (if b
        then word_in_lines words (line_in old.memory) loc
        else word_in_lines words (current_words (counted_copies new) new.memory) loc)
        ≡ word_in_lines words (line_in new.memory) loc
    by_newer true q =
        let found = newer-found n line (length n.test.programs) q in
        let owner : IsOwner (counted_copies new) line found.core =
        sym (shows-newer (line_state n found.core line) (state_of_copy (copy_at (counted_copies new) found.core line)) (after.lines found.core line))
        ∙ found.newer in
        let neat = subst (λ (c : Caches). AllNeat (number_of_lines m) c.contents) (sym before.caches) is.kept.neat in
        sym (ap (λ (ws : Words). slice_index ws (loc % words))
        (called-stale kind (number_of_lines m) old new line found.core rows before.sound after.sound neat called owner))
    by_newer false q =
        sym (ap (λ (ws : Words). slice_index ws (loc % words)) ((after.sound.coherent.each line in_memory).clean (λ core. all-clean new n line core after q)))

-- ---- all words

listed : (m : Running) (f g h : ℕ → ℕ) (loc count : ℕ) → ((l : ℕ) → l < loc + count → own_word m l (f l) (g l) ≡ h l)
    → own_words_from m loc (map f (range_with_len loc count)) (map g (range_with_len loc count)) ≡ map h (range_with_len loc count)
listed m f g h loc zero each = refl
listed m f g h loc (suc count) each =
    ap (λ w. w ∷ own_words_from m (loc + 1) (map f (range_with_len (loc + 1) count)) (map g (range_with_len (loc + 1) count))) (each loc (omega arith))
    ∙ ap (λ ws. h loc ∷ ws) (listed m f g h (loc + 1) count (λ l b. each l (omega (arith, b))))

told : (kind : ProtocolKind) (m n : Running) (old new : BusModel)
    → IsAlong kind m
    → IsBusOf old m
    → IsBusOf new n
    → IsSameMachine old new
    → IsCalled old new
    → own_words n (memory_words_of old) ≡ memory_words_of new
told kind m n old new is before after same called =
    ap (λ ws. own_words_from n 0 ws n.state.flat.memory) first
    ∙ (ap (λ ws. own_words_from n 0 (map (word_in_lines new.shape.words (line_in old.memory)) (range_with_len 0 new.locations)) ws) (sym after.words)
    ∙ listed n (word_in_lines new.shape.words (line_in old.memory))
    (word_in_lines new.shape.words (current_words (counted_copies new) new.memory))
    (word_in_lines new.shape.words (line_in new.memory)) 0 new.locations
    (λ l b. memory-is kind m n old new l is before after same called (omega (arith, b))))
  where
    first : memory_words_of old ≡ map (word_in_lines new.shape.words (line_in old.memory)) (range_with_len 0 new.locations)
    first = ap (λ w. map (word_in_lines w (line_in old.memory)) (range_with_len 0 old.locations)) (sym (ap (λ s. s.words) same.shape))
        ∙ ap (λ k. map (word_in_lines new.shape.words (line_in old.memory)) (range_with_len 0 k)) (sym same.locations)

pub told-is-the-buses : ToldMemoryIsTheBuses
told-is-the-buses kind c t choices choice old new test words before after same called =
    told kind (after_choices (new_machine (table_of kind) c t) choices) (machine_after (after_choices (new_machine (table_of kind) c t) choices) choice) old new
    (along kind (new_machine (table_of kind) c t) choices (record {
      kept = kept-first (table_of kind) c t test words (protocols-keep kind);
      rows = refl;
    }))
    before after same called
