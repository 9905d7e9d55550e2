-- A line of memory that changes has no dirty copy then: the one that was sent or written back was the only one.
use Rattle.machine_core.proofs.Vocabulary.{◌≡◌, ◌≢◌, ◌∙◌, ℕ, suc, Bool, true, false, if◌then◌else◌, List, [], ◌∷◌, Option, Some, None}
use Rattle.machine_core.proofs.Vocabulary.{option_map, inl, inr, refl, sym, ap, subst, get_or-set_other, decide, is_dirty, Table, table_of}
use Rattle.machine_core.proofs.Vocabulary.{ProtocolKind, State, I, M, Snoop, Line, Victim, table_of_rows, rows_of, Words, line_in}
use Rattle.machine_core.proofs.Vocabulary.{state_of_copy, may_share, leaving, filled, TagSets, tags_at, tag_in, at_line, sets_of, requested}
use Rattle.machine_core.proofs.Vocabulary.{filled_by, Sets, copy_at, copy_in, tags_of, written_back, flushed, sent_of, first_of_two}
use Rattle.machine_core.proofs.Vocabulary.{sent_words, tag_at, or_invalid, tag_at-copy, cases_Bool, is_written_back, filled_by_sharing}
use Rattle.machine_core.proofs.Vocabulary.{get_s_flushing, get_s_owning}
use Rattle.machine_core.proofs.Changed.{core-at}
use Rattle.protocol_tables.specs.declared.kind.ProtocolKind.TheVariants.{Msi, Mesi, Moesi, Mosi}
use Rattle.snoop_bus.proofs.RowLemmas.{table_of-rows}
use Rattle.machine_core.proofs.Victims.{AreNeat, AllNeat, sets-leave}
use Rattle.machine_core.proofs.Snooped.{left_of, requested-here}
use Rattle.machine_core.proofs.Dirty.{apart}

-- ---- the tables

-- the table of a protocol, as a bus has it
abbrev pub kept_table : ProtocolKind → Table
kept_table kind = table_of_rows (rows_of (table_of kind))

-- beside a copy in M there is none
beside_m : (s : State) → may_share M s ≡ true → s ≡ I
beside_m I h = refl
beside_m _ h = absurd (let z : ⊥ = cc in z)

-- what is so of a protocol's table: dirty copies are written back, a load fills in a clean one, and a copy that is sent to memory
-- is in M and clean afterwards
pub record SettlesMemory (t : Table) : Type 0 where
  pub written : (s : State) → t.evicts_dirty s ≡ is_dirty s
  pub filled : (shared : Bool) → is_dirty (t.filled shared) ≡ false
  pub sent : (s : State) → (t.on_get_s s).to_memory ≡ true → s ≡ M
  pub clean : (t.on_get_s M).to_memory ≡ true → is_dirty (t.on_get_s M).next ≡ false
  pub absent : is_dirty (t.on_get_s I).next ≡ false

back-dirty : (s : State) → is_written_back s ≡ is_dirty s
back-dirty I = refl
back-dirty _ = refl

sharing-clean : (shared : Bool) → is_dirty (filled_by_sharing shared) ≡ false
sharing-clean true = refl
sharing-clean false = refl

flushes-m : (s : State) → (get_s_flushing s).to_memory ≡ true → s ≡ M
flushes-m M h = refl
flushes-m _ h = absurd (let z : ⊥ = cc in z)

owning-keeps : (s : State) → (get_s_owning s).to_memory ≡ true → ⊥
owning-keeps I h = let z : ⊥ = cc in z
owning-keeps _ h = let z : ⊥ = cc in z

pub settles : (kind : ProtocolKind) → SettlesMemory (kept_table kind)
settles kind = subst SettlesMemory (sym (table_of-rows (table_of kind))) (by_protocol kind)
  where
    by_protocol : (kind : ProtocolKind) → SettlesMemory (table_of kind)
    by_protocol Msi = record { written = back-dirty; filled = λ shared. refl; sent = flushes-m; clean = λ h. refl; absent = refl }
    by_protocol Mesi = record { written = back-dirty; filled = sharing-clean; sent = flushes-m; clean = λ h. refl; absent = refl }
    by_protocol Moesi = record {
      written = back-dirty;
      filled = sharing-clean;
      sent = λ s h. absurd (owning-keeps s h);
      clean = λ h. absurd (owning-keeps M h);
      absent = refl;
    }
    by_protocol Mosi = record {
      written = back-dirty;
      filled = λ shared. refl;
      sent = λ s h. absurd (owning-keeps s h);
      clean = λ h. absurd (owning-keeps M h);
      absent = refl;
    }

left-clean : (t : Table) (o : Option State) → SettlesMemory t → or_invalid o ≡ I → is_dirty (left_of t.on_get_s o) ≡ false
left-clean t None h q = refl
left-clean t (Some s) h q = subst (λ x. is_dirty (t.on_get_s x).next ≡ false) (sym q) h.absent

-- ---- the states of copies

-- a core's copy of a line is dirty
abbrev pub IsDirtyAt : ℕ → ℕ → List TagSets → Type 0
IsDirtyAt core line caches = is_dirty (or_invalid (tag_at core line caches)) ≡ true

pub never : (b : Bool) → b ≡ true → b ≡ false → ⊥
never b dirty clean = let z : ⊥ = cc in z

pub not_absent : (o : Option State) → o ≡ None → is_dirty (or_invalid o) ≡ true → ⊥
not_absent o q h = never (is_dirty (or_invalid o)) h (ap (λ x. is_dirty (or_invalid x)) q)

-- where a line comes in and a dirty one leaves, that one has no dirty copy then
pub victim-unowned : (lines core line : ℕ) (state : State) (caches : List TagSets) (victim : ℕ × State) (i : ℕ) → AllNeat lines caches
    → ((other : ℕ) → other ≢ core → may_share victim.1 (or_invalid (tag_at other victim.0 caches)) ≡ true)
    → tag_at core line caches ≡ None → leaving (tags_at (sets_of caches core) line) ≡ Some victim → is_dirty victim.1 ≡ true
    → IsDirtyAt i victim.0 (filled_by core line state caches) → ⊥
victim-unowned lines core line state caches victim i neat alone none leaves dirty =
    core-at (λ sets. is_dirty (or_invalid (tag_in sets victim.0)) ≡ true → ⊥) core i (at_line line (filled line state)) caches
    (λ q l. not_absent _ (sets-leave lines line state (sets_of caches core) victim (neat core) none leaves).after) (λ q past. not_absent None refl)
    (λ n. apart victim.1 (or_invalid (tag_at i victim.0 caches)) (alone i n) dirty)

-- the line that leaves is another than the one that comes in
pub victim-other : (lines core line : ℕ) (caches : List TagSets) (victim : ℕ × State) → AllNeat lines caches
    → tag_at core line caches ≡ None → leaving (tags_at (sets_of caches core) line) ≡ Some victim → victim.0 ≢ line
victim-other lines core line caches victim neat none leaves same =
    let there = (sets-leave lines line I (sets_of caches core) victim (neat core) none leaves).before in
    let z : None ≡ Some victim.1 = sym none ∙ subst (λ k. tag_in (sets_of caches core) k ≡ Some victim.1) same there in
    let y : ⊥ = cc in y

-- where another core's copy is sent to memory on GetS, no other is dirty then
pub sent-unowned : (t : Table) (lines core line : ℕ) (caches : List TagSets) (sender : ℕ) (state : State) (i : ℕ)
    → SettlesMemory t
    → AreNeat lines (sets_of caches i)
    → (i ≢ sender → may_share state (or_invalid (tag_at i line caches)) ≡ true)
    → tag_at sender line caches ≡ Some state → (t.on_get_s state).to_memory ≡ true → i ≢ core
    → IsDirtyAt i line (requested t.on_get_s core line caches) → ⊥
sent-unowned t lines core line caches sender state i h neat alone there sent n found =
    never _ (subst (λ s. is_dirty s ≡ true) (requested-here lines t.on_get_s core line caches i neat n) found) (elim (decide i sender) [
      | inl q ↦ ap (λ o. is_dirty (left_of t.on_get_s o)) (ap (λ k. tag_at k line caches) q ∙ there) ∙ clean
      | inr apart ↦
          left-clean t (tag_at i line caches) h
          (beside_m _ (subst (λ s. may_share s (or_invalid (tag_at i line caches)) ≡ true) (h.sent state sent) (alone apart)))
    ])
  where
    clean : is_dirty (t.on_get_s state).next ≡ false
    clean = subst (λ x. (t.on_get_s x).to_memory ≡ true → is_dirty (t.on_get_s x).next ≡ false) (sym (h.sent state sent)) h.clean sent

-- ---- memory

pub back-stale : (t : Table) (v : Option Victim) (memory : List Words) (k : ℕ)
    → ((w : Victim) → v ≡ Some w → t.evicts_dirty w.content.state ≡ true → k ≢ w.line)
    → line_in (written_back t v memory) k ≡ line_in memory k
back-stale t None memory k h = refl
back-stale t (Some w) memory k h = elim (cases_Bool (t.evicts_dirty w.content.state)) [
  | inl q ↦ rw q (get_or-set_other memory w.line k w.content.words [] (h w refl q))
  | inr q ↦ rw q refl
]

pub sent-stale : (line : ℕ) (o : Option Words) (memory : List Words) (k : ℕ)
    → ((w : Words) → o ≡ Some w → k ≢ line)
    → line_in (flushed line o memory) k ≡ line_in memory k
sent-stale line None memory k h = refl
sent-stale line (Some w) memory k h = get_or-set_other memory line k w [] (h w refl)

-- whose words are sent
pub record IsSent (on : State → Snoop) (line : ℕ) (caches : List Sets) : Type 0 where
  pub sender : ℕ
  pub copy : Line
  pub there : copy_at caches sender line ≡ Some copy
  pub sent : (on copy.state).to_memory ≡ true

pub sender-of : (on : State → Snoop) (line : ℕ) (caches : List Sets) (w : Words) → sent_words on line caches ≡ Some w → IsSent on line caches
sender-of on line [] w h = absurd (let z : ⊥ = cc in z)
sender-of on line (sets ∷ caches) w h = by_copy (copy_in sets line) refl (sender-of on line caches w) h
  where
    later : IsSent on line caches → IsSent on line (sets ∷ caches)
    later s = record { sender = suc s.sender; copy = s.copy; there = s.there; sent = s.sent }

    by_test : (copy : Line) (b : Bool)
        → (on copy.state).to_memory ≡ b
        → copy_in sets line ≡ Some copy
        → (sent_words on line caches ≡ Some w → IsSent on line caches)
        → first_of_two (if b then Some copy.words else None) (sent_words on line caches) ≡ Some w → IsSent on line (sets ∷ caches)
    by_test copy true q is rest h = record { sender = 0; copy = copy; there = is; sent = q }
    by_test copy false q is rest h = later (rest h)

    by_copy : (o : Option Line) → copy_in sets line ≡ o → (sent_words on line caches ≡ Some w → IsSent on line caches)
        → first_of_two (sent_of on o) (sent_words on line caches) ≡ Some w → IsSent on line (sets ∷ caches)
    by_copy None is rest h = later (rest h)
    by_copy (Some copy) is rest h = by_test copy (on copy.state).to_memory refl is rest h

-- ---- states and copies
pub state-of : (caches : List Sets) (core line : ℕ) → or_invalid (tag_at core line (tags_of caches)) ≡ state_of_copy (copy_at caches core line)
state-of caches core line = ap or_invalid (tag_at-copy caches core line) ∙ by_copy (copy_at caches core line)
  where
    by_copy : (o : Option Line) → or_invalid (option_map (λ (copy : Line). copy.state) o) ≡ state_of_copy o
    by_copy None = refl
    by_copy (Some copy) = refl
