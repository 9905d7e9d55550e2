-- What is written to memory, line by line, and that its size stays.
use Rattle.snoop_bus.proofs.Vocabulary.{get_or-set_same, get_or-set_other, length-set, ◌≡◌, ◌≢◌, ◌⊎◌, inl, inr, ℕ, ◌<◌, cond, Bool, true}
use Rattle.snoop_bus.proofs.Vocabulary.{false, nat_eq, Option, Some, None, List, [], length, refl, sym, ◌∙◌, slice_set, is_dirty}
use Rattle.snoop_bus.proofs.Vocabulary.{WritesBackDirty, Table, Line, Victim, Words, line_in, Sets, Request, GetS, GetM, asked_memory}
use Rattle.snoop_bus.proofs.Vocabulary.{written_back, victim_at, flushed, sent_words, State, tags_of, tag_at, request_for}
use Rattle.snoop_bus.proofs.Vocabulary.{completed_memory_in, next_in_place, awaited_as, whole_memory, whole_memory_in, SmD, Transient}
use Rattle.snoop_bus.proofs.Vocabulary.{cases_Bool}

pub length-written_back : (t : Table) (v : Option Victim) (m : List Words) → length (written_back t v m) ≡ length m
length-written_back t None m = refl
length-written_back t (Some y) m =
    elim (t.evicts_dirty y.content.state) as (λ b. length (cond b (slice_set m y.line y.content.words) m) ≡ length m) [
      | true ↦ length-set m y.line y.content.words
      | false ↦ refl
    ]

pub length-flushed : (line : ℕ) (sent : Option Words) (m : List Words) → length (flushed line sent m) ≡ length m
length-flushed line None m = refl
length-flushed line (Some words) m = length-set m line words

pub length-asked : (t : Table) (request : Request) (line : ℕ) (caches : List Sets) (m : List Words) → length (asked_memory t request line caches m) ≡ length m
length-asked t GetS line caches m = length-flushed line (sent_words t.on_get_s line caches) m
length-asked t GetM line caches m = refl

-- as many lines of memory after a whole access
pub length-whole : (t : Table) (write : Bool) (core line : ℕ) (caches : List Sets) (m : List Words)
    → length (whole_memory t write core line caches m) ≡ length m
length-whole t write core line caches m = by_next (tag_at core line (tags_of caches)) (next_in_place t write (tag_at core line (tags_of caches)))
  where
    by_transient : (x : Transient) (n : List Words) → length (completed_memory_in t core line x caches n) ≡ length n
    by_transient SmD n = refl
    by_transient _ n = length-written_back t (victim_at caches core line) n

    by_next : (copy next : Option State) → length (whole_memory_in t write core line caches copy next m) ≡ length m
    by_next copy (Some next) = refl
    by_next copy None = by_transient (awaited_as write copy) _ ∙ length-asked t (request_for write) line caches m

pub written_back-other : (t : Table) (y : Victim) (m : List Words) (k : ℕ) → k ≢ y.line → line_in (written_back t (Some y) m) k ≡ line_in m k
written_back-other t y m k d =
    elim (t.evicts_dirty y.content.state) as (λ b.
    line_in (cond b (slice_set m y.line y.content.words) m) k ≡ line_in m k) [
      | true ↦ get_or-set_other m y.line k y.content.words [] d
      | false ↦ refl
    ]

pub written_back-here : (t : Table) → WritesBackDirty t.evicts_dirty → (y : Victim) (m : List Words) → y.line < length m →
    (line_in (written_back t (Some y) m) y.line ≡ y.content.words)
    ⊎ ((line_in (written_back t (Some y) m) y.line ≡ line_in m y.line) × (is_dirty y.content.state ≡ false))
written_back-here t law y m l = elim (cases_Bool (t.evicts_dirty y.content.state)) [
  | inl e ↦ inl (rw e (get_or-set_same m y.line y.content.words [] l))
  | inr e ↦ inr (rw e refl, sym (law y.content.state) ∙ e)
]

-- what a victim leaves of a copy
abbrev pub left_after : Option Victim → ℕ → Option Line → Option Line
left_after None k o = o
left_after (Some y) k o = cond (nat_eq k y.line) None o
