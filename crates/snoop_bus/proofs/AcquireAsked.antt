-- What the completion of a write access leaves: the core has the line in M, with the word that was seen.
use Rattle.snoop_bus.proofs.Vocabulary.{cases_eq, ◌≡◌, ◌≢◌, ◌⊎◌, inl, inr, ℕ, ◌<◌, ◌&&◌, true, false, nat_eq, Option, Some, None}
use Rattle.snoop_bus.proofs.Vocabulary.{option_map, List, length, refl, sym, ap, ◌∙◌, slice_set, if◌then◌else◌, in_place, M, Transient, IsD}
use Rattle.snoop_bus.proofs.Vocabulary.{ImD, SmD, Line, copy_with, with_state, with_word, Words, state_of_copy, Sets, copy_at, cache_of}
use Rattle.snoop_bus.proofs.Vocabulary.{ways_of, current_words, AllCoherent, ChangesCopy, KeepsWords, SetsWord, Transaction, Write}
use Rattle.snoop_bus.proofs.Vocabulary.{with_counted_copy, AskedOf, Awaits}
use Rattle.cache_set.proofs.Numbers.{differ, itself}
use Rattle.snoop_bus.proofs.CurrentWords.{same-coherent, same-seen}
use Rattle.snoop_bus.proofs.HeldLemmas.{counting-at, ways-counting}
use Rattle.snoop_bus.proofs.WriteLemmas.{hit_owned, write_owned}
use Rattle.snoop_bus.proofs.OwnLemmas.{Owned, owned-coherent, owned-seen}
use Rattle.snoop_bus.proofs.HitLemmas.{same_words}

-- what the core has once it completed
abbrev pub Acquired : List Sets → List Sets → List Words → ℕ → ℕ → Type 0
Acquired d0 c2 m core line = (copy_at c2 core line ≡ Some (copy_with M (current_words d0 m line))) × KeepsWords d0 c2 m m

pub hit_acquired : (c0 c2 : List Sets) (m : List Words) (core line : ℕ)
    → AllCoherent c0 m
    → line < length m
    → in_place (state_of_copy (copy_at c0 core line)) ≡ Some M →
    ChangesCopy core line (option_map (with_state M) (copy_at c0 core line)) c0 c2 → ways_of c2 ≡ ways_of c0 → Acquired c0 c2 m core line
hit_acquired c0 c2 m core line h within writes to ways = by_copy (copy_at c0 core line) refl writes
  where
    by_copy : (o : Option Line) → copy_at c0 core line ≡ o → in_place (state_of_copy o) ≡ Some M → Acquired c0 c2 m core line
    by_copy None e w = cc
    by_copy (Some copy) e w =
        let own : Owned c0 c2 m core line (current_words c0 m line) = hit_owned c0 c2 m core line copy M h within e w to in
        (own.here, record { coherent = owned-coherent c0 c2 m core line (current_words c0 m line) own; words = same_words c0 c2 m core line own; ways = ways })

-- the word that the bus keeps is the one that is seen
pub kept_words : (c0 : List Sets) (m : List Words) (core line : ℕ) (copy : Line)
    → AllCoherent (with_counted_copy core line copy c0) m
    → core < length c0
    → 0 < length (cache_of c0 core)
    → line < length m →
    copy.words ≡ current_words (with_counted_copy core line copy c0) m line
kept_words c0 m core line copy h within some line_in =
    (h.each line line_in).same core copy (rw (itself core, itself line) at (counting-at c0 core line copy core line within some))

pub kept_m : (x : Transaction) (own : Option Line) → Awaits Write (Some x) own → x.copy.state ≡ M
kept_m x own h = by_transient x.transient refl h.1
  where
    by_transient : (y : Transient) → x.transient ≡ y → AskedOf y x.copy own → x.copy.state ≡ M
    by_transient IsD e a = absurd (h.0 e)
    by_transient _ e a = a.1

pub own_acquired : (c0 c2 : List Sets) (m0 : List Words) (core line : ℕ) (x : Transaction)
    → AllCoherent (with_counted_copy core line x.copy c0) m0
    → core < length c0
    → 0 < length (cache_of c0 core)
    → line < length m0 →
    x.copy.state ≡ M
    → copy_at c2 core line ≡ Some x.copy
    → copy_at c2 core line ≡ Some (copy_with M (current_words (with_counted_copy core line x.copy c0) m0 line))
own_acquired c0 c2 m0 core line x h within some line_in state own = own ∙ rw (← kept_words c0 m0 core line x.copy h within some line_in, ← state) refl

pub upgrade_acquired : (c0 c2 : List Sets) (m : List Words) (core line : ℕ) (x : Transaction)
    → AllCoherent (with_counted_copy core line x.copy c0) m
    → core < length c0
    → 0 < length (cache_of c0 core)
    → line < length m →
    AskedOf SmD x.copy (copy_at c0 core line) → ChangesCopy core line (option_map (with_state M) (copy_at c0 core line)) c0 c2 → ways_of c2 ≡ ways_of c0 →
    Acquired (with_counted_copy core line x.copy c0) c2 m core line
upgrade_acquired c0 c2 m core line x h within some line_in asked to ways = (
  own_acquired c0 c2 m core line x h within some line_in asked.1 here,
  record {
    coherent = same-coherent (with_counted_copy core line x.copy c0) c2 m same h;
    words = same-seen (with_counted_copy core line x.copy c0) c2 m same h;
    ways = ways ∙ sym (ways-counting c0 core line x.copy);
  },
)
  where
    now : option_map (with_state M) (copy_at c0 core line) ≡ Some x.copy
    now = elim asked.0 [ inl p ↦ rw p (rw (← asked.1) refl) | inr p ↦ rw p (rw (← asked.1) refl) ]

    same : (i k : ℕ) → copy_at c2 i k ≡ copy_at (with_counted_copy core line x.copy c0) i k
    same i k =
        to i k
        ∙ ap (λ (o : Option Line). if nat_eq i core && nat_eq k line then o else copy_at c0 i k) now
        ∙ sym (counting-at c0 core line x.copy i k within some)

    here : copy_at c2 core line ≡ Some x.copy
    here = rw (itself core, itself line) at (to core line) ∙ now

-- a write access whose line is filled had no copy of it
pub record AskedByMiss (x : Transaction) (own : Option Line) : Type 0 where
  pub transient : x.transient ≡ ImD
  pub absent : own ≡ None
  pub state : x.copy.state ≡ M

pub filled_asked : (x : Transaction) (own : Option Line) → Awaits Write (Some x) own → (x.transient ≡ IsD) ⊎ (x.transient ≡ ImD) → AskedByMiss x own
filled_asked x own awaits (inl is) = absurd (awaits.0 is)
filled_asked x own awaits (inr is) = let asked = rw is at awaits.1 in record { transient = is; absent = asked.0; state = asked.1 }

-- a word is written to the copy that the core has then
pub completed_written : (d0 c1 c2 : List Sets) (m0 m1 : List Words) (core line offset value : ℕ) (old : Words)
    → line < length m0
    → offset < length (current_words d0 m0 line)
    → length m1 ≡ length m0 →
    copy_at c1 core line ≡ Some (copy_with M old) → old ≡ current_words d0 m0 line → KeepsWords d0 c1 m0 m1 →
    ChangesCopy core line (option_map (with_word offset value) (copy_at c1 core line)) c1 c2 → SetsWord line offset value d0 c2 m0 m1
completed_written d0 c1 c2 m0 m1 core line offset value old within offset_in size here is keeps to = record {
  coherent = owned-coherent c1 c2 m1 core line (slice_set old offset value) own;
  offset_in = offset_in;
  lines = λ k b. owned-seen c1 c2 m1 core line (slice_set old offset value) own k (rw size b) ∙ by_line k b (cases_eq k line);
}
  where
    own : Owned c1 c2 m1 core line (slice_set old offset value)
    own = write_owned c1 c2 m1 core line offset value old keeps.coherent (rw size within) here to

    by_line : (k : ℕ) → k < length m0 → (k ≡ line) ⊎ (k ≢ line) →
        (if nat_eq k line then slice_set old offset value else current_words c1 m1 k)
        ≡ (if nat_eq k line then slice_set (current_words d0 m0 line) offset value else current_words d0 m0 k)
    by_line k b (inl p) = let e : nat_eq k line ≡ true = rw p (itself line) in rw e (ap (λ (w : Words). slice_set w offset value) is)
    by_line k b (inr p) = let e : nat_eq k line ≡ false = differ k line p in rw e (keeps.words k b)

-- a word is written to a copy in M
pub locked_written : (c0 c2 : List Sets) (m : List Words) (core line offset value : ℕ)
    → AllCoherent c0 m
    → line < length m
    → offset < length (current_words c0 m line)
    → state_of_copy (copy_at c0 core line) ≡ M →
    ChangesCopy core line (option_map (with_word offset value) (copy_at c0 core line)) c0 c2 → SetsWord line offset value c0 c2 m m
locked_written c0 c2 m core line offset value h within offset_in state to = by_copy (copy_at c0 core line) refl state
  where
    by_copy : (o : Option Line) → copy_at c0 core line ≡ o → state_of_copy o ≡ M → SetsWord line offset value c0 c2 m m
    by_copy None e s = cc
    by_copy (Some copy) e s =
        completed_written c0 c0 c2 m m core line offset value copy.words within offset_in refl (e ∙ rw (← s) refl) ((h.each line within).same core copy e)
        (record { coherent = h; words = λ k b. refl; ways = refl }) to
