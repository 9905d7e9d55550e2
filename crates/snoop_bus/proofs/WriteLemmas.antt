-- A write access, from what each of its steps gives.
use Rattle.snoop_bus.proofs.Vocabulary.{◌≡◌, ◌≢◌, ℕ, ◌<◌, false, nat_eq, Option, Some, None, option_map, List, length, slice_set, refl, ap}
use Rattle.snoop_bus.proofs.Vocabulary.{◌∙◌, in_place, GivesUp, State, I, M, Snoop, Line, copy_with, with_state, with_word, Words, line_in}
use Rattle.snoop_bus.proofs.Vocabulary.{Coherent, Sets, copy_at, current_words, AllCoherent, copy_if, copy_left_by, ChangesCopy, cases_Bool}
use Rattle.snoop_bus.proofs.Vocabulary.{inl, inr}
use Rattle.cache_set.proofs.Numbers.{differ, itself}
use Rattle.snoop_bus.proofs.Coherence.{alone}
use Rattle.snoop_bus.proofs.OwnLemmas.{Owned}

-- GetM leaves no copy
pub gives_up : (on : State → Snoop) → GivesUp on → (o : Option Line) → copy_left_by on o ≡ None
gives_up on law None = refl
gives_up on law (Some copy) = ap (λ (s : State). copy_if s copy.words) (law copy.state).0

-- a copy that is written in place becomes M
pub written_m : (s next : State) → in_place s ≡ Some next → next ≡ M
written_m I next e = cc
written_m _ next e = cc

pub here_now : (core line : ℕ) (o : Option Line) (c0 c2 : List Sets) → ChangesCopy core line o c0 c2 → copy_at c2 core line ≡ o
here_now core line o c0 c2 h = rw (itself core, itself line) at (h core line)

other_core : (core line : ℕ) (o : Option Line) (c0 c2 : List Sets) → ChangesCopy core line o c0 c2 → (i k : ℕ) → i ≢ core → copy_at c2 i k ≡ copy_at c0 i k
other_core core line o c0 c2 h i k d = let e : nat_eq i core ≡ false = differ i core d in rw e at (h i k)

other_line : (core line : ℕ) (o : Option Line) (c0 c2 : List Sets) → ChangesCopy core line o c0 c2 → (i k : ℕ) → k ≢ line → copy_at c2 i k ≡ copy_at c0 i k
other_line core line o c0 c2 h i k d =
    let e : nat_eq k line ≡ false = differ k line d in elim (cases_Bool (nat_eq i core)) [ inl c ↦ rw (c, e) at (h i k) | inr c ↦ rw c at (h i k) ]

-- a write hit: the copy was in M or E, so no other core has one
pub hit_owned : (c0 c2 : List Sets) (m : List Words) (core line : ℕ) (copy : Line) (next : State) → AllCoherent c0 m → line < length m →
    copy_at c0 core line ≡ Some copy → in_place copy.state ≡ Some next → ChangesCopy core line (option_map (with_state next) (copy_at c0 core line)) c0 c2 →
    Owned c0 c2 m core line (current_words c0 m line)
hit_owned c0 c2 m core line copy next h within here writes to =
    let was : Coherent (current_words c0 m line) (line_in m line) (λ i. copy_at c0 i line) = h.each line within in
    let words : copy.words ≡ current_words c0 m line = was.same core copy here in
    let to_m : next ≡ M = written_m copy.state next writes in
    record {
      coherent = h;
      within = within;
      here = here_now core line (option_map (with_state next) (copy_at c0 core line)) c0 c2 to ∙ rw (here, to_m, words) refl;
      alone = λ i d. other_core core line (option_map (with_state next) (copy_at c0 core line)) c0 c2 to i line d
          ∙ alone (current_words c0 m line) (line_in m line) core (λ i. copy_at c0 i line) copy was here (rw to_m at writes) i d;
      elsewhere = λ i k d. other_line core line (option_map (with_state next) (copy_at c0 core line)) c0 c2 to i k d;
    }

-- a word is written to a copy in M
pub write_owned : (c0 c2 : List Sets) (m : List Words) (core line offset value : ℕ) (old : Words) → AllCoherent c0 m → line < length m →
    copy_at c0 core line ≡ Some (copy_with M old)
    → ChangesCopy core line (option_map (with_word offset value) (copy_at c0 core line)) c0 c2
    → Owned c0 c2 m core line (slice_set old offset value)
write_owned c0 c2 m core line offset value old h within here to =
    let was : Coherent (current_words c0 m line) (line_in m line) (λ i. copy_at c0 i line) = h.each line within in
    record {
      coherent = h;
      within = within;
      here = here_now core line (option_map (with_word offset value) (copy_at c0 core line)) c0 c2 to ∙ rw here refl;
      alone = λ i d. other_core core line (option_map (with_word offset value) (copy_at c0 core line)) c0 c2 to i line d
          ∙ alone (current_words c0 m line) (line_in m line) core (λ i. copy_at c0 i line) (copy_with M old) was here refl i d;
      elsewhere = λ i k d. other_line core line (option_map (with_word offset value) (copy_at c0 core line)) c0 c2 to i k d;
    }
