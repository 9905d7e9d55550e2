-- The end of a candidate: its last words and registers are among what is possible, and where names exist its truths are those of the
-- state that it leaves.
use Rattle.possible_reads.proofs.Vocabulary.{◌≡◌, ◌<◌, ◌&&◌, ◌||◌, ◌==◌, ◌+◌, ℕ, zero, suc, Bool, true, false, not, if◌then◌else◌, List, []}
use Rattle.possible_reads.proofs.Vocabulary.{◌∷◌, arith, Some, refl, sym, ap, ◌∙◌, ◌⊎◌, inl, inr, subst, map, list_any, length, slice_index}
use Rattle.possible_reads.proofs.Vocabulary.{slice_index_or, Entry, Reg, Instr, Litmus, index_of, entries_of, registers_after, IsIn}
use Rattle.possible_reads.proofs.Vocabulary.{in-none, in-left, in-right, bare, events_of, Candidate, events_from, writes_to, Sound, sound}
use Rattle.possible_reads.proofs.Vocabulary.{IsAllowed, last-is-in}
use Rattle.tso_terms.specs.Thread.{registers_with}
use Rattle.tso_terms.specs.Condition.{Claim, TruthClaim, RegClaim, LocClaim, NotClaim, AndClaim, OrClaim, truth_of, NamesExist}
use Rattle.relational_model.specs.Candidates.{registers_left, registers_left_from, words_left as words_of}
use Rattle.relational_model.proofs.KindFacts.{writes}
use Rattle.locked_laws.specs.Turns.{NoTwoReadOneSource}
use Rattle.locked_laws.specs.Sums.{WordsAddUp, ReadsAddUp}
use Rattle.refutation_laws.proofs.Tests.{any-holds, any-in}
use Rattle.refutation_laws.proofs.Standing.{of-event, event-in}
use Rattle.refutation_laws.proofs.ClaimFacts.{words-at, Last, Empty, ends}
use Rattle.possible_reads.specs.Expressions.{register_left, first_registers, registers_at_end}
use Rattle.possible_reads.specs.Facts.{Fact}
use Rattle.possible_reads.specs.Possible.{any_of, values_of, values_read, values_written, readings_after, last_writes, is_counter, counted}
use Rattle.possible_reads.specs.Possible.{may_be_left, both_of, told_word, last_words, words_left}
use Rattle.possible_reads.specs.Laws.{AreMet, IsPossible, register_in, word_in, holds_in}
use Rattle.possible_reads.proofs.Values.{value_of, itself-possible, both-possible, any-possible, kept-possible, value-possible}
use Rattle.possible_reads.proofs.Programs.{Given, returned_in, given, left-of, held-at-end}
use Rattle.possible_reads.proofs.Meeting.{told-of-word, word-fits}
use Rattle.possible_reads.proofs.Additions.{counted-right}
use Rattle.possible_reads.proofs.Rounds.{ArePossible, possible, written-possible, has-last, last-value}

-- ---- registers

-- what a core's program makes is among the events
pub of-core : (core : ℕ) (ps : List (List Instr)) (registers reads : List (List ℕ)) (i n : ℕ) → n ≡ core + i → (x : Entry)
    → IsIn (entries_of n 0 (slice_index_or ps i []) (slice_index_or registers n []) (slice_index_or reads n [])) x
    → IsIn (events_from core ps registers reads) x
of-core core [] registers reads i n e x k = absurd (in-none x k)
of-core core (p ∷ ps) registers reads zero n e x k =
    let q : n ≡ core = omega (arith, e) in
    in-left (entries_of core 0 p (slice_index_or registers core []) (slice_index_or reads core [])) _ x
    (subst (λ m. IsIn (entries_of m 0 p (slice_index_or registers m []) (slice_index_or reads m [])) x) q k)
of-core core (p ∷ ps) registers reads (suc i) n e x k =
    in-right (entries_of core 0 p (slice_index_or registers core []) (slice_index_or reads core [])) _ x
    (of-core (core + 1) ps registers reads i n (omega (arith, e)) x k)

module _ (t : Litmus) (c : Candidate) (d : Sound t c) where
  -- a register holds the value of its expression at the end
  pub register-value : (core : ℕ) (reg : Reg) → register_in t c core reg ≡ value_of (returned_in t c d) (register_left t core reg)
  register-value core reg =
      held-at-end (returned_in t c d)
      (registers_at_end core 0 (slice_index_or t.programs core []) (first_registers t.registers core))
      (registers_with t core (slice_index_or c.reads core [])) reg
      (left-of (returned_in t c d) core (slice_index_or t.programs core []) t.registers (slice_index_or c.reads core []) made)
    where
      made : Given (returned_in t c d)
          (entries_of core 0 (slice_index_or t.programs core []) (slice_index_or t.registers core []) (slice_index_or c.reads core []))
      made x i r = given t c d x (of-core 0 t.programs t.registers c.reads core core (omega arith) x i) r

-- ---- what is possible at the end

module _ (no_two : NoTwoReadOneSource) (words : WordsAddUp) (reads : ReadsAddUp) (t : Litmus) (c : Candidate) (a : IsAllowed t c) (facts : List Fact)
    (met : AreMet t c facts) (rounds : ℕ) where
  abbrev d : Sound t c
  d = sound t c a.candidate

  all : ArePossible no_two reads t c a facts met (readings_after t facts rounds)
  all = possible no_two reads t c a facts met rounds

  pub register-possible : (core : ℕ) (reg : Reg)
      → IsPossible (values_of (values_read (readings_after t facts rounds)) (register_left t core reg)) (register_in t c core reg)
  register-possible core reg =
      subst (IsPossible (values_of (values_read (readings_after t facts rounds)) (register_left t core reg))) (sym (register-value t c d core reg))
      (value-possible (values_read (readings_after t facts rounds)) (returned_in t c d) all.values (register_left t core reg))

  last-word : (loc : ℕ) → IsPossible (last_words t facts (readings_after t facts rounds) loc) (word_in t c loc)
  last-word loc = go (is_counter t loc) refl (list_any (writes_to loc) (events_of t)) refl
    where
      written : list_any (writes_to loc) (events_of t) ≡ true
          → IsPossible
          (any_of (map (values_written t (readings_after t facts rounds)) (last_writes t facts (readings_after t facts rounds) loc)))
          (word_in t c loc)
      written q =
          let m = any-holds (writes_to loc) (events_of t) q in
          let o = of-event t c m.entry m.inside in
          let l = has-last no_two reads t c a facts met (readings_after t facts rounds) all loc o.entry o.inside
          (subst (λ (z : Entry). writes_to loc z ≡ true) o.same m.holds) in
          any-possible (values_written t (readings_after t facts rounds)) (last_writes t facts (readings_after t facts rounds) loc) l.among.number
          l.among.event (word_in t c loc) l.among.among
          (subst (IsPossible (values_written t (readings_after t facts rounds) l.among.event))
          (sym (last-value (c.coherence loc) (slice_index t.words loc) l.write l.is_last))
          (written-possible no_two reads t c a facts met (readings_after t facts rounds) all l.among.event l.write
          (record { inside = l.inside; same = l.among.same }) (writes loc l.write l.writes)))

      unwritten : list_any (writes_to loc) (events_of t) ≡ false → word_in t c loc ≡ slice_index t.words loc
      unwritten q = on (ends (c.coherence loc) (slice_index t.words loc))
        where
          on : Empty (c.coherence loc) (slice_index t.words loc) ⊎ Last (c.coherence loc) (slice_index t.words loc)
              → word_in t c loc ≡ slice_index t.words loc
          on (inl none) = none.value
          on (inr l) =
              let i = d.coherent loc l.entry (last-is-in (c.coherence loc) l.entry l.last) in
              let z = any-in (writes_to loc) (events_of t) (bare l.entry) (event-in t c l.entry i.0) i.1 in
              let w : ⊥ = cc in absurd w

      go : (x : Bool) → is_counter t loc ≡ x → (b : Bool) → list_any (writes_to loc) (events_of t) ≡ b
          → IsPossible (if x then Some (counted t loc ∷ [])
          else if b then any_of (map (values_written t (readings_after t facts rounds)) (last_writes t facts (readings_after t facts rounds) loc))
          else Some (slice_index t.words loc ∷ [])) (word_in t c loc)
      go true q b r = subst (IsPossible (Some (counted t loc ∷ []))) (sym (counted-right t c d loc q words a)) (itself-possible (counted t loc))
      go false q true r = written r
      go false q false r = subst (IsPossible (Some (slice_index t.words loc ∷ []))) (sym (unwritten r)) (itself-possible (slice_index t.words loc))

  pub word-possible : (loc : ℕ) → IsPossible (words_left t facts (readings_after t facts rounds) loc) (word_in t c loc)
  word-possible loc =
      kept-possible (may_be_left facts loc) (both_of (told_word facts loc) (last_words t facts (readings_after t facts rounds) loc)) (word_in t c loc)
      (both-possible (told_word facts loc) (last_words t facts (readings_after t facts rounds) loc) (word_in t c loc)
      (told-of-word t c facts met loc) (last-word loc)) (word-fits t c facts met loc)

-- ---- truths

registers-at : (core : ℕ) (ps : List (List Instr)) (registers reads : List (List ℕ)) (i n : ℕ) → n ≡ core + i → i < length ps
    → slice_index_or (registers_left_from core ps registers reads) i [] ≡ registers_after (slice_index_or ps i [])
    (slice_index_or registers n []) (slice_index_or reads n [])
registers-at core [] registers reads i n e l = absurd (omega arith)
registers-at core (p ∷ ps) registers reads zero n e l =
    ap (λ m. registers_after p (slice_index_or registers m []) (slice_index_or reads m [])) (let q : core ≡ n = omega (arith, e) in q)
registers-at core (p ∷ ps) registers reads (suc i) n e l = registers-at (core + 1) ps registers reads i n (omega (arith, e)) (omega (arith, l))

pub truth-left : (t : Litmus) (c : Candidate) (claim : Claim) → NamesExist (length t.programs) (length t.words) claim
    → holds_in t c claim ≡ truth_of (registers_left t c) (words_of t c) claim
truth-left t c (TruthClaim truth) n = refl
truth-left t c (RegClaim core reg value) n =
    ap (λ ns. slice_index ns (index_of reg) == value) (sym (registers-at 0 t.programs t.registers c.reads core core (omega arith) n))
truth-left t c (LocClaim loc value) n = ap (λ m. m == value) (sym (words-at c 0 t.words loc loc (omega arith) n))
truth-left t c (NotClaim inner) n = ap not (truth-left t c inner n)
truth-left t c (AndClaim left right) n =
    ap (λ b. b && holds_in t c right) (truth-left t c left n.0)
    ∙ ap (λ b. truth_of (registers_left t c) (words_of t c) left && b) (truth-left t c right n.1)
truth-left t c (OrClaim left right) n =
    ap (λ b. b || holds_in t c right) (truth-left t c left n.0)
    ∙ ap (λ b. truth_of (registers_left t c) (words_of t c) left || b) (truth-left t c right n.1)
