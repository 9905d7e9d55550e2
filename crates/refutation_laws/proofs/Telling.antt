-- What the answers of a branch tell of values, said of a candidate that gives them.
use Rattle.refutation_laws.proofs.Vocabulary.{◌≡◌, ◌<◌, ℕ, Bool, true, false, if◌then◌else◌, [], length, Option, Some, None, slice_index}
use Rattle.refutation_laws.proofs.Vocabulary.{slice_index_or, arith, refl, sym, ◌∙◌, list_any, Litmus, value_in, is_read, Reg, Entry, IsIn}
use Rattle.refutation_laws.proofs.Vocabulary.{Candidate, IsCandidate, events, last_word, registers_left, words_left, number-same, Sound}
use Rattle.refutation_laws.proofs.Vocabulary.{sound, Known, bare, events_of, value_among, all_known, value_read, can_be, words_at_end}
use Rattle.refutation_laws.proofs.Vocabulary.{register_at_end, value_known, Agrees}
use Rattle.refutation_laws.proofs.Knowing.{Tells, tells-in, tells-among, known-in, given-known}
use Rattle.refutation_laws.proofs.ClaimFacts.{left-at, words-at, word-allowed}

told : (o : Option ℕ) (v n : ℕ) → o ≡ Some v → Tells o n → n ≡ v
told None v n e h = let z : ⊥ = cc in absurd z
told (Some w) v n e h = let q : w ≡ v = cc in sym h ∙ q

module _ (t : Litmus) (c : Candidate) (candidate : IsCandidate t c) (k : Known) (a : Agrees t c k) where
  d : Sound t c
  d = sound t c candidate

  pub event-value : (x : Entry) → IsIn (events t c) x → (v : ℕ) → value_known t k (bare x) ≡ Some v → x.value ≡ v
  event-value x i v h = told (value_known t k (bare x)) v x.value h (go (is_read x) refl)
    where
      go : (b : Bool) → is_read x ≡ b
          → Tells (if b then value_read t k (bare x) else value_among (all_known t k) (bare x)) x.value
      go true q = given-known t c d k a (length (events_of t)) x i q
      go false q =
          tells-among t c d (all_known t k) (λ y j. known-in t c d k a (length (events_of t)) y j) (bare x) x
          (record { inside = i; same = refl })

  pub register-value : (core : ℕ) (reg : Reg) (v : ℕ) → core < length t.programs → register_at_end t k core reg ≡ Some v
      → value_in (slice_index_or (registers_left t c) core []) reg ≡ v
  register-value core reg v l h =
      told (register_at_end t k core reg) v (value_in (slice_index_or (registers_left t c) core []) reg) h
      (tells-in _ (slice_index_or (registers_left t c) core []) reg
      (left-at (value_read t k) 0 t.programs t.registers c.reads core core (omega arith) l
      (given-known t c d k a (length (events_of t)))))

  pub word-value : (loc : ℕ) → loc < length t.words
      → list_any (can_be (slice_index (words_left t c) loc) true) (words_at_end t k loc) ≡ true
  word-value loc l =
      let e : slice_index (words_left t c) loc ≡ last_word (c.coherence loc) (slice_index t.words loc) =
      words-at c 0 t.words loc loc (omega arith) l in
      word-allowed t c d k a loc (slice_index (words_left t c) loc) true
      (number-same (last_word (c.coherence loc) (slice_index t.words loc)) (slice_index (words_left t c) loc) (sym e))
