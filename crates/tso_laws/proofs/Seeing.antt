-- Where the test has ended, and what is seen there, by states that differ in dead registers alone.
use Rattle.tso_laws.proofs.EagerVocabulary.{◌≡◌, ℕ, ◌+◌, suc, List, [], ◌∷◌, Bool, true, length, slice_index_or, map, drop, arith, ap, sym}
use Rattle.tso_laws.proofs.EagerVocabulary.{◌∙◌, refl, ◌==◌, ◌&&◌, nat_tests, and-left, and-right, drop-end, Litmus, CoreState, State}
use Rattle.tso_laws.proofs.EagerVocabulary.{program_of, is_none_pending, registers_in, is_done, all_done, has_ended, Instr, dead_at}
use Rattle.tso_laws.proofs.EagerVocabulary.{cleared, none_hidden, hidden_of, forgotten_core, forgotten_cores, forgotten, AreAlike}
use Rattle.tso_laws.proofs.EagerVocabulary.{seen_from, seen}
use Rattle.tso_laws.proofs.Clearing.{clear-twice}

-- where none is hidden all is seen
all-seen : (rs : List ℕ) → cleared none_hidden rs ≡ rs
all-seen [] = refl
all-seen (a ∷ []) = refl
all-seen (a ∷ (b ∷ [])) = refl
all-seen (a ∷ (b ∷ (c ∷ []))) = refl
all-seen (a ∷ (b ∷ (c ∷ (d ∷ [])))) = refl
all-seen (a ∷ (b ∷ (c ∷ (d ∷ (e ∷ []))))) = refl
all-seen (a ∷ (b ∷ (c ∷ (d ∷ (e ∷ (f ∷ rs)))))) = refl

seen-all-from : (n : ℕ) (registers : List (List ℕ)) → seen_from [] n registers ≡ registers
seen-all-from n [] = refl
seen-all-from n (r ∷ rs) = rw (all-seen r, seen-all-from (n + 1) rs) refl

pub seen-all : (registers : List (List ℕ)) → seen [] registers ≡ registers
seen-all registers = seen-all-from 0 registers

module _ (t : Litmus) (hidden : List (List Bool)) where
  done-forgotten : (ps : List (List Instr)) (n : ℕ) (ss : List CoreState) → all_done ps (forgotten_cores t hidden n ss) ≡ all_done ps ss
  done-forgotten [] n [] = refl
  done-forgotten (p ∷ ps) n [] = refl
  done-forgotten [] n (s ∷ ss) = ap (λ b. is_done [] s && b) (done-forgotten [] (n + 1) ss)
  done-forgotten (p ∷ ps) n (s ∷ ss) = ap (λ b. is_done p s && b) (done-forgotten ps (n + 1) ss)

  pub ended-forgotten : (s : State) → has_ended t (forgotten t hidden s) ≡ has_ended t s
  ended-forgotten s = done-forgotten t.programs 0 s.cores

  pub ended-alike : (s r : State) → AreAlike t hidden s r → has_ended t s ≡ has_ended t r
  ended-alike s r h = sym (ended-forgotten s) ∙ ap (has_ended t) h ∙ ended-forgotten r

  twice : (n : ℕ) (ss : List CoreState) → forgotten_cores t hidden n (forgotten_cores t hidden n ss) ≡ forgotten_cores t hidden n ss
  twice n [] = refl
  twice n (s ∷ ss) = rw (clear-twice (dead_at (drop s.place (program_of t n)) (hidden_of hidden n)) s.registers, twice (n + 1) ss) refl

  pub forgotten-twice : (s : State) → AreAlike t hidden (forgotten t hidden s) s
  forgotten-twice s = ap (λ z. record { memory = s.memory; cores = z }) (twice 0 s.cores)

  -- ---- at the end

  at-end : (p : List Instr) (s : CoreState) → is_done p s ≡ true → drop s.place p ≡ []
  at-end p s h =
      let q = and-left (length p == s.place) (is_none_pending s.pending) h in
      drop-end p s.place (let z : length p ≡ s.place = grind (arith, nat_tests, q) in z)

  -- nothing is dead there but what is hidden
  core-ended : (p : List Instr) (n : ℕ) (s : CoreState) → p ≡ program_of t n → is_done p s ≡ true
      → (forgotten_core (program_of t n) (hidden_of hidden n) s).registers ≡ cleared (hidden_of hidden n) s.registers
  core-ended p n s q h =
      ap (λ z. cleared (dead_at (drop s.place z) (hidden_of hidden n)) s.registers) (sym q)
      ∙ ap (λ z. cleared (dead_at z (hidden_of hidden n)) s.registers) (at-end p s h)

  both : {x y : List ℕ} {xs ys : List (List ℕ)} → x ≡ y → xs ≡ ys → x ∷ xs ≡ y ∷ ys
  both p q = rw (p, q) refl

  cores-ended : (ps : List (List Instr)) (n : ℕ) (ss : List CoreState) → ((k : ℕ) → slice_index_or ps k [] ≡ program_of t (n + k)) → all_done ps ss ≡ true
      → map (λ s. s.registers) (forgotten_cores t hidden n ss) ≡ seen_from hidden n (map (λ s. s.registers) ss)
  cores-ended [] n [] q h = refl
  cores-ended (p ∷ ps) n [] q h = refl
  cores-ended [] n (s ∷ ss) q h =
      both (core-ended [] n s (q 0 ∙ (let z : n + 0 ≡ n = omega arith in ap (program_of t) z)) (and-left (is_done [] s) (all_done [] ss) h))
      (cores-ended [] (n + 1) ss
      (λ k. q (suc k) ∙ (let z : n + suc k ≡ (n + 1) + k = omega arith in ap (program_of t) z))
      (and-right (is_done [] s) (all_done [] ss) h))
  cores-ended (p ∷ ps) n (s ∷ ss) q h =
      both (core-ended p n s (q 0 ∙ (let z : n + 0 ≡ n = omega arith in ap (program_of t) z)) (and-left (is_done p s) (all_done ps ss) h))
      (cores-ended ps (n + 1) ss
      (λ k. q (suc k) ∙ (let z : n + suc k ≡ (n + 1) + k = omega arith in ap (program_of t) z))
      (and-right (is_done p s) (all_done ps ss) h))

  pub seen-ended : (s : State) → has_ended t s ≡ true → registers_in (forgotten t hidden s) ≡ seen hidden (registers_in s)
  seen-ended s h = cores-ended t.programs 0 s.cores (λ k. (let z : k ≡ 0 + k = omega arith in ap (program_of t) z)) h
