-- Independent reads of independent writes: no candidate that the model allows has two readers that see the writes in opposite orders.
use Rattle.relational_model.proofs.Vocabulary.{◌≡◌, ℕ, zero, suc, true, false, List, [], ◌∷◌, Option, Some, None, slice_index}
use Rattle.relational_model.proofs.Vocabulary.{slice_index_or, drop, refl, sym, ap, ◌∙◌, ◌⊎◌, inl, inr, subst, entry, loc_x, loc_y, zeros}
use Rattle.relational_model.proofs.Vocabulary.{is_read, is_write, writes_to, Entry, R, W, IsIn, at_once, onward, Candidate, Returns, events}
use Rattle.relational_model.proofs.Vocabulary.{registers_left, ReadsFrom, StandsAfter, FromReads, IsAllowed, read_before_access, rfe, fr}
use Rattle.relational_model.proofs.Vocabulary.{independent, opposite_registers}
use Rattle.relational_model.proofs.KindFacts.{writes}

abbrev write-x : Entry
write-x = entry 0 0 W loc_x 1

abbrev write-y : Entry
write-y = entry 1 0 W loc_y 1

-- the two writes, and what the readers read of x and y, each in its program's order
abbrev entries : (a b d e : ℕ) → List Entry
entries a b d e =
    write-x ∷ (write-y ∷ (entry 2 0 R loc_x a ∷ (entry 2 1 R loc_y b ∷ (entry 3 0 R loc_y d ∷ (entry 3 1 R loc_x e ∷ [])))))

abbrev opposite : List Entry
opposite = entries 1 0 1 0

no-write : (w r : Entry) → w ≡ r → is_write r ≡ false → is_write w ≡ true → ⊥
no-write w r e f h = let k : is_write w ≡ is_write r = ap is_write e in let z : ⊥ = cc in z

written : (w : Entry) → IsIn opposite w → is_write w ≡ true → (w ≡ write-x) ⊎ (w ≡ write-y)
written w (zero, q) h = inl (let e : w ≡ write-x = cc in e)
written w (suc zero, q) h = inr (let e : w ≡ write-y = cc in e)
written w (suc (suc zero), q) h = absurd (no-write w (entry 2 0 R loc_x 1) (let e : w ≡ entry 2 0 R loc_x 1 = cc in e) refl h)
written w (suc (suc (suc zero)), q) h = absurd (no-write w (entry 2 1 R loc_y 0) (let e : w ≡ entry 2 1 R loc_y 0 = cc in e) refl h)
written w (suc (suc (suc (suc zero))), q) h = absurd (no-write w (entry 3 0 R loc_y 1) (let e : w ≡ entry 3 0 R loc_y 1 = cc in e) refl h)
written w (suc (suc (suc (suc (suc zero)))), q) h =
    absurd (no-write w (entry 3 1 R loc_x 0) (let e : w ≡ entry 3 1 R loc_x 0 = cc in e) refl h)
written w (suc (suc (suc (suc (suc (suc n))))), q) h = let z : ⊥ = cc in absurd z

writes-one : (w : Entry) → (w ≡ write-x) ⊎ (w ≡ write-y) → w.value ≡ 1
writes-one w (inl e) = ap (λ (z : Entry). z.value) e
writes-one w (inr e) = ap (λ (z : Entry). z.value) e

not-to : (loc : ℕ) (w v : Entry) → w ≡ v → writes_to loc v ≡ false → writes_to loc w ≡ true → ⊥
not-to loc w v e f h = let k : writes_to loc w ≡ writes_to loc v = ap (writes_to loc) e in let z : ⊥ = cc in z

only-x : (w : Entry) → writes_to 0 w ≡ true → (w ≡ write-x) ⊎ (w ≡ write-y) → w ≡ write-x
only-x w h (inl e) = e
only-x w h (inr e) = absurd (not-to 0 w write-y e refl h)

only-y : (w : Entry) → writes_to 1 w ≡ true → (w ≡ write-x) ⊎ (w ≡ write-y) → w ≡ write-y
only-y w h (inl e) = absurd (not-to 1 w write-x e refl h)
only-y w h (inr e) = e

-- a read of 1 reads from the one write to its location
reads-one : (c : Candidate) → IsAllowed independent c → events independent c ≡ opposite → (r w : Entry) → IsIn opposite r → is_read r ≡ true
    → r.value ≡ 1 → slice_index independent.words r.loc.0 ≡ 0
    → ((v : Entry) → writes_to r.loc.0 v ≡ true → (v ≡ write-x) ⊎ (v ≡ write-y) → v ≡ w) → ReadsFrom c w r
reads-one c a is r w i read one word only = go (c.source r) refl
  where
    returns : Returns independent c r (c.source r)
    returns = a.candidate.reads r (subst (λ xs. IsIn xs r) (sym is) i) read

    go : (s : Option Entry) → c.source r ≡ s → ReadsFrom c w r
    go None e =
        let h : Returns independent c r None = subst (Returns independent c r) e returns in
        let k : 1 ≡ 0 = sym one ∙ (h ∙ word) in
        let z : ⊥ = cc in absurd z
    go (Some v) e =
        let h : Returns independent c r (Some v) = subst (Returns independent c r) e returns in
        record { read = read; source = e ∙ ap Some (only v h.1 (written v (subst (λ xs. IsIn xs v) is h.0) (writes r.loc.0 v h.1))) }

-- a read of 0 reads the initial word, so each write to its location overwrites it
reads-none : (c : Candidate) → IsAllowed independent c → events independent c ≡ opposite → (r w : Entry) → IsIn opposite r
    → is_read r ≡ true
    → r.value ≡ 0 → IsIn opposite w → writes_to r.loc.0 w ≡ true → FromReads c r w
reads-none c a is r w i read none j h = go (c.source r) refl
  where
    returns : Returns independent c r (c.source r)
    returns = a.candidate.reads r (subst (λ xs. IsIn xs r) (sym is) i) read

    go : (s : Option Entry) → c.source r ≡ s → FromReads c r w
    go None e = record {
      read = read;
      overwritten =
          subst (λ s. StandsAfter (c.coherence r.loc.0) s w) (sym e)
          (a.candidate.writes r.loc.0 w (subst (λ xs. IsIn xs w) (sym is) j) h);
    }
    go (Some v) e =
        let k : Returns independent c r (Some v) = subst (Returns independent c r) e returns in
        let one : v.value ≡ 1 = writes-one v (written v (subst (λ xs. IsIn xs v) is k.0) (writes r.loc.0 v k.1)) in
        let q : 0 ≡ 1 = sym none ∙ (k.2 ∙ one) in
        let z : ⊥ = cc in absurd z

never-opposite : (c : Candidate) → IsAllowed independent c → events independent c ≡ opposite → ⊥
never-opposite c a is =
    a.global write-x
    (onward write-x (entry 2 0 R loc_x 1) write-x (here write-x (0, refl))
    (rfe write-x (entry 2 0 R loc_x 1) (reads-one c a is (entry 2 0 R loc_x 1) write-x (2, refl) refl refl refl (λ v h k. only-x v h k))
    (λ same. let z : ⊥ = cc in z))
    (onward (entry 2 0 R loc_x 1) (entry 2 1 R loc_y 0) write-x (here (entry 2 0 R loc_x 1) (2, refl))
    (read_before_access (entry 2 0 R loc_x 1) (entry 2 1 R loc_y 0) refl refl refl)
    (onward (entry 2 1 R loc_y 0) write-y write-x (here (entry 2 1 R loc_y 0) (3, refl))
    (fr (entry 2 1 R loc_y 0) write-y (reads-none c a is (entry 2 1 R loc_y 0) write-y (3, refl) refl refl (1, refl) refl))
    (onward write-y (entry 3 0 R loc_y 1) write-x (here write-y (1, refl))
    (rfe write-y (entry 3 0 R loc_y 1) (reads-one c a is (entry 3 0 R loc_y 1) write-y (4, refl) refl refl refl (λ v h k. only-y v h k))
    (λ same. let z : ⊥ = cc in z))
    (onward (entry 3 0 R loc_y 1) (entry 3 1 R loc_x 0) write-x (here (entry 3 0 R loc_y 1) (4, refl))
    (read_before_access (entry 3 0 R loc_y 1) (entry 3 1 R loc_x 0) refl refl refl)
    (at_once (entry 3 1 R loc_x 0) write-x (here (entry 3 1 R loc_x 0) (5, refl)) (here write-x (0, refl))
    (fr (entry 3 1 R loc_x 0) write-x (reads-none c a is (entry 3 1 R loc_x 0) write-x (5, refl) refl refl (0, refl) refl))))))))
  where
    here : (x : Entry) → IsIn opposite x → IsIn (events independent c) x
    here x i = subst (λ xs. IsIn xs x) (sym is) i

-- the registers tell what the readers read
abbrev after-reading : (a b : ℕ) → List ℕ
after-reading a b = a ∷ (b ∷ (0 ∷ (0 ∷ (0 ∷ (0 ∷ [])))))

told : (a b d e : ℕ) → zeros ∷ (zeros ∷ (after-reading a b ∷ (after-reading d e ∷ []))) ≡ opposite_registers → entries a b d e ≡ opposite
told a b d e h =
    let p : a ≡ 1 = cc in
    let q : b ≡ 0 = cc in
    let r : d ≡ 1 = cc in
    let s : e ≡ 0 = cc in
    ap (λ n. entries n b d e) p ∙ (ap (λ n. entries 1 n d e) q ∙ (ap (λ n. entries 1 0 n e) r ∙ ap (λ n. entries 1 0 1 n) s))

pub no-opposite-registers : (c : Candidate) → IsAllowed independent c → registers_left independent c ≡ opposite_registers → ⊥
no-opposite-registers c a h =
    let v : List ℕ = slice_index_or c.reads 2 [] in
    let w : List ℕ = slice_index_or c.reads 3 [] in
    never-opposite c a (told (slice_index v 0) (slice_index (drop 1 v) 0) (slice_index w 0) (slice_index (drop 1 w) 0) h)
