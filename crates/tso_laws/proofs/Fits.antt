-- The entries of a program have its places and its locations.
use Rattle.tso_laws.proofs.Vocabulary.{◌≡◌, ◌≢◌, ◌<◌, ◌≤◌, ℕ, ◌+◌, zero, suc, List, [], ◌∷◌, Some, IfSome, length, take, slice_get}
use Rattle.tso_laws.proofs.Vocabulary.{slice_index, arith, sym, refl, subst, Litmus, IsWellFormed, KnownLocation, action_of, location_of}
use Rattle.tso_laws.proofs.Vocabulary.{entries_by, entries_of, IsWhole, StandsIn, read_values, made, made_by, program_of, Instr, Action}
use Rattle.tso_laws.proofs.Vocabulary.{Move, Fence, Lock, Entry, F, FitsTest, Each, each-append, Member}
use Rattle.tso_laws.proofs.Folds.{HasLocations}
use Rattle.tso_laws.proofs.Held.{each-of}
use Rattle.tso_laws.proofs.OrderSteps.{first_of}
use Rattle.tso_laws.proofs.NextEntry.{entries-below}
use Rattle.tso_laws.proofs.Whole.{at-member, made-at, of-core, whole-own}

abbrev Placed : ℕ → Entry → Type 0
Placed n e = (e.kind ≢ F → e.loc.0 < n) × (e.kind ≡ F → (e.loc.0 ≡ 0) × (e.value ≡ 0))

located : (n c place : ℕ) (a : Action) (registers : List ℕ) (word : ℕ)
    → IfSome (location_of a) (λ loc. loc.0 < n)
    → Each (Placed n) (entries_by c place a registers word)
located n c place (Move change) registers word l = tt
located n c place Fence registers word l = ((λ k. absurd (k refl), λ k. (refl, refl)), tt)
located n c place (Lock loc reg update) registers word l = ((λ k. l, λ k. absurd (let z : ⊥ = cc in z)), ((λ k. l, λ k. absurd (let z : ⊥ = cc in z)), tt))
located n c place _ registers word l = ((λ k. l, λ k. absurd (let z : ⊥ = cc in z)), tt)

entries-located : (n c place : ℕ) (p : List Instr) (registers values : List ℕ)
    → ((i : ℕ) (x : Instr) → slice_get p i ≡ Some x → KnownLocation n x)
    → Each (Placed n) (entries_of c place p registers values)
entries-located n c place [] registers values f = tt
entries-located n c place (i ∷ p) registers values f =
    each-append (Placed n) (entries_by c place (action_of i) registers (slice_index values 0)) _
    (located n c place (action_of i) registers (slice_index values 0) (f 0 i refl))
    (entries-located n c (place + 1) p _ _ (λ k. f (suc k)))

-- an entry that a beginning of a program makes
pub made-fits : (t : Litmus) (n : ℕ) (order : List Entry) (e : Entry) → IsWellFormed t → HasLocations t → e.core.0 < length t.programs
    → Member e (made_by e.core.0 (take n (program_of t e.core.0)) (first_of t e.core.0) order) → FitsTest t e
made-fits t n order e test known l m =
    let k : ℕ = e.core.0 in
    let p : List Instr = take n (program_of t k) in
    let a = each-of (λ e. e.place < 0 + length p) e _ (entries-below k 0 p (first_of t k) (read_values k 0 p order)) m in
    let b : Placed (length t.words) e =
    each-of (Placed (length t.words)) e _
    (entries-located (length t.words) k 0 p (first_of t k) (read_values k 0 p order) (λ i x q. known k i x (in-take n (program_of t k) i x q)))
    m in
    let s = short n (program_of t k) in
    record { core = l; place = omega (arith, a, s); location = λ f. subst (λ z. e.loc.0 < z) test.words_given (b.0 f); fence = b.1 }
  where
    short : (n : ℕ) (p : List Instr) → length (take n p) ≤ length p
    short zero p = omega arith
    short (suc n) [] = omega arith
    short (suc n) (x ∷ p) = let h = short n p in omega arith

    in-take : (n : ℕ) (p : List Instr) (i : ℕ) (x : Instr) → slice_get (take n p) i ≡ Some x → slice_get p i ≡ Some x
    in-take zero p i x q = absurd (let z : ⊥ = cc in z)
    in-take (suc n) [] i x q = q
    in-take (suc n) (y ∷ p) zero x q = q
    in-take (suc n) (y ∷ p) (suc i) x q = in-take n p i x q

take-all : (p : List Instr) → take (length p) p ≡ p
take-all [] = refl
take-all (x ∷ p) = let h = take-all p in cc

pub whole-fits : (t : Litmus) (order : List Entry) (e : Entry) → IsWellFormed t → HasLocations t → IsWhole t order → StandsIn order e → FitsTest t e
whole-fits t order e test known w m =
    let h = (whole-own t order w).in_made e (at-member order m.0 e m.1) in
    made-fits t (length (program_of t e.core.0)) order e test known h.0
    (subst (λ z. Member e (made_by e.core.0 z (first_of t e.core.0) order)) (sym (take-all (program_of t e.core.0))) h.1)

pub made-entry-fits : (t : Litmus) (order : List Entry) (e : Entry) → IsWellFormed t → HasLocations t → StandsIn (made t order) e → FitsTest t e
made-entry-fits t order e test known s =
    let h = of-core t order e (made-at 0 t.programs t.registers order e (at-member (made t order) s.0 e s.1)) in
    made-fits t (length (program_of t e.core.0)) order e test known h.0
    (subst (λ z. Member e (made_by e.core.0 z (first_of t e.core.0) order)) (sym (take-all (program_of t e.core.0))) h.1)
