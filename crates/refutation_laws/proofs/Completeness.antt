-- Each claim has a refutation, or an allowed candidate makes it true.
use Rattle.refutation_laws.proofs.Vocabulary.{◌≡◌, ◌≤◌, ◌+◌, Bool, true, false, not, List, [], ◌∷◌, length, slice_index_or, arith, refl}
use Rattle.refutation_laws.proofs.Vocabulary.{sym, ap, ◌⊎◌, inl, inr, subst, list_any, Litmus, IsTest, AreRegisters, Claim, NamesExist}
use Rattle.refutation_laws.proofs.Vocabulary.{Entry, IsIn, Known, events_of, on_location, global_in, is_edge, is_between, Model, allows}
use Rattle.refutation_laws.proofs.Vocabulary.{Node, OnLocation, Globally, Between, FalseClaim, is_node, branches, IsRefuted, HasCandidate}
use Rattle.refutation_laws.proofs.Vocabulary.{Ordered, IsFull, NoneBetween}
use Rattle.refutation_laws.proofs.Tests.{any-in, any-holds}
use Rattle.refutation_laws.proofs.Composing.{HasTrees, EachHasOne, has-tree}
use Rattle.refutation_laws.proofs.Rows.{HasCycle, Edge, cycle-or-row}
use Rattle.refutation_laws.proofs.Asking.{Answer, all-asked}
use Rattle.refutation_laws.proofs.Determined.{HaveSix}
use Rattle.refutation_laws.proofs.Settling.{is-event, IsOpen, own_candidate}
use Rattle.refutation_laws.proofs.Allowing.{is-allowed}
use Rattle.refutation_laws.proofs.Exactness.{claim-exact}

-- ---- a write between the parts of a locked instruction, among these events

record IsThere (t : Litmus) (k : Known) : Type 0 where
  read : Entry
  between : Entry
  write : Entry
  is : is_between t k read between write ≡ true

none-any : (p : Entry → Bool) (xs : List Entry) (x : Entry) → list_any p xs ≡ false → IsIn xs x → p x ≡ true → ⊥
none-any p xs x h i q = let e : list_any p xs ≡ true = any-in p xs x i q in let z : ⊥ = cc in z

between-or-none : (t : Litmus) (k : Known) → IsThere t k ⊎ NoneBetween t k
between-or-none t k = go (list_any (λ r. list_any (λ v. list_any (λ w. is_between t k r v w) (events_of t)) (events_of t)) (events_of t)) refl
  where
    go : (b : Bool) → list_any (λ r. list_any (λ v. list_any (λ w. is_between t k r v w) (events_of t)) (events_of t)) (events_of t) ≡ b
        → IsThere t k ⊎ NoneBetween t k
    go true q =
        let r = any-holds (λ r. list_any (λ v. list_any (λ w. is_between t k r v w) (events_of t)) (events_of t)) (events_of t) q in
        let v = any-holds (λ v. list_any (λ w. is_between t k r.entry v w) (events_of t)) (events_of t) r.holds in
        let w = any-holds (λ w. is_between t k r.entry v.entry w) (events_of t) v.holds in
        inl (record { read = r.entry; between = v.entry; write = w.entry; is = w.holds })
    go false q = inr (λ r v w i j l h.
        none-any (λ r. list_any (λ v. list_any (λ w. is_between t k r v w) (events_of t)) (events_of t)) (events_of t) r q i
        (any-in (λ v. list_any (λ w. is_between t k r v w) (events_of t)) (events_of t) v j
        (any-in (λ w. is_between t k r v w) (events_of t) w l h)))

-- ---- a full case: one of the four leaves, or its candidate

module _ (model : Model) (t : Litmus) (claim : Claim) (names : NamesExist (length t.programs) (length t.words) claim)
    (six : HaveSix 0 (length t.programs) t.registers) where
  leaf : (k : Known) (n : Node) → branches t k n ≡ [] → is_node model t claim k n ≡ true → HasTrees model t claim (k ∷ [])
  leaf k n e h = has-tree model t claim k n h (subst (EachHasOne model t claim) (sym e) tt)

  by-claim : (k : Known) (o : IsOpen model t k) → NoneBetween t k → (b : Bool) → allows t k claim true ≡ b → Answer model t claim (HasCandidate model t claim) k
  by-claim k o none true q =
      inr (record { candidate = own_candidate model t k o; allowed = is-allowed model t k o none; holds = claim-exact model t k o claim names true q })
  by-claim k o none false q = inl (leaf k FalseClaim refl (ap not q))

  by-parts : (k : Known) → IsOpen model t k → IsThere t k ⊎ NoneBetween t k → Answer model t claim (HasCandidate model t claim) k
  by-parts k o (inl b) = inl (leaf k (Between b.read b.between b.write) refl b.is)
  by-parts k o (inr none) = by-claim k o none (allows t k claim true) refl

  by-ghb : (k : Known) → IsFull t k → Ordered (Edge (is_edge t k on_location)) (events_of t)
      → HasCycle t (is_edge t k (global_in model)) ⊎ Ordered (Edge (is_edge t k (global_in model))) (events_of t)
      → Answer model t claim (HasCandidate model t claim) k
  by-ghb k f l (inl c) = inl (leaf k (Globally c.cycle) refl c.is_cycle)
  by-ghb k f l (inr g) =
      by-parts k (record { full = f; six = six; within_locations = l; globally = g }) (between-or-none t k)

  by-uniproc : (k : Known) → IsFull t k → HasCycle t (is_edge t k on_location) ⊎ Ordered (Edge (is_edge t k on_location)) (events_of t)
      → Answer model t claim (HasCandidate model t claim) k
  by-uniproc k f (inl c) = inl (leaf k (OnLocation c.cycle) refl c.is_cycle)
  by-uniproc k f (inr l) = by-ghb k f l (cycle-or-row t (is_edge t k (global_in model)) (is-event t))

  full-answer : (k : Known) → IsFull t k → Answer model t claim (HasCandidate model t claim) k
  full-answer k f = by-uniproc k f (cycle-or-row t (is_edge t k on_location) (is-event t))

  -- the theorem
  pub refuted-or-candidate : IsRefuted model t claim ⊎ HasCandidate model t claim
  refuted-or-candidate = elim (all-asked model t claim (HasCandidate model t claim) full-answer) [
    | inl h ↦ inl (record { nodes = h.nodes; refuted = h.closed })
    | inr m ↦ inr m
  ]

-- a test has six registers on each core
pub six-of : (t : Litmus) → IsTest t → HaveSix 0 (length t.programs) t.registers
six-of t test i l =
    let g = test.registers_given in
    let z : i ≡ 0 + i = omega arith in
    let r : AreRegisters (slice_index_or t.registers i []) = test.values.registers i [] (omega (arith, l, g)) in
    let s = r.six in
    subst (λ n. 6 ≤ length (slice_index_or t.registers n [])) z (omega (arith, s))
