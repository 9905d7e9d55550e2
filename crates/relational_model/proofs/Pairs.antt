-- The two parts of a locked instruction: each has the other.
use Rattle.relational_model.proofs.Vocabulary.{◌≡◌, ℕ, ◌+◌, List, [], ◌∷◌, ◌++◌, slice_index, slice_index_or, refl, sym, ap, ◌∙◌, ◌⊎◌, inl}
use Rattle.relational_model.proofs.Vocabulary.{inr, subst, action_of, entry, fence, value_in, value_of, updated, entries_by, registers_by}
use Rattle.relational_model.proofs.Vocabulary.{values_after, entries_of, Litmus, Instr, Action, Store, Load, Move, Fence, Lock, Entry, R, W}
use Rattle.relational_model.proofs.Vocabulary.{LR, LW, IsIn, Candidate, events_from, events, ArePair}
use Rattle.relational_model.proofs.Lists.{in-case, in-none, in-append, in-left, in-right}
use Rattle.relational_model.proofs.Same.{only}

pub record HasStore (xs : List Entry) (r : Entry) : Type 0 where
  pub other : Entry
  pub inside : IsIn xs other
  pub pair : ArePair r other
  pub location : r.loc.0 ≡ other.loc.0

pub record HasLoad (xs : List Entry) (w : Entry) : Type 0 where
  pub other : Entry
  pub inside : IsIn xs other
  pub pair : ArePair other w

abbrev pub Coupled : List Entry → Entry → Type 0
Coupled xs x = (x.kind ≡ LR → HasStore xs x) × (x.kind ≡ LW → HasLoad xs x)

lift : (xs ys : List Entry) (x : Entry) → ((y : Entry) → IsIn xs y → IsIn ys y) → Coupled xs x → Coupled ys x
lift xs ys x f h = (
  λ k. let m = h.0 k in record { other = m.other; inside = f m.other m.inside; pair = m.pair; location = m.location },
  λ k. let m = h.1 k in record { other = m.other; inside = f m.other m.inside; pair = m.pair },
)

plain : (e : Entry) (xs : List Entry) (x : Entry) → (e.kind ≡ LR → ⊥) → (e.kind ≡ LW → ⊥) → IsIn (e ∷ []) x → Coupled xs x
plain e xs x a b i =
    let k : x.kind ≡ e.kind = ap (λ (z : Entry). z.kind) (only e x i) in
    ((λ q. absurd (a (sym k ∙ q))), (λ q. absurd (b (sym k ∙ q))))

coupled-by : (core place : ℕ) (a : Action) (registers : List ℕ) (word : ℕ) (x : Entry) → IsIn (entries_by core place a registers word) x
    → Coupled (entries_by core place a registers word) x
coupled-by core place (Store loc operand) registers word x i =
    plain (entry core place W loc (value_of registers operand)) _ x (λ q. let z : ⊥ = cc in z) (λ q. let z : ⊥ = cc in z) i
coupled-by core place (Load reg loc) registers word x i =
    plain (entry core place R loc word) _ x (λ q. let z : ⊥ = cc in z) (λ q. let z : ⊥ = cc in z) i
coupled-by core place (Move change) registers word x i = absurd (in-none x i)
coupled-by core place Fence registers word x i = plain (fence core place) _ x (λ q. let z : ⊥ = cc in z) (λ q. let z : ⊥ = cc in z) i
coupled-by core place (Lock loc reg update) registers word x i = go (in-case first (second ∷ []) x i)
  where
    first : Entry
    first = entry core place LR loc word

    second : Entry
    second = entry core place LW loc (updated update registers word)

    pair : ArePair first second
    pair = record { read = refl; write = refl; core = refl; place = refl }

    of-first : Coupled (first ∷ (second ∷ [])) first
    of-first = ((λ k. record { other = second; inside = (1, refl); pair = pair; location = refl }), (λ k. let z : ⊥ = cc in absurd z))

    of-second : Coupled (first ∷ (second ∷ [])) second
    of-second = ((λ k. let z : ⊥ = cc in absurd z), (λ k. record { other = first; inside = (0, refl); pair = pair }))

    go : (x ≡ first) ⊎ IsIn (second ∷ []) x → Coupled (first ∷ (second ∷ [])) x
    go (inl q) = subst (Coupled (first ∷ (second ∷ []))) (sym q) of-first
    go (inr j) = subst (Coupled (first ∷ (second ∷ []))) (sym (only second x j)) of-second

coupled-of : (core place : ℕ) (p : List Instr) (registers values : List ℕ) (x : Entry) → IsIn (entries_of core place p registers values) x
    → Coupled (entries_of core place p registers values) x
coupled-of core place [] registers values x i = absurd (in-none x i)
coupled-of core place (s ∷ p) registers values x i = elim (in-append first rest x i) [
  | inl a ↦ lift first (first ++ rest) x (λ y j. in-left first rest y j) (coupled-by core place (action_of s) registers (slice_index values 0) x a)
  | inr b ↦
      lift rest (first ++ rest) x (λ y j. in-right first rest y j)
      (coupled-of core (place + 1) p (registers_by (action_of s) registers (slice_index values 0)) (values_after (action_of s) values) x b)
]
  where
    first : List Entry
    first = entries_by core place (action_of s) registers (slice_index values 0)

    rest : List Entry
    rest = entries_of core (place + 1) p (registers_by (action_of s) registers (slice_index values 0)) (values_after (action_of s) values)

coupled-from : (core : ℕ) (ps : List (List Instr)) (registers reads : List (List ℕ)) (x : Entry)
    → IsIn (events_from core ps registers reads) x
    → Coupled (events_from core ps registers reads) x
coupled-from core [] registers reads x i = absurd (in-none x i)
coupled-from core (p ∷ ps) registers reads x i = elim (in-append first rest x i) [
  | inl a ↦
      lift first (first ++ rest) x (λ y j. in-left first rest y j)
      (coupled-of core 0 p (slice_index_or registers core []) (slice_index_or reads core []) x a)
  | inr b ↦ lift rest (first ++ rest) x (λ y j. in-right first rest y j) (coupled-from (core + 1) ps registers reads x b)
]
  where
    first : List Entry
    first = entries_of core 0 p (slice_index_or registers core []) (slice_index_or reads core [])

    rest : List Entry
    rest = events_from (core + 1) ps registers reads

-- each part of a locked instruction has the other part among the events
pub coupled : (t : Litmus) (c : Candidate) (x : Entry) → IsIn (events t c) x → Coupled (events t c) x
coupled t c x i = coupled-from 0 t.programs t.registers c.reads x i
