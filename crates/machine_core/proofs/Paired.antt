-- Where nobody holds the bus, the load parts of locked instructions have their store parts.
use Rattle.machine_core.proofs.Vocabulary.{◌≡◌, ◌≢◌, ℕ, ◌==◌, inl, inr, true, false, List, [], ◌∷◌, refl, arith, nat_tests, same_kind, Free}
use Rattle.machine_core.proofs.Vocabulary.{Entry, Kind, LR, IsAnswered, ArePaired, cases_Bool}
use Rattle.commit_order.specs.Pairs.{IsPaired, has_its_store_part}

same-number : (m n : ℕ) → m ≡ n → (m == n) ≡ true
same-number m n h = grind (arith, nat_tests, h)

other-number : (m n : ℕ) → m ≢ n → (m == n) ≡ false
other-number m n h = grind (arith, nat_tests, h)

load_kind : (k : Kind) → same_kind k LR ≡ true → k ≡ LR
load_kind LR h = refl
load_kind _ h = absurd (let z : ⊥ = cc in z)

answered-by : (x : Entry) (es : List Entry) → IsAnswered x es Free → has_its_store_part x es ≡ true
answered-by x [] h = absurd (let z : ⊥ = cc in z)
answered-by x (e ∷ es) (inl part) = rw (same-number e.core.0 x.core.0 part.core, same-number e.place x.place part.place, part.kind) refl
answered-by x (e ∷ es) (inr later) = rw (other-number e.core.0 x.core.0 later.0.core) (answered-by x es later.1)

pub paired : (commits : List Entry) → ArePaired commits Free → IsPaired commits
paired [] h = refl
paired (e ∷ es) h = elim (cases_Bool (same_kind e.kind LR)) [
  | inl q ↦ rw (q, answered-by e es (h.0 (load_kind e.kind q)), paired es h.1) refl
  | inr q ↦ rw q (paired es h.1)
]
