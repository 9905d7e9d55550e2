-- What waits until nothing is pending, and drains, by cases.
use Rattle.tso_laws.proofs.Vocabulary.{◌≡◌, List, [], ◌∷◌, take, drop, if◌then◌else◌, refl, CoreState, Effect, is_none_pending, stalled}
use Rattle.tso_laws.proofs.Vocabulary.{when_drained, drain_of, Entry, Stall, Committed}
use Rattle.tso_terms.specs.declared.choice.Stall.TheVariants as stall

pub waits-or-acts : (P : Effect → Type 0) (why : Stall) (s : CoreState) (f : Effect) → (s.pending ≡ [] → P f) → P (stalled why s) → P (when_drained why s f)
waits-or-acts P why s f acts waits = go s.pending refl
  where
    go : (q : List Entry) → s.pending ≡ q → P (if is_none_pending q then f else stalled why s)
    go [] e = acts e
    go (x ∷ xs) e = waits

-- the core after a drain of x, with these pending after it
abbrev pub without : CoreState → List Entry → CoreState
without s xs = record { place = s.place; registers = s.registers; pending = xs }

pub drains : (P : Effect → Type 0) (s : CoreState) → P (stalled stall.Empty s)
    → ((x : Entry) (xs : List Entry) → s.pending ≡ x ∷ xs → P (record { outcome = Committed; after = without s xs; commits = x ∷ [] })) → P (drain_of s)
drains P s none some = go s.pending refl
  where
    go : (q : List Entry)
        → s.pending ≡ q
        → P (if is_none_pending q then stalled stall.Empty s else record { outcome = Committed; after = without s (drop 1 q); commits = take 1 q })
    go [] e = none
    go (x ∷ xs) e = some x xs e

-- with nothing pending it acts
pub acts-when : (why : Stall) (s : CoreState) (f : Effect) → s.pending ≡ [] → when_drained why s f ≡ f
acts-when why s f e = rw e refl
