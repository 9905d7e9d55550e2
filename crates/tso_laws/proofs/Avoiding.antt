-- What a core's choice writes, reads and leaves to do.
use Rattle.tso_laws.proofs.EagerVocabulary.{◌≡◌, ◌≢◌, ◌≤◌, ℕ, ◌+◌, zero, suc, List, [], ◌∷◌, ◌++◌, Bool, false, Option, Some, None, length}
use Rattle.tso_laws.proofs.EagerVocabulary.{slice_get, drop, take, arith, ap, ◌∙◌, refl, subst, ◌==◌, if◌then◌else◌, nat_lt, nat_tests}
use Rattle.tso_laws.proofs.EagerVocabulary.{action_of, CoreState, Effect, stored, when_drained, stalled, is_none_pending, effect_by}
use Rattle.tso_laws.proofs.EagerVocabulary.{step_of, drain_of, advanced, Instr, Action, Store, Load, Move, Fence, Lock, Entry, Stall}
use Rattle.tso_laws.proofs.EagerVocabulary.{Committed, Buffered, meets, Avoids, cases_Bool, inl, inr}
use Rattle.tso_terms.specs.declared.choice.Stall.TheVariants as stall
use Rattle.tso_laws.proofs.Places.{NotAt}

pub differ : (a b : ℕ) → (a == b) ≡ false → a ≢ b
differ a b q = let z : a ≢ b = grind (arith, nat_tests) in z

-- ---- what a step or a drain does, by cases

pub by-wait : (P : Effect → Type 0) (why : Stall) (s : CoreState) (f : Effect) → (s.pending ≡ [] → P f) → P (stalled why s) → P (when_drained why s f)
by-wait P why s f acts waits = go s.pending refl
  where
    go : (q : List Entry) → s.pending ≡ q → P (if is_none_pending q then f else stalled why s)
    go [] e = acts e
    go (x ∷ xs) e = waits

-- the core with these pending
abbrev pub holding : CoreState → List Entry → CoreState
holding s xs = record { place = s.place; registers = s.registers; pending = xs }

abbrev pub drained : CoreState → Entry → List Entry → Effect
drained s x xs = record { outcome = Committed; after = holding s xs; commits = x ∷ [] }

pub by-drain : (P : Effect → Type 0) (s : CoreState) → P (stalled stall.Empty s)
    → ((x : Entry) (xs : List Entry) → s.pending ≡ x ∷ xs → P (drained s x xs)) → P (drain_of s)
by-drain P s none some = go s.pending refl
  where
    go : (q : List Entry)
        → s.pending ≡ q
        → P (if is_none_pending q then stalled stall.Empty s else record { outcome = Committed; after = holding s (drop 1 q); commits = take 1 q })
    go [] e = none
    go (x ∷ xs) e = some x xs e

abbrev pub buffered : CoreState → Entry → Effect
buffered s e = record { outcome = Buffered; after = record { place = s.place + 1; registers = s.registers; pending = s.pending ++ e ∷ [] }; commits = [] }

pub by-store : (P : Effect → Type 0) (d : ℕ) (s : CoreState) (e : Entry) → P (record { outcome = Committed; after = advanced s; commits = e ∷ [] })
    → P (buffered s e) → P (stalled stall.Full s) → P (stored d s e)
by-store P zero s e now room full = now
by-store P (suc n) s e now room full = elim (cases_Bool (nat_lt (length s.pending) (suc n))) [ inl is ↦ rw is room | inr is ↦ rw is full ]

-- nothing that it writes is at a location that it avoids
action-avoids : (loads : Bool) (l d core : ℕ) (memory : List ℕ) (a : Action) (s : CoreState)
    → meets loads l a ≡ false
    → NotAt l (effect_by d memory core a s).commits
action-avoids loads l d core memory (Store loc operand) s h = by-store (λ f. NotAt l f.commits) d s _ ((λ w. differ loc.0 l h), tt) tt tt
action-avoids loads l d core memory (Load reg loc) s h = ((λ w. absurd (let z : ⊥ = cc in z)), tt)
action-avoids loads l d core memory (Move change) s h = tt
action-avoids loads l d core memory Fence s h = by-wait (λ f. NotAt l f.commits) stall.Fence s _ (λ none. ((λ w. absurd (let z : ⊥ = cc in z)), tt)) tt
action-avoids loads l d core memory (Lock loc reg update) s h =
    by-wait (λ f. NotAt l f.commits) stall.Lock s _ (λ none. ((λ w. absurd (let z : ⊥ = cc in z)), ((λ w. differ loc.0 l h), tt))) tt

pub step-avoids : (loads : Bool) (l d core : ℕ) (memory : List ℕ) (p : List Instr) (s : CoreState)
    → Avoids loads l p s
    → NotAt l (step_of d memory core (slice_get p s.place) s).commits
step-avoids loads l d core memory p s v = go (slice_get p s.place) refl
  where
    go : (i : Option Instr) → slice_get p s.place ≡ i → NotAt l (step_of d memory core i s).commits
    go None q = tt
    go (Some x) q = action-avoids loads l d core memory (action_of x) s (v.coming s.place x (omega arith) q)

pub drain-avoids : (loads : Bool) (l : ℕ) (p : List Instr) (s : CoreState) → Avoids loads l p s → NotAt l (drain_of s).commits
drain-avoids loads l p s v = by-drain (λ f. NotAt l f.commits) s tt (λ x xs q. ((λ w. v.pending 0 x (ap (λ z. slice_get z 0) q)), tt))

-- ---- it goes on avoiding it

pub further : (loads : Bool) (l : ℕ) (p : List Instr) (s r : CoreState)
    → s.place ≤ r.place
    → ((i : ℕ) (e : Entry) → slice_get r.pending i ≡ Some e → e.loc.0 ≢ l)
    → Avoids loads l p s → Avoids loads l p r
further loads l p s r n k v = record { coming = λ i x m q. v.coming i x (omega arith) q; pending = k }

append-pending : (l : ℕ) (xs : List Entry) (y : Entry) → ((i : ℕ) (e : Entry) → slice_get xs i ≡ Some e → e.loc.0 ≢ l) → y.loc.0 ≢ l
    → (i : ℕ) (e : Entry) → slice_get (xs ++ y ∷ []) i ≡ Some e → e.loc.0 ≢ l
append-pending l [] y h k zero e q = let z : y ≡ e = cc in subst (λ z. z.loc.0 ≢ l) z k
append-pending l [] y h k (suc i) e q = absurd (let z : ⊥ = cc in z)
append-pending l (x ∷ xs) y h k zero e q = h zero e q
append-pending l (x ∷ xs) y h k (suc i) e q = append-pending l xs y (λ i e r. h (suc i) e r) k i e q

action-after : (loads : Bool) (l d core : ℕ) (memory : List ℕ) (p : List Instr) (a : Action) (s : CoreState) → meets loads l a ≡ false → Avoids loads l p s
    → Avoids loads l p (effect_by d memory core a s).after
action-after loads l d core memory p (Store loc operand) s h v =
    by-store (λ f. Avoids loads l p f.after) d s _ (further loads l p s _ (omega arith) v.pending v)
    (further loads l p s _ (omega arith) (append-pending l s.pending _ v.pending (differ loc.0 l h)) v) v
action-after loads l d core memory p Fence s h v =
    by-wait (λ f. Avoids loads l p f.after) stall.Fence s _ (λ none. further loads l p s _ (omega arith) v.pending v) v
action-after loads l d core memory p (Lock loc reg update) s h v =
    by-wait (λ f. Avoids loads l p f.after) stall.Lock s _ (λ none. further loads l p s _ (omega arith) v.pending v) v
action-after loads l d core memory p _ s h v = further loads l p s _ (omega arith) v.pending v

pub step-after : (loads : Bool) (l d core : ℕ) (memory : List ℕ) (p : List Instr) (s : CoreState)
    → Avoids loads l p s
    → Avoids loads l p (step_of d memory core (slice_get p s.place) s).after
step-after loads l d core memory p s v = go (slice_get p s.place) refl
  where
    go : (i : Option Instr) → slice_get p s.place ≡ i → Avoids loads l p (step_of d memory core i s).after
    go None q = v
    go (Some x) q = action-after loads l d core memory p (action_of x) s (v.coming s.place x (omega arith) q) v

pub drain-after : (loads : Bool) (l : ℕ) (p : List Instr) (s : CoreState) → Avoids loads l p s → Avoids loads l p (drain_of s).after
drain-after loads l p s v = by-drain (λ f. Avoids loads l p f.after) s v
    (λ x xs q. further loads l p s (holding s xs) (omega arith) (λ i e r. v.pending (suc i) e (ap (λ z. slice_get z (suc i)) q ∙ r)) v)
