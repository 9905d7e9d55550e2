-- An eager choice of a core beside another choice of the same core.
use Rattle.tso_laws.proofs.EagerVocabulary.{◌≡◌, ◌≢◌, ◌<◌, ℕ, ◌+◌, zero, suc, List, [], ◌∷◌, ◌++◌, Bool, true, false, Some, length}
use Rattle.tso_laws.proofs.EagerVocabulary.{slice_get, slice_set, slice_index, arith, ap, sym, ◌∙◌, refl, ◌==◌, ◌&&◌, nat_lt, if◌then◌else◌}
use Rattle.tso_laws.proofs.EagerVocabulary.{get_or-set_same, get_or-set_other, nat_tests, filter, action_of, Litmus, last_value, is_write}
use Rattle.tso_laws.proofs.EagerVocabulary.{writes_to, entry, value_of, with_value, CoreState, State, Effect, idle, program_of, core_of}
use Rattle.tso_laws.proofs.EagerVocabulary.{effect_by, step_of, drain_of, applied, after_choice, stored, step, drain, W, Instr, Action}
use Rattle.tso_laws.proofs.EagerVocabulary.{Store, Load, Move, Entry, cases_Bool, inl, inr}
use Rattle.tso_laws.proofs.Places.{set-set-same, Silent, silent-same, put}
use Rattle.tso_laws.proofs.Avoiding.{holding, drained, buffered}

-- ---- a step that does the same whether the oldest pending store is drained before it or after it

-- f is the step of core s before the drain of p, and g after it, when ps are left
pub record Slides (s : CoreState) (p : Entry) (f g : Effect) : Type 0 where
  pub later : List Entry
  pub front : f.after.pending ≡ p ∷ later
  pub after : g.after ≡ holding f.after later
  pub silent : Silent f.commits
  pub silent_too : Silent g.commits

loads-same : (memory : List ℕ) (p : Entry) (ps : List Entry) (l : ℕ) → l < length memory
    → last_value (filter (writes_to l) (p ∷ ps)) (slice_index memory l) ≡ last_value (filter (writes_to l) ps) (slice_index (put p memory) l)
loads-same memory p ps l h = go (is_write p) (p.loc.0 == l) refl
  where
    go : (b e : Bool) → (p.loc.0 == l) ≡ e
        → last_value (if (b && e) then p ∷ filter (writes_to l) ps else filter (writes_to l) ps) (slice_index memory l)
        ≡ last_value (filter (writes_to l) ps) (slice_index (if b then slice_set memory p.loc.0 p.value else memory) l)
    go false e q = refl
    go true true q =
        let z : p.loc.0 ≡ l = grind (arith, nat_tests) in
        ap (λ w. last_value (filter (writes_to l) ps) w) (sym (rw z (get_or-set_same memory l p.value 0 h)))
    go true false q =
        let z : p.loc.0 ≢ l = grind (arith, nat_tests) in
        ap (λ w. last_value (filter (writes_to l) ps) w) (sym (get_or-set_other memory p.loc.0 l p.value 0 (λ y. z (sym y))))

pub drain-is : (s : CoreState) (p : Entry) (ps : List Entry) → s.pending ≡ p ∷ ps → drain_of s ≡ drained s p ps
drain-is s p ps q = ap go q
  where
    go : List Entry → Effect
    go xs = drain_of (holding s xs)

pub store-room : (n : ℕ) (s : CoreState) (e : Entry) → length s.pending < n → stored n s e ≡ buffered s e
store-room zero s e l = absurd (let z : ⊥ = omega (arith, l) in z)
store-room (suc n) s e l = elim (cases_Bool (nat_lt (length s.pending) (suc n))) [
  | inl q ↦ rw q refl
  | inr q ↦ absurd (let z : ⊥ = grind (arith, nat_tests, l, q) in z)
]

-- the actions that don't wait for the pending stores
abbrev pub Goes : ℕ → List ℕ → CoreState → Action → Type 0
Goes d memory s (Store loc operand) = length s.pending < d
Goes d memory s (Load reg loc) = loc.0 < length memory
Goes d memory s (Move change) = Unit {0}
Goes d memory s _ = ⊥

slides : (d k : ℕ) (memory : List ℕ) (a : Action) (s : CoreState) (p : Entry) (ps : List Entry) → s.pending ≡ p ∷ ps → Goes d memory s a
    → Slides s p (effect_by d memory k a s) (effect_by d (put p memory) k a (holding s ps))
slides d k memory (Store loc operand) s p ps q h =
    let e : Entry = entry k s.place W loc (value_of s.registers operand) in
    let n = ap length q in
    rw (store-room d s e h, store-room d (holding s ps) e (let z : length ps < d = omega (arith, n, h) in z))
    (let z : Slides s p (buffered s e) (buffered (holding s ps) e) =
    record { later = ps ++ e ∷ []; front = ap (λ z. z ++ e ∷ []) q; after = refl; silent = tt; silent_too = tt } in
    z)
slides d k memory (Load reg loc) s p ps q h = record {
  later = ps;
  front = q;
  after = ap (λ v. record { place = s.place + 1; registers = with_value s.registers reg v; pending = ps })
      (sym (ap (λ z. last_value (filter (writes_to loc.0) z) (slice_index memory loc.0)) q ∙ loads-same memory p ps loc.0 h));
  silent = (refl, tt);
  silent_too = (refl, tt);
}
slides d k memory (Move change) s p ps q h = record { later = ps; front = q; after = refl; silent = tt; silent_too = tt }
slides d k memory _ s p ps q h = absurd h

-- a step and a drain of one core, at an instruction that doesn't wait
module _ (d : ℕ) (t : Litmus) (s : State) (k : ℕ) (x : Instr) (p : Entry) (ps : List Entry)
    (present : k < length s.cores)
    (at : slice_get (program_of t k) (core_of s k).place ≡ Some x)
    (q : (core_of s k).pending ≡ p ∷ ps)
    (h : Goes d s.memory (core_of s k) (action_of x)) where
  abbrev stepped : Effect
  stepped = effect_by d s.memory k (action_of x) (core_of s k)

  abbrev stepped_after : Effect
  stepped_after = effect_by d (put p s.memory) k (action_of x) (holding (core_of s k) ps)

  slid : Slides (core_of s k) p stepped stepped_after
  slid = slides d k s.memory (action_of x) (core_of s k) p ps q h

  pub after-drain : after_choice t d s (drain k) ≡ applied s k (drained (core_of s k) p ps)
  after-drain = ap (λ f. applied s k f) (drain-is (core_of s k) p ps q)

  pub core-drained : core_of (after_choice t d s (drain k)) k ≡ holding (core_of s k) ps
  core-drained = ap (λ z. core_of z k) after-drain ∙ get_or-set_same s.cores k (holding (core_of s k) ps) idle present

  pub after-step : after_choice t d s (step k) ≡ applied s k stepped
  after-step = ap (λ i. applied s k (step_of d s.memory k i (core_of s k))) at

  pub core-stepped : core_of (after_choice t d s (step k)) k ≡ stepped.after
  core-stepped = ap (λ z. core_of z k) after-step ∙ get_or-set_same s.cores k stepped.after idle present

  step-second : after_choice t d (after_choice t d s (drain k)) (step k) ≡ record { memory = put p s.memory; cores = slice_set s.cores k stepped_after.after }
  step-second =
      let z : State = applied s k (drained (core_of s k) p ps) in
      ap (λ y. after_choice t d y (step k)) after-drain
      ∙ ap (λ c. applied z k (step_of d z.memory k (slice_get (program_of t k) c.place) c)) (get_or-set_same s.cores k (holding (core_of s k) ps) idle present)
      ∙ ap (λ i. applied z k (step_of d z.memory k i (holding (core_of s k) ps))) at
      ∙ pair-is _ _ _ _ (silent-same stepped_after.commits z.memory slid.silent_too) (set-set-same s.cores k (holding (core_of s k) ps) stepped_after.after)
    where
      pair-is : (m n : List ℕ) (cs ds : List CoreState)
          → m ≡ n
          → cs ≡ ds
          → record { memory = m; cores = cs } ≡ (let z : State = record { memory = n; cores = ds } in z)
      pair-is m n cs ds p q = rw (p, q) refl

  drain-second : after_choice t d (after_choice t d s (step k)) (drain k) ≡ record { memory = put p s.memory; cores = slice_set s.cores k stepped_after.after }
  drain-second =
      let z : State = applied s k stepped in
      ap (λ y. after_choice t d y (drain k)) after-step
      ∙ ap (λ c. applied z k (drain_of c)) (get_or-set_same s.cores k stepped.after idle present)
      ∙ ap (λ f. applied z k f) (drain-is stepped.after p slid.later slid.front)
      ∙ pair-is _ _ _ _ (ap (put p) (silent-same stepped.commits s.memory slid.silent))
      (set-set-same s.cores k stepped.after (holding stepped.after slid.later) ∙ ap (λ c. slice_set s.cores k c) (sym slid.after))
    where
      pair-is : (m n : List ℕ) (cs ds : List CoreState)
          → m ≡ n
          → cs ≡ ds
          → record { memory = m; cores = cs } ≡ (let z : State = record { memory = n; cores = ds } in z)
      pair-is m n cs ds p q = rw (p, q) refl

  pub either-way : after_choice t d (after_choice t d s (drain k)) (step k) ≡ after_choice t d (after_choice t d s (step k)) (drain k)
  either-way = step-second ∙ sym drain-second

  pub front-stepped : (later : List Entry) × ((core_of (after_choice t d s (step k)) k).pending ≡ p ∷ later)
  front-stepped = (slid.later, ap (λ c. c.pending) core-stepped ∙ slid.front)
