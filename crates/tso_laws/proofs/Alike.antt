-- States that differ in dead registers alone: a choice does the same in both.
use Rattle.tso_terms.specs.Thread.{with_taken, with_value, value_in, changed}
use Rattle.tso_laws.specs.Dead.{unless_used, before_change, before_taking}
use Rattle.basic_laws.specs.Types.{Held, Replace, Negate, CompareExchange, Change, Keep, Set, Swap}
use Rattle.tso_terms.specs.declared.action.Update.TheVariants.{Combine}
use Rattle.tso_laws.proofs.Clearing.{update-live}
use Rattle.tso_laws.proofs.EagerVocabulary.{◌≡◌, ℕ, ◌+◌, zero, suc, List, [], ◌∷◌, ◌++◌, Bool, true, false, Option, Some, None, length}
use Rattle.tso_laws.proofs.EagerVocabulary.{slice_get, slice_set, slice_index, slice_index_or, drop, arith, ap, sym, ◌∙◌, refl, subst}
use Rattle.tso_laws.proofs.EagerVocabulary.{if◌then◌else◌, nat_lt, drop-at, index_of, action_of, Litmus, entry, value_of, updated}
use Rattle.tso_laws.proofs.EagerVocabulary.{CoreState, State, Effect, idle, program_of, core_of, effect_by, step_of, drain_of, effect_of}
use Rattle.tso_laws.proofs.EagerVocabulary.{applied, after_choice, memory_after, is_none_pending, stored, stalled, when_drained, locked}
use Rattle.tso_laws.proofs.EagerVocabulary.{load_value, chosen, W, LR, LW, Instr, Action, Store, Load, Move, Fence, Lock, Entry, Choice}
use Rattle.tso_laws.proofs.EagerVocabulary.{Step, Drain, Stall, Buffered, Reg, Loc, Update, dead_before, dead_at, cleared, hidden_of}
use Rattle.tso_laws.proofs.EagerVocabulary.{forgotten_core, forgotten_cores, forgotten, AreAlike, cases_Bool, inl, inr}
use Rattle.tso_terms.specs.declared.choice.Stall.TheVariants as stall
use Rattle.tso_laws.proofs.Clearing.{clear-none, write-dead, write-any, read-live, operand-live}

-- ---- one core

-- two effects with the same outcome, the same commits, and cores after them that differ in dead registers alone
pub record Agree (p : List Instr) (hidden : List Bool) (f g : Effect) : Type 0 where
  pub outcome : f.outcome ≡ g.outcome
  pub commits : f.commits ≡ g.commits
  pub after : forgotten_core p hidden f.after ≡ forgotten_core p hidden g.after

abbrev core : ℕ → List ℕ → List Entry → CoreState
core n rs ps = record { place = n; registers = rs; pending = ps }

core-is : (s : CoreState) (n : ℕ) (ps : List Entry) → s.place ≡ n → s.pending ≡ ps → s ≡ core n s.registers ps
core-is s n ps q e = ap (λ z. core z s.registers s.pending) q ∙ ap (λ z. core n s.registers z) e

-- two cores at one place with one list of pending stores, of which the registers that aren't dead there are the same
module _ (p : List Instr) (hidden : List Bool) (n : ℕ) (ps : List Entry) (rs ss : List ℕ)
    (same : cleared (dead_at (drop n p) hidden) rs ≡ cleared (dead_at (drop n p) hidden) ss) where
  abbrev later : List Bool
  later = dead_at (drop (n + 1) p) hidden

  stays : (why : Stall) → Agree p hidden (stalled why (core n rs ps)) (stalled why (core n ss ps))
  stays why = record { outcome = refl; commits = refl; after = ap (λ z. core n z ps) same }

  store-agrees : (d : ℕ) (e f : Entry) → e ≡ f → cleared later rs ≡ cleared later ss → Agree p hidden (stored d (core n rs ps) e) (stored d (core n ss ps) f)
  store-agrees zero e f q h = record { outcome = refl; commits = ap (λ z. z ∷ []) q; after = ap (λ z. core (n + 1) z ps) h }
  store-agrees (suc d) e f q h = go (nat_lt (length ps) (suc d))
    where
      both : {rs ss : List ℕ} {xs ys : List Entry} → rs ≡ ss → xs ≡ ys → core (n + 1) rs xs ≡ core (n + 1) ss ys
      both u v = rw (u, v) refl

      go : (b : Bool) → Agree p hidden
          (if b then record { outcome = Buffered; after = core (n + 1) rs (ps ++ e ∷ []); commits = [] } else stalled stall.Full (core n rs ps))
          (if b then record { outcome = Buffered; after = core (n + 1) ss (ps ++ f ∷ []); commits = [] } else stalled stall.Full (core n ss ps))
      go true = record { outcome = refl; commits = refl; after = both h (ap (λ z. ps ++ z ∷ []) q) }
      go false = stays stall.Full

  waits-agree : (why : Stall) (f g : Effect) → Agree p hidden f g → Agree p hidden (when_drained why (core n rs ps) f) (when_drained why (core n ss ps) g)
  waits-agree why f g h = elim (cases_Bool (is_none_pending ps)) [ inl is ↦ rw is h | inr is ↦ rw is (stays why) ]

  takes : (target : Option Reg) (word : ℕ) → cleared (before_taking target later) rs ≡ cleared (before_taking target later) ss
      → cleared later (with_taken rs target word) ≡ cleared later (with_taken ss target word)
  takes None word h = h
  takes (Some reg) word h = write-dead later rs ss (index_of reg) word h

  lock-agrees : (k : ℕ) (loc : Loc) (target : Option Reg) (word v w : ℕ)
      → v ≡ w
      → cleared (before_taking target later) rs ≡ cleared (before_taking target later) ss
      → Agree p hidden (locked k (core n rs ps) loc target word v) (locked k (core n ss ps) loc target word w)
  lock-agrees k loc target word v w q h =
      waits-agree stall.Lock _ _ (record {
        outcome = refl;
        commits = ap (λ z. entry k n LR loc word ∷ (entry k n LW loc z ∷ [])) q;
        after = ap (λ z. core (n + 1) z ps) (takes target word h);
      })

  -- a move whose update reads the register's own value
  keeps : (update : Update) (reg : Reg)
      → cleared (unless_used update (slice_set later (index_of reg) false)) rs
      ≡ cleared (unless_used update (slice_set later (index_of reg) false)) ss
      → cleared later (changed (Set reg update) rs) ≡ cleared later (changed (Set reg update) ss)
  keeps update reg h =
      let w = update-live update (slice_set later (index_of reg) false) rs ss h in
      let r = read-live later rs ss (index_of reg) w.1 in
      write-any later rs ss (index_of reg) (updated update rs (value_in rs reg)) r.1
      ∙ ap (λ v. cleared later (slice_set ss (index_of reg) v)) (w.0 (value_in rs reg) ∙ ap (λ z. updated update ss z) r.0)

  sets : (update : Update) (reg : Reg) → cleared (before_change (Set reg update) later) rs ≡ cleared (before_change (Set reg update) later) ss
      → cleared later (changed (Set reg update) rs) ≡ cleared later (changed (Set reg update) ss)
  sets (Replace operand) reg h =
      let w = operand-live operand (slice_set later (index_of reg) true) rs ss h in
      write-dead later rs ss (index_of reg) (value_of rs operand) w.1 ∙ ap (λ v. cleared later (slice_set ss (index_of reg) v)) w.0
  sets (Combine operator operand) reg h = keeps (Combine operator operand) reg h
  sets Negate reg h = keeps Negate reg h
  sets (CompareExchange other) reg h = keeps (CompareExchange other) reg h

  changes : (change : Change)
      → cleared (before_change change later) rs ≡ cleared (before_change change later) ss
      → cleared later (changed change rs) ≡ cleared later (changed change ss)
  changes Keep h = h
  changes (Set reg update) h = sets update reg h
  changes (Swap reg other) h =
      let a = operand-live (Held other) (slice_set later (index_of reg) false) rs ss h in
      let b = operand-live (Held reg) later rs ss a.1 in
      write-any later (slice_set rs (index_of reg) (value_in rs other)) (slice_set ss (index_of reg) (value_in rs other)) (index_of other) (value_in rs reg)
      (write-any later rs ss (index_of reg) (value_in rs other) b.1)
      ∙ (ap (λ v. cleared later (slice_set (slice_set ss (index_of reg) v) (index_of other) (value_in rs reg))) a.0
      ∙ ap (λ v. cleared later (slice_set (slice_set ss (index_of reg) (value_in ss other)) (index_of other) v)) b.0)

  by-action : (d k : ℕ) (memory : List ℕ) (a : Action) → cleared (dead_before a later) rs ≡ cleared (dead_before a later) ss
      → Agree p hidden (effect_by d memory k a (core n rs ps)) (effect_by d memory k a (core n ss ps))
  by-action d k memory (Store loc operand) h =
      let w = operand-live operand later rs ss h in store-agrees d _ _ (ap (λ v. entry k n W loc v) w.0) w.1
  by-action d k memory (Load reg loc) h =
      record {
        outcome = refl;
        commits = refl;
        after =
            ap (λ z. core (n + 1) z ps) (write-dead later rs ss (index_of reg) (load_value memory (core n rs ps) loc.0) h);
      }
  by-action d k memory (Move change) h =
      record { outcome = refl; commits = refl; after = ap (λ z. core (n + 1) z ps) (changes change h) }
  by-action d k memory Fence h =
      waits-agree stall.Fence _ _ (record { outcome = refl; commits = refl; after = ap (λ z. core (n + 1) z ps) h })
  by-action d k memory (Lock loc reg update) h =
      let w = update-live update (before_taking reg later) rs ss h in lock-agrees k loc reg (slice_index memory loc.0) _ _ (w.0 (slice_index memory loc.0)) w.1

  step-agrees : (d k : ℕ) (memory : List ℕ)
      → Agree p hidden (step_of d memory k (slice_get p n) (core n rs ps)) (step_of d memory k (slice_get p n) (core n ss ps))
  step-agrees d k memory = go (slice_get p n) refl
    where
      go : (i : Option Instr) → slice_get p n ≡ i → Agree p hidden (step_of d memory k i (core n rs ps)) (step_of d memory k i (core n ss ps))
      go None q = stays stall.Done
      go (Some x) q = by-action d k memory (action_of x) (subst (λ z. cleared (dead_at z hidden) rs ≡ cleared (dead_at z hidden) ss) (drop-at p n x q) same)

  drain-agrees : Agree p hidden (drain_of (core n rs ps)) (drain_of (core n ss ps))
  drain-agrees = go ps refl
    where
      go : (xs : List Entry) → ps ≡ xs → Agree p hidden (drain_of (core n rs xs)) (drain_of (core n ss xs))
      go [] q = record { outcome = refl; commits = refl; after = ap (λ z. core n z []) same }
      go (x ∷ xs) q = record { outcome = refl; commits = refl; after = ap (λ z. core n z xs) same }

-- ---- the same of any two cores that are alike

module _ (p : List Instr) (hidden : List Bool) (s r : CoreState) (h : forgotten_core p hidden s ≡ forgotten_core p hidden r) where
  pub place-same : s.place ≡ r.place
  place-same = ap (λ z. z.place) h

  pub pending-same : s.pending ≡ r.pending
  pending-same = ap (λ z. z.pending) h

  r-is : r ≡ core s.place r.registers s.pending
  r-is = core-is r s.place s.pending (sym place-same) (sym pending-same)

  cleared-same : cleared (dead_at (drop s.place p) hidden) s.registers ≡ cleared (dead_at (drop s.place p) hidden) r.registers
  cleared-same = ap (λ z. z.registers) h ∙ ap (λ n. cleared (dead_at (drop n p) hidden) r.registers) (sym place-same)

  pub steps-agree : (d k : ℕ) (memory : List ℕ) → Agree p hidden (step_of d memory k (slice_get p s.place) s) (step_of d memory k (slice_get p r.place) r)
  steps-agree d k memory =
      subst (λ z. Agree p hidden (step_of d memory k (slice_get p s.place) s) (step_of d memory k (slice_get p z.place) z)) (sym r-is)
      (step-agrees p hidden s.place s.pending s.registers r.registers cleared-same d k memory)

  pub drains-agree : Agree p hidden (drain_of s) (drain_of r)
  drains-agree =
      subst (λ z. Agree p hidden (drain_of s) (drain_of z)) (sym r-is)
      (drain-agrees p hidden s.place s.pending s.registers r.registers cleared-same)

-- ---- states

cores-at : (t : Litmus) (hidden : List (List Bool)) (ss : List CoreState) (n k : ℕ)
    → slice_index_or (forgotten_cores t hidden n ss) k idle ≡ forgotten_core (program_of t (n + k)) (hidden_of hidden (n + k)) (slice_index_or ss k idle)
cores-at t hidden [] n k = ap (λ z. core 0 z []) (sym (clear-none (dead_at (drop 0 (program_of t (n + k))) (hidden_of hidden (n + k)))))
cores-at t hidden (s ∷ ss) n zero = let q : n ≡ n + 0 = omega arith in ap (λ j. forgotten_core (program_of t j) (hidden_of hidden j) s) q
cores-at t hidden (s ∷ ss) n (suc k) =
    let q : (n + 1) + k ≡ n + suc k = omega arith in
    cores-at t hidden ss (n + 1) k ∙ ap (λ j. forgotten_core (program_of t j) (hidden_of hidden j) (slice_index_or ss k idle)) q

pub core-at : (t : Litmus) (hidden : List (List Bool)) (s : State) (k : ℕ)
    → core_of (forgotten t hidden s) k ≡ forgotten_core (program_of t k) (hidden_of hidden k) (core_of s k)
core-at t hidden s k =
    cores-at t hidden s.cores 0 k
    ∙ (let q : 0 + k ≡ k =
    omega arith in ap (λ j. forgotten_core (program_of t j) (hidden_of hidden j) (core_of s k)) q)

cores-set : (t : Litmus) (hidden : List (List Bool)) (ss : List CoreState) (n k : ℕ) (c : CoreState)
    → forgotten_cores t hidden n (slice_set ss k c)
    ≡ slice_set (forgotten_cores t hidden n ss) k (forgotten_core (program_of t (n + k)) (hidden_of hidden (n + k)) c)
cores-set t hidden [] n k c = refl
cores-set t hidden (s ∷ ss) n zero c =
    let q : n ≡ n + 0 = omega arith in ap (λ j. forgotten_core (program_of t j) (hidden_of hidden j) c ∷ forgotten_cores t hidden (n + 1) ss) q
cores-set t hidden (s ∷ ss) n (suc k) c =
    let q : (n + 1) + k ≡ n + suc k = omega arith in
    ap (λ z. forgotten_core (program_of t n) (hidden_of hidden n) s ∷ z)
    (cores-set t hidden ss (n + 1) k c ∙ ap (λ j. slice_set (forgotten_cores t hidden (n + 1) ss) k (forgotten_core (program_of t j) (hidden_of hidden j) c)) q)

applied-is : (t : Litmus) (hidden : List (List Bool)) (s : State) (k : ℕ) (f : Effect)
    → forgotten t hidden (applied s k f)
    ≡ record {
      memory = memory_after f.commits s.memory;
      cores = slice_set (forgotten t hidden s).cores k (forgotten_core (program_of t k) (hidden_of hidden k) f.after);
    }
applied-is t hidden s k f =
    ap (λ cs. record { memory = memory_after f.commits s.memory; cores = cs })
    (cores-set t hidden s.cores 0 k f.after
    ∙ (let q : 0 + k ≡ k =
    omega arith in
    ap (λ j. slice_set (forgotten_cores t hidden 0 s.cores) k (forgotten_core (program_of t j) (hidden_of hidden j) f.after)) q))

module _ (t : Litmus) (hidden : List (List Bool)) (s r : State) (h : AreAlike t hidden s r) where
  memory-same : s.memory ≡ r.memory
  memory-same = ap (λ z. z.memory) h

  pub cores-alike : (k : ℕ)
      → forgotten_core (program_of t k) (hidden_of hidden k) (core_of s k)
      ≡ forgotten_core (program_of t k) (hidden_of hidden k) (core_of r k)
  cores-alike k = sym (core-at t hidden s k) ∙ ap (λ z. core_of z k) h ∙ core-at t hidden r k

  agree : (d : ℕ) (c : Choice) → Agree (program_of t (chosen c)) (hidden_of hidden (chosen c)) (effect_of t d s c) (effect_of t d r c)
  agree d (Step k) =
      subst (λ m.
      Agree (program_of t k.0) (hidden_of hidden k.0) (effect_of t d s (Step k))
      (step_of d m k.0 (slice_get (program_of t k.0) (core_of r k.0).place) (core_of r k.0)))
      memory-same
      (steps-agree (program_of t k.0) (hidden_of hidden k.0) (core_of s k.0) (core_of r k.0) (cores-alike k.0) d k.0 s.memory)
  agree d (Drain k) = drains-agree (program_of t k.0) (hidden_of hidden k.0) (core_of s k.0) (core_of r k.0) (cores-alike k.0)

  pub same-outcome : (d : ℕ) (c : Choice) → (effect_of t d s c).outcome ≡ (effect_of t d r c).outcome
  same-outcome d c = (agree d c).outcome

  pub alike-after : (d : ℕ) (c : Choice) → AreAlike t hidden (after_choice t d s c) (after_choice t d r c)
  alike-after d c =
      let k : ℕ = chosen c in
      let w = agree d c in
      applied-is t hidden s k (effect_of t d s c)
      ∙ ap (λ es.
      record {
        memory = memory_after es s.memory;
        cores =
            slice_set (forgotten t hidden s).cores k (forgotten_core (program_of t k) (hidden_of hidden k) (effect_of t d s c).after);
      })
      w.commits
      ∙ ap (λ m.
      record {
        memory = memory_after (effect_of t d r c).commits m;
        cores =
            slice_set (forgotten t hidden s).cores k (forgotten_core (program_of t k) (hidden_of hidden k) (effect_of t d s c).after);
      })
      memory-same
      ∙ ap (λ z. record { memory = memory_after (effect_of t d r c).commits r.memory; cores = slice_set (forgotten t hidden s).cores k z }) w.after
      ∙ ap (λ z.
      record {
        memory = memory_after (effect_of t d r c).commits r.memory;
        cores = slice_set z.cores k (forgotten_core (program_of t k) (hidden_of hidden k) (effect_of t d r c).after);
      })
      h
      ∙ sym (applied-is t hidden r k (effect_of t d r c))
