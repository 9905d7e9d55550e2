-- The machine without store buffers follows a run of the machine with buffers of one that keeps all of program order.
use Rattle.tso_terms.specs.FlatMachine.{advanced_to}
use Rattle.tso_terms.specs.Thread.{changed}
use Rattle.tso_laws.proofs.EndsVocabulary.{◌≡◌, ◌<◌, ℕ, zero, suc, Bool, true, false, List, [], ◌∷◌, ◌++◌, Option, Some, None, slice_get}
use Rattle.tso_laws.proofs.EndsVocabulary.{slice_set, slice_index_or, length, inl, inr, if◌then◌else◌, arith, ap, sym, ◌∙◌, subst, refl}
use Rattle.tso_laws.proofs.EndsVocabulary.{get_or-set_same, get_or-set_other, decide, append-nil, action_of, Litmus, entry, value_of}
use Rattle.tso_laws.proofs.EndsVocabulary.{CoreState, State, Effect, idle, advanced, advanced_with, is_none_pending, stalled, stored}
use Rattle.tso_laws.proofs.EndsVocabulary.{when_drained, effect_by, step_of, drain_of, core_of, program_of, effect_of, memory_after}
use Rattle.tso_laws.proofs.EndsVocabulary.{after_choice, applied, step, drain, Instr, Loc, Reg, Action, Store, Load, Move, Fence, Lock}
use Rattle.tso_laws.proofs.EndsVocabulary.{Entry, W, Choice, Stall, Committed, Buffered, Stalled, CoresExist, state_after, commits_of}
use Rattle.tso_laws.proofs.EndsVocabulary.{steps, StallsChangeNothing}
use Rattle.tso_terms.specs.declared.choice.Stall.TheVariants as stall
use Rattle.tso_laws.proofs.Behind.{Moves, moves-more, holding, IsBehind, Trails, Follows, length-set, set-same, set-set, moves-made, steps-exist}

-- ---- one choice is followed

pub record Goes (t : Litmus) (a b : State) (c : Choice) : Type 0 where
  pub made : List Choice
  pub cores : CoresExist (length t.programs) made
  pub commits : commits_of t 0 a made ≡ (effect_of t 1 b c).commits
  pub follows : Follows t (state_after t 0 a made) (after_choice t 1 b c)

-- with other cores of this number the one still follows the other
follows-set : (t : Litmus) (a b : State) (k : ℕ) (x y : CoreState) (m n : List ℕ)
    → Follows t a b
    → k < length t.programs
    → m ≡ n
    → Trails k (program_of t k) x y
    → Follows t (record { memory = m; cores = slice_set a.cores k x }) (record { memory = n; cores = slice_set b.cores k y })
follows-set t a b k x y m n h l q w = record {
  memory = q;
  first = length-set a.cores k x ∙ h.first;
  second = length-set b.cores k y ∙ h.second;
  cores = λ j lj. elim (decide j k) [
    | inl e ↦
        subst (λ z.
        Trails z (program_of t z) (slice_index_or (slice_set a.cores k x) z idle) (slice_index_or (slice_set b.cores k y) z idle))
        (sym e) here
    | inr ne ↦
        subst (λ z. Trails j (program_of t j) z (slice_index_or (slice_set b.cores k y) j idle)) (sym (get_or-set_other a.cores k j x idle ne))
        (subst (λ z. Trails j (program_of t j) (core_of a j) z) (sym (get_or-set_other b.cores k j y idle ne)) (h.cores j lj))
  ];
}
  where
    here : Trails k (program_of t k) (slice_index_or (slice_set a.cores k x) k idle) (slice_index_or (slice_set b.cores k y) k idle)
    here =
        subst (λ z. Trails k (program_of t k) z (slice_index_or (slice_set b.cores k y) k idle))
        (sym (get_or-set_same a.cores k x idle (let f = h.first in omega (arith, f, l))))
        (subst (λ z. Trails k (program_of t k) x z) (sym (get_or-set_same b.cores k y idle (let f = h.second in omega (arith, f, l)))) w)

module _ (law : StallsChangeNothing) (t : Litmus) (a b : State) (h : Follows t a b) where
  -- a choice that stalls
  waits : (c : Choice) (why : Stall) → (effect_of t 1 b c).outcome ≡ Stalled why → Goes t a b c
  waits c why q =
      let r = law t 1 b c why q in
      record { made = []; cores = tt; commits = sym r.none; follows = subst (λ z. Follows t a z) (sym r.same) h }

  module _ (k : ℕ) (l : k < length t.programs) where
    -- the same step of both
    both : (f : Effect) → effect_of t 0 a (step k) ≡ f → effect_of t 1 b (step k) ≡ f → f.after.pending ≡ [] → Goes t a b (step k)
    both f p q e = record {
      made = step k ∷ [];
      cores = (l, tt);
      commits = append-nil (effect_of t 0 a (step k)).commits ∙ ap (λ z. z.commits) (p ∙ sym q);
      follows = subst (λ z. Follows t (after_choice t 0 a (step k)) (applied b k z)) (sym q)
          (subst (λ z. Follows t (applied a k z) (applied b k f)) (sym p)
          (follows-set t a b k f.after f.after _ _ h l (ap (memory_after f.commits) h.memory) (inl (record { same = refl; empty = e }))));
    }

    -- a step of the machine with buffers alone, which commits nothing
    ahead : (f : Effect) → effect_of t 1 b (step k) ≡ f → f.commits ≡ [] → Trails k (program_of t k) (core_of a k) f.after → Goes t a b (step k)
    ahead f q n w = record {
      made = [];
      cores = tt;
      commits = sym (ap (λ z. z.commits) q ∙ n);
      follows = subst (λ z. Follows t a (applied b k z)) (sym q)
          (subst (λ cs. Follows t (record { memory = a.memory; cores = cs }) (applied b k f)) (set-same a.cores k)
          (follows-set t a b k (core_of a k) f.after a.memory _ h l (h.memory ∙ ap (λ es. memory_after es b.memory) (sym n)) w));
    }

    at-step : (d : ℕ) (s : State) (i : Option Instr) (c : CoreState)
        → core_of s k ≡ c
        → slice_get (program_of t k) c.place ≡ i
        → effect_of t d s (step k) ≡ step_of d s.memory k i c
    at-step d s i c e q = ap (λ z. step_of d s.memory k (slice_get (program_of t k) z.place) z) e ∙ ap (λ z. step_of d s.memory k z c) q

    -- ---- the two cores are the same

    room : (s : CoreState) (e : Entry) → s.pending ≡ [] → stored 1 s e ≡ record { outcome = Buffered; after = holding (advanced s) (e ∷ []); commits = [] }
    room s e q = rw q refl

    emptied : (why : Stall) (s : CoreState) (f : Effect) → s.pending ≡ [] → f.after.pending ≡ [] → (when_drained why s f).after.pending ≡ []
    emptied why s f q e = go (is_none_pending s.pending)
      where
        go : (x : Bool) → (if x then f else stalled why s).after.pending ≡ []
        go true = e
        go false = q

    level-step : (s : CoreState) (i : Instr) (x : Action)
        → core_of a k ≡ s
        → core_of b k ≡ s
        → s.pending ≡ []
        → slice_get (program_of t k) s.place ≡ Some i
        → action_of i ≡ x
        → Goes t a b (step k)
    level-step s i (Store loc operand) p q e at is =
        ahead (record { outcome = Buffered; after = holding (advanced s) (entry k s.place W loc (value_of s.registers operand) ∷ []); commits = [] })
        (at-step 1 b (Some i) s q at ∙ ap (λ y. effect_by 1 b.memory k y s) is ∙ room s (entry k s.place W loc (value_of s.registers operand)) e) refl
        (subst (λ z. Trails k (program_of t k) z (holding (advanced s) (entry k s.place W loc (value_of s.registers operand) ∷ []))) (sym p)
        (inr (record { next = i; loc = loc; operand = operand; count = 0; after = advanced s; stands = at; stores = is; empty = e; moves = refl; is = refl })))
    level-step s i (Load reg loc) p q e at is =
        both (effect_by 1 b.memory k (Load reg loc) s)
        (at-step 0 a (Some i) s p at
        ∙ ap (λ y. effect_by 0 a.memory k y s) is
        ∙ ap (λ m. effect_by 0 m k (Load reg loc) s) h.memory)
        (at-step 1 b (Some i) s q at ∙ ap (λ y. effect_by 1 b.memory k y s) is) e
    level-step s i (Move change) p q e at is =
        both (effect_by 1 b.memory k (Move change) s)
        (at-step 0 a (Some i) s p at
        ∙ ap (λ y. effect_by 0 a.memory k y s) is
        ∙ ap (λ m. effect_by 0 m k (Move change) s) h.memory)
        (at-step 1 b (Some i) s q at ∙ ap (λ y. effect_by 1 b.memory k y s) is) e
    level-step s i Fence p q e at is =
        both (effect_by 1 b.memory k Fence s)
        (at-step 0 a (Some i) s p at
        ∙ ap (λ y. effect_by 0 a.memory k y s) is
        ∙ ap (λ m. effect_by 0 m k Fence s) h.memory)
        (at-step 1 b (Some i) s q at ∙ ap (λ y. effect_by 1 b.memory k y s) is) (emptied _ s _ e e)
    level-step s i (Lock loc reg update) p q e at is =
        both (effect_by 1 b.memory k (Lock loc reg update) s)
        (at-step 0 a (Some i) s p at
        ∙ ap (λ y. effect_by 0 a.memory k y s) is
        ∙ ap (λ m. effect_by 0 m k (Lock loc reg update) s) h.memory)
        (at-step 1 b (Some i) s q at ∙ ap (λ y. effect_by 1 b.memory k y s) is) (emptied _ s _ e e)

    -- ---- the one core is behind

    full : (s : CoreState) (e x : Entry) → s.pending ≡ e ∷ [] → (stored 1 s x).outcome ≡ Stalled stall.Full
    full s e x q = rw q refl

    held-up : (why : Stall) (s : CoreState) (f : Effect) (e : Entry) → s.pending ≡ e ∷ [] → (when_drained why s f).outcome ≡ Stalled why
    held-up why s f e q = rw q refl

    module _ (w : IsBehind k (program_of t k) (core_of a k) (core_of b k)) where
      waiting : Entry
      waiting = entry k (core_of a k).place W w.loc (value_of (core_of a k).registers w.operand)

      pending-is : (core_of b k).pending ≡ entry k (core_of a k).place W w.loc (value_of (core_of a k).registers w.operand) ∷ []
      pending-is = ap (λ z. z.pending) w.is

      behind-step : (i : Instr) (x : Action) → slice_get (program_of t k) (core_of b k).place ≡ Some i → action_of i ≡ x
          → ((reg : Reg) (loc : Loc) → action_of i ≡ Load reg loc → ⊥) → Goes t a b (step k)
      behind-step i (Store loc operand) at is never =
          waits (step k) stall.Full
          (ap (λ f. f.outcome) (at-step 1 b (Some i) (core_of b k) refl at ∙ ap (λ y. effect_by 1 b.memory k y (core_of b k)) is)
          ∙ full (core_of b k) _ _ pending-is)
      behind-step i (Load reg loc) at is never = absurd (never reg loc is)
      behind-step i (Move change) at is never =
          let next : CoreState = advanced_to w.after (changed change w.after.registers) in
          ahead (effect_by 1 b.memory k (Move change) (core_of b k))
          (at-step 1 b (Some i) (core_of b k) refl at ∙ ap (λ y. effect_by 1 b.memory k y (core_of b k)) is) refl
          (inr (record {
            next = w.next;
            loc = w.loc;
            operand = w.operand;
            count = suc w.count;
            after = next;
            stands = w.stands;
            stores = w.stores;
            empty = w.empty;
            moves =
                moves-more (program_of t k) w.count (advanced (core_of a k)) w.after i change w.moves
                (subst (λ z. slice_get (program_of t k) z.place ≡ Some i) w.is at) is;
            is = ap (λ z. advanced_to z (changed change z.registers)) w.is;
          }))
      behind-step i Fence at is never =
          waits (step k) stall.Fence
          (ap (λ f. f.outcome) (at-step 1 b (Some i) (core_of b k) refl at ∙ ap (λ y. effect_by 1 b.memory k y (core_of b k)) is)
          ∙ held-up stall.Fence (core_of b k) _ _ pending-is)
      behind-step i (Lock loc reg update) at is never =
          waits (step k) stall.Lock
          (ap (λ f. f.outcome) (at-step 1 b (Some i) (core_of b k) refl at ∙ ap (λ y. effect_by 1 b.memory k y (core_of b k)) is)
          ∙ held-up stall.Lock (core_of b k) _ _ pending-is)

      moves-pending : (p : List Instr) (n : ℕ) (x y : CoreState) → Moves p n x y → y.pending ≡ x.pending
      moves-pending p zero x y q = ap (λ z. z.pending) (sym q)
      moves-pending p (suc n) x y m = moves-pending p n (advanced_to x (changed m.1 x.registers)) y m.4

      drain-one : (s : CoreState) (e : Entry) → s.pending ≡ e ∷ [] → drain_of s ≡ record { outcome = Committed; after = holding s []; commits = e ∷ [] }
      drain-one s e q = rw q refl

      -- the store is committed, and the moves are made after it
      behind-drain : Goes t a b (drain k)
      behind-drain =
          let s : CoreState = core_of a k in
          let e : Entry = entry k s.place W w.loc (value_of s.registers w.operand) in
          let f : effect_of t 0 a (step k) ≡ record { outcome = Committed; after = advanced s; commits = e ∷ [] } =
          at-step 0 a (Some w.next) s refl w.stands ∙ ap (λ y. effect_by 0 a.memory k y s) w.stores in
          let g : effect_of t 1 b (drain k)
          ≡ record { outcome = Committed; after = holding (core_of b k) []; commits = e ∷ [] } =
          drain-one (core_of b k) e pending-is in
          let a2 : State = applied a k (record { outcome = Committed; after = advanced s; commits = e ∷ [] }) in
          let la : k < length a.cores = (let n = h.first in omega (arith, n, l)) in
          let r =
          moves-made 0 t k w.count a2 (advanced s) w.after
          (let n = length-set a.cores k (advanced s) in omega (arith, n, la))
          (get_or-set_same a.cores k (advanced s) idle la) w.moves in
          let empty : w.after.pending ≡ [] = moves-pending (program_of t k) w.count (advanced s) w.after w.moves ∙ w.empty in
          let core : w.after ≡ holding (core_of b k) [] = ap (λ ps. holding w.after ps) empty ∙ ap (λ z. holding z []) (sym w.is) in
          let last : state_after t 0 a (step k ∷ steps k w.count) ≡ record { memory = memory_after (e ∷ []) a.memory; cores = slice_set a.cores k w.after } =
          ap (λ z. state_after t 0 (applied a k z) (steps k w.count)) f ∙ r.state
          ∙ ap (λ cs. record { memory = memory_after (e ∷ []) a.memory; cores = cs }) (set-set a.cores k (advanced s) w.after) in
          record {
            made = step k ∷ steps k w.count;
            cores = (l, steps-exist (length t.programs) k w.count l);
            commits = ap (λ z. z.commits ++ commits_of t 0 (applied a k z) (steps k w.count)) f ∙ ap (λ z. e ∷ z) r.none ∙ sym (ap (λ z. z.commits) g);
            follows = subst (λ z. Follows t z (after_choice t 1 b (drain k))) (sym last)
                (subst (λ z. Follows t (record { memory = memory_after (e ∷ []) a.memory; cores = slice_set a.cores k w.after }) (applied b k z)) (sym g)
                (follows-set t a b k w.after (holding (core_of b k) []) _ _ h l (ap (memory_after (e ∷ [])) h.memory)
                (inl (record { same = core; empty = empty }))));
          }

    drain-none : (s : CoreState) → s.pending ≡ [] → (drain_of s).outcome ≡ Stalled stall.Empty
    drain-none s q = rw q refl

    -- a step of the core, where a load doesn't come before a store that is pending
    pub steps-on : (IsBehind k (program_of t k) (core_of a k) (core_of b k)
        → (i : Instr) (reg : Reg) (loc : Loc)
        → slice_get (program_of t k) (core_of b k).place ≡ Some i
        → action_of i ≡ Load reg loc
        → ⊥)
        → Goes t a b (step k)
    steps-on never = go (slice_get (program_of t k) (core_of b k).place) refl (h.cores k l)
      where
        go : (i : Option Instr)
            → slice_get (program_of t k) (core_of b k).place ≡ i
            → Trails k (program_of t k) (core_of a k) (core_of b k)
            → Goes t a b (step k)
        go None at w = waits (step k) stall.Done (ap (λ f. f.outcome) (at-step 1 b None (core_of b k) refl at))
        go (Some i) at (inl w) = level-step (core_of b k) i (action_of i) w.same refl (ap (λ z. z.pending) (sym w.same) ∙ w.empty) at refl
        go (Some i) at (inr w) = behind-step w i (action_of i) at refl (λ reg loc q. never w i reg loc at q)

    pub drains-on : Goes t a b (drain k)
    drains-on = elim (h.cores k l) [
      | inl w ↦ waits (drain k) stall.Empty (drain-none (core_of b k) (ap (λ z. z.pending) (sym w.same) ∙ w.empty))
      | inr w ↦ behind-drain w
    ]
