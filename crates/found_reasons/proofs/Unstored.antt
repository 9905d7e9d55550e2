-- The steps among the choices along a sequentially consistent order lead to it on a machine without store buffers: it follows any other
-- run of that machine with that order, and makes a core's register moves where its next entry is committed.
use Rattle.found_reasons.proofs.Vocabulary.{◌≡◌, ◌<◌, ◌≤◌, ℕ, ◌+◌, ◌-◌, suc, true, List, [], ◌∷◌, ◌++◌, Option, Some, None, slice_index_or}
use Rattle.found_reasons.proofs.Vocabulary.{length, inl, inr, arith, ap, sym, ◌∙◌, subst, refl, set-get_or, length-set, Litmus, Entry}
use Rattle.found_reasons.proofs.Vocabulary.{steps, places_after, last_steps, beginnings, choices_along, LeadTo, is_step}
use Rattle.std.proofs.Common.{◌≢◌, max, zero, filter, slice_get, slice_set, slice_index, append_assoc, get_or-set_same, get_or-set_other, set-set}
use Rattle.basic_laws.proofs.Basics.{decide, max-second}
use Rattle.basic_laws.proofs.Lists.{append-nil}
use Rattle.tso_terms.specs.Actions.{action_of}
use Rattle.tso_terms.specs.Thread.{entry, fence, changed, updated}
use Rattle.tso_terms.specs.FlatMachine.{CoreState, State, Effect, idle, advanced, advanced_to, advanced_taking, moved, effect_by, step_of}
use Rattle.tso_terms.specs.FlatMachine.{drain_of, core_of, program_of, effect_of, chosen, memory_after, after_choice, applied, start}
use Rattle.tso_terms.specs.FlatMachine.{started, step, drain}
use Rattle.tso_terms.specs.Runs.{CoresExist, stall_count, all_done, has_ended}
use Rattle.basic_laws.specs.Types.{Instr, Loc, Reg, Action, LR, LW, Choice, Step, Drain, Stall, Committed, Stalled}
use Rattle.tso_terms.specs.declared.action.Action.TheVariants.{Store, Load, Move, Fence, Lock}
use Rattle.tso_terms.specs.declared.choice.Stall.TheVariants as stall
use Rattle.tso_laws.specs.Choices.{state_after, commits_of}
use Rattle.tso_laws.specs.Reached.{IsReached}
use Rattle.tso_laws.specs.inner.Laws.{StallsChangeNothing, RunsStopWhereTheyEnd}
use Rattle.tso_laws.proofs.OrderSteps.{AllTake, takes-append, commits-append}
use Rattle.basic_laws.proofs.Cores.{done-at, length-starts}
use Rattle.tso_laws.proofs.Draining.{acts-when}
use Rattle.tso_laws.proofs.Work.{done-length}
use Rattle.tso_laws.proofs.Behind.{Moves, moves-more, moves-place, moves-made, set-same, with_core}
use Rattle.found_reasons.proofs.StepsAlong.{steps_from, filter-from, steps-last}
use Rattle.found_reasons.proofs.UsingAll.{uses-all, cores-exist}

-- ---- cores that are some register moves behind

record Lags (p : List Instr) (place : ℕ) (x y : CoreState) : Type 0 where
  count : ℕ
  moves : Moves p count x y
  empty : y.pending ≡ []
  stands : place ≡ x.place

record Trails (t : Litmus) (places : List ℕ) (a b : State) : Type 0 where
  memory : a.memory ≡ b.memory
  first : length a.cores ≡ length t.programs
  second : length b.cores ≡ length t.programs
  sized : length places ≡ length t.programs
  cores : (k : ℕ) → k < length t.programs → Lags (program_of t k) (slice_index places k) (core_of a k) (core_of b k)

record Goes (t : Litmus) (places : List ℕ) (a b : State) (c : Choice) : Type 0 where
  made : List Choice
  after : List ℕ
  takes : AllTake t 0 a made
  commits : commits_of t 0 a made ≡ (effect_of t 0 b c).commits
  along : (rest : List Entry) → steps_from t places ((effect_of t 0 b c).commits ++ rest) ≡ made ++ steps_from t after rest
  trails : Trails t after (state_after t 0 a made) (after_choice t 0 b c)

trails-set : (t : Litmus) (places : List ℕ) (a b : State) (k place : ℕ) (x y : CoreState) (m n : List ℕ) → Trails t places a b → k < length t.programs → m ≡ n
    → Lags (program_of t k) place x y
    → Trails t (slice_set places k place) (record { memory = m; cores = slice_set a.cores k x }) (record { memory = n; cores = slice_set b.cores k y })
trails-set t places a b k place x y m n h l q w = record {
  memory = q;
  first = length-set a.cores k x ∙ h.first;
  second = length-set b.cores k y ∙ h.second;
  sized = length-set places k place ∙ h.sized;
  cores = λ j lj. elim (decide j k) [
    | inl e ↦
        subst (λ z.
        Lags (program_of t z) (slice_index (slice_set places k place) z) (slice_index_or (slice_set a.cores k x) z idle)
        (slice_index_or (slice_set b.cores k y) z idle))
        (sym e) here
    | inr ne ↦
        subst (λ z.
        Lags (program_of t j) (slice_index (slice_set places k place) j) z (slice_index_or (slice_set b.cores k y) j idle))
        (sym (get_or-set_other a.cores k j x idle ne))
        (subst (λ z. Lags (program_of t j) (slice_index (slice_set places k place) j) (core_of a j) z) (sym (get_or-set_other b.cores k j y idle ne))
        (subst (λ z. Lags (program_of t j) z (core_of a j) (core_of b j)) (sym (get_or-set_other places k j place 0 ne)) (h.cores j lj)))
  ];
}
  where
    here : Lags (program_of t k) (slice_index (slice_set places k place) k)
        (slice_index_or (slice_set a.cores k x) k idle) (slice_index_or (slice_set b.cores k y) k idle)
    here =
        subst (λ z.
        Lags (program_of t k) (slice_index (slice_set places k place) k) z (slice_index_or (slice_set b.cores k y) k idle))
        (sym (get_or-set_same a.cores k x idle (let f = h.first in omega (arith, f, l))))
        (subst (λ z. Lags (program_of t k) (slice_index (slice_set places k place) k) x z)
        (sym (get_or-set_same b.cores k y idle (let f = h.second in omega (arith, f, l))))
        (subst (λ z. Lags (program_of t k) z x y) (sym (get_or-set_same places k place 0 (let f = h.sized in omega (arith, f, l)))) w))

-- ---- register moves take effect

moves-take : (t : Litmus) (k n : ℕ) (s : State) (a b : CoreState)
    → k < length t.programs
    → k < length s.cores
    → core_of s k ≡ a
    → Moves (program_of t k) n a b
    → AllTake t 0 s (steps k n)
moves-take t k zero s a b l ls e m = tt
moves-take t k (suc n) s a b l ls e m =
    let next : CoreState = advanced_to a (changed m.1 a.registers) in
    let f : effect_of t 0 s (step k) ≡ moved a (changed m.1 a.registers) =
    ap (λ z. step_of 0 s.memory k (slice_get (program_of t k) z.place) z) e ∙ ap (λ i. step_of 0 s.memory k i a) m.2 ∙ rw m.3 refl in
    let s2 : after_choice t 0 s (step k) ≡ with_core s k next = ap (λ z. applied s k z) f in (
      l,
      ap (λ z. stall_count z.outcome) f,
      subst (λ z. AllTake t 0 z (steps k n)) (sym s2)
          (moves-take t k n (with_core s k next) next b l (let w = length-set s.cores k next in omega (arith, w, ls))
          (get_or-set_same s.cores k next idle ls) m.4),
    )

-- one entry, or two of one place
data Shape (k place : ℕ) : List Entry → Type 0 where
  one : (e : Entry) → e.core.0 ≡ k → e.place ≡ place → Shape k place (e ∷ [])
  two : (e d : Entry) → e.core.0 ≡ k → e.place ≡ place → d.core.0 ≡ k → d.place ≡ place → Shape k place (e ∷ (d ∷ []))

module _ (t : Litmus) (places : List ℕ) (k place n : ℕ) (l : k < length places) (stands : place ≡ slice_index places k + n) where
  number : (e : Entry) → e.core.0 ≡ k → e.place ≡ place → steps e.core.0 ((e.place + 1) - slice_index places e.core.0) ≡ steps k (suc n)
  number e p q = rw (p, q) (ap (λ z. steps k z) (let z : (place + 1) - slice_index places k ≡ suc n = omega (arith, stands) in z))

  moved-on : (e : Entry) → e.core.0 ≡ k → e.place ≡ place → places_after places e ≡ slice_set places k (place + 1)
  moved-on e p q = rw (p, q) (ap (λ z. slice_set places k z) (max-second (slice_index places k) (place + 1) (omega (arith, stands))))

  none-more : (d : Entry) → d.core.0 ≡ k → d.place ≡ place
      → steps d.core.0 ((d.place + 1) - slice_index (slice_set places k (place + 1)) d.core.0) ≡ []
  none-more d p q =
      rw (p, q) (ap (λ z. steps k ((place + 1) - z)) (get_or-set_same places k (place + 1) 0 l)
      ∙ ap (λ z. steps k z) (let z : (place + 1) - (place + 1) ≡ 0 = omega arith in z))

  there-already : (d : Entry) → d.core.0 ≡ k → d.place ≡ place → places_after (slice_set places k (place + 1)) d ≡ slice_set places k (place + 1)
  there-already d p q =
      rw (p, q) (ap (λ z. slice_set (slice_set places k (place + 1)) k (max z (place + 1))) (get_or-set_same places k (place + 1) 0 l)
      ∙ ap (λ z. slice_set (slice_set places k (place + 1)) k z) (max-second (place + 1) (place + 1) (omega arith))
      ∙ set-set places k (place + 1) (place + 1))

  goes-along : (es : List Entry)
      → Shape k place es
      → (rest : List Entry)
      → steps_from t places (es ++ rest) ≡ steps k (suc n) ++ steps_from t (slice_set places k (place + 1)) rest
  goes-along _ (one e p q) rest =
      ap (λ z. z ++ steps_from t (places_after places e) rest) (number e p q) ∙ ap (λ z. steps k (suc n) ++ steps_from t z rest) (moved-on e p q)
  goes-along _ (two e d p q r s) rest =
      ap (λ z. z ++ steps_from t (places_after places e) (d ∷ rest)) (number e p q) ∙ ap (λ z. steps k (suc n) ++ steps_from t z (d ∷ rest)) (moved-on e p q)
      ∙ ap (λ z. steps k (suc n) ++ (z ++ steps_from t (places_after (slice_set places k (place + 1)) d) rest)) (none-more d r s)
      ∙ ap (λ z. steps k (suc n) ++ steps_from t z rest) (there-already d r s)

-- ---- a choice is followed

after-append : (t : Litmus) (s : State) (cs ds : List Choice) → state_after t 0 s (cs ++ ds) ≡ state_after t 0 (state_after t 0 s cs) ds
after-append t s [] ds = refl
after-append t s (c ∷ cs) ds = after-append t (after_choice t 0 s c) cs ds

module _ (law : StallsChangeNothing) (t : Litmus) (places : List ℕ) (a b : State) (h : Trails t places a b) where
  waits : (c : Choice) (why : Stall) → (effect_of t 0 b c).outcome ≡ Stalled why → Goes t places a b c
  waits c why q =
      let r = law t 0 b c why q in
      record {
        made = [];
        after = places;
        takes = tt;
        commits = sym r.none;
        along = λ rest. ap (λ es. steps_from t places (es ++ rest)) r.none;
        trails = subst (λ z. Trails t places a z) (sym r.same) h;
      }

  module _ (k : ℕ) (l : k < length t.programs) where
    w : Lags (program_of t k) (slice_index places k) (core_of a k) (core_of b k)
    w = h.cores k l

    la : k < length a.cores
    la = let f = h.first in omega (arith, f, l)

    lp : k < length places
    lp = let f = h.sized in omega (arith, f, l)

    stands : (core_of b k).place ≡ slice_index places k + w.count
    stands = let p = moves-place (program_of t k) w.count (core_of a k) (core_of b k) w.moves in let q = w.stands in omega (arith, p, q)

    -- a register move waits until its core commits
    later : (f : Effect)
        → effect_of t 0 b (step k) ≡ f
        → f.commits ≡ []
        → Lags (program_of t k) (slice_index places k) (core_of a k) f.after
        → Goes t places a b (step k)
    later f q none lags = record {
      made = [];
      after = places;
      takes = tt;
      commits = sym (ap (λ z. z.commits) q ∙ none);
      along = λ rest. ap (λ es. steps_from t places (es ++ rest)) (ap (λ z. z.commits) q ∙ none);
      trails = subst (λ z. Trails t places a (applied b k z)) (sym q)
          (subst (λ cs. Trails t places (record { memory = a.memory; cores = cs }) (applied b k f)) (set-same a.cores k)
          (subst (λ ps. Trails t ps (record { memory = a.memory; cores = slice_set a.cores k (core_of a k) }) (applied b k f)) (set-get_or places k 0)
          (trails-set t places a b k (slice_index places k) (core_of a k) f.after a.memory _ h l
          (h.memory ∙ ap (λ es. memory_after es b.memory) (sym none)) lags)));
    }

    -- what commits is made, after the moves before it
    acts : (f : Effect) → effect_of t 0 b (step k) ≡ f → stall_count f.outcome ≡ 0 → f.after.pending ≡ [] → f.after.place ≡ (core_of b k).place + 1
        → Shape k (core_of b k).place f.commits → Goes t places a b (step k)
    acts f q takes empty place shape =
        let y : CoreState = core_of b k in
        let n : ℕ = w.count in
        let m = moves-made 0 t k n a (core_of a k) y la refl w.moves in
        let a1 : State = with_core a k y in
        let core : core_of a1 k ≡ y = get_or-set_same a.cores k y idle la in
        let g : effect_of t 0 a1 (step k) ≡ f =
        ap (λ z. step_of 0 a.memory k (slice_get (program_of t k) z.place) z) core
        ∙ ap (λ z. step_of 0 z k (slice_get (program_of t k) y.place) y) h.memory
        ∙ q in
        let made : List Choice = steps k n ++ (step k ∷ []) in
        let last : state_after t 0 a made ≡ record { memory = memory_after f.commits a.memory; cores = slice_set a.cores k f.after } =
        after-append t a (steps k n) (step k ∷ []) ∙ ap (λ z. after_choice t 0 z (step k)) m.state ∙ ap (λ z. applied a1 k z) g
        ∙ ap (λ cs. record { memory = memory_after f.commits a.memory; cores = cs }) (set-set a.cores k y f.after) in
        record {
          made = made;
          after = slice_set places k (y.place + 1);
          takes = takes-append t 0 a (steps k n) (step k ∷ []) (moves-take t k n a (core_of a k) y l la refl w.moves)
              (subst (λ z. AllTake t 0 z (step k ∷ [])) (sym m.state) (l, ap (λ z. stall_count z.outcome) g ∙ takes, tt));
          commits = commits-append t 0 a (steps k n) (step k ∷ []) ∙ ap (λ z. z ++ commits_of t 0 (state_after t 0 a (steps k n)) (step k ∷ [])) m.none
              ∙ ap (λ z. commits_of t 0 z (step k ∷ [])) m.state ∙ append-nil (effect_of t 0 a1 (step k)).commits ∙ ap (λ z. z.commits) (g ∙ sym q);
          along = λ rest. ap (λ z. steps_from t places (z.commits ++ rest)) q ∙ goes-along t places k y.place n lp stands f.commits shape rest
              ∙ ap (λ z. z ++ steps_from t (slice_set places k (y.place + 1)) rest) (sym (steps-last k n));
          trails = subst (λ z. Trails t (slice_set places k (y.place + 1)) z (after_choice t 0 b (step k))) (sym last)
              (subst (λ z.
              Trails t (slice_set places k (y.place + 1))
              (record { memory = memory_after f.commits a.memory; cores = slice_set a.cores k f.after })
              (applied b k z))
              (sym q)
              (trails-set t places a b k (y.place + 1) f.after f.after _ _ h l (ap (memory_after f.commits) h.memory)
              (record { count = 0; moves = refl; empty = empty; stands = sym place })));
        }

    abbrev fence_effect : CoreState → Effect
    fence_effect s = record { outcome = Committed; after = advanced s; commits = fence k s.place ∷ [] }

    abbrev lock_effect : CoreState → Loc → Option Reg → ℕ → ℕ → Effect
    lock_effect s loc reg word value =
        record { outcome = Committed; after = advanced_taking s reg word; commits = entry k s.place LR loc word ∷ (entry k s.place LW loc value ∷ []) }

    effect-is : (i : Instr) (x : Action) → slice_get (program_of t k) (core_of b k).place ≡ Some i → action_of i ≡ x
        → effect_of t 0 b (step k) ≡ effect_by 0 b.memory k x (core_of b k)
    effect-is i x at is = ap (λ z. step_of 0 b.memory k z (core_of b k)) at ∙ ap (λ y. effect_by 0 b.memory k y (core_of b k)) is

    by-action : (i : Instr) (x : Action) → slice_get (program_of t k) (core_of b k).place ≡ Some i → action_of i ≡ x → Goes t places a b (step k)
    by-action i (Store loc operand) at is =
        acts (effect_by 0 b.memory k (Store loc operand) (core_of b k)) (effect-is i (Store loc operand) at is) refl w.empty refl (one _ refl refl)
    by-action i (Load reg loc) at is =
        acts (effect_by 0 b.memory k (Load reg loc) (core_of b k)) (effect-is i (Load reg loc) at is) refl w.empty refl (one _ refl refl)
    by-action i (Move change) at is =
        later (effect_by 0 b.memory k (Move change) (core_of b k)) (effect-is i (Move change) at is) refl (record {
          count = suc w.count;
          moves = moves-more (program_of t k) w.count (core_of a k) (core_of b k) i change w.moves at is;
          empty = w.empty;
          stands = w.stands;
        })
    by-action i Fence at is =
        acts (fence_effect (core_of b k))
        (effect-is i Fence at is ∙ acts-when stall.Fence (core_of b k) (fence_effect (core_of b k)) w.empty) refl
        w.empty refl (one _ refl refl)
    by-action i (Lock loc reg update) at is =
        let f : Effect = lock_effect (core_of b k) loc reg (slice_index b.memory loc.0) (updated update (core_of b k).registers (slice_index b.memory loc.0)) in
        acts f (effect-is i (Lock loc reg update) at is ∙ acts-when stall.Lock (core_of b k) f w.empty) refl w.empty refl (two _ _ refl refl refl refl)

    steps-on : Goes t places a b (step k)
    steps-on = go (slice_get (program_of t k) (core_of b k).place) refl
      where
        go : (i : Option Instr) → slice_get (program_of t k) (core_of b k).place ≡ i → Goes t places a b (step k)
        go None at = waits (step k) stall.Done (ap (λ z. (step_of 0 b.memory k z (core_of b k)).outcome) at)
        go (Some i) at = by-action i (action_of i) at refl

    nothing-drains : (s : CoreState) → s.pending ≡ [] → (drain_of s).outcome ≡ Stalled stall.Empty
    nothing-drains s q = rw q refl

    drains-on : Goes t places a b (drain k)
    drains-on = waits (drain k) stall.Empty (nothing-drains (core_of b k) w.empty)

  goes : (c : Choice) → chosen c < length t.programs → Goes t places a b c
  goes (Step k) l = steps-on k.0 l
  goes (Drain k) l = drains-on k.0 l

-- ---- a whole run is followed

record Follows (t : Litmus) (places : List ℕ) (a b : State) (cs : List Choice) : Type 0 where
  made : List Choice
  after : List ℕ
  takes : AllTake t 0 a made
  commits : commits_of t 0 a made ≡ commits_of t 0 b cs
  along : (rest : List Entry) → steps_from t places (commits_of t 0 b cs ++ rest) ≡ made ++ steps_from t after rest
  trails : Trails t after (state_after t 0 a made) (state_after t 0 b cs)

follow : StallsChangeNothing
    → (t : Litmus) (places : List ℕ) (a b : State) (cs : List Choice)
    → Trails t places a b
    → CoresExist (length t.programs) cs
    → Follows t places a b cs
follow law t places a b [] h l = record { made = []; after = places; takes = tt; commits = refl; along = λ rest. refl; trails = h }
follow law t places a b (c ∷ cs) h l =
    let g = goes law t places a b h c l.0 in
    let r = follow law t g.after (state_after t 0 a g.made) (after_choice t 0 b c) cs g.trails l.1 in
    let es : List Entry = (effect_of t 0 b c).commits in
    let fs : List Entry = commits_of t 0 (after_choice t 0 b c) cs in
    record {
      made = g.made ++ r.made;
      after = r.after;
      takes = takes-append t 0 a g.made r.made g.takes r.takes;
      commits = commits-append t 0 a g.made r.made ∙ ap (λ z. z ++ commits_of t 0 (state_after t 0 a g.made) r.made) g.commits ∙ ap (λ z. es ++ z) r.commits;
      along = λ rest. ap (λ z. steps_from t places z) (append_assoc es fs rest) ∙ g.along (fs ++ rest) ∙ ap (λ z. g.made ++ z) (r.along rest)
          ∙ sym (append_assoc g.made r.made (steps_from t r.after rest));
      trails = subst (λ z. Trails t r.after z (state_after t 0 (after_choice t 0 b c) cs)) (sym (after-append t a g.made r.made)) r.trails;
    }

-- ---- at the end

-- the cores from this one on do their last moves
record Ends (t : Litmus) (a b : State) (cs : List Choice) : Type 0 where
  takes : AllTake t 0 a cs
  commits : commits_of t 0 a cs ≡ []
  memory : (state_after t 0 a cs).memory ≡ b.memory
  size : length (state_after t 0 a cs).cores ≡ length t.programs
  cores : (k : ℕ) → k < length t.programs → core_of (state_after t 0 a cs) k ≡ core_of b k

ends : (t : Litmus) (places : List ℕ) (b : State) → ((k : ℕ) → k < length t.programs → (core_of b k).place ≡ length (program_of t k))
    → (ps : List (List Instr)) (core : ℕ) (a : State) → core + length ps ≡ length t.programs → ((j : ℕ) → slice_index_or ps j [] ≡ program_of t (core + j))
    → a.memory ≡ b.memory → length a.cores ≡ length t.programs
    → ((k : ℕ) → k < core → core_of a k ≡ core_of b k)
    → ((k : ℕ) → core ≤ k → k < length t.programs → Lags (program_of t k) (slice_index places k) (core_of a k) (core_of b k))
    → Ends t a b (last_steps core ps places)
ends t places b done [] core a n same m size below above = record {
  takes = tt;
  commits = refl;
  memory = m;
  size = size;
  cores = λ k l. below k (omega (arith, n, l));
}
ends t places b done (p ∷ ps) core a n same m size below above =
    let l : core < length t.programs = omega (arith, n) in
    let la : core < length a.cores = omega (arith, size, l) in
    let w = above core (omega arith) l in
    let y : CoreState = core_of b core in
    let pn : length p ≡ length (program_of t core) =
    ap (λ (q : List Instr). length q) (same 0 ∙ ap (λ z. program_of t z) (let z : core + 0 ≡ core = omega arith in z)) in
    let mp = moves-place (program_of t core) w.count (core_of a core) y w.moves in
    let st = w.stands in
    let dn = done core l in
    let count : length p - slice_index places core ≡ w.count = omega (arith, pn, mp, st, dn) in
    let made = moves-made 0 t core w.count a (core_of a core) y la refl w.moves in
    let a1 : State = with_core a core y in
    let rest =
    ends t places b done ps (core + 1) a1 (omega (arith, n))
    (λ j. same (suc j) ∙ ap (λ z. program_of t z) (let z : core + suc j ≡ core + 1 + j = omega arith in z)) m
    (length-set a.cores core y ∙ size)
    (λ k lk. elim (decide k core) [
      | inl e ↦ subst (λ z. core_of a1 z ≡ core_of b z) (sym e) (get_or-set_same a.cores core y idle la)
      | inr ne ↦ get_or-set_other a.cores core k y idle ne ∙ below k (omega (arith, lk, ne))
    ])
    (λ k lo hi.
    subst (λ z. Lags (program_of t k) (slice_index places k) z (core_of b k))
    (sym (get_or-set_other a.cores core k y idle (let z : k ≢ core = λ e. omega (arith, lo, e) in z)))
    (above k (omega (arith, lo)) hi)) in
    subst (λ z. Ends t a b (steps core z ++ last_steps (core + 1) ps places)) (sym count) (record {
      takes = takes-append t 0 a (steps core w.count) (last_steps (core + 1) ps places) (moves-take t core w.count a (core_of a core) y l la refl w.moves)
          (subst (λ z. AllTake t 0 z (last_steps (core + 1) ps places)) (sym made.state) rest.takes);
      commits =
          commits-append t 0 a (steps core w.count) (last_steps (core + 1) ps places)
          ∙ ap (λ z. z ++ commits_of t 0 (state_after t 0 a (steps core w.count)) (last_steps (core + 1) ps places)) made.none
          ∙ ap (λ z. commits_of t 0 z (last_steps (core + 1) ps places)) made.state ∙ rest.commits;
      memory = ap (λ z. z.memory) (last a1 (steps core w.count) made.state) ∙ rest.memory;
      size = ap (λ z. length z.cores) (last a1 (steps core w.count) made.state) ∙ rest.size;
      cores = λ k lk. ap (λ z. core_of z k) (last a1 (steps core w.count) made.state) ∙ rest.cores k lk;
    })
  where
    last : (s : State) (cs : List Choice)
        → state_after t 0 a cs ≡ s
        → state_after t 0 a (cs ++ last_steps (core + 1) ps places)
        ≡ state_after t 0 s (last_steps (core + 1) ps places)
    last s cs e = after-append t a cs (last_steps (core + 1) ps places) ∙ ap (λ z. state_after t 0 z (last_steps (core + 1) ps places)) e

-- ---- the beginning

start-empty : (c : ℕ) (ps : List (List Instr)) (rs : List (List ℕ)) (k : ℕ) → (slice_index_or (started c ps rs) k idle).pending ≡ []
start-empty c [] rs k = refl
start-empty c (p ∷ ps) rs zero = refl
start-empty c (p ∷ ps) rs (suc k) = start-empty (c + 1) ps rs k

start-place : (c : ℕ) (ps : List (List Instr)) (rs : List (List ℕ)) (k : ℕ) → slice_index (beginnings ps) k ≡ (slice_index_or (started c ps rs) k idle).place
start-place c [] rs k = refl
start-place c (p ∷ ps) rs zero = refl
start-place c (p ∷ ps) rs (suc k) = start-place (c + 1) ps rs k

beginnings-size : (ps : List (List Instr)) → length (beginnings ps) ≡ length ps
beginnings-size [] = refl
beginnings-size (p ∷ ps) = ap suc (beginnings-size ps)

start-trails : (t : Litmus) → Trails t (beginnings t.programs) (start t) (start t)
start-trails t = record {
  memory = refl;
  first = length-starts 0 t.programs t.registers;
  second = length-starts 0 t.programs t.registers;
  sized = beginnings-size t.programs;
  cores = λ k l. record { count = 0; moves = refl; empty = start-empty 0 t.programs t.registers k; stands = start-place 0 t.programs t.registers k };
}

same-cores : (xs ys : List CoreState) → length xs ≡ length ys → ((k : ℕ) → k < length xs → slice_index_or xs k idle ≡ slice_index_or ys k idle) → xs ≡ ys
same-cores [] [] n h = refl
same-cores [] (y ∷ ys) n h = absurd (let z : ⊥ = omega (arith, n) in z)
same-cores (x ∷ xs) [] n h = absurd (let z : ⊥ = omega (arith, n) in z)
same-cores (x ∷ xs) (y ∷ ys) n h = rw (h 0 (omega arith), same-cores xs ys (omega (arith, n)) (λ k l. h (suc k) (omega (arith, l)))) refl

-- ---- the whole order

pub steps-lead : StallsChangeNothing → RunsStopWhereTheyEnd → (t : Litmus) (order : List Entry) → IsReached t 0 order
    → LeadTo t 0 (filter is_step (choices_along t order)) order
steps-lead law stop t order h =
    let b : State = state_after t 0 (start t) h.choices in
    let s = stop.stops t 0 h.choices in
    let order_is : commits_of t 0 (start t) h.choices ≡ order = sym s.all_commits ∙ h.commits in
    let done : has_ended t (state_after t 0 (start t) h.choices) ≡ true = ap (has_ended t) (sym s.all_state) ∙ sym s.ended ∙ h.ended in
    let f = follow law t (beginnings t.programs) (start t) (start t) h.choices (start-trails t) h.cores in
    let a : State = state_after t 0 (start t) f.made in
    let tr = f.trails in
    let size : length b.cores ≡ length t.programs = tr.second in
    let last : List Choice = last_steps 0 t.programs f.after in
    let e = ends t f.after b (λ k l. sym (done-length (program_of t k) (core_of b k) (done-at t.programs b.cores k done (omega (arith, size, l)))))
    t.programs 0 a (omega arith)
    (λ j. ap (λ z. program_of t z) (let z : j ≡ 0 + j = omega arith in z)) tr.memory tr.first
    (λ k l. absurd (omega (arith, l))) (λ k lo hi. tr.cores k hi) in
    let made : List Choice = f.made ++ last in
    let is : filter is_step (choices_along t order) ≡ made =
    filter-from t (beginnings t.programs) order
    ∙ ap (λ z. steps_from t (beginnings t.programs) z) (sym order_is ∙ sym (append-nil (commits_of t 0 (start t) h.choices)))
    ∙ f.along [] in
    let takes : AllTake t 0 (start t) made = takes-append t 0 (start t) f.made last f.takes e.takes in
    let there : (state_after t 0 (start t) made).cores ≡ b.cores =
    ap (λ z. z.cores) (after-append t (start t) f.made last)
    ∙ same-cores (state_after t 0 a last).cores b.cores (e.size ∙ sym size) (λ k l. e.cores k (let z = e.size in omega (arith, z, l))) in
    let u = uses-all t (start t) made (length-starts 0 t.programs t.registers) takes (ap (all_done t.programs) there ∙ done) in
    let commits : commits_of t 0 (start t) made ≡ order =
    commits-append t 0 (start t) f.made last
    ∙ ap (λ z. z ++ commits_of t 0 a last) (f.commits ∙ order_is)
    ∙ ap (λ z. order ++ z) e.commits
    ∙ append-nil order in
    subst (λ z. LeadTo t 0 z order) (sym is) (record {
      cores = cores-exist t (start t) made takes;
      ended = u.ended;
      commits = u.commits ∙ commits;
      used = u.used;
      stalled = u.stalled;
      unused = u.unused;
    })
