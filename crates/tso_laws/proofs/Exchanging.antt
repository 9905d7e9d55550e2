-- Two cores that are alike, exchanged: what the one did the other does.
use Rattle.tso_laws.proofs.EagerVocabulary.{◌≡◌, ◌<◌, ◌≤◌, ℕ, ◌+◌, zero, suc, List, [], ◌∷◌, ◌++◌, Bool, true, false, Option, Some, None}
use Rattle.tso_laws.proofs.EagerVocabulary.{length, map, slice_get, slice_set, slice_index, slice_index_or, if◌then◌else◌, inl, inr, nat_lt}
use Rattle.tso_laws.proofs.EagerVocabulary.{arith, ap, sym, ◌∙◌, refl, subst, ◌==◌, ◌&&◌, get_or-set_same, get_or-set_other, length-set}
use Rattle.tso_laws.proofs.EagerVocabulary.{length-map, map-append, action_of, last_value, Litmus, writes_to, entry, value_of, with_value}
use Rattle.tso_laws.proofs.EagerVocabulary.{CoreState, State, Effect, idle, program_of, core_of, effect_by, step_of, drain_of, effect_of}
use Rattle.tso_laws.proofs.EagerVocabulary.{chosen, applied, after_choice, memory_after, started, start, is_none_pending, stored, stalled}
use Rattle.tso_laws.proofs.EagerVocabulary.{when_drained, is_done, has_ended, W, Instr, Loc, Action, Store, Load, Move, Fence, Lock, Entry}
use Rattle.tso_laws.proofs.EagerVocabulary.{Choice, Step, Drain, Stall, Buffered, decide, lt-or, hidden_of, forgotten_core, forgotten_cores}
use Rattle.tso_laws.proofs.EagerVocabulary.{forgotten, CoresAreAlike, exchanged_core, exchanged_choice, exchanged_entry, renamed, exchanged}
use Rattle.tso_laws.proofs.EagerVocabulary.{IsExchangeable, cases_Bool, length-starts, all-done, done-at, set_past}
use Rattle.std.proofs.Common.{filter}
use Rattle.tso_terms.specs.declared.choice.Stall.TheVariants as stall
use Rattle.tso_laws.proofs.Alike.{core-at}
use Rattle.tso_laws.proofs.Names.{core-twice, same-at, core-within, core-beyond, same-cores, same-state, cores-exchanged, core-exchanged, exchanged-twice}

-- ---- one core

-- the second effect is the first, with the names exchanged
record Renames (pair : ℕ × ℕ) (f g : Effect) : Type 0 where
  outcome : g.outcome ≡ f.outcome
  after : g.after ≡ renamed pair f.after
  memory : (words : List ℕ) → memory_after g.commits words ≡ memory_after f.commits words

module _ (pair : ℕ × ℕ) where
  stays : (why : Stall) (s : CoreState) → Renames pair (stalled why s) (stalled why (renamed pair s))
  stays why s = record { outcome = refl; after = refl; memory = λ words. refl }

  none-pending : (es : List Entry) → is_none_pending (map (exchanged_entry pair) es) ≡ is_none_pending es
  none-pending [] = refl
  none-pending (e ∷ es) = refl

  waits : (why : Stall) (s : CoreState) (f g : Effect) → Renames pair f g → Renames pair (when_drained why s f) (when_drained why (renamed pair s) g)
  waits why s f g h =
      subst (λ b. Renames pair (when_drained why s f) (if b then g else stalled why (renamed pair s)))
      (sym (none-pending s.pending)) (go (is_none_pending s.pending))
    where
      go : (b : Bool) → Renames pair (if b then f else stalled why s) (if b then g else stalled why (renamed pair s))
      go true = h
      go false = stays why s

  store : (d k : ℕ) (s : CoreState) (loc : Loc) (v : ℕ)
      → Renames pair (stored d s (entry k s.place W loc v)) (stored d (renamed pair s) (entry (exchanged_core pair k) s.place W loc v))
  store zero k s loc v = record { outcome = refl; after = refl; memory = λ words. refl }
  store (suc d) k s loc v =
      let e : Entry = entry k s.place W loc v in
      let x : Entry = exchanged_entry pair e in
      subst (λ n.
      Renames pair (stored (suc d) s e) (if nat_lt n (suc d) then buffered (renamed pair s) x else stalled stall.Full (renamed pair s)))
      (sym (length-map s.pending (exchanged_entry pair)))
      (go e (nat_lt (length s.pending) (suc d)))
    where
      buffered : CoreState → Entry → Effect
      buffered r e = record { outcome = Buffered; after = record { place = r.place + 1; registers = r.registers; pending = r.pending ++ e ∷ [] }; commits = [] }

      go : (e : Entry) (b : Bool)
          → Renames pair (if b then buffered s e else stalled stall.Full s)
          (if b then buffered (renamed pair s) (exchanged_entry pair e) else stalled stall.Full (renamed pair s))
      go e true = record {
        outcome = refl;
        after =
            ap (λ z. let r : CoreState = record { place = s.place + 1; registers = s.registers; pending = z } in r)
            (sym (map-append (exchanged_entry pair) s.pending (e ∷ [])));
        memory = λ words. refl;
      }
      go e false = stays stall.Full s

  value-same : (loc : ℕ) (es : List Entry) (w : ℕ)
      → last_value (filter (writes_to loc) (map (exchanged_entry pair) es)) w ≡ last_value (filter (writes_to loc) es) w
  value-same loc [] w = refl
  value-same loc (e ∷ es) w = elim (cases_Bool (writes_to loc e)) [ inl is ↦ rw is (value-same loc es e.value) | inr is ↦ rw is (value-same loc es w) ]

  by-action : (d k : ℕ) (memory : List ℕ) (a : Action) (s : CoreState)
      → Renames pair (effect_by d memory k a s) (effect_by d memory (exchanged_core pair k) a (renamed pair s))
  by-action d k memory (Store loc operand) s = store d k s loc (value_of s.registers operand)
  by-action d k memory (Load reg loc) s = record {
    outcome = refl;
    after = ap (λ v. renamed pair (loaded_with v)) (value-same loc.0 s.pending (slice_index memory loc.0));
    memory = λ words. refl;
  }
    where
      loaded_with : ℕ → CoreState
      loaded_with v = record { place = s.place + 1; registers = with_value s.registers reg v; pending = s.pending }
  by-action d k memory (Move change) s = record { outcome = refl; after = refl; memory = λ words. refl }
  by-action d k memory Fence s = waits stall.Fence s _ _ (record { outcome = refl; after = refl; memory = λ words. refl })
  by-action d k memory (Lock loc reg update) s = waits stall.Lock s _ _ (record { outcome = refl; after = refl; memory = λ words. refl })

  by-step : (d k : ℕ) (memory : List ℕ) (i : Option Instr) (s : CoreState)
      → Renames pair (step_of d memory k i s) (step_of d memory (exchanged_core pair k) i (renamed pair s))
  by-step d k memory None s = stays stall.Done s
  by-step d k memory (Some i) s = by-action d k memory (action_of i) s

  by-drain : (s : CoreState) → Renames pair (drain_of s) (drain_of (renamed pair s))
  by-drain s = go s.pending
    where
      held : List Entry → CoreState
      held es = record { place = s.place; registers = s.registers; pending = es }

      go : (es : List Entry) → Renames pair (drain_of (held es)) (drain_of (renamed pair (held es)))
      go [] = record { outcome = refl; after = refl; memory = λ words. refl }
      go (e ∷ es) = record { outcome = refl; after = refl; memory = λ words. refl }

  done-renamed : (p : List Instr) (s : CoreState) → is_done p (renamed pair s) ≡ is_done p s
  done-renamed p s = ap (λ b. (length p == s.place) && b) (none-pending s.pending)

-- ---- whether a test has ended, core by core

same-test : (a b : Bool) → (a ≡ true → b ≡ true) → (b ≡ true → a ≡ true) → a ≡ b
same-test true b f g = sym (f refl)
same-test false true f g = g refl
same-test false false f g = refl

-- ---- the first state

started-at : (c : ℕ) (ps : List (List Instr)) (rs : List (List ℕ)) (k : ℕ)
    → k < length ps
    → slice_index_or (started c ps rs) k idle
    ≡ record { place = 0; registers = slice_index_or rs (c + k) []; pending = [] }
started-at c [] rs k l = absurd (let z : ⊥ = omega (arith, l) in z)
started-at c (p ∷ ps) rs zero l =
    let q : c ≡ c + 0 = omega arith in
    ap (λ z. let s : CoreState = record { place = 0; registers = slice_index_or rs z []; pending = [] } in s) q
started-at c (p ∷ ps) rs (suc k) l =
    let q : (c + 1) + k ≡ c + suc k = omega arith in
    started-at (c + 1) ps rs k (omega (arith, l)) ∙ ap (λ z. let s : CoreState = record { place = 0; registers = slice_index_or rs z []; pending = [] } in s) q

started-beyond : (c : ℕ) (ps : List (List Instr)) (rs : List (List ℕ)) (k : ℕ) → length ps ≤ k → slice_index_or (started c ps rs) k idle ≡ idle
started-beyond c [] rs k l = refl
started-beyond c (p ∷ ps) rs zero l = absurd (let z : ⊥ = omega (arith, l) in z)
started-beyond c (p ∷ ps) rs (suc k) l = started-beyond (c + 1) ps rs k (omega (arith, l))

pub length-forgotten : (t : Litmus) (hidden : List (List Bool)) (n : ℕ) (ss : List CoreState) → length (forgotten_cores t hidden n ss) ≡ length ss
length-forgotten t hidden n [] = refl
length-forgotten t hidden n (s ∷ ss) = ap suc (length-forgotten t hidden (n + 1) ss)

chosen-exchanged : (pair : ℕ × ℕ) (c : Choice) → chosen (exchanged_choice pair c) ≡ exchanged_core pair (chosen c)
chosen-exchanged pair (Step k) = refl
chosen-exchanged pair (Drain k) = refl

-- ---- states

module _ (t : Litmus) (hidden : List (List Bool)) (pair : ℕ × ℕ) (h : CoresAreAlike t hidden pair) where
  program-same : (k : ℕ) → program_of t (exchanged_core pair k) ≡ program_of t k
  program-same k = same-at pair (program_of t) h.programs k

  module _ (s : State) (sized : length s.cores ≡ length t.programs) where
    core : (k : ℕ) → core_of (exchanged pair s) k ≡ renamed pair (core_of s (exchanged_core pair k))
    core k = let l = h.first in let m = h.second in core-exchanged pair s (omega (arith, sized, l)) (omega (arith, sized, m)) k

    its-core : (k : ℕ) → core_of (exchanged pair s) (exchanged_core pair k) ≡ renamed pair (core_of s k)
    its-core k = core (exchanged_core pair k) ∙ ap (λ z. renamed pair (core_of s z)) (core-twice pair k)

    effect : (d : ℕ) (c : Choice) → Renames pair (effect_of t d s c) (effect_of t d (exchanged pair s) (exchanged_choice pair c))
    effect d (Step k) =
        let x : ℕ = exchanged_core pair k.0 in
        subst (λ z. Renames pair (effect_of t d s (Step k)) (step_of d s.memory x (slice_get (program_of t x) z.place) z)) (sym (its-core k.0))
        (subst (λ p.
        Renames pair (effect_of t d s (Step k)) (step_of d s.memory x (slice_get p (core_of s k.0).place) (renamed pair (core_of s k.0))))
        (sym (program-same k.0))
        (by-step pair d k.0 s.memory (slice_get (program_of t k.0) (core_of s k.0).place) (core_of s k.0)))
    effect d (Drain k) = subst (λ z. Renames pair (effect_of t d s (Drain k)) (drain_of z)) (sym (its-core k.0)) (by-drain pair (core_of s k.0))

    -- what an effect of the one makes of a state, with the effect of the other
    applies : (m : ℕ) (f g : Effect) → Renames pair f g → applied (exchanged pair s) (exchanged_core pair m) g ≡ exchanged pair (applied s m f)
    applies m f g r = same-state _ _ _ _ (r.memory s.memory) (elim (lt-or (length s.cores) m) [ inl l ↦ within l | inr l ↦ beyond l ])
      where
        n : length (exchanged pair s).cores ≡ length s.cores
        n = cores-exchanged pair s

        changed : State
        changed = applied s m f

        changed-sized : length changed.cores ≡ length s.cores
        changed-sized = length-set s.cores m f.after

        first : pair.0 < length changed.cores
        first = let a = changed-sized in let l = h.first in omega (arith, a, sized, l)

        second : pair.1 < length changed.cores
        second = let a = changed-sized in let l = h.second in omega (arith, a, sized, l)

        beyond : length s.cores ≤ m → slice_set (exchanged pair s).cores (exchanged_core pair m) g.after ≡ (exchanged pair changed).cores
        beyond l =
            let p = h.first in let q = h.second in
            let same = core-beyond pair (length s.cores) m (omega (arith, p, sized)) (omega (arith, q, sized)) l in
            ap (λ z. slice_set (exchanged pair s).cores z g.after) same ∙ set_past (exchanged pair s).cores m g.after (let a = n in omega (arith, a, l))
            ∙ ap (λ z. (exchanged pair (let r : State = record { memory = s.memory; cores = z } in r)).cores) (sym (set_past s.cores m f.after l))

        within : m < length s.cores → slice_set (exchanged pair s).cores (exchanged_core pair m) g.after ≡ (exchanged pair changed).cores
        within l =
            same-cores _ _ (length-set (exchanged pair s).cores (exchanged_core pair m) g.after
            ∙ n
            ∙ sym (cores-exchanged pair changed ∙ changed-sized))
            each
          where
            x : ℕ
            x = exchanged_core pair m

            x-within : x < length (exchanged pair s).cores
            x-within =
                let p = h.first in let q = h.second in let a = n in
                let z = core-within pair (length s.cores) m (omega (arith, p, sized)) (omega (arith, q, sized)) l in omega (arith, a, z)

            each : (k : ℕ) → slice_index_or (slice_set (exchanged pair s).cores x g.after) k idle ≡ core_of (exchanged pair changed) k
            each k = elim (decide k x) [
              | inl q ↦
                  ap (λ z. slice_index_or (slice_set (exchanged pair s).cores x g.after) z idle) q
                  ∙ get_or-set_same (exchanged pair s).cores x g.after idle x-within
                  ∙ r.after
                  ∙ sym (core-exchanged pair changed first second k
                  ∙ ap (λ z. renamed pair (core_of changed z)) (ap (exchanged_core pair) q ∙ core-twice pair m)
                  ∙ ap (renamed pair) (get_or-set_same s.cores m f.after idle l))
              | inr v ↦
                  get_or-set_other (exchanged pair s).cores x k g.after idle v ∙ core k
                  ∙ sym (core-exchanged pair changed first second k
                  ∙ ap (renamed pair) (get_or-set_other s.cores m (exchanged_core pair k) f.after idle
                  (λ e. v (sym (core-twice pair k) ∙ ap (exchanged_core pair) e))))
            ]

    after : (d : ℕ) (c : Choice) → after_choice t d (exchanged pair s) (exchanged_choice pair c) ≡ exchanged pair (after_choice t d s c)
    after d c =
        ap (λ k. applied (exchanged pair s) k (effect_of t d (exchanged pair s) (exchanged_choice pair c))) (chosen-exchanged pair c)
        ∙ applies (chosen c) (effect_of t d s c) (effect_of t d (exchanged pair s) (exchanged_choice pair c)) (effect d c)

    still-ended : has_ended t s ≡ true → has_ended t (exchanged pair s) ≡ true
    still-ended e = all-done t.programs (exchanged pair s).cores (λ k m.
        let p = h.first in let q = h.second in let n = cores-exchanged pair s in
        let w = core-within pair (length t.programs) k p q (omega (arith, m, n, sized)) in
        ap (is_done (program_of t k)) (core k) ∙ done-renamed pair (program_of t k) (core_of s (exchanged_core pair k))
        ∙ ap (λ z. is_done z (core_of s (exchanged_core pair k))) (sym (program-same k))
        ∙ done-at t.programs s.cores (exchanged_core pair k) e (omega (arith, w, sized)))

    dead : forgotten t hidden (exchanged pair s) ≡ exchanged pair (forgotten t hidden s)
    dead = same-state _ _ _ _ refl (same-cores _ _
        (length-forgotten t hidden 0 (exchanged pair s).cores
        ∙ cores-exchanged pair s
        ∙ sym (cores-exchanged pair (forgotten t hidden s) ∙ length-forgotten t hidden 0 s.cores))
        (λ k.
        core-at t hidden (exchanged pair s) k ∙ ap (forgotten_core (program_of t k) (hidden_of hidden k)) (core k)
        ∙ ap (λ p. forgotten_core p (hidden_of hidden k) (renamed pair (core_of s (exchanged_core pair k)))) (sym (program-same k))
        ∙ ap (λ z.
        forgotten_core (program_of t (exchanged_core pair k)) z (renamed pair (core_of s (exchanged_core pair k))))
        (sym (same-at pair (hidden_of hidden) h.hidden_too k))
        ∙ ap (renamed pair) (sym (core-at t hidden s (exchanged_core pair k)))
        ∙ sym (core-exchanged pair (forgotten t hidden s) (let n = length-forgotten t hidden 0 s.cores in let l = h.first in omega (arith, n, sized, l))
        (let n = length-forgotten t hidden 0 s.cores in let l = h.second in omega (arith, n, sized, l)) k)))

    twice : exchanged pair (exchanged pair s) ≡ s
    twice = let l = h.first in let m = h.second in exchanged-twice pair s (omega (arith, sized, l)) (omega (arith, sized, m))

  ended : (s : State) → length s.cores ≡ length t.programs → has_ended t (exchanged pair s) ≡ has_ended t s
  ended s n = same-test (has_ended t (exchanged pair s)) (has_ended t s)
      (λ e. ap (has_ended t) (sym (twice s n)) ∙ still-ended (exchanged pair s) (cores-exchanged pair s ∙ n) e) (still-ended s n)

  first-same : exchanged pair (start t) ≡ start t
  first-same = same-state _ _ _ _ refl (same-cores _ _ (cores-exchanged pair (start t)) each)
    where
      sized : length (start t).cores ≡ length t.programs
      sized = length-starts 0 t.programs t.registers

      fresh : List ℕ → CoreState
      fresh rs = record { place = 0; registers = rs; pending = [] }

      first-of : ℕ → List ℕ
      first-of k = slice_index_or t.registers k []

      at : (k : ℕ) → k < length t.programs → core_of (start t) k ≡ fresh (first-of k)
      at k l = started-at 0 t.programs t.registers k l ∙ (let q : 0 + k ≡ k = omega arith in ap (λ z. fresh (first-of z)) q)

      each : (k : ℕ) → core_of (exchanged pair (start t)) k ≡ core_of (start t) k
      each k = core (start t) sized k ∙ elim (lt-or (length t.programs) k) [
        | inl l ↦
            let p = h.first in let q = h.second in
            ap (renamed pair) (at (exchanged_core pair k) (core-within pair (length t.programs) k p q l))
            ∙ ap fresh (same-at pair first-of h.registers k)
            ∙ sym (at k l)
        | inr l ↦
            let p = h.first in let q = h.second in
            ap (λ z. renamed pair (core_of (start t) z)) (core-beyond pair (length t.programs) k p q l)
            ∙ ap (renamed pair) (started-beyond 0 t.programs t.registers k l) ∙ sym (started-beyond 0 t.programs t.registers k l)
      ]

  pub exchangeable : IsExchangeable t hidden pair
  exchangeable = record {
    first = first-same;
    outcome = λ d s c n. (effect s n d c).outcome;
    after = λ d s c n. after s n d c;
    ended = ended;
    dead = λ s n. dead s n;
    twice = λ s n. twice s n;
  }
