-- In each round some choice takes effect, as long as there is something left to do.
use Rattle.tso_laws.proofs.BusVocabulary.{◌≡◌, ◌<◌, ◌≤◌, ℕ, ◌+◌, ◌*◌, zero, suc, List, [], ◌∷◌, ◌++◌, Option, Some, None, Bool, true}
use Rattle.tso_laws.proofs.BusVocabulary.{length, slice_index_or, arith, ap, sym, ◌∙◌, refl, ◌⊎◌, inl, inr, subst, Litmus, State, idle}
use Rattle.tso_laws.proofs.BusVocabulary.{effect_of, chosen, core_of, program_of, start, step, drain, stall_count, is_done, has_ended}
use Rattle.tso_laws.proofs.BusVocabulary.{next_of, access_of, Holder, Free, HeldBy, HeldBetween, Attempt, needs_bus, BusState, unheld}
use Rattle.tso_laws.proofs.BusVocabulary.{effect_on, after_on, run_on_from, choices_in, Bus, Atomic, Split, Instr, Entry, Choice, Step}
use Rattle.tso_laws.proofs.BusVocabulary.{Drain, instructions, Among, IsRound, CanBeCutIntoRounds, state_on, EndOn, cases_Bool, all-done}
use Rattle.tso_laws.proofs.Cores.{done-now}
use Rattle.tso_laws.proofs.Ways.{same-self}
use Rattle.tso_laws.proofs.Left.{left, price-access, access-pays, step-takes, total, paid-total, left-present, left-within, busy-or-none}
use Rattle.tso_laws.proofs.Left.{drop-past, drop-none, start-total}
use Rattle.tso_laws.proofs.Effects.{credit, Live, LiveIn, completes-moves, writes-pay, writes-moves, choice-does, stays-here, live-after, live-on, live-start}

abbrev rest_of : Litmus → BusState → ℕ
rest_of t state = total t.programs state.flat.cores

-- never more left
no-more : (bus : Bus) (t : Litmus) (d : ℕ) (state : BusState) (xs : List Attempt) → LiveIn bus t d state
    → rest_of t (state_on bus t d state xs) + credit state.holder ≤ rest_of t state + credit (state_on bus t d state xs).holder
no-more bus t d state [] live = omega arith
no-more bus t d state (a ∷ rest) live =
    let h = no-more bus t d (after_on bus t d state a) rest (live-after bus t d state a live) in
    elim (choice-does bus t d state a live) [
      | inl m ↦ let l = m.less in omega arith
      | inr w ↦ let e = stays-here bus t d state a w in let r = ap (λ z. rest_of t z) e in let c = ap (λ z. credit z.holder) e in omega arith
    ]

-- a choice that takes effect, whatever the caches answer
abbrev Able : Bus → Litmus → ℕ → BusState → Choice → Type 0
Able bus t d state c = (hits : Bool) → stall_count (effect_on bus t d state (record { choice = c; hits = hits })).effect.outcome ≡ 0

-- where a choice that can take effect is in a list, some choice of the list does
falls : (bus : Bus) (t : Litmus) (d : ℕ) (state : BusState) (c : Choice) (xs : List Attempt)
    → LiveIn bus t d state
    → Able bus t d state c
    → Among c (choices_in xs)
    → suc (rest_of t (state_on bus t d state xs) + credit state.holder) ≤ rest_of t state + credit (state_on bus t d state xs).holder
falls bus t d state c [] live able m = absurd m
falls bus t d state c (a ∷ rest) live able m =
    let h = no-more bus t d (after_on bus t d state a) rest (live-after bus t d state a live) in
    let k : Able bus t d (after_on bus t d state a) c
    → Among c (choices_in rest)
    → suc (rest_of t (state_on bus t d (after_on bus t d state a) rest) + credit (after_on bus t d state a).holder)
    ≤ rest_of t (after_on bus t d state a) + credit (state_on bus t d (after_on bus t d state a) rest).holder =
    λ b n. falls bus t d (after_on bus t d state a) c rest (live-after bus t d state a live) b n in
    elim (choice-does bus t d state a live) [
      | inl v ↦ let l = v.less in omega arith
      | inr w ↦ elim m [
        | inl q ↦
            absurd
            (let z : stall_count (effect_on bus t d state (record { choice = a.choice; hits = a.hits })).effect.outcome
            ≡ 0 =
            subst (λ b. stall_count (effect_on bus t d state (record { choice = b; hits = a.hits })).effect.outcome ≡ 0) q (able a.hits) in
            let y = w.stalled in
            omega arith)
        | inr n ↦ let e = stays-here bus t d state a w in let i = k (subst (λ z. Able bus t d z c) (sym e) able) n in
            let r = ap (λ z. rest_of t z) e in let b = ap (λ z. credit z.holder) e in omega arith
      ]
    ]

-- a choice of a core that is there, and that can take effect
record SomeAble (bus : Bus) (t : Litmus) (d : ℕ) (state : State) (holder : Holder) : Type 0 where
  choice : Choice
  able : Able bus t d (record { flat = state; holder = holder }) choice
  present : chosen choice < length t.programs

-- on a free bus a choice that takes effect on the flat machine takes effect, or asks
free-able : (bus : Bus) (t : Litmus) (d : ℕ) (state : State) (a : Choice) → stall_count (effect_of t d state a).outcome ≡ 0 → Able bus t d (unheld state) a
free-able Atomic t d state a q hits = q
free-able Split t d state a q hits = elim (cases_Bool (needs_bus (access_of t d state a) hits)) [ inl is ↦ rw is refl | inr is ↦ rw is q ]

busy-able : (bus : Bus) (t : Litmus) (d : ℕ) (state : State)
    → length state.cores ≡ length t.programs
    → (k : ℕ) → 0 < left (program_of t k) (core_of state k)
    → SomeAble bus t d state Free
busy-able bus t d state size k b = by_pending (core_of state k).pending refl
  where
    by_place : (i : Option Instr) → next_of t state k ≡ i → (core_of state k).pending ≡ [] → SomeAble bus t d state Free
    by_place None e p = absurd (let z = drop-past (program_of t k) (core_of state k).place e in let m = ap length p in omega arith)
    by_place (Some x) e p = record {
      choice = step k;
      able = free-able bus t d state (step k) (rw e (step-takes k d state.memory x (core_of state k) p));
      present = left-present t state k size b;
    }

    by_pending : (q : List Entry) → (core_of state k).pending ≡ q → SomeAble bus t d state Free
    by_pending [] p = by_place (next_of t state k) refl p
    by_pending (y ∷ ys) p = record {
      choice = drain k;
      able = free-able bus t d state (drain k) (rw p refl);
      present = left-present t state k size b;
    }

-- as long as something is left, some choice takes effect: the holder's, or on a free bus any busy core's
some-able : (bus : Bus) (t : Litmus) (d : ℕ) (state : State) (holder : Holder)
    → Live bus t d state holder
    → (total t.programs state.cores ≡ 0) ⊎ SomeAble bus t d state holder
some-able bus t d state Free live = elim (busy-or-none t.programs state.cores) [ inl z ↦ inl z | inr b ↦ inr (busy-able bus t d state live.size b.core b.some) ]
some-able Atomic t d state (HeldBy choice) live = absurd live.holding
some-able Atomic t d state (HeldBetween e) live = absurd live.holding
some-able Split t d state (HeldBy choice) live = inr (record {
  choice = choice;
  able = λ hits. rw (same-self choice) (completes-moves t d state choice live).took;
  present = left-present t state (chosen choice) live.size
      (let l = (access-pays t d state choice live.holding).less in let p = price-access (access_of t d state choice) live.holding in omega arith);
})
some-able Split t d state (HeldBetween e) live = inr (record {
  choice = Step e.core;
  able = λ hits. rw (same-self (Step e.core)) (writes-moves t d state e live).took;
  present = left-present t state e.core.0 live.size (let l = (writes-pay t d state e live.holding).less in omega arith);
})

-- what holds the bus has more left to do than it has done
spare : (bus : Bus) (t : Litmus) (d : ℕ) (state : State) (holder : Holder)
    → Live bus t d state holder
    → total t.programs state.cores ≤ credit holder
    → total t.programs state.cores ≡ 0
spare bus t d state Free live l = omega arith
spare Atomic t d state (HeldBy choice) live l = absurd live.holding
spare Atomic t d state (HeldBetween e) live l = absurd live.holding
spare Split t d state (HeldBy choice) live l =
    absurd (let p = price-access (access_of t d state choice) live.holding in
    let w = paid-total t state (chosen choice) _ _ live.size (omega arith) (access-pays t d state choice live.holding) in omega arith)
spare Split t d state (HeldBetween e) live l =
    absurd (let w = paid-total t state e.core.0 3 _ live.size (omega arith) (writes-pay t d state e live.holding) in omega arith)

pub state-append : (bus : Bus) (t : Litmus) (d : ℕ) (state : BusState) (xs ys : List Attempt)
    → state_on bus t d state (xs ++ ys) ≡ state_on bus t d (state_on bus t d state xs) ys
state-append bus t d state [] ys = refl
state-append bus t d state (x ∷ xs) ys = state-append bus t d (after_on bus t d state x) xs ys

-- choices with their answers, where the choices are two lists one after the other
record Cut (xs : List Attempt) (us vs : List Choice) : Type 0 where
  front : List Attempt
  back : List Attempt
  both : xs ≡ front ++ back
  front_is : choices_in front ≡ us
  back_is : choices_in back ≡ vs

cut : (xs : List Attempt) (us vs : List Choice) → choices_in xs ≡ us ++ vs → Cut xs us vs
cut xs [] vs e = record { front = []; back = xs; both = refl; front_is = refl; back_is = e }
cut [] (u ∷ us) vs e = absurd (let z : ⊥ = cc in z)
cut (x ∷ xs) (u ∷ us) vs e =
    let h : x.choice ≡ u = cc in let r : choices_in xs ≡ us ++ vs = cc in
    let c = cut xs us vs r in
    record {
      front = x ∷ c.front;
      back = c.back;
      both = ap (λ z. x ∷ z) c.both;
      front_is = ap (λ z. x.choice ∷ z) c.front_is ∙ ap (λ z. z ∷ us) h;
      back_is = c.back_is;
    }

in-round : (cores : ℕ) (c : Choice) (cs : List Choice) → IsRound cores cs → chosen c < cores → Among c cs
in-round cores (Step k) cs r l = (r k.0 l).0
in-round cores (Drain k) cs r l = (r k.0 l).1

in-rounds : (bus : Bus) (t : Litmus) (d : ℕ) (state : BusState) (r : ℕ) (xs : List Attempt)
    → LiveIn bus t d state
    → CanBeCutIntoRounds (length t.programs) r (choices_in xs)
    → (rest_of t (state_on bus t d state xs) ≤ credit (state_on bus t d state xs).holder)
    ⊎ (rest_of t (state_on bus t d state xs) + credit state.holder + r ≤ rest_of t state + credit (state_on bus t d state xs).holder)
in-rounds bus t d state zero xs live rounds = inr (let h = no-more bus t d state xs live in omega arith)
in-rounds bus t d state (suc r) xs live rounds =
    let c = cut xs rounds.0 rounds.1 rounds.2 in
    let h =
    in-rounds bus t d (state_on bus t d state c.front) r c.back (live-on bus t d state c.front live)
    (subst (λ z. CanBeCutIntoRounds (length t.programs) r z) (sym c.back_is) rounds.4) in
    rw (c.both, state-append bus t d state c.front c.back) (elim (some-able bus t d state.flat state.holder live) [
      | inl z ↦ inl (let a = no-more bus t d state c.front live in
          let b = no-more bus t d (state_on bus t d state c.front) c.back (live-on bus t d state c.front live) in omega arith)
      | inr w ↦ elim h [
        | inl l ↦ inl l
        | inr l ↦
            inr (let f =
            falls bus t d state w.choice c.front live w.able
            (subst (λ z. Among w.choice z) (sym c.front_is) (in-round (length t.programs) w.choice rounds.0 rounds.3 w.present)) in
            omega arith)
      ]
    ])

-- a run has ended when the state after all choices has
ended-if-after : (bus : Bus) (t : Litmus) (d : ℕ) (state : BusState) (xs : List Attempt)
    → has_ended t (state_on bus t d state xs).flat ≡ true
    → (run_on_from bus t d state xs).run.ended ≡ true
ended-if-after bus t d state [] h = h
ended-if-after bus t d state (a ∷ rest) h = elim (cases_Bool (has_ended t state.flat)) [
  | inl is ↦ rw is refl
  | inr is ↦ rw is (ended-if-after bus t d (after_on bus t d state a) rest h)
]

-- where nothing is left the test has ended
none-left : (bus : Bus) (t : Litmus) (d : ℕ) (state : State) (holder : Holder)
    → Live bus t d state holder
    → total t.programs state.cores ≡ 0
    → has_ended t state ≡ true
none-left bus t d state holder live z = all-done t.programs state.cores each
  where
    each : (k : ℕ) → k < length state.cores → is_done (slice_index_or t.programs k []) (slice_index_or state.cores k idle) ≡ true
    each k l =
        let size = live.size in
        let w = left-within t.programs state.cores k (omega arith) l in
        done-now (program_of t k) (core_of state k) (drop-none (program_of t k) (core_of state k).place (live.within k) (omega arith)) (omega arith)

pub rounds-end : (bus : Bus) (t : Litmus) (d : ℕ) (attempts : List Attempt)
    → CanBeCutIntoRounds (length t.programs) (3 * instructions t.programs) (choices_in attempts)
    → EndOn bus t d attempts
rounds-end bus t d attempts rounds =
    let live = live-on bus t d (unheld (start t)) attempts (live-start bus t d) in
    let s = start-total 0 t.programs t.registers in
    let end = state_on bus t d (unheld (start t)) attempts in
    let l : rest_of t end ≤ credit end.holder =
    elim (in-rounds bus t d (unheld (start t)) (3 * instructions t.programs) attempts (live-start bus t d) rounds) [
      | inl l ↦ l
      | inr l ↦ omega arith
    ] in
    ended-if-after bus t d (unheld (start t)) attempts (none-left bus t d end.flat end.holder live (spare bus t d end.flat end.holder live l))
