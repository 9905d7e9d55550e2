-- Along the whole order, and the moves at the end.
use Rattle.tso_laws.proofs.Vocabulary.{max, ◌≡◌, ◌≢◌, ◌<◌, ◌≤◌, ℕ, ◌+◌, ◌-◌, zero, suc, List, [], ◌∷◌, ◌++◌, true, false, length}
use Rattle.tso_laws.proofs.Vocabulary.{slice_index, slice_index_or, drop, arith, ap, sym, ◌∙◌, append_assoc, refl, ◌⊎◌, inl, inr, add-one}
use Rattle.tso_laws.proofs.Vocabulary.{subst, get_or-set_same, get_or-set_other, length-set, Litmus, is_store, is_load, rank, is_store_kind}
use Rattle.tso_laws.proofs.Vocabulary.{made_by, read_values, Entry, Instr, Choice, decide, lt-or, max-first, max-second, state_after}
use Rattle.tso_laws.proofs.Vocabulary.{commits_of, core_of, CoreState, State, program_of, effect_of, chosen, after_choice, start, step}
use Rattle.tso_laws.proofs.Vocabulary.{CoresExist, has_ended, run_from, stall_count, steps, drained, choices_for, places_after, last_steps}
use Rattle.tso_laws.proofs.Vocabulary.{choices_from, beginnings, choices_along, LeadTo, Member, drop-end, done-at, all-done, starts-idle}
use Rattle.tso_laws.proofs.Vocabulary.{length-starts, false_from_ne_true}
use Rattle.tso_laws.proofs.OneList.{Queued}
use Rattle.tso_laws.proofs.CoreInvariant.{left, trace}
use Rattle.tso_laws.proofs.MachineInvariant.{world-start}
use Rattle.tso_laws.proofs.Work.{choice-changes, done-undone}
use Rattle.tso_laws.proofs.Rounds.{after-append, done-now, size-kept}
use Rattle.tso_laws.proofs.Held.{member-split, each-of, Distinct, Apart, held-none}
use Rattle.tso_laws.proofs.OrderSteps.{first_of, Good, Stands, holds-of, AllTake, takes-append, commits-append, Goes, goes-append, entries-from}
use Rattle.tso_laws.proofs.UpToEntry.{quiet-steps, drain-goes}
use Rattle.tso_laws.proofs.NextEntry.{x-in-order, only-stores, held-fits, place-below, step-onward}

not-twice : (front back : List Entry) (x : Entry) → Distinct (front ++ (x ∷ back)) → Member x front → ⊥
not-twice [] back x d m = m
not-twice (y ∷ ys) back x d (inl q) =
    let a = each-of (Apart y) x (ys ++ (x ∷ back)) d.0 (in-middle ys) in
    a (ap (λ z. z.core.0) (sym q)) (ap (λ z. rank z) (sym q))
  where
    in-middle : (zs : List Entry) → Member x (zs ++ (x ∷ back))
    in-middle [] = inl refl
    in-middle (z ∷ zs) = inr (in-middle zs)
not-twice (y ∷ ys) back x d (inr m) = not-twice ys back x d.1 m

-- an entry at the head of the back that its core has passed is a pending store
issued-store : (d : ℕ) (t : Litmus) (order front back : List Entry) (state : State) (x : Entry)
    → Good d t order
    → Stands d t order front (x ∷ back) state
    → x.core.0 < length t.programs
    → x.place < (core_of state x.core.0).place → is_store x ≡ true
issued-store d t order front back state x g st l p =
    let k : ℕ = x.core.0 in
    let s : CoreState = core_of state k in
    let h = holds-of d t order front (x ∷ back) state k st l in
    let trace : made_by k (program_of t k) (first_of t k) order ≡ h.done ++ left k (program_of t k) s order =
    subst (λ z. made_by k (program_of t k) (first_of t k) z ≡ h.done ++ left k (program_of t k) s z) (sym st.is)
    (trace d k (program_of t k) (first_of t k) t.words front s h (x ∷ back)) in
    let mine : Member x (h.done ++ left k (program_of t k) s order) =
    subst (λ z. Member x z) trace (g.in_made x (x-in-order d t order front back state x x st (inl refl))).1 in
    elim (member-split x h.done _ mine) [
      | inl a ↦ elim (member-split x front s.pending (each-of (λ z. Member z (front ++ s.pending)) x h.done h.sees.members a)) [
        | inl b ↦ absurd (not-twice front back x (subst (λ z. Distinct z) st.is g.distinct) b)
        | inr b ↦ ap is_store_kind (each-of (Queued k (length t.words)) x s.pending h.queued b).kind
      ]
      | inr a ↦
          absurd (let f =
          (each-of (λ z. (z.core.0 ≡ k) × (s.place ≤ z.place)) x _
          (entries-from k s.place (drop s.place (program_of t k)) s.registers (read_values k s.place (drop s.place (program_of t k)) order))
          a).1 in
          omega (arith, f, p))
    ]

pub record Placed (t : Litmus) (places : List ℕ) (state : State) : Type 0 where
  pub size : length places ≡ length t.programs
  pub each : (k : ℕ) → k < length t.programs → slice_index places k ≡ (core_of state k).place

pub placed-after : (t : Litmus) (places : List ℕ) (state next : State) (x : Entry) → Placed t places state → x.core.0 < length t.programs
    → (core_of next x.core.0).place ≡ max (slice_index places x.core.0) (x.place + 1)
    → ((j : ℕ) → j ≢ x.core.0 → core_of next j ≡ core_of state j)
    → Placed t (places_after places x) next
placed-after t places state next x h l p o = record {
  size = length-set places x.core.0 _ ∙ h.size;
  each = λ j i. elim (decide j x.core.0) [
    | inl e ↦ rw (e, p) (get_or-set_same places x.core.0 (max (slice_index places x.core.0) (x.place + 1)) 0 (rw h.size l))
    | inr e ↦ rw (o j e) (get_or-set_other places x.core.0 j (max (slice_index places x.core.0) (x.place + 1)) 0 e ∙ h.each j i)
  ];
}

steps-more : (k m : ℕ) → steps k (m + 1) ≡ steps k m ++ (step k ∷ [])
steps-more k m = rw add-one (more k m)
  where
    more : (k m : ℕ) → steps k (suc m) ≡ steps k m ++ (step k ∷ [])
    more k zero = refl
    more k (suc m) = ap (λ z. step k ∷ z) (more k m)

pub record OneMore (d : ℕ) (t : Litmus) (order front : List Entry) (x : Entry) (back : List Entry) (state : State) (cs : List Choice) (n : ℕ) : Type 0 where
  pub goes : Goes d t order front (x ∷ []) back state x.core.0 n cs

pub record TwoMore (d : ℕ) (t : Litmus) (order front : List Entry) (x : Entry) (back : List Entry) (state : State) (cs : List Choice) (n : ℕ) : Type 0 where
  pub other : Entry
  pub rest : List Entry
  pub is : back ≡ other ∷ rest
  pub core : other.core.0 ≡ x.core.0
  pub place : other.place ≡ x.place
  pub store : is_store other ≡ false
  pub now : n ≡ x.place + 1
  pub goes : Goes d t order front (x ∷ (other ∷ [])) rest state x.core.0 n cs

abbrev pub More : ℕ → Litmus → List Entry → List Entry → Entry → List Entry → State → List Choice → ℕ → Type 0
More d t order front x back state cs n = OneMore d t order front x back state cs n ⊎ TwoMore d t order front x back state cs n

-- the choices for the entry at the head of the back
pub entry-more : (d : ℕ) (t : Litmus) (order front back : List Entry) (state : State) (places : List ℕ) (x : Entry)
    → Good d t order
    → Stands d t order front (x ∷ back) state
    → Placed t places state
    → x.core.0 < length t.programs → More d t order front x back state (choices_for places x) (max (slice_index places x.core.0) (x.place + 1))
entry-more d t order front back state places x g st h l = elim (lt-or (core_of state x.core.0).place x.place) [
  | inl p ↦ inl (issued p)
  | inr p ↦ ahead p
]
  where
    issued : x.place < (core_of state x.core.0).place
        → OneMore d t order front x back state (choices_for places x) (max (slice_index places x.core.0) (x.place + 1))
    issued p =
        let w = issued-store d t order front back state x g st l p in
        let e = h.each x.core.0 l in
        let none : (x.place + 1) - (core_of state x.core.0).place ≡ 0 = omega arith in
        let n : max (core_of state x.core.0).place (x.place + 1) ≡ (core_of state x.core.0).place =
        max-first (core_of state x.core.0).place (x.place + 1) (omega arith) in
        record { goes = rw (e, none, n, w) (drain-goes d t order front back state x g st l w p) }

    ahead : (core_of state x.core.0).place ≤ x.place
        → More d t order front x back state (choices_for places x) (max (slice_index places x.core.0) (x.place + 1))
    ahead p =
        let k : ℕ = x.core.0 in
        let m : ℕ = x.place - (core_of state k).place in
        let e = h.each k l in
        let count : (x.place + 1) - (core_of state k).place ≡ m + 1 = omega arith in
        let n : max (core_of state k).place (x.place + 1) ≡ x.place + 1 = max-second (core_of state k).place (x.place + 1) (omega arith) in
        let u = place-below d t order x g (x-in-order d t order front back state x x st (inl refl)) in
        let to =
        quiet-steps d t order front (x ∷ back) state k x.place m g st l (omega arith) (omega arith)
        (only-stores d t order front back state x g st l)
        (held-fits d t order front back state x g st l (is_load x) refl) in
        let next = step-onward d t order (front ++ []) back (state_after t d state (steps k m)) x g to.stands l to.place in
        rw (e, count, n, steps-more k m, append_assoc (steps k m) (step k ∷ []) (drained x)) (elim next [
          | inl o ↦
              inl (record {
                goes =
                    goes-append d t order front [] (x ∷ []) (x ∷ back) back state k x.place (x.place + 1) (steps k m) (step k ∷ drained x) to o.goes;
              })
          | inr o ↦ inr (record {
            other = o.other;
            rest = o.rest;
            is = o.is;
            core = o.core;
            place = o.place;
            store = o.store;
            now = refl;
            goes =
                rw o.load
                (goes-append d t order front [] (x ∷ (o.other ∷ [])) (x ∷ back) o.rest state k x.place (x.place + 1)
                (steps k m) (step k ∷ []) to o.goes);
          })
        ])

-- choices that commit all that is left, and end the test
pub record Leads (d : ℕ) (t : Litmus) (back : List Entry) (state : State) (cs : List Choice) : Type 0 where
  pub takes : AllTake t d state cs
  pub commits : commits_of t d state cs ≡ back
  pub ended : has_ended t (state_after t d state cs) ≡ true

leads-append : (d : ℕ) (t : Litmus) (done back : List Entry) (state : State) (xs ys : List Choice)
    → AllTake t d state xs
    → commits_of t d state xs ≡ done
    → Leads d t back (state_after t d state xs) ys
    → Leads d t (done ++ back) state (xs ++ ys)
leads-append d t done back state xs ys a c h = record {
  takes = takes-append t d state xs ys a h.takes;
  commits = commits-append t d state xs ys ∙ ap (λ z. z ++ commits_of t d (state_after t d state xs) ys) c ∙ ap (λ z. done ++ z) h.commits;
  ended = rw (after-append t d state xs ys) h.ended;
}

done-all : (d : ℕ) (t : Litmus) (order front : List Entry) (state : State)
    → Stands d t order front [] state
    → ((k : ℕ) → k < length t.programs → (core_of state k).place ≡ length (program_of t k))
    → has_ended t state ≡ true
done-all d t order front state st f = all-done t.programs state.cores (λ k l. let i : k < length t.programs = (let n = st.world.size in omega arith) in
    done-now d (program_of t k) (core_of state k)
    (rw (
      f k i,
      drop-end (program_of t k) (length (program_of t k)) refl,
      st.waits k i,
    ) (omega arith)) (st.within k i))

-- the moves that are left at the end
finals : (d : ℕ) (t : Litmus) (order front : List Entry) (ps : List (List Instr)) (c : ℕ) (state : State)
    (places : List ℕ)
    → Good d t order
    → Stands d t order front [] state
    → ((j : ℕ) → c ≤ j → j < length t.programs → slice_index places j ≡ (core_of state j).place)
    → ((j : ℕ) → slice_index_or ps j [] ≡ program_of t (c + j))
    → c + length ps ≡ length t.programs
    → ((j : ℕ) → j < c → (core_of state j).place ≡ length (program_of t j)) → Leads d t [] state (last_steps c ps places)
finals d t order front [] c state places g st same prog n f =
    record { takes = tt; commits = refl; ended = done-all d t order front state st (λ k l. f k (omega arith)) }
finals d t order front (p ∷ ps) c state places g st same prog n f =
    let m : ℕ = length p - slice_index places c in
    let i : p ≡ program_of t c = prog 0 ∙ ap (λ z. program_of t z) (let z : c + 0 ≡ c = omega arith in z) in
    let q = ap length i in
    let e = same c (omega arith) (omega arith) in
    let u = st.within c (omega arith) in
    let one = quiet-steps d t order front [] state c (length p) m g st (omega arith) (omega arith) (omega arith) (λ y b. absurd b) (omega arith) in
    leads-append d t [] [] state (steps c m) (last_steps (c + 1) ps places) one.takes one.commits
    (finals d t order (front ++ []) ps (c + 1) (state_after t d state (steps c m)) places g one.stands
    (λ j a b. same j (omega arith) b ∙ ap (λ z. z.place) (sym (one.others j (omega arith))))
    (λ j. prog (suc j) ∙ ap (λ z. program_of t z) (let z : c + suc j ≡ (c + 1) + j = omega arith in z))
    (omega arith)
    (λ j a. elim (decide j c) [
      | inl h ↦ rw h (one.place ∙ q)
      | inr h ↦ ap (λ z. z.place) (one.others j h) ∙ f j (omega arith)
    ]))

nothing-more : (places : List ℕ) (x y : Entry)
    → y.core.0 ≡ x.core.0
    → y.place ≡ x.place
    → is_store y ≡ false
    → x.core.0 < length places
    → slice_index places x.core.0 ≡ x.place + 1
    → choices_for places y ≡ []
nothing-more places x y c p w l e = rw (c, e, p, w) (let z : (x.place + 1) - (x.place + 1) ≡ 0 = omega arith in rw z refl)

-- along the order
pub leads : (d : ℕ) (t : Litmus) (order : List Entry) (fuel : ℕ) (front back : List Entry) (state : State)
    (places : List ℕ)
    → length back ≤ fuel
    → Good d t order
    → Stands d t order front back state
    → Placed t places state
    → Leads d t back state (choices_from t places back)
leads d t order fuel front [] state places b g st h =
    finals d t order front t.programs 0 state places g st (λ j a l. h.each j l)
    (λ j. ap (λ z. program_of t z) (let z : j ≡ 0 + j = omega arith in z)) (omega arith) (λ j a. absurd (omega arith))
leads d t order zero front (x ∷ back) state places b g st h = absurd (omega arith)
leads d t order (suc fuel) front (x ∷ back) state places b g st h =
    let l = (g.in_made x (x-in-order d t order front back state x x st (inl refl))).0 in
    elim (entry-more d t order front back state places x g st h l) [
      | inl o ↦ leads-append d t (x ∷ []) back state (choices_for places x) (choices_from t (places_after places x) back) o.goes.takes o.goes.commits
          (leads d t order fuel (front ++ (x ∷ [])) back (state_after t d state (choices_for places x)) (places_after places x) (omega arith) g o.goes.stands
          (placed-after t places state (state_after t d state (choices_for places x)) x h l o.goes.place o.goes.others))
      | inr o ↦
          let next : State = state_after t d state (choices_for places x) in
          let first = placed-after t places state next x h l o.goes.place o.goes.others in
          let at = first.each x.core.0 l ∙ o.goes.place ∙ o.now in
          let none : choices_for (places_after places x) o.other ≡ [] =
          nothing-more (places_after places x) x o.other o.core o.place o.store (rw first.size l) at in
          let second = placed-after t (places_after places x) next next o.other first (rw o.core l)
          (rw o.core (o.goes.place ∙ o.now ∙ sym (larger-same (slice_index (places_after places x) x.core.0) x.place o.other.place at o.place)))
          (λ j e. refl) in
          let rest =
          leads d t order fuel (front ++ (x ∷ (o.other ∷ []))) o.rest next
          (places_after (places_after places x) o.other)
          (let n : length back ≡ suc (length o.rest) = ap length o.is in omega arith) g o.goes.stands second in
          let all : Leads d t (x ∷ (o.other ∷ o.rest)) state (choices_for places x ++ choices_from t (places_after (places_after places x) o.other) o.rest) =
          leads-append d t (x ∷ (o.other ∷ [])) o.rest state (choices_for places x)
          (choices_from t (places_after (places_after places x) o.other) o.rest) o.goes.takes o.goes.commits rest in
          with-other o.other o.rest back o.is none all
    ]
  where
    larger-same : (a b c : ℕ) → a ≡ b + 1 → c ≡ b → max a (c + 1) ≡ b + 1
    larger-same a b c p q = rw (p, q) (max-first (b + 1) (b + 1) (omega arith))

    with-other : (y : Entry) (rest back : List Entry) → back ≡ y ∷ rest → choices_for (places_after places x) y ≡ []
        → Leads d t (x ∷ (y ∷ rest)) state (choices_for places x ++ choices_from t (places_after (places_after places x) y) rest)
        → Leads d t (x ∷ back) state (choices_for places x ++ choices_from t (places_after places x) back)
    with-other y rest back e n a = subst (λ z. Leads d t (x ∷ z) state (choices_for places x ++ choices_from t (places_after places x) z)) (sym e)
        (subst (λ z. Leads d t (x ∷ (y ∷ rest)) state (choices_for places x ++ (z ++ choices_from t (places_after (places_after places x) y) rest))) (sym n) a)

-- where each choice takes effect, the run uses them all
not-ended : (t : Litmus) (d : ℕ) (state : State) (a : Choice)
    → chosen a < length state.cores
    → stall_count (effect_of t d state a).outcome ≡ 0
    → has_ended t state ≡ false
not-ended t d state a l o = false_from_ne_true (has_ended t state) (λ h.
    let u = done-undone d (program_of t (chosen a)) (core_of state (chosen a)) (done-at t.programs state.cores (chosen a) h l) in
    elim (choice-changes t d state a) [ inl w ↦ (let m = w.less in let z : ⊥ = omega arith in z) | inr w ↦ (let s = w.stalled in let z : ⊥ = cc in z) ])

pub record Whole (t : Litmus) (d : ℕ) (state : State) (cs : List Choice) : Type 0 where
  pub ended : (run_from t d state cs).ended ≡ true
  pub commits : (run_from t d state cs).commits ≡ commits_of t d state cs
  pub used : (run_from t d state cs).used ≡ length cs
  pub stalled : (run_from t d state cs).stalled ≡ 0
  pub unused : (run_from t d state cs).unused ≡ 0

takes-whole : (t : Litmus) (d : ℕ) (state : State) (cs : List Choice)
    → length state.cores ≡ length t.programs
    → AllTake t d state cs
    → has_ended t (state_after t d state cs) ≡ true
    → Whole t d state cs
takes-whole t d state [] n a e = record { ended = e; commits = refl; used = refl; stalled = refl; unused = refl }
takes-whole t d state (c ∷ cs) n a e =
    let h = takes-whole t d (after_choice t d state c) cs (size-kept t d state c ∙ n) a.2 e in
    let f = not-ended t d state c (rw n a.0) a.1 in
    record {
      ended = rw f h.ended;
      commits = rw f (ap (λ z. (effect_of t d state c).commits ++ z) h.commits);
      used = rw f (ap suc h.used);
      stalled = rw (f, a.1) (let z = h.stalled in omega arith);
      unused = rw f h.unused;
    }

takes-exist : (t : Litmus) (d : ℕ) (state : State) (cs : List Choice) → AllTake t d state cs → CoresExist (length t.programs) cs
takes-exist t d state [] a = tt
takes-exist t d state (c ∷ cs) a = (a.0, takes-exist t d (after_choice t d state c) cs a.2)

length-beginnings : (ps : List (List Instr)) → length (beginnings ps) ≡ length ps
length-beginnings [] = refl
length-beginnings (p ∷ ps) = ap suc (length-beginnings ps)

beginning : (ps : List (List Instr)) (k : ℕ) → slice_index (beginnings ps) k ≡ 0
beginning [] k = refl
beginning (p ∷ ps) zero = refl
beginning (p ∷ ps) (suc k) = beginning ps k

pub witness-leads : (d : ℕ) (t : Litmus) (order : List Entry) → Good d t order → LeadTo t d (choices_along t order) order
witness-leads d t order g =
    let idle_at = starts-idle 0 t.programs t.registers in
    let st : Stands d t order [] order (start t) = record {
      is = refl;
      world = world-start d t;
      waits = λ k l. (idle_at k).1 ∙ sym (held-none k (core_of (start t) k).place order (λ e m c w. let z = (idle_at k).0 in omega arith));
      within = λ k l. let z = (idle_at k).0 in omega arith;
    } in
    let h : Placed t (beginnings t.programs) (start t) = record {
      size = length-beginnings t.programs;
      each = λ k l. beginning t.programs k ∙ sym (idle_at k).0;
    } in
    let w = leads d t order (length order) [] order (start t) (beginnings t.programs) (omega arith) g st h in
    let r = takes-whole t d (start t) (choices_along t order) (length-starts 0 t.programs t.registers) w.takes w.ended in
    record {
      cores = takes-exist t d (start t) (choices_along t order) w.takes;
      ended = r.ended;
      commits = r.commits ∙ w.commits;
      used = r.used;
      stalled = r.stalled;
      unused = r.unused;
    }
