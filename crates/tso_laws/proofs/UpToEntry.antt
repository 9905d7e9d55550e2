-- The steps of a core up to an entry of the order.
use Rattle.tso_terms.specs.Thread.{changed}
use Rattle.tso_laws.proofs.Vocabulary.{◌≡◌, ◌<◌, ◌≤◌, ℕ, ◌+◌, zero, suc, List, [], ◌∷◌, ◌++◌, Some, Bool, true, false, length, slice_get}
use Rattle.tso_laws.proofs.Vocabulary.{slice_index_or, drop, arith, ap, sym, ◌∙◌, refl, inl, inr, subst, ◌==◌, ◌&&◌, nat_lt, length-append}
use Rattle.tso_laws.proofs.Vocabulary.{slice_get-get_or, nat_tests, action_of, entry, fence, with_value, value_of, entries_of, Litmus}
use Rattle.tso_laws.proofs.Vocabulary.{is_store, read_value, made_by, read_values, Entry, Reg, R, W, LR, Instr, Action, Store, Load, Move}
use Rattle.tso_laws.proofs.Vocabulary.{Fence, Lock, core_of, CoreState, State, Effect, program_of, stored, moved, effect_by, step_of}
use Rattle.tso_laws.proofs.Vocabulary.{effect_of, after_choice, step, drain, steps, stall_count, Member, drop-at, append-nil}
use Rattle.tso_terms.specs.declared.instruction.Instr.TheVariants as instr
use Rattle.tso_laws.proofs.Entries.{Ordered}
use Rattle.tso_laws.proofs.OneList.{Precedes}
use Rattle.tso_laws.proofs.CoreInvariant.{left, trace}
use Rattle.tso_laws.proofs.Held.{member-left, member-right, member-split, each-of, Distinct, is_held, held, held-same, held-more, held-length}
use Rattle.tso_laws.proofs.OrderSteps.{first_of, Good, Stands, holds-of, Goes, goes-append, choice-goes, entries-from}

-- what is known of an entry of the order at the place where its core stands
pub at-place : (d : ℕ) (t : Litmus) (order front back : List Entry) (state : State) (k : ℕ)
    → Good d t order
    → Stands d t order front back state
    → k < length t.programs
    → (new : List Entry) (q : List Instr) (registers reads : List ℕ)
    → left k (program_of t k) (core_of state k) order
    ≡ new ++ entries_of k ((core_of state k).place + 1) q registers reads
    → (y : Entry) → Member y order → y.core.0 ≡ k → y.place ≡ (core_of state k).place → Member y new
at-place d t order front back state k g st l new q registers reads e y m c p =
    let h = holds-of d t order front back state k st l in
    let s : CoreState = core_of state k in
    let trace : made_by k (program_of t k) (first_of t k) order ≡ h.done ++ left k (program_of t k) s order =
    subst (λ z. made_by k (program_of t k) (first_of t k) z ≡ h.done ++ left k (program_of t k) s z) (sym st.is)
    (trace d k (program_of t k) (first_of t k) t.words front s h back) in
    let mine : Member y (made_by k (program_of t k) (first_of t k) order) =
    subst (λ z. Member y (made_by z (program_of t z) (first_of t z) order)) c (g.in_made y m).1 in
    let split : Member y (h.done ++ (new ++ entries_of k (s.place + 1) q registers reads)) = subst (λ z. Member y z) (trace ∙ ap (λ z. h.done ++ z) e) mine in
    elim (member-split y h.done (new ++ entries_of k (s.place + 1) q registers reads) split) [
      | inl a ↦
          absurd (let b =
          each-of (Precedes k (s.place + s.place)) y (front ++ s.pending) h.sees.preceding
          (each-of (λ z. Member z (front ++ s.pending)) y h.done h.sees.members a) c in
          omega (arith, b, p))
      | inr a ↦ elim (member-split y new (entries_of k (s.place + 1) q registers reads) a) [
        | inl b ↦ b
        | inr b ↦
            absurd (let f =
            (each-of (λ z. (z.core.0 ≡ k) × (s.place + 1 ≤ z.place)) y _ (entries-from k (s.place + 1) q registers reads) b).1 in
            omega (arith, f, p))
      ]
    ]

-- what is left of the program is in the back
pub in-back : (d : ℕ) (t : Litmus) (order front back : List Entry) (state : State) (k : ℕ)
    → Good d t order
    → Stands d t order front back state
    → k < length t.programs
    → (e : Entry) → Member e (left k (program_of t k) (core_of state k) order) → e.core.0 ≡ k → (core_of state k).place ≤ e.place → Member e back
in-back d t order front back state k g st l e m c p =
    let h = holds-of d t order front back state k st l in
    let s : CoreState = core_of state k in
    let trace : made_by k (program_of t k) (first_of t k) order ≡ h.done ++ left k (program_of t k) s order =
    subst (λ z. made_by k (program_of t k) (first_of t k) z ≡ h.done ++ left k (program_of t k) s z) (sym st.is)
    (trace d k (program_of t k) (first_of t k) t.words front s h back) in
    let mine : Member e (front ++ back) = subst (λ z. Member e z) st.is (g.made_in k e l (subst (λ z. Member e z) (sym trace) (member-right e h.done _ m))) in
    elim (member-split e front back mine) [
      | inl a ↦
          absurd (let b =
          each-of (Precedes k (s.place + s.place)) e (front ++ s.pending) h.sees.preceding (member-left e front s.pending a) c in
          omega (arith, b, p))
      | inr a ↦ a
    ]

-- a step that commits nothing
pub record Quiet (k : ℕ) (s : CoreState) (f : Effect) (back : List Entry) : Type 0 where
  pub took : stall_count f.outcome ≡ 0
  pub none : f.commits ≡ []
  pub place : f.after.place ≡ s.place + 1
  pub waits : f.after.pending ≡ held k (s.place + 1) back

abbrev pub OnlyStores : ℕ → ℕ → List Entry → Type 0
OnlyStores k n back = (e : Entry) → Member e back → e.core.0 ≡ k → e.place < n → is_store e ≡ true

move-quiet : (d : ℕ) (t : Litmus) (order front back : List Entry) (state : State) (k : ℕ) (next : List ℕ)
    → Good d t order
    → Stands d t order front back state
    → k < length t.programs
    → (q : List Instr) (registers reads : List ℕ)
    → left k (program_of t k) (core_of state k) order ≡ entries_of k ((core_of state k).place + 1) q registers reads
    → Quiet k (core_of state k) (moved (core_of state k) next) back
move-quiet d t order front back state k next g st l q registers reads e = record {
  took = refl;
  none = refl;
  place = refl;
  waits =
      st.waits k l
      ∙ sym (held-same k (core_of state k).place back
      (λ y m c w p.
      at-place d t order front back state k g st l [] q registers reads e y (subst (λ z. Member y z) (sym st.is) (member-right y front back m)) c p));
}

pub ordered-right : (d k : ℕ) (xs ys : List Entry) → Ordered d k (xs ++ ys) → Ordered d k ys
ordered-right d k [] ys h = h
ordered-right d k (x ∷ xs) ys h = ordered-right d k xs ys h.1

pub distinct-right : (xs ys : List Entry) → Distinct (xs ++ ys) → Distinct ys
distinct-right [] ys h = h
distinct-right (x ∷ xs) ys h = distinct-right xs ys h.1

pub back-ordered : (d : ℕ) (t : Litmus) (order front back : List Entry) (state : State) (k : ℕ)
    → Good d t order
    → Stands d t order front back state
    → k < length t.programs
    → Ordered 1 k back
back-ordered d t order front back state k g st l = ordered-right 1 k front back (subst (λ z. Ordered 1 k z) st.is (g.ordered k l))

pub back-distinct : (d : ℕ) (t : Litmus) (order front back : List Entry) (state : State) → Good d t order → Stands d t order front back state → Distinct back
back-distinct d t order front back state g st = distinct-right front back (subst (λ z. Distinct z) st.is g.distinct)

store-quiet : (d : ℕ) (t : Litmus) (order front back : List Entry) (state : State) (k n : ℕ) (e : Entry)
    → Good d t order
    → Stands d t order front back state
    → k < length t.programs
    → (core_of state k).place < n
    → length (held k n back) ≤ d
    → e.core.0 ≡ k
    → e.place ≡ (core_of state k).place
    → is_store e ≡ true
    → Member e (left k (program_of t k) (core_of state k) order)
    → Quiet k (core_of state k) (stored d (core_of state k) e) back
store-quiet d t order front back state k n e g st l b r c p w m =
    let s : CoreState = core_of state k in
    let i = in-back d t order front back state k g st l e m c (omega arith) in
    let more : held k (s.place + 1) back ≡ held k s.place back ++ (e ∷ []) =
    held-more 1 k s.place back e (back-ordered d t order front back state k g st l) (back-distinct d t order front back state g st) i c p w in
    let same : s.pending ++ (e ∷ []) ≡ held k (s.place + 1) back = ap (λ z. z ++ (e ∷ [])) (st.waits k l) ∙ sym more in
    let fits : length s.pending + 1 ≤ d =
    (let a =
    length-append s.pending (e ∷ []) in
    let f = ap length same in
    let u = held-length k (s.place + 1) n back (omega arith) in
    omega arith) in
    room d s same fits
  where
    room : (d : ℕ) (s : CoreState) → s.pending ++ (e ∷ []) ≡ held k (s.place + 1) back → length s.pending + 1 ≤ d → Quiet k s (stored d s e) back
    room zero s same fits = absurd (omega arith)
    room (suc x) s same fits =
        let u : nat_lt (length s.pending) (suc x) ≡ true = grind (arith, nat_tests) in
        rw u (record { took = refl; none = refl; place = refl; waits = same })

not-there : (d : ℕ) (t : Litmus) (order front back : List Entry) (state : State) (k n : ℕ) (e : Entry)
    → Good d t order
    → Stands d t order front back state
    → k < length t.programs
    → (core_of state k).place < n
    → OnlyStores k n back
    → Member e (left k (program_of t k) (core_of state k) order)
    → e.core.0 ≡ k
    → e.place ≡ (core_of state k).place
    → is_store e ≡ false
    → ⊥
not-there d t order front back state k n e g st l b f m c p w =
    let i = in-back d t order front back state k g st l e m c (omega arith) in
    let h = f e i c (omega arith) in let z : ⊥ = cc in z

pub quiet-step : (d : ℕ) (t : Litmus) (order front back : List Entry) (state : State) (k n : ℕ) (i : Instr)
    → Good d t order
    → Stands d t order front back state
    → k < length t.programs
    → (core_of state k).place < n → OnlyStores k n back → length (held k n back) ≤ d → slice_get (program_of t k) (core_of state k).place ≡ Some i
    → Quiet k (core_of state k) (step_of d state.memory k (Some i) (core_of state k)) back
quiet-step d t order front back state k n i g st l b f r e = by_action (action_of i) refl
  where
    by_action : (a : Action) → action_of i ≡ a → Quiet k (core_of state k) (effect_by d state.memory k a (core_of state k)) back
    by_action (Store loc operand) is =
        let s : CoreState = core_of state k in
        store-quiet d t order front back state k n (entry k s.place W loc (value_of s.registers operand)) g st l b r
        refl refl refl (rw (drop-at (program_of t k) s.place i e, is) (inl refl))
    by_action (Load reg loc) is =
        let s : CoreState = core_of state k in
        absurd
        (not-there d t order front back state k n (entry k s.place R loc (read_value k s.place R order)) g st l b f
        (rw (drop-at (program_of t k) s.place i e, is) (inl refl)) refl refl refl)
    by_action (Move change) is =
        let s : CoreState = core_of state k in let v : List ℕ = changed change s.registers in let q : List Instr = drop (s.place + 1) (program_of t k) in
        move-quiet d t order front back state k v g st l q v (read_values k (s.place + 1) q order) (rw (drop-at (program_of t k) s.place i e, is) refl)
    by_action Fence is =
        let s : CoreState = core_of state k in
        absurd (not-there d t order front back state k n (fence k s.place) g st l b f (rw (drop-at (program_of t k) s.place i e, is) (inl refl)) refl refl refl)
    by_action (Lock loc reg update) is =
        let s : CoreState = core_of state k in
        absurd
        (not-there d t order front back state k n (entry k s.place LR loc (read_value k s.place LR order)) g st l b
        f (rw (drop-at (program_of t k) s.place i e, is) (inl refl)) refl refl refl)

-- one step that commits nothing, of the whole machine
pub quiet-goes : (d : ℕ) (t : Litmus) (order front back : List Entry) (state : State) (k n : ℕ)
    → Good d t order
    → Stands d t order front back state
    → k < length t.programs
    → (core_of state k).place < n → n ≤ length (program_of t k) → OnlyStores k n back → length (held k n back) ≤ d
    → Goes d t order front [] back state k ((core_of state k).place + 1) (step k ∷ [])
quiet-goes d t order front back state k n g st l b u f r =
    let s : CoreState = core_of state k in
    let i : Instr = slice_index_or (program_of t k) s.place instr.Fence in
    let e : slice_get (program_of t k) s.place ≡ Some i = slice_get-get_or (program_of t k) s.place instr.Fence (omega arith) in
    let q : Quiet k s (effect_of t d state (step k)) back = rw e (quiet-step d t order front back state k n i g st l b f r e) in
    choice-goes d t order front [] back state (step k) k (s.place + 1) g st refl l q.took q.none tt q.place (omega arith) q.waits

pub quiet-steps : (d : ℕ) (t : Litmus) (order front back : List Entry) (state : State) (k n m : ℕ)
    → Good d t order
    → Stands d t order front back state
    → k < length t.programs
    → (core_of state k).place + m ≡ n → n ≤ length (program_of t k) → OnlyStores k n back → length (held k n back) ≤ d
    → Goes d t order front [] back state k n (steps k m)
quiet-steps d t order front back state k n zero g st l e u f r =
    record {
      takes = tt;
      commits = refl;
      stands = subst (λ z. Stands d t order z back state) (sym (append-nil front)) st;
      place = omega arith;
      others = λ j ne. refl;
    }
quiet-steps d t order front back state k n (suc m) g st l e u f r =
    let one = quiet-goes d t order front back state k n g st l (omega arith) u f r in
    goes-append d t order front [] [] back back state k ((core_of state k).place + 1) n (step k ∷ []) (steps k m) one
    (quiet-steps d t order (front ++ []) back (after_choice t d state (step k)) k n m g one.stands l (let p = one.place in omega arith) u f r)

-- a pending store at the head of the back is drained
pub drain-goes : (d : ℕ) (t : Litmus) (order front back : List Entry) (state : State) (x : Entry)
    → Good d t order
    → Stands d t order front (x ∷ back) state
    → x.core.0 < length t.programs
    → is_store x ≡ true
    → x.place < (core_of state x.core.0).place
    → Goes d t order front (x ∷ []) back state x.core.0 (core_of state x.core.0).place (drain x.core.0 ∷ [])
drain-goes d t order front back state x g st l w p =
    let k : ℕ = x.core.0 in
    let s : CoreState = core_of state k in
    let h : is_held k s.place x ≡ true = is-held (is_store x) k x.place s.place w p in
    let q : s.pending ≡ x ∷ held k s.place back = st.waits k l ∙ rw h refl in
    choice-goes d t order front (x ∷ []) back state (drain k) k s.place g st refl l (rw q refl) (rw q refl) (refl, tt) (rw q refl) (st.within k l) (rw q refl)
  where
    is-held : (b : Bool) (k p n : ℕ) → b ≡ true → p < n → (b && ((k == k) && nat_lt p n)) ≡ true
    is-held b k p n h l = grind (arith, nat_tests)
