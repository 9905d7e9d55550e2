-- Choices that go on along an order.
use Rattle.tso_laws.proofs.Vocabulary.{◌≡◌, ◌≢◌, ◌<◌, ◌≤◌, ℕ, ◌+◌, List, [], ◌∷◌, ◌++◌, Bool, false, length, slice_index, slice_index_or}
use Rattle.tso_laws.proofs.Vocabulary.{arith, ap, sym, ◌∙◌, append_assoc, refl, inl, inr, subst, ◌==◌, ◌&&◌, nat_lt, slice_get-get_or}
use Rattle.tso_laws.proofs.Vocabulary.{nat_tests, action_of, entries_by, entries_of, Litmus, decide, is_store, made_by, Entry, Instr}
use Rattle.tso_laws.proofs.Vocabulary.{Action, Move, Lock, Choice, core_of, State, idle, program_of, effect_of, chosen, after_choice}
use Rattle.tso_laws.proofs.Vocabulary.{state_after, commits_of, stall_count, Each, each-map, each-append, Member, append-nil}
use Rattle.tso_laws.proofs.Folds.{needs, HasDueValues, HasLocations}
use Rattle.tso_laws.proofs.Entries.{Ordered}
use Rattle.tso_laws.proofs.CoreInvariant.{CoreInvariant, Paired}
use Rattle.tso_laws.proofs.MachineInvariant.{MachineInvariant, world-choose}
use Rattle.tso_laws.proofs.Rounds.{own-core, other-core, after-append}
use Rattle.tso_laws.proofs.Held.{Distinct, held}

abbrev pub first_of : Litmus → ℕ → List ℕ
first_of t k = slice_index_or t.registers k []

-- what a TSO execution at this depth has, in the form that the induction takes
pub record Good (d : ℕ) (t : Litmus) (order : List Entry) : Type 0 where
  pub made_in : (k : ℕ) (e : Entry) → k < length t.programs → Member e (made_by k (program_of t k) (first_of t k) order) → Member e order
  pub in_made : (e : Entry) → Member e order → (e.core.0 < length t.programs) × Member e (made_by e.core.0 (program_of t e.core.0) (first_of t e.core.0) order)
  pub distinct : Distinct order
  pub ordered : (k : ℕ) → k < length t.programs → Ordered 1 k order
  pub due : HasDueValues t order
  pub pairs : Paired order
  pub enough : needs order ≤ d
  pub known : HasLocations t

-- the front is committed, and what is pending are the issued stores of the back
pub record Stands (d : ℕ) (t : Litmus) (order front back : List Entry) (state : State) : Type 0 where
  pub is : order ≡ front ++ back
  pub world : MachineInvariant d t front state
  pub waits : (k : ℕ) → k < length t.programs → (core_of state k).pending ≡ held k (core_of state k).place back
  pub within : (k : ℕ) → k < length t.programs → (core_of state k).place ≤ length (program_of t k)

pub holds-of : (d : ℕ) (t : Litmus) (order front back : List Entry) (state : State) (k : ℕ) → Stands d t order front back state → k < length t.programs
    → CoreInvariant d k (program_of t k) (first_of t k) t.words front (core_of state k)
holds-of d t order front back state k st l = st.world.cores k (core_of state k) (slice_get-get_or state.cores k idle (rw st.world.size l))

-- each choice takes effect
abbrev pub AllTake : Litmus → ℕ → State → List Choice → Type 0
AllTake t d state [] = Unit {0}
AllTake t d state (c ∷ cs) = (chosen c < length t.programs) × (stall_count (effect_of t d state c).outcome ≡ 0) × AllTake t d (after_choice t d state c) cs

pub takes-append : (t : Litmus) (d : ℕ) (state : State) (xs ys : List Choice)
    → AllTake t d state xs
    → AllTake t d (state_after t d state xs) ys
    → AllTake t d state (xs ++ ys)
takes-append t d state [] ys a b = b
takes-append t d state (x ∷ xs) ys a b = (a.0, a.1, takes-append t d (after_choice t d state x) xs ys a.2 b)

pub commits-append : (t : Litmus) (d : ℕ) (state : State) (xs ys : List Choice)
    → commits_of t d state (xs ++ ys) ≡ commits_of t d state xs ++ commits_of t d (state_after t d state xs) ys
commits-append t d state [] ys = refl
commits-append t d state (x ∷ xs) ys =
    ap (λ z. (effect_of t d state x).commits ++ z) (commits-append t d (after_choice t d state x) xs ys)
    ∙ sym (append_assoc (effect_of t d state x).commits _ _)

-- choices of core k that commit `done`, after which the core is at place n
pub record Goes (d : ℕ) (t : Litmus) (order front done back : List Entry) (state : State) (k n : ℕ) (cs : List Choice) : Type 0 where
  pub takes : AllTake t d state cs
  pub commits : commits_of t d state cs ≡ done
  pub stands : Stands d t order (front ++ done) back (state_after t d state cs)
  pub place : (core_of (state_after t d state cs) k).place ≡ n
  pub others : (j : ℕ) → j ≢ k → core_of (state_after t d state cs) j ≡ core_of state j

pub goes-append : (d : ℕ) (t : Litmus) (order front one two middle back : List Entry) (state : State) (k m n : ℕ) (xs ys : List Choice)
    → Goes d t order front one middle state k m xs
    → Goes d t order (front ++ one) two back (state_after t d state xs) k n ys
    → Goes d t order front (one ++ two) back state k n (xs ++ ys)
goes-append d t order front one two middle back state k m n xs ys a b = record {
  takes = takes-append t d state xs ys a.takes b.takes;
  commits = commits-append t d state xs ys ∙ ap (λ z. z ++ commits_of t d (state_after t d state xs) ys) a.commits ∙ ap (λ z. one ++ z) b.commits;
  stands = rw (after-append t d state xs ys, ← append_assoc front one two) b.stands;
  place = rw (after-append t d state xs ys) b.place;
  others = λ j e. rw (after-append t d state xs ys) (b.others j e ∙ a.others j e);
}

skip-test : (b : Bool) (c j p n : ℕ) → c ≢ j → (b && ((c == j) && nat_lt p n)) ≡ false
skip-test b c j p n h = grind (arith, nat_tests)

held-skip : (k j n : ℕ) (done back : List Entry) → Each (λ e. e.core.0 ≡ k) done → j ≢ k → held j n (done ++ back) ≡ held j n back
held-skip k j n [] back h ne = refl
held-skip k j n (x ∷ xs) back h ne = rw (skip-test (is_store x) x.core.0 j x.place n (λ e. ne (sym e ∙ h.0))) (held-skip k j n xs back h.1 ne)

pub choice-goes : (d : ℕ) (t : Litmus) (order front done back : List Entry) (state : State) (a : Choice) (k n : ℕ)
    → Good d t order
    → Stands d t order front (done ++ back) state
    → chosen a ≡ k
    → k < length t.programs
    → stall_count (effect_of t d state a).outcome ≡ 0
    → (effect_of t d state a).commits ≡ done
    → Each (λ e. e.core.0 ≡ k) done
    → (effect_of t d state a).after.place ≡ n → n ≤ length (program_of t k) → (effect_of t d state a).after.pending ≡ held k n back
    → Goes d t order front done back state k n (a ∷ [])
choice-goes d t order front done back state a k n g st q l o c m p u w = record {
  takes = (rw q l, o, tt);
  commits = append-nil _ ∙ c;
  stands = record {
    is = st.is ∙ sym (append_assoc front done back);
    world = subst (λ z. MachineInvariant d t (front ++ z) (after_choice t d state a)) c (world-choose t d front state a g.known st.world);
    waits = λ j i. elim (decide j k) [
      | inl e ↦ rw (e, mine, p) w
      | inr e ↦ rw (other-core t d state a j (λ z. e (z ∙ q))) (st.waits j i ∙ held-skip k j (core_of state j).place done back m e)
    ];
    within = λ j i. elim (decide j k) [
      | inl e ↦ rw (e, mine, p) u
      | inr e ↦ rw (other-core t d state a j (λ z. e (z ∙ q))) (st.within j i)
    ];
  };
  place = rw mine p;
  others = λ j e. other-core t d state a j (λ z. e (z ∙ q));
}
  where
    mine : core_of (after_choice t d state a) k ≡ (effect_of t d state a).after
    mine = subst (λ z. core_of (after_choice t d state a) z ≡ (effect_of t d state a).after) q (own-core t d state a (rw (q, st.world.size) l))

-- an action's entries are of its core and its place
pub entries-at : (c place : ℕ) (a : Action) (registers : List ℕ) (word : ℕ)
    → Each (λ e. (e.core.0 ≡ c) × (e.place ≡ place)) (entries_by c place a registers word)
entries-at c place (Move change) registers word = tt
entries-at c place (Lock loc reg update) registers word = ((refl, refl), ((refl, refl), tt))
entries-at c place _ registers word = ((refl, refl), tt)

-- the entries of a program from a place on
pub entries-from : (c place : ℕ) (p : List Instr) (registers values : List ℕ)
    → Each (λ e. (e.core.0 ≡ c) × (place ≤ e.place)) (entries_of c place p registers values)
entries-from c place [] registers values = tt
entries-from c place (i ∷ p) registers values =
    let es : List Entry = entries_by c place (action_of i) registers (slice_index values 0) in
    each-append (λ e. (e.core.0 ≡ c) × (place ≤ e.place)) es _
    (each-map (λ e. (e.core.0 ≡ c) × (e.place ≡ place)) (λ e. (e.core.0 ≡ c) × (place ≤ e.place)) es
    (λ e q. (q.0, let l = q.1 in omega arith))
    (entries-at c place (action_of i) registers (slice_index values 0)))
    (each-map (λ e. (e.core.0 ≡ c) × (place + 1 ≤ e.place)) (λ e. (e.core.0 ≡ c) × (place ≤ e.place)) _
    (λ e q. (q.0, let l = q.1 in omega arith)) (entries-from c (place + 1) p _ _))
