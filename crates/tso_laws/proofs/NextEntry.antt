-- What the entry at the head of the back needs, and that it is then committed.
use Rattle.tso_terms.specs.Thread.{changed, with_taken}
use Rattle.tso_terms.specs.FlatMachine.{advanced_taking}
use Rattle.std.specs.Prelude.{Option}
use Rattle.tso_laws.proofs.Vocabulary.{◌≡◌, ◌≢◌, ◌<◌, ◌≤◌, ℕ, ◌+◌, suc, List, [], ◌∷◌, ◌++◌, Some, Bool, true, false, length, slice_get}
use Rattle.tso_laws.proofs.Vocabulary.{slice_index, slice_index_or, drop, arith, ap, sym, ◌∙◌, refl, ◌⊎◌, inl, inr, subst, ◌==◌, ◌&&◌}
use Rattle.tso_laws.proofs.Vocabulary.{slice_get-get_or, action_of, entry, value_in, with_value, value_of, updated, entries_by, entries_of}
use Rattle.tso_laws.proofs.Vocabulary.{Litmus, le-by, max-left, max-right, and-false, part-small, load-kind, before, core-before, is_write}
use Rattle.tso_laws.proofs.Vocabulary.{is_before, may_be_passed, is_store, is_load, is_read_kind, is_store_kind, is_load_kind, rank}
use Rattle.tso_laws.proofs.Vocabulary.{read_value, read_values, Entry, Loc, Reg, Kind, R, W, F, LR, LW, Instr, Action, Store, Load, Move}
use Rattle.tso_laws.proofs.Vocabulary.{Fence, Lock, core_of, CoreState, State, program_of, advanced, advanced_with, loaded, load_value}
use Rattle.tso_laws.proofs.Vocabulary.{fenced, locked, effect_of, after_choice, step, drain, drained, Each, each-map, each-append, Member}
use Rattle.tso_laws.proofs.Vocabulary.{drop-at, Committed, false_from_ne_true}
use Rattle.tso_laws.proofs.Folds.{needs, asks, passed, passes, last_word, last_own, word-is}
use Rattle.tso_terms.specs.declared.instruction.Instr.TheVariants as instr
use Rattle.tso_laws.proofs.Entries.{Fine}
use Rattle.tso_laws.proofs.Draining.{acts-when}
use Rattle.tso_terms.specs.declared.choice.Stall.TheVariants as stall
use Rattle.tso_laws.proofs.CoreInvariant.{left, Paired, Next}
use Rattle.tso_laws.proofs.Held.{member-right, each-of, held, held-same, held-none, held-more, held-passed, own-held}
use Rattle.tso_laws.proofs.OrderSteps.{first_of, entries-at, Good, Stands, Goes, goes-append, choice-goes}
use Rattle.tso_laws.proofs.UpToEntry.{at-place, in-back, OnlyStores, back-ordered, back-distinct, quiet-goes, drain-goes}

passes-store : (a b : Kind) → passes a b ≡ true → is_store_kind a ≡ true
passes-store W b h = refl
passes-store _ b h = absurd (let z : ⊥ = cc in z)

passes-load : (a b : Kind) → passes a b ≡ true → is_load_kind b ≡ true
passes-load R b h = absurd (let z : ⊥ = cc in z)
passes-load W R h = refl
passes-load W _ h = absurd (let z : ⊥ = cc in z)
passes-load _ b h = absurd (let z : ⊥ = cc in z)

-- what comes after x in the order and before it in its program has been passed by it
fine-at : (d : ℕ) (t : Litmus) (order front back : List Entry) (state : State) (x e : Entry)
    → Good d t order
    → Stands d t order front (x ∷ back) state
    → x.core.0 < length t.programs
    → Member e back → is_before e x ≡ true → may_be_passed e x ≡ true
fine-at d t order front back state x e g st l m b =
    (each-of (λ z. Fine 1 x.core.0 x z) e back (back-ordered d t order front (x ∷ back) state x.core.0 g st l).0 m (core-before e x b) b).0

place-before : (e x : Entry) → e.core.0 ≡ x.core.0 → e.place < x.place → is_before e x ≡ true
place-before e x c l = before e x c (let p = part-small e.kind in omega arith)

pub only-stores : (d : ℕ) (t : Litmus) (order front back : List Entry) (state : State) (x : Entry)
    → Good d t order
    → Stands d t order front (x ∷ back) state
    → x.core.0 < length t.programs
    → OnlyStores x.core.0 x.place (x ∷ back)
only-stores d t order front back state x g st l e (inl q) c p = absurd (let r = ap (λ z. z.place) q in omega arith)
only-stores d t order front back state x g st l e (inr m) c p =
    passes-store e.kind x.kind (fine-at d t order front back state x e g st l m (place-before e x c p))

-- only a load has own stores after it that come before it in the program
after-all : (d : ℕ) (t : Litmus) (order front back : List Entry) (state : State) (x e : Entry)
    → Good d t order
    → Stands d t order front (x ∷ back) state
    → x.core.0 < length t.programs
    → is_load x ≡ false → Member e (x ∷ back) → e.core.0 ≡ x.core.0 → x.place ≤ e.place
after-all d t order front back state x e g st l n (inl q) c = let r = ap (λ z. z.place) q in omega arith
after-all d t order front back state x e g st l n (inr m) c =
    le-by (λ p. let h = passes-load e.kind x.kind (fine-at d t order front back state x e g st l m (place-before e x c p)) in let z : ⊥ = cc in z)

needed-right : (xs ys : List Entry) → needs ys ≤ needs (xs ++ ys)
needed-right [] ys = omega arith
needed-right (x ∷ xs) ys = let h = needed-right xs ys in let l = max-right (asks x (xs ++ ys)) (needs (xs ++ ys)) in omega arith

pub held-fits : (d : ℕ) (t : Litmus) (order front back : List Entry) (state : State) (x : Entry)
    → Good d t order
    → Stands d t order front (x ∷ back) state
    → x.core.0 < length t.programs
    → (b : Bool) → is_load x ≡ b → length (held x.core.0 x.place (x ∷ back)) ≤ d
held-fits d t order front back state x g st l false q =
    rw (held-none x.core.0 x.place (x ∷ back) (λ e m c w. after-all d t order front back state x e g st l q m c)) (omega arith)
held-fits d t order front back state x g st l true q =
    let r = load-kind x.kind q in
    let s : is_store x ≡ false = ap is_store_kind r in
    let h = held-passed x back r in
    let a : asks x back ≡ passed x back = rw q refl in
    let b = max-left (asks x back) (needs back) in
    let c : needs (x ∷ back) ≤ needs order = rw st.is (needed-right front (x ∷ back)) in
    let e = g.enough in
    rw s (omega arith)

-- the entry is committed by the step, and the drain
pub record One (d : ℕ) (t : Litmus) (order front : List Entry) (x : Entry) (back : List Entry) (state : State) : Type 0 where
  pub goes : Goes d t order front (x ∷ []) back state x.core.0 (x.place + 1) (step x.core.0 ∷ drained x)

-- and so is the store part of a locked instruction
pub record Two (d : ℕ) (t : Litmus) (order front : List Entry) (x : Entry) (back : List Entry) (state : State) : Type 0 where
  pub other : Entry
  pub rest : List Entry
  pub is : back ≡ other ∷ rest
  pub core : other.core.0 ≡ x.core.0
  pub place : other.place ≡ x.place
  pub load : is_store x ≡ false
  pub store : is_store other ≡ false
  pub goes : Goes d t order front (x ∷ (other ∷ [])) rest state x.core.0 (x.place + 1) (step x.core.0 ∷ [])

abbrev pub Onward : ℕ → Litmus → List Entry → List Entry → Entry → List Entry → State → Type 0
Onward d t order front x back state = One d t order front x back state ⊎ Two d t order front x back state

pub x-in-order : (d : ℕ) (t : Litmus) (order front back : List Entry) (state : State) (x e : Entry)
    → Stands d t order front (x ∷ back) state
    → Member e (x ∷ back)
    → Member e order
x-in-order d t order front back state x e st m = subst (λ z. Member e z) (sym st.is) (member-right e front (x ∷ back) m)

pub store-onward : (d : ℕ) (t : Litmus) (order front back : List Entry) (state : State) (x e : Entry)
    → Good d t order
    → Stands d t order front (x ∷ back) state
    → x.core.0 < length t.programs
    → (core_of state x.core.0).place ≡ x.place → x.place < length (program_of t x.core.0)
    → (q : List Instr) (registers reads : List ℕ)
    → left x.core.0 (program_of t x.core.0) (core_of state x.core.0) order
    ≡ (e ∷ []) ++ entries_of x.core.0 ((core_of state x.core.0).place + 1) q registers reads
    → is_store e ≡ true → One d t order front x back state
store-onward d t order front back state x e g st l p u q registers reads eq w =
    let k : ℕ = x.core.0 in
    let s : CoreState = core_of state k in
    let is =
    only (at-place d t order front (x ∷ back) state k g st l (e ∷ []) q registers reads eq x
    (x-in-order d t order front back state x x st (inl refl)) refl (sym p)) in
    let v : is_store x ≡ true = ap is_store is ∙ w in
    let f : OnlyStores k (s.place + 1) (x ∷ back) = λ y m c n. by_place y m c n in
    let empty : held k s.place (x ∷ back) ≡ [] =
    held-none k s.place (x ∷ back) (λ y m c z. let h = after-all d t order front back state x y g st l (not-load x.kind v) m c in omega arith) in
    let more =
    held-more 1 k s.place (x ∷ back) x (back-ordered d t order front (x ∷ back) state k g st l)
    (back-distinct d t order front (x ∷ back) state g st) (inl refl) refl (sym p) v in
    let one : held k (s.place + 1) (x ∷ back) ≡ x ∷ [] = more ∙ ap (λ z. z ++ (x ∷ [])) empty in
    let deep : 1 ≤ d = (let a : asks x back ≡ 1 = rw (not-load x.kind v, v) refl in let b = max-left (asks x back) (needs back) in
    let c : needs (x ∷ back) ≤ needs order = rw st.is (needed-right front (x ∷ back)) in let e = g.enough in omega arith) in
    let stepped = quiet-goes d t order front (x ∷ back) state k (s.place + 1) g st l (omega arith) (omega arith) f (rw one deep) in
    let emptied = drain-goes d t order (front ++ []) back (after_choice t d state (step k)) x g stepped.stands l v (let z = stepped.place in omega arith) in
    let both = goes-append d t order front [] (x ∷ []) (x ∷ back) back state k (s.place + 1) _ (step k ∷ []) (drain k ∷ []) stepped emptied in
    record { goes = rw v (subst (λ z. Goes d t order front (x ∷ []) back state k z (step k ∷ (drain k ∷ []))) (stepped.place ∙ ap (λ z. z + 1) p) both) }
  where
    only : Member x (e ∷ []) → x ≡ e
    only (inl h) = h
    only (inr h) = absurd h

    not-load : (k : Kind) → is_store_kind k ≡ true → is_load_kind k ≡ false
    not-load R h = absurd (let z : ⊥ = cc in z)
    not-load _ h = refl

    same-or : (a b : ℕ) → a < b + 1 → (a ≡ b) ⊎ (a < b)
    same-or a b h = grind arith

    stored-one : (y : Entry) → Member y (e ∷ []) → is_store y ≡ true
    stored-one y (inl h) = ap is_store h ∙ w
    stored-one y (inr h) = absurd h

    by_place : (y : Entry) → Member y (x ∷ back) → y.core.0 ≡ x.core.0 → y.place < (core_of state x.core.0).place + 1 → is_store y ≡ true
    by_place y m c n = elim (same-or y.place (core_of state x.core.0).place n) [
      | inl h ↦
          stored-one y (at-place d t order front (x ∷ back) state x.core.0 g st l (e ∷ []) q registers reads eq y
          (x-in-order d t order front back state x y st m) c h)
      | inr h ↦ only-stores d t order front back state x g st l y m c (omega arith)
    ]

-- a step that commits x, which is no store
other-held : (d : ℕ) (t : Litmus) (order front back : List Entry) (state : State) (x : Entry) (new : List Entry)
    → Good d t order
    → Stands d t order front (x ∷ back) state
    → x.core.0 < length t.programs
    → (q : List Instr) (registers reads : List ℕ)
    → left x.core.0 (program_of t x.core.0) (core_of state x.core.0) order
    ≡ new ++ entries_of x.core.0 ((core_of state x.core.0).place + 1) q registers reads
    → Each (λ e. is_store e ≡ false) new
    → (y : Entry) → Member y (x ∷ back)
    → y.core.0 ≡ x.core.0
    → is_store y ≡ true
    → y.place ≢ (core_of state x.core.0).place
other-held d t order front back state x new g st l q registers reads eq n y m c w p =
    let a =
    each-of (λ e. is_store e ≡ false) y new n
    (at-place d t order front (x ∷ back) state x.core.0 g st l new q registers reads eq y (x-in-order d t order front back state x y st m) c p) in
    let z : ⊥ = cc in z

held-skipped : (k n : ℕ) (x : Entry) (back : List Entry) → is_store x ≡ false → held k n (x ∷ back) ≡ held k n back
held-skipped k n x back h = rw h refl

pub load-onward : (d : ℕ) (t : Litmus) (order front back : List Entry) (state : State) (x : Entry) (reg : Reg)
    (loc : Loc) (rv : ℕ)
    → Good d t order
    → Stands d t order front (x ∷ back) state
    → x.core.0 < length t.programs
    → (core_of state x.core.0).place ≡ x.place → x.place < length (program_of t x.core.0) → loc.0 < length t.words
    → (q : List Instr) (registers reads : List ℕ)
    → left x.core.0 (program_of t x.core.0) (core_of state x.core.0) order
    ≡ (entry x.core.0 (core_of state x.core.0).place R loc rv ∷ [])
    ++ entries_of x.core.0 ((core_of state x.core.0).place + 1) q registers reads
    → effect_of t d state (step x.core.0)
    ≡ loaded (core_of state x.core.0) reg
    (entry x.core.0 (core_of state x.core.0).place R loc (load_value state.memory (core_of state x.core.0) loc.0))
    → One d t order front x back state
load-onward d t order front back state x reg loc rv g st l p u known q registers reads eq effect =
    let k : ℕ = x.core.0 in
    let s : CoreState = core_of state k in
    let e : Entry = entry k s.place R loc rv in
    let is : x ≡ e =
    only (at-place d t order front (x ∷ back) state k g st l (e ∷ []) q registers reads eq x
    (x-in-order d t order front back state x x st (inl refl)) refl (sym p)) in
    let kind : x.kind ≡ R = ap (λ z. z.kind) is in
    let where_ : x.loc ≡ loc = ap (λ z. z.loc) is in
    let not : is_store x ≡ false = ap is_store_kind kind in
    let waits : s.pending ≡ held k x.place back = st.waits k l ∙ held-skipped k s.place x back not ∙ ap (λ z. held k z back) p in
    let value : x.value ≡ last_own x back (last_word x.loc.0 front (slice_index t.words x.loc.0)) = g.due front x back st.is (ap is_read_kind kind) in
    let own =
    own-held x back (last_word x.loc.0 front (slice_index t.words x.loc.0)) kind
    (λ y m b. passes-store y.kind x.kind (fine-at d t order front back state x y g st l m b)) in
    let seen_is : load_value state.memory s loc.0 ≡ x.value =
    word-is loc.0 s.pending (slice_index state.memory loc.0)
    ∙ ap (λ z. last_word loc.0 s.pending z) (st.world.memory loc.0 known)
    ∙ ap (λ z. last_word loc.0 z (last_word loc.0 front (slice_index t.words loc.0))) waits
    ∙ ap (λ z. last_word z.0 (held k x.place back) (last_word z.0 front (slice_index t.words z.0))) (sym where_) ∙ sym own ∙ sym value in
    let committed : entry k s.place R loc (load_value state.memory s loc.0) ≡ x = ap (λ z. entry k s.place R loc z) (seen_is ∙ ap (λ z. z.value) is) ∙ sym is in
    let same = held-same k s.place back (λ y m c w. other-held d t order front back state x (e ∷ []) g st l q registers reads eq (refl, tt) y (inr m) c w) in
    record {
      goes =
          rw not (choice-goes d t order front (x ∷ []) back state (step k) k (x.place + 1) g st refl l (rw effect refl)
          (rw effect (ap (λ z. z ∷ []) committed)) (refl, tt)
          (rw effect (ap (λ z. z + 1) p)) (omega arith) (rw effect (waits ∙ ap (λ z. held k z back) (sym p) ∙ sym same ∙ ap (λ z. held k (z + 1) back) p)));
    }
  where
    only : {e : Entry} → Member x (e ∷ []) → x ≡ e
    only (inl h) = h
    only (inr h) = absurd h

-- after an entry that is no load no issued store waits
none-waits : (d : ℕ) (t : Litmus) (order front back : List Entry) (state : State) (x : Entry)
    → Good d t order
    → Stands d t order front (x ∷ back) state
    → x.core.0 < length t.programs
    → (core_of state x.core.0).place ≡ x.place → is_load x ≡ false → (core_of state x.core.0).pending ≡ []
none-waits d t order front back state x g st l p n =
    st.waits x.core.0 l
    ∙ held-none x.core.0 (core_of state x.core.0).place (x ∷ back)
    (λ y m c w. let h = after-all d t order front back state x y g st l n m c in omega arith)

-- nor after it, where its instruction makes no store
none-after : (d : ℕ) (t : Litmus) (order front back : List Entry) (state : State) (x : Entry) (new rest : List Entry)
    → Good d t order
    → Stands d t order front (x ∷ back) state
    → x.core.0 < length t.programs
    → (core_of state x.core.0).place ≡ x.place → is_load x ≡ false
    → (q : List Instr) (registers reads : List ℕ)
    → left x.core.0 (program_of t x.core.0) (core_of state x.core.0) order
    ≡ new ++ entries_of x.core.0 ((core_of state x.core.0).place + 1) q registers reads
    → Each (λ e. is_store e ≡ false) new → ((y : Entry) → Member y rest → Member y back) → held x.core.0 (x.place + 1) rest ≡ []
none-after d t order front back state x new rest g st l p n q registers reads eq k f =
    held-none x.core.0 (x.place + 1) rest (λ y m c w.
    let h = after-all d t order front back state x y g st l n (inr (f y m)) c in
    let o = other-held d t order front back state x new g st l q registers reads eq k y (inr (f y m)) c w in
    above x.place y.place h (λ z. o (sym z ∙ sym p)))
  where
    above : (a b : ℕ) → a ≤ b → a ≢ b → a + 1 ≤ b
    above a b h n = omega arith

fence-onward : (d : ℕ) (t : Litmus) (order front back : List Entry) (state : State) (x : Entry)
    → Good d t order
    → Stands d t order front (x ∷ back) state
    → x.core.0 < length t.programs
    → (core_of state x.core.0).place ≡ x.place → x.place < length (program_of t x.core.0)
    → (q : List Instr) (registers reads : List ℕ) → left x.core.0 (program_of t x.core.0) (core_of state x.core.0) order
    ≡ (entry x.core.0 (core_of state x.core.0).place F (record { 0 = 0 }) 0 ∷ []) ++ entries_of x.core.0 ((core_of state x.core.0).place + 1) q registers reads
    → effect_of t d state (step x.core.0) ≡ fenced x.core.0 (core_of state x.core.0)
    → One d t order front x back state
fence-onward d t order front back state x g st l p u q registers reads eq effect =
    let k : ℕ = x.core.0 in
    let s : CoreState = core_of state k in
    let e : Entry = entry k s.place F (record { 0 = 0 }) 0 in
    let is : x ≡ e =
    only (at-place d t order front (x ∷ back) state k g st l (e ∷ []) q registers reads eq x
    (x-in-order d t order front back state x x st (inl refl)) refl (sym p)) in
    let not : is_store x ≡ false = ap is_store is in
    let load : is_load x ≡ false = ap is_load is in
    let empty = none-waits d t order front back state x g st l p load in
    let later = none-after d t order front back state x (e ∷ []) back g st l p load q registers reads eq (refl, tt) (λ y m. m) in
    let acts : effect_of t d state (step k) ≡ record { outcome = Committed; after = advanced s; commits = e ∷ [] } = effect ∙ acts-when stall.Fence s _ empty in
    record {
      goes =
          rw not (choice-goes d t order front (x ∷ []) back state (step k) k (x.place + 1) g st refl l (rw acts refl)
          (rw acts (ap (λ z. z ∷ []) (sym is))) (refl, tt)
          (rw acts (ap (λ z. z + 1) p)) (omega arith) (rw acts (empty ∙ sym later)));
    }
  where
    only : {e : Entry} → Member x (e ∷ []) → x ≡ e
    only (inl h) = h
    only (inr h) = absurd h

own-none : (x : Entry) (ys : List Entry) (v : ℕ) → ((e : Entry) → Member e ys → is_before e x ≡ true → ⊥) → last_own x ys v ≡ v
own-none x [] v f = refl
own-none x (y ∷ ys) v f =
    rw (
      false_from_ne_true (is_before y x) (f y (inl refl)),
      and-false (is_write y && (y.loc.0 == x.loc.0)),
    ) (own-none x ys v (λ e m. f e (inr m)))

store-in : (x : Entry) (xs : List Entry) (n : Next x xs) → Member n.store xs
store-in x xs n = subst (λ z. Member n.store z) (sym n.is) (inl refl)

paired-right : (xs ys : List Entry) → Paired (xs ++ ys) → Paired ys
paired-right [] ys h = h
paired-right (x ∷ xs) ys h = paired-right xs ys h.1

locked-onward : (d : ℕ) (t : Litmus) (order front back : List Entry) (state : State) (x : Entry) (reg : Option Reg)
    (loc : Loc) (rv : ℕ) (f : ℕ → ℕ)
    → Good d t order
    → Stands d t order front (x ∷ back) state
    → x.core.0 < length t.programs
    → (core_of state x.core.0).place ≡ x.place → x.place < length (program_of t x.core.0) → loc.0 < length t.words
    → (q : List Instr) (registers reads : List ℕ) → left x.core.0 (program_of t x.core.0) (core_of state x.core.0) order
    ≡ (entry x.core.0 (core_of state x.core.0).place LR loc rv
    ∷ (entry x.core.0 (core_of state x.core.0).place LW loc (f rv) ∷ []))
    ++ entries_of x.core.0 ((core_of state x.core.0).place + 1) q registers reads
    → effect_of t d state (step x.core.0)
    ≡ locked x.core.0 (core_of state x.core.0) loc reg (slice_index state.memory loc.0) (f (slice_index state.memory loc.0))
    → Two d t order front x back state
locked-onward d t order front back state x reg loc rv f g st l p u known q registers reads eq effect =
    let k : ℕ = x.core.0 in
    let s : CoreState = core_of state k in
    let a : Entry = entry k s.place LR loc rv in
    let b : Entry = entry k s.place LW loc (f rv) in
    let here : Member a (x ∷ back) = in-back d t order front (x ∷ back) state k g st l a (rw eq (inl refl)) refl (omega arith) in
    let is : x ≡ a =
    first s.place p rv loc here
    (at-place d t order front (x ∷ back) state k g st l (a ∷ (b ∷ [])) q registers reads eq x
    (x-in-order d t order front back state x x st (inl refl)) refl (sym p)) in
    let kind : x.kind ≡ LR = ap (λ z. z.kind) is in
    let not : is_store x ≡ false = ap is_store is in
    let load : is_load x ≡ false = ap is_load is in
    let where_ : x.loc ≡ loc = ap (λ z. z.loc) is in
    let next = (paired-right front (x ∷ back) (subst (λ z. Paired z) st.is g.pairs)).0 kind in
    let y : Entry = next.store in
    let y-place : y.place ≡ s.place = next.pair.place ∙ sym p in
    let y-in : Member y back = store-in x back next in
    let y-is : y ≡ b =
    second s.place rv loc y next.pair.kind
    (at-place d t order front (x ∷ back) state k g st l (a ∷ (b ∷ [])) q registers reads eq y
    (x-in-order d t order front back state x y st (inr y-in)) (next.pair.core) y-place) in
    let empty = none-waits d t order front back state x g st l p load in
    let later =
    none-after d t order front back state x (a ∷ (b ∷ [])) next.rest g st l p load q registers reads eq
    (refl, (refl, tt)) (λ z m. subst (λ w. Member z w) (sym next.is) (inr m)) in
    let value : x.value ≡ last_own x back (last_word x.loc.0 front (slice_index t.words x.loc.0)) = g.due front x back st.is (ap is_read_kind kind) in
    let own =
    own-none x back (last_word x.loc.0 front (slice_index t.words x.loc.0))
    (λ z m h. let i = passes-load z.kind x.kind (fine-at d t order front back state x z g st l m h) in
    let w : ⊥ = cc in
    w) in
    let word : slice_index state.memory loc.0 ≡ rv =
    st.world.memory loc.0 known
    ∙ ap (λ z. last_word z.0 front (slice_index t.words z.0)) (sym where_)
    ∙ sym own
    ∙ sym value
    ∙ ap (λ z. z.value) is in
    let acts : effect_of t d state (step k)
    ≡ record { outcome = Committed; after = advanced_taking s reg rv; commits = a ∷ (b ∷ []) } =
    effect ∙ ap (λ z. locked k s loc reg z (f z)) word ∙ acts-when stall.Lock s _ empty in
    let st' : Stands d t order front ((x ∷ (y ∷ [])) ++ next.rest) state = subst (λ z. Stands d t order front (x ∷ z) state) next.is st in
    record {
      other = y;
      rest = next.rest;
      is = next.is;
      core = next.pair.core;
      place = next.pair.place;
      load = not;
      store = ap is_store y-is;
      goes = choice-goes d t order front (x ∷ (y ∷ [])) next.rest state (step k) k (x.place + 1) g st' refl l (rw acts refl)
          (rw acts (ap (λ z. a ∷ (z ∷ [])) (sym y-is) ∙ ap (λ z. z ∷ (y ∷ [])) (sym is))) (refl, (next.pair.core, tt))
          (rw acts (ap (λ z. z + 1) p)) (omega arith) (rw acts (empty ∙ sym later));
    }
  where
    first : (n : ℕ)
        → n ≡ x.place
        → (rv : ℕ) (loc : Loc)
        → Member (entry x.core.0 n LR loc rv) (x ∷ back)
        → Member x (entry x.core.0 n LR loc rv ∷ (entry x.core.0 n LW loc (f rv) ∷ []))
        → x ≡ entry x.core.0 n LR loc rv
    first n p rv loc m (inl h) = h
    first n p rv loc (inl i) (inr (inl h)) = sym i
    first n p rv loc (inr i) (inr (inl h)) =
        let b = before (entry x.core.0 n LR loc rv) x refl (let r = ap (λ z. rank z) h in omega arith) in
        let w = fine-at d t order front back state x (entry x.core.0 n LR loc rv) g st l i b in absurd (let z : ⊥ = cc in z)
    first n p rv loc m (inr (inr h)) = absurd h

    second : (n rv : ℕ) (loc : Loc) (y : Entry)
        → y.kind ≡ LW
        → Member y (entry x.core.0 n LR loc rv ∷ (entry x.core.0 n LW loc (f rv) ∷ []))
        → y ≡ entry x.core.0 n LW loc (f rv)
    second n rv loc y k (inl h) = absurd (let z : ⊥ = cc in z)
    second n rv loc y k (inr (inl h)) = h
    second n rv loc y k (inr (inr h)) = absurd h

-- the step at the place of the entry
by-instruction : (d : ℕ) (t : Litmus) (order front back : List Entry) (state : State) (x : Entry)
    → Good d t order
    → Stands d t order front (x ∷ back) state
    → x.core.0 < length t.programs
    → (core_of state x.core.0).place ≡ x.place → x.place < length (program_of t x.core.0)
    → (i : Instr) → slice_get (program_of t x.core.0) (core_of state x.core.0).place ≡ Some i → Onward d t order front x back state
by-instruction d t order front back state x g st l p u i e = by_action (action_of i) refl
  where
    by_action : (a : Action) → action_of i ≡ a → Onward d t order front x back state
    by_action (Store loc operand) is =
        let k : ℕ = x.core.0 in let s : CoreState = core_of state k in let q : List Instr = drop (s.place + 1) (program_of t k) in
        inl (store-onward d t order front back state x (entry k s.place W loc (value_of s.registers operand)) g st l p u
        q s.registers (read_values k (s.place + 1) q order) (rw (drop-at (program_of t k) s.place i e, is) refl)
        refl)
    by_action (Load reg loc) is =
        let k : ℕ = x.core.0 in let s : CoreState = core_of state k in let q : List Instr = drop (s.place + 1) (program_of t k) in
        let v : ℕ = read_value k s.place R order in
        inl (load-onward d t order front back state x reg loc v g st l p u (rw is at (g.known k s.place i e)) q
        (with_value s.registers reg v) (read_values k (s.place + 1) q order)
        (rw (drop-at (program_of t k) s.place i e, is) refl) (rw (e, is) refl))
    by_action (Move change) is =
        let k : ℕ = x.core.0 in let s : CoreState = core_of state k in let q : List Instr = drop (s.place + 1) (program_of t k) in
        absurd (at-place d t order front (x ∷ back) state k g st l [] q (changed change s.registers)
        (read_values k (s.place + 1) q order) (rw (drop-at (program_of t k) s.place i e, is) refl) x
        (x-in-order d t order front back state x x st (inl refl)) refl (sym p))
    by_action Fence is =
        let k : ℕ = x.core.0 in let s : CoreState = core_of state k in let q : List Instr = drop (s.place + 1) (program_of t k) in
        inl (fence-onward d t order front back state x g st l p u q s.registers (read_values k (s.place + 1) q order)
        (rw (drop-at (program_of t k) s.place i e, is) refl) (rw (e, is) refl))
    by_action (Lock loc reg update) is =
        let k : ℕ = x.core.0 in let s : CoreState = core_of state k in let q : List Instr = drop (s.place + 1) (program_of t k) in
        let v : ℕ = read_value k s.place LR order in
        inr (locked-onward d t order front back state x reg loc v (λ z. updated update s.registers z) g st l p u
        (rw is at (g.known k s.place i e)) q (with_taken s.registers reg v) (read_values k (s.place + 1) q order)
        (rw (drop-at (program_of t k) s.place i e, is) refl) (rw (e, is) refl))

-- an entry of a program has a place within it
pub entries-below : (c place : ℕ) (p : List Instr) (registers values : List ℕ) → Each (λ e. e.place < place + length p) (entries_of c place p registers values)
entries-below c place [] registers values = tt
entries-below c place (i ∷ p) registers values =
    let es : List Entry = entries_by c place (action_of i) registers (slice_index values 0) in
    each-append (λ e. e.place < place + suc (length p)) es _
    (each-map (λ e. (e.core.0 ≡ c) × (e.place ≡ place)) (λ e. e.place < place + suc (length p)) es
    (λ e q. let l = q.1 in omega arith)
    (entries-at c place (action_of i) registers (slice_index values 0)))
    (each-map (λ e. e.place < (place + 1) + length p) (λ e. e.place < place + suc (length p)) _ (λ e q. omega (arith, q)) (entries-below c (place + 1) p _ _))

pub place-below : (d : ℕ) (t : Litmus) (order : List Entry) (x : Entry) → Good d t order → Member x order → x.place < length (program_of t x.core.0)
place-below d t order x g m =
    let h =
    each-of (λ e. e.place < 0 + length (program_of t x.core.0)) x _
    (entries-below x.core.0 0 (program_of t x.core.0) (first_of t x.core.0) (read_values x.core.0 0 (program_of t x.core.0) order))
    (g.in_made x m).1 in
    omega (arith, h)

-- the step at the place of x, whatever the instruction
pub step-onward : (d : ℕ) (t : Litmus) (order front back : List Entry) (state : State) (x : Entry)
    → Good d t order
    → Stands d t order front (x ∷ back) state
    → x.core.0 < length t.programs
    → (core_of state x.core.0).place ≡ x.place → Onward d t order front x back state
step-onward d t order front back state x g st l p =
    let u = place-below d t order x g (x-in-order d t order front back state x x st (inl refl)) in
    by-instruction d t order front back state x g st l p u (slice_index_or (program_of t x.core.0) (core_of state x.core.0).place instr.Fence)
    (slice_get-get_or (program_of t x.core.0) (core_of state x.core.0).place instr.Fence (rw p u))
