-- What the search keeps, step by step.
use Rattle.explorer.proofs.Vocabulary.{◌≡◌, ◌<◌, ◌≤◌, ℕ, ◌+◌, zero, suc, Bool, true, false, List, [], ◌∷◌, ◌++◌, length, map, Some}
use Rattle.explorer.proofs.Vocabulary.{slice_get, if◌then◌else◌, ◌⊎◌, inl, inr, arith, ap, sym, ◌∙◌, subst, refl, append_assoc, ◌||◌}
use Rattle.explorer.proofs.Vocabulary.{list_any, insert_key, lt-or, append-nil, Litmus, State, after_choice, effect_of, start, chosen, step}
use Rattle.explorer.proofs.Vocabulary.{drain, Choice, Step, Drain, stall_count, IsEager, LeadsEagerly, IsAmongStates, IsCovered}
use Rattle.explorer.proofs.Vocabulary.{IsExpandedEnough, ArePartlyClosed, ChoiceSet, has_choice, IsStubborn, HasEvery, ArePicksVisited}
use Rattle.explorer.proofs.Vocabulary.{forgotten, exchanged_by, state_bytes, state_of_bytes, state_of_packed, state_of_snapshot}
use Rattle.explorer.proofs.Vocabulary.{core_of_processor, length-map, LeadsBy, IsSettled, Grows, IsKeptState, HaveCores, IsCurrent}
use Rattle.explorer.proofs.Vocabulary.{IsVisited, AreLinked, LeadToExchanged, Snapshot, Packed}
use Rattle.explorer.proofs.Exchanging.{none-alike}
use Rattle.explorer.proofs.Linking.{get-left, get-back, get-one, leads-append}

-- ---- eager choices, one more

eagerly-more : (d : ℕ) (t : Litmus) (s : State) (es : List Choice) (r : State) (c : Choice)
    → LeadsEagerly d t s es r
    → IsEager d t r c
    → LeadsEagerly d t s (es ++ c ∷ []) (after_choice t d r c)
eagerly-more d t s [] r c q h = (subst (λ z. IsEager d t z c) (sym q) h, ap (λ z. after_choice t d z c) q)
eagerly-more d t s (e ∷ es) r c l h = (l.0, eagerly-more d t (after_choice t d s e) es r c l.1 h)

pub settled-more : (d : ℕ) (t : Litmus) (old now new : State) (before after more : List Choice) (c : Choice)
    → IsSettled d t old now before after
    → IsEager d t now c
    → chosen c < length t.programs
    → stall_count (effect_of t d now c).outcome ≡ 0
    → new ≡ after_choice t d now c → more ≡ after ++ c ∷ [] → IsSettled d t old new before more
settled-more d t old now new before after more c h e l k n m = record {
  made = h.made ++ c ∷ [];
  eager = subst (λ z. LeadsEagerly d t old (h.made ++ c ∷ []) z) (sym n) (eagerly-more d t old h.made now c h.eager e);
  leads = subst (λ z. LeadsBy d t old (h.made ++ c ∷ []) z) (sym n) (leads-append d t old h.made now (c ∷ []) _ h.leads (l, k, refl));
  appended = m ∙ ap (λ z. z ++ c ∷ []) h.appended ∙ append_assoc before h.made (c ∷ []);
}

pub settled-none : (d : ℕ) (t : Litmus) (s : State) (cs : List Choice) → IsSettled d t s s cs cs
settled-none d t s cs = record { made = []; eager = refl; leads = refl; appended = sym (append-nil cs) }

-- ---- states that grow

pub grows-none : (xs : List Packed) → Grows xs xs
grows-none xs = ([], sym (append-nil xs))

pub grows-on : (xs ys zs : List Packed) → Grows xs ys → Grows ys zs → Grows xs zs
grows-on xs ys zs g h = (g.0 ++ h.0, h.1 ∙ ap (λ z. z ++ h.0) g.1 ∙ append_assoc xs g.0 h.0)

map-append : (xs ys : List Packed) → map state_of_packed (xs ++ ys) ≡ map state_of_packed xs ++ map state_of_packed ys
map-append [] ys = refl
map-append (x ∷ xs) ys = ap (λ z. state_of_packed x ∷ z) (map-append xs ys)

pub get-grown : (xs ys : List Packed) (i : ℕ) (x : Packed) → Grows xs ys → slice_get xs i ≡ Some x → slice_get ys i ≡ Some x
get-grown xs ys i x g q = subst (λ z. slice_get z i ≡ Some x) (sym g.1) (get-left xs g.0 i x q)

pub in-grown : (xs ys : List Packed) (s : State) → Grows xs ys → IsAmongStates (map state_of_packed xs) s → IsAmongStates (map state_of_packed ys) s
in-grown xs ys s g m = (
  m.0,
  subst (λ z. slice_get z m.0 ≡ Some s) (sym (ap (map state_of_packed) g.1 ∙ map-append xs g.0))
      (get-left (map state_of_packed xs) (map state_of_packed g.0) m.0 s m.1),
)

pub covered-grown : (d : ℕ) (t : Litmus) (hidden : List (List Bool)) (pairs : List (ℕ × ℕ)) (xs ys : List Packed)
    (s : State)
    → Grows xs ys
    → IsCovered d t hidden pairs (map state_of_packed xs) s
    → IsCovered d t hidden pairs (map state_of_packed ys) s
covered-grown d t hidden pairs xs ys s g h = record {
  eager = h.eager;
  last = h.last;
  leads = h.leads;
  exchanges = h.exchanges;
  of_pairs = h.of_pairs;
  among = in-grown xs ys (exchanged_by h.exchanges (forgotten t hidden h.last)) g h.among;
}

pub visited-grown : (d : ℕ) (t : Litmus) (hidden : List (List Bool)) (pairs : List (ℕ × ℕ)) (xs ys : List Packed)
    (s : State) (c : Choice)
    → Grows xs ys
    → IsVisited d t hidden pairs xs s c
    → IsVisited d t hidden pairs ys s c
visited-grown d t hidden pairs xs ys s c g (inl q) = inl q
visited-grown d t hidden pairs xs ys s c g (inr h) = inr (covered-grown d t hidden pairs xs ys (after_choice t d s c) g h)

pub expanded-grown : (d : ℕ) (t : Litmus) (hidden : List (List Bool)) (pairs : List (ℕ × ℕ)) (xs ys : List Packed)
    (s : State)
    → Grows xs ys
    → IsExpandedEnough d t hidden pairs (map state_of_packed xs) s
    → IsExpandedEnough d t hidden pairs (map state_of_packed ys) s
expanded-grown d t hidden pairs xs ys s g (inl h) = inl (λ c l. visited-grown d t hidden pairs xs ys s c g (h c l))
expanded-grown d t hidden pairs xs ys s g (inr h) =
    inr (record { set = h.set; stubborn = h.stubborn; each = λ c q l. visited-grown d t hidden pairs xs ys s c g (h.each c q l) })

-- ---- the place of a state

map-get : (xs : List Packed) (i : ℕ) (x : Packed) → slice_get xs i ≡ Some x → slice_get (map state_of_packed xs) i ≡ Some (state_of_packed x)
map-get [] i x q = absurd (let z : ⊥ = cc in z)
map-get (y ∷ xs) zero x q = let z : y ≡ x = cc in ap (λ w. Some (state_of_packed w)) z
map-get (y ∷ xs) (suc i) x q = map-get xs i x q

pub in-list : (xs : List Packed) (i : ℕ) (x : Packed) → slice_get xs i ≡ Some x → IsAmongStates (map state_of_packed xs) (state_of_packed x)
in-list xs i x q = (i, map-get xs i x q)

pub from-list : (xs : List Packed) (i : ℕ) (s : State)
    → slice_get (map state_of_packed xs) i ≡ Some s
    → (x : Packed) × (slice_get xs i ≡ Some x) × (state_of_packed x ≡ s) × (i < length xs)
from-list [] i s q = absurd (let z : ⊥ = cc in z)
from-list (y ∷ xs) zero s q = (y, refl, (let z : state_of_packed y ≡ s = cc in z), omega arith)
from-list (y ∷ xs) (suc i) s q = let r = from-list xs i s q in (r.0, r.1, r.2, let l = r.3 in omega (arith, l))

-- ---- cores

pub cores-none : (t : Litmus) → HaveCores t []
cores-none t k d l = absurd (let z : ⊥ = omega (arith, l) in z)

pub cores-more : (t : Litmus) (xs : List Packed) (x : Packed) → HaveCores t xs → IsKeptState t x → HaveCores t (xs ++ x ∷ [])
cores-more t [] x h q zero d l = q
cores-more t [] x h q (suc k) d l = absurd (let z : ⊥ = omega (arith, l) in z)
cores-more t (y ∷ xs) x h q zero d l = h zero d (omega arith)
cores-more t (y ∷ xs) x h q (suc k) d l = cores-more t xs x (λ k d l. h (suc k) d (omega (arith, l))) q k d (omega (arith, l))

-- what was packed is kept
pub packed-is : (x room : Packed) (s : Snapshot)
    → x.bytes.items ≡ room.bytes.items
    → state_of_packed room ≡ state_of_snapshot s
    → state_of_packed x ≡ state_of_snapshot s
packed-is x room s e q = ap state_of_bytes e ∙ q

pub packed-kept : (t : Litmus) (x room : Packed) (s : Snapshot)
    → x.bytes.items ≡ room.bytes.items
    → room.bytes.items ≡ state_bytes (state_of_snapshot s)
    → state_of_packed room ≡ state_of_snapshot s
    → length s.cores.items ≡ length t.programs → IsKeptState t x
packed-kept t x room s e b q n = record {
  cores = ap (λ z. length z.cores) (packed-is x room s e q) ∙ length-map s.cores.items core_of_processor ∙ n;
  packed = e ∙ b ∙ ap state_bytes (sym (packed-is x room s e q));
}

-- ---- the state that is gone through

pub current-grown : (xs ys : List Packed) (at : ℕ) (s u : Snapshot) → Grows xs ys → u ≡ s → IsCurrent xs at s → IsCurrent ys at u
current-grown xs ys at s u g e c = record { kept = c.kept; stands = get-grown xs ys at c.kept g c.stands; state_is = c.state_is ∙ ap state_of_snapshot (sym e) }

pub current-here : (xs : List Packed) (at : ℕ) (x : Packed) (s : Snapshot)
    → slice_get xs at ≡ Some x
    → state_of_snapshot s ≡ state_of_packed x
    → IsCurrent xs at s
current-here xs at x s q e = record { kept = x; stands = q; state_is = sym e }

pub current-is : (xs : List Packed) (at : ℕ) (s : Snapshot) (x : Packed)
    → IsCurrent xs at s
    → slice_get xs at ≡ Some x
    → state_of_snapshot s ≡ state_of_packed x
current-is xs at s x c q = sym c.state_is ∙ ap state_of_packed (get-one xs at c.kept x c.stands q)

-- ---- the choices of a stubborn set, or all

pub expands-enough : (d : ℕ) (t : Litmus) (hidden : List (List Bool)) (pairs : List (ℕ × ℕ)) (xs : List Packed)
    (s : State) (set : ChoiceSet)
    → IsStubborn d t set s ⊎ HasEvery set (length t.programs)
    → ((k : ℕ) → k < length t.programs → ArePicksVisited d t hidden pairs xs s set k) → IsExpandedEnough d t hidden pairs (map state_of_packed xs) s
expands-enough d t hidden pairs xs s set (inl st) h = inr (record { set = set; stubborn = st; each = each })
  where
    each : (c : Choice) → has_choice set c ≡ true → chosen c < length t.programs → IsVisited d t hidden pairs xs s c
    each (Step k) q l = (h k.0 l).0 q
    each (Drain k) q l = (h k.0 l).1 q
expands-enough d t hidden pairs xs s set (inr every) h = inl each
  where
    each : (c : Choice) → chosen c < length t.programs → IsVisited d t hidden pairs xs s c
    each (Step k) l = (h k.0 l).0 (every k.0 l).0
    each (Drain k) l = (h k.0 l).1 (every k.0 l).1

pub picks-grown : (d : ℕ) (t : Litmus) (hidden : List (List Bool)) (pairs : List (ℕ × ℕ)) (xs ys : List Packed)
    (s : State) (set : ChoiceSet) (k : ℕ)
    → Grows xs ys
    → ArePicksVisited d t hidden pairs xs s set k → ArePicksVisited d t hidden pairs ys s set k
picks-grown d t hidden pairs xs ys s set k g h =
    (λ q. visited-grown d t hidden pairs xs ys s (step k) g (h.0 q), λ q. visited-grown d t hidden pairs xs ys s (drain k) g (h.1 q))

pub picks-more : (d : ℕ) (t : Litmus) (hidden : List (List Bool)) (pairs : List (ℕ × ℕ)) (xs ys : List Packed)
    (s : State) (set : ChoiceSet) (n : ℕ)
    → Grows xs ys
    → ((k : ℕ) → k < n → ArePicksVisited d t hidden pairs xs s set k)
    → ArePicksVisited d t hidden pairs ys s set n
    → (k : ℕ) → k < n + 1
    → ArePicksVisited d t hidden pairs ys s set k
picks-more d t hidden pairs xs ys s set n g before now k l = elim (lt-or n k) [
  | inl m ↦ picks-grown d t hidden pairs xs ys s set k g (before k m)
  | inr m ↦ let q : n ≡ k = omega (arith, l, m) in subst (λ z. ArePicksVisited d t hidden pairs ys s set z) q now
]

pub closes : (d : ℕ) (t : Litmus) (hidden : List (List Bool)) (pairs : List (ℕ × ℕ)) (xs : List Packed) (n : ℕ)
    → length xs ≤ n
    → IsCovered d t hidden pairs (map state_of_packed xs) (start t)
    → ((i : ℕ) (x : Packed)
    → i < n
    → slice_get xs i ≡ Some x
    → IsExpandedEnough d t hidden pairs (map state_of_packed xs) (state_of_packed x))
    → ArePartlyClosed d t hidden pairs (map state_of_packed xs)
closes d t hidden pairs xs n l first each = record {
  first = first;
  each = λ s m.
      let r = from-list xs m.0 s m.1 in
      let k = r.3 in
      subst (λ z. IsExpandedEnough d t hidden pairs (map state_of_packed xs) z) r.2 (each m.0 r.0 (omega (arith, l, k)) r.1);
}

-- one state more is expanded
pub expanded-more : (d : ℕ) (t : Litmus) (hidden : List (List Bool)) (pairs : List (ℕ × ℕ)) (xs ys : List Packed) (n : ℕ) → n < length xs → Grows xs ys
    → ((i : ℕ) (x : Packed) → i < n → slice_get xs i ≡ Some x → IsExpandedEnough d t hidden pairs (map state_of_packed xs) (state_of_packed x))
    → ((x : Packed) → slice_get xs n ≡ Some x → IsExpandedEnough d t hidden pairs (map state_of_packed ys) (state_of_packed x))
    → (i : ℕ) (x : Packed) → i < n + 1 → slice_get ys i ≡ Some x → IsExpandedEnough d t hidden pairs (map state_of_packed ys) (state_of_packed x)
expanded-more d t hidden pairs xs ys n within g before now i x l q =
    let m : i < length xs = omega (arith, l, within) in
    let old : slice_get xs i ≡ Some x = get-back xs g.0 i x m (subst (λ z. slice_get z i ≡ Some x) g.1 q) in
    elim (lt-or n i) [
      | inl k ↦ expanded-grown d t hidden pairs xs ys (state_of_packed x) g (before i x k old)
      | inr k ↦ let e : i ≡ n = omega (arith, l, k) in now x (subst (λ z. slice_get xs z ≡ Some x) e old)
    ]

-- a set that has an equal one has the state
pub among : (eq : Packed → Packed → Bool) → ((a b : Packed) → eq a b ≡ true → state_of_packed a ≡ state_of_packed b)
    → (xs : List Packed) (x : Packed) → list_any (eq x) xs ≡ true → IsAmongStates (map state_of_packed xs) (state_of_packed x)
among eq sound [] x q = absurd (let z : ⊥ = cc in z)
among eq sound (y ∷ ys) x q = go (eq x y) refl (λ r. among eq sound ys x r) q
  where
    go : (b : Bool)
        → eq x y ≡ b
        → (list_any (eq x) ys ≡ true → IsAmongStates (map state_of_packed ys) (state_of_packed x))
        → (b || list_any (eq x) ys) ≡ true
        → IsAmongStates (map state_of_packed (y ∷ ys)) (state_of_packed x)
    go true e later r = (0, ap Some (sym (sound x y e)))
    go false e later r = let m = later r in (suc m.0, m.1)

-- a state that isn't in the set is added at its end
pub added : (eq : Packed → Packed → Bool) (xs new : List Packed) (x : Packed) → list_any (eq x) xs ≡ false → new ≡ insert_key eq xs x → new ≡ xs ++ x ∷ []
added eq xs new x q keys = keys ∙ ap (λ b. if b then xs else xs ++ x ∷ []) q

last-in : (xs : List Packed) (x : Packed) → slice_get (xs ++ x ∷ []) (length xs) ≡ Some x
last-in [] x = refl
last-in (y ∷ xs) x = last-in xs x

pub among-added : (xs new : List Packed) (x : Packed) → new ≡ xs ++ x ∷ [] → IsAmongStates (map state_of_packed new) (state_of_packed x)
among-added xs new x e = in-list new (length xs) x (subst (λ z. slice_get z (length xs) ≡ Some x) (sym e) (last-in xs x))

-- the first state alone
module _ (d : ℕ) (t : Litmus) (hidden : List (List Bool)) (settled kept : State) (before choices : List Choice) (es : List (ℕ × ℕ)) (none : before ≡ [])
    (h : IsSettled d t (start t) settled before choices) (forgot : kept ≡ forgotten t hidden settled) where
  pub first-leads : es ≡ [] → LeadToExchanged d t hidden (start t) choices es kept
  first-leads q = record {
    last = settled;
    leads = subst (λ z. LeadsBy d t (start t) z settled) (sym (h.appended ∙ ap (λ z. z ++ h.made) none)) h.leads;
    alike = none-alike t hidden es q;
    kept_is = ap (λ z. exchanged_by z (forgotten t hidden settled)) q ∙ sym forgot;
  }

  pub first-covered : (pairs : List (ℕ × ℕ)) (new : List Packed)
      → IsAmongStates (map state_of_packed new) kept
      → IsCovered d t hidden pairs (map state_of_packed new) (start t)
  first-covered pairs new among = record {
    eager = h.made;
    last = settled;
    leads = h.eager;
    exchanges = [];
    of_pairs = tt;
    among = subst (IsAmongStates (map state_of_packed new)) forgot among;
  }

pub no-links : (d : ℕ) (t : Litmus) (hidden : List (List Bool)) → AreLinked d t hidden [] []
no-links d t hidden = record { count = refl; each = λ i s link p q. absurd (let z : ⊥ = cc in z) }
