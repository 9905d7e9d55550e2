-- Links lead to their states.
use Rattle.explorer.proofs.Vocabulary.{◌≡◌, ◌<◌, ◌≤◌, ℕ, ◌+◌, zero, suc, Bool, List, [], ◌∷◌, ◌++◌, length, Some, slice_get, slice_index_or}
use Rattle.explorer.proofs.Vocabulary.{inl, inr, arith, ap, sym, ◌∙◌, subst, refl, length-append, get_or, take, map, append_assoc}
use Rattle.explorer.proofs.Vocabulary.{slice_get-get_or, map-append, take_more, lt-or, Litmus, State, after_choice, start, effect_of}
use Rattle.explorer.proofs.Vocabulary.{chosen, CoresExist, stall_count, Choice, state_after, state_of_packed, LeadsEagerly, forgotten}
use Rattle.explorer.proofs.Vocabulary.{AreAlike, DeadRegistersChangeNothing, exchanged_by, AreOf, AreAllAlike, AlikeCoresAreExchangeable}
use Rattle.explorer.proofs.Vocabulary.{LeadsBy, LeadsToForgotten, IsSettled, LeadByTurns, IsReachedByChoice, IsLinked, IsKeptState}
use Rattle.explorer.proofs.Vocabulary.{HaveCores, AreLinked, IsPath, GoBack, played, IsArranged, Turn, IsReachable, Packed, Link, LeadOn}
use Rattle.explorer.proofs.Vocabulary.{Made, Exchanged}
use Rattle.explorer.proofs.Exchanging.{leads-exchanged, of-alike, played-is}

-- ---- places of a list

pub get-left : {A : Type 0} (xs ys : List A) (i : ℕ) (x : A) → slice_get xs i ≡ Some x → slice_get (xs ++ ys) i ≡ Some x
get-left [] ys i x q = absurd (let z : ⊥ = cc in z)
get-left (y ∷ xs) ys zero x q = q
get-left (y ∷ xs) ys (suc i) x q = get-left xs ys i x q

pub get-back : {A : Type 0} (xs ys : List A) (i : ℕ) (x : A) → i < length xs → slice_get (xs ++ ys) i ≡ Some x → slice_get xs i ≡ Some x
get-back [] ys i x l q = absurd (let z : ⊥ = omega (arith, l) in z)
get-back (y ∷ xs) ys zero x l q = q
get-back (y ∷ xs) ys (suc i) x l q = get-back xs ys i x (omega (arith, l)) q

pub get-last : {A : Type 0} (xs : List A) (x y : A) (i : ℕ) → length xs ≤ i → slice_get (xs ++ x ∷ []) i ≡ Some y → (i ≡ length xs) × (x ≡ y)
get-last [] x y zero l q = (refl, let z : x ≡ y = cc in z)
get-last [] x y (suc i) l q = absurd (let z : ⊥ = cc in z)
get-last (w ∷ xs) x y zero l q = absurd (let z : ⊥ = omega (arith, l) in z)
get-last (w ∷ xs) x y (suc i) l q = let r = get-last xs x y i (omega (arith, l)) q in (ap suc r.0, r.1)

pub get-within : {A : Type 0} (xs : List A) (i : ℕ) (x : A) → slice_get xs i ≡ Some x → i < length xs
get-within [] i x q = absurd (let z : ⊥ = cc in z)
get-within (y ∷ xs) zero x q = omega arith
get-within (y ∷ xs) (suc i) x q = let l = get-within xs i x q in omega (arith, l)

pub get-some : {A : Type 0} (xs : List A) (i : ℕ) → i < length xs → (x : A) × (slice_get xs i ≡ Some x)
get-some [] i l = absurd (let z : ⊥ = omega (arith, l) in z)
get-some (y ∷ xs) zero l = (y, refl)
get-some (y ∷ xs) (suc i) l = get-some xs i (omega (arith, l))

pub get-or : (xs : List Packed) (i : ℕ) (x d : Packed) → slice_get xs i ≡ Some x → slice_index_or xs i d ≡ x
get-or [] i x d q = absurd (let z : ⊥ = cc in z)
get-or (y ∷ xs) zero x d q = let z : y ≡ x = cc in z
get-or (y ∷ xs) (suc i) x d q = get-or xs i x d q

pub kept-at : (t : Litmus) (xs : List Packed) (i : ℕ) (x : Packed) → HaveCores t xs → slice_get xs i ≡ Some x → IsKeptState t x
kept-at t xs i x h q = subst (λ z. IsKeptState t z) (get-or xs i x x q) (h i x (get-within xs i x q))

pub get-one : {A : Type 0} (xs : List A) (i : ℕ) (x y : A) → slice_get xs i ≡ Some x → slice_get xs i ≡ Some y → x ≡ y
get-one xs i x y p q = let z : x ≡ y = cc in z

-- ---- choices that lead on

pub leads-append : (d : ℕ) (t : Litmus) (s : State) (cs : List Choice) (r : State) (ds : List Choice) (u : State)
    → LeadsBy d t s cs r
    → LeadsBy d t r ds u
    → LeadsBy d t s (cs ++ ds) u
leads-append d t s [] r ds u q h = subst (λ z. LeadsBy d t z ds u) (sym q) h
leads-append d t s (c ∷ cs) r ds u l h = (l.0, l.1, leads-append d t (after_choice t d s c) cs r ds u l.2 h)

pub leads-after : (d : ℕ) (t : Litmus) (s : State) (cs : List Choice) (r : State) → LeadsBy d t s cs r → state_after t d s cs ≡ r
leads-after d t s [] r q = q
leads-after d t s (c ∷ cs) r l = leads-after d t (after_choice t d s c) cs r l.2

pub leads-cores : (d : ℕ) (t : Litmus) (s : State) (cs : List Choice) (r : State) → LeadsBy d t s cs r → CoresExist (length t.programs) cs
leads-cores d t s [] r q = tt
leads-cores d t s (c ∷ cs) r l = (l.0, leads-cores d t (after_choice t d s c) cs r l.2)

-- the same choices lead on from a state that differs in dead registers alone
leads-alike : DeadRegistersChangeNothing
    → (d : ℕ) (t : Litmus) (hidden : List (List Bool)) (s u : State) (cs : List Choice) (r : State)
    → AreAlike t hidden s u
    → LeadsBy d t s cs r
    → (v : State) × LeadsBy d t u cs v × AreAlike t hidden v r
leads-alike law d t hidden s u [] r a q = (u, refl, sym a ∙ ap (forgotten t hidden) q)
leads-alike law d t hidden s u (c ∷ cs) r a l =
    let w = leads-alike law d t hidden (after_choice t d s c) (after_choice t d u c) cs r (law.after t d hidden s u c a) l.2 in
    (w.0, (l.0, ap stall_count (sym (law.outcome t d hidden s u c a)) ∙ l.1, w.1), w.2)

-- choices from the first state, and turns from a kept state on
pub leads-join : DeadRegistersChangeNothing
    → AlikeCoresAreExchangeable
    → (d : ℕ) (t : Litmus) (hidden : List (List Bool)) (kept more : State) (cs : List Choice) (turns : List Turn)
    → LeadsToForgotten d t hidden (start t) cs kept → LeadByTurns d t hidden kept turns more → LeadsToForgotten d t hidden (start t) (played turns cs) more
leads-join law all d t hidden kept more cs turns h k =
    let last : State = k.lead.last in
    let alike : AreAlike t hidden kept h.last = ap (forgotten t hidden) (sym h.kept_is) ∙ law.twice t hidden h.last in
    let w = leads-alike law d t hidden kept h.last k.choices last alike k.lead.leads in
    let x = leads-exchanged d t hidden all (cs ++ k.choices) k.exchanges w.0 k.lead.alike (leads-append d t (start t) cs h.last k.choices w.0 h.leads w.1) in
    subst (λ z. LeadsToForgotten d t hidden (start t) z more) (sym (ap (λ z. played z cs) k.turns_are ∙ played-is k.choices k.exchanges cs))
    (record { last = x.last; leads = x.leads; kept_is = x.kept_is ∙ ap (exchanged_by k.exchanges) w.2 ∙ k.lead.kept_is })

-- turns from the first state
pub leads-first : AlikeCoresAreExchangeable
    → (d : ℕ) (t : Litmus) (hidden : List (List Bool)) (more : State) (turns : List Turn)
    → LeadByTurns d t hidden (start t) turns more
    → LeadsToForgotten d t hidden (start t) (played turns []) more
leads-first all d t hidden more turns k =
    let x = leads-exchanged d t hidden all k.choices k.exchanges k.lead.last k.lead.alike k.lead.leads in
    subst (λ z. LeadsToForgotten d t hidden (start t) z more) (sym (ap (λ z. played z []) k.turns_are ∙ played-is k.choices k.exchanges []))
    (record { last = x.last; leads = x.leads; kept_is = x.kept_is ∙ k.lead.kept_is })

-- ---- links

linked-grown : (d : ℕ) (t : Litmus) (hidden : List (List Bool)) (xs ys : List Packed) (i : ℕ) (s : Packed) (link : Link)
    → IsLinked d t hidden xs i s link
    → IsLinked d t hidden (xs ++ ys) i s link
linked-grown d t hidden xs ys zero s link h = h
linked-grown d t hidden xs ys (suc i) s link h = (h.0, h.1, get-left xs ys link.from h.0 h.2, h.3)

-- one state more, reached from one that is there
pub linked-more : (d : ℕ) (t : Litmus) (hidden : List (List Bool)) (xs : List Packed) (links : List Link) (r x : Packed)
    (link : Link)
    → AreLinked d t hidden xs links
    → slice_get xs link.from ≡ Some r
    → LeadByTurns d t hidden (state_of_packed r) link.turns.items (state_of_packed x)
    → AreLinked d t hidden (xs ++ x ∷ []) (links ++ link ∷ [])
linked-more d t hidden xs links r x link h at leads = record {
  count = let a = length-append xs (x ∷ []) in let b = length-append links (link ∷ []) in let n = h.count in omega (arith, a, b, n);
  each = λ i s l p q. elim (lt-or (length xs) i) [
    | inl m ↦
        let n = h.count in
        linked-grown d t hidden xs (x ∷ []) i s l
        (h.each i s l (get-back xs (x ∷ []) i s m p) (get-back links (link ∷ []) i l (omega (arith, m, n)) q))
    | inr m ↦ let n = h.count in
        let a = get-last xs x s i m p in
        let b = get-last links link l i (omega (arith, m, n)) q in
        last i s l a.0 a.1 b.1
  ];
}
  where
    within : link.from < length xs
    within = get-within xs link.from r at

    new : (i : ℕ) → i ≡ length xs → IsLinked d t hidden (xs ++ x ∷ []) i x link
    new zero e = absurd (let l = within in let z : ⊥ = omega (arith, e, l) in z)
    new (suc i) e = (r, (let l = within in omega (arith, e, l)), get-left xs (x ∷ []) link.from r at, leads)

    last : (i : ℕ) (s : Packed) (l : Link) → i ≡ length xs → x ≡ s → link ≡ l → IsLinked d t hidden (xs ++ x ∷ []) i s l
    last i s l e p q = subst (λ z. IsLinked d t hidden (xs ++ x ∷ []) i z l) p (subst (λ z. IsLinked d t hidden (xs ++ x ∷ []) i x z) q (new i e))

-- what a choice leads to, with the eager ones after it
pub leads-settled : (d : ℕ) (t : Litmus) (s acted settled : State) (c : Choice) (after : List Choice) → chosen c < length t.programs
    → stall_count (effect_of t d s c).outcome ≡ 0 → acted ≡ after_choice t d s c → IsSettled d t acted settled (c ∷ []) after → LeadsBy d t s after settled
leads-settled d t s acted settled c after l k e h =
    subst (λ z. LeadsBy d t s z settled) (sym h.appended) (l, k, subst (λ z. LeadsBy d t z h.made settled) e h.leads)

-- and without what is dead there, with cores that are alike exchanged
pub reached-is : (d : ℕ) (t : Litmus) (hidden : List (List Bool)) (pairs : List (ℕ × ℕ))
    (s acted settled forgot kept : State) (c : Choice) (before after : List Choice) (none exchanges : List (ℕ × ℕ))
    → AreAllAlike t hidden pairs → chosen c < length t.programs → stall_count (effect_of t d s c).outcome ≡ 0 → acted ≡ after_choice t d s c → before ≡ c ∷ []
    → IsSettled d t acted settled before after
    → forgot ≡ forgotten t hidden settled
    → none ≡ []
    → IsArranged pairs forgot kept none exchanges
    → IsReachedByChoice d t hidden pairs s c after exchanges kept
reached-is d t hidden pairs s acted settled forgot kept c before after none exchanges all l k e b h f n a =
    let made : IsSettled d t acted settled (c ∷ []) after = subst (λ z. IsSettled d t acted settled z after) b h in
    let of : AreOf pairs exchanges = subst (AreOf pairs) (sym (a.appended ∙ ap (λ z. z ++ a.made) n)) a.of_pairs in
    let is : exchanged_by exchanges (forgotten t hidden settled) ≡ kept =
    ap (λ z. exchanged_by exchanges z) (sym f) ∙ ap (λ z. exchanged_by z forgot) (a.appended ∙ ap (λ z. z ++ a.made) n) ∙ a.new_is in
    record {
      leads = record {
        last = settled;
        leads = leads-settled d t s acted settled c after l k e made;
        alike = of-alike t hidden pairs exchanges all of;
        kept_is = is;
      };
      last = settled;
      later = h.made;
      eager = subst (λ z. LeadsEagerly d t z h.made settled) e h.eager;
      of_pairs = of;
      kept_is = is;
    }

-- the first alone
pub linked-first : (d : ℕ) (t : Litmus) (hidden : List (List Bool)) (x : Packed) (link : Link)
    → LeadByTurns d t hidden (start t) link.turns.items (state_of_packed x)
    → AreLinked d t hidden (x ∷ []) (link ∷ [])
linked-first d t hidden x link leads = record { count = refl; each = each }
  where
    each : (i : ℕ) (s : Packed) (l : Link) → slice_get (x ∷ []) i ≡ Some s → slice_get (link ∷ []) i ≡ Some l → IsLinked d t hidden (x ∷ []) i s l
    each zero s l p q = let a : x ≡ s = cc in let b : link ≡ l = cc in
        subst (λ z. LeadByTurns d t hidden (start t) z.turns.items (state_of_packed s)) b
        (subst (λ z. LeadByTurns d t hidden (start t) link.turns.items (state_of_packed z)) a leads)
    each (suc i) s l p q = absurd (let z : ⊥ = cc in z)

-- one state more, reached from the beginning where it is the first, and else from one that is there
pub linked-on : (d : ℕ) (t : Litmus) (hidden : List (List Bool)) (xs : List Packed) (links : List Link) (x : Packed)
    (link : Link) (cs : List Choice) (es : List (ℕ × ℕ))
    → AreLinked d t hidden xs links
    → link.turns.items ≡ map Made cs ++ map Exchanged es
    → LeadOn d t hidden xs link.from cs es (state_of_packed x)
    → AreLinked d t hidden (xs ++ x ∷ []) (links ++ link ∷ [])
linked-on d t hidden [] [] x link cs es h turns (inl first) =
    linked-first d t hidden x link (record { choices = cs; exchanges = es; turns_are = turns; lead = first.1 })
linked-on d t hidden [] (l ∷ links) x link cs es h turns (inl first) = absurd (let n = h.count in let z : ⊥ = omega (arith, n) in z)
linked-on d t hidden (y ∷ xs) links x link cs es h turns (inl first) = absurd (let e = first.0 in let z : ⊥ = cc in z)
linked-on d t hidden xs links x link cs es h turns (inr on) =
    linked-more d t hidden xs links on.0 x link h on.1 (record { choices = cs; exchanges = es; turns_are = turns; lead = on.2 })

-- ---- paths

pub goes-back : (d : ℕ) (t : Litmus) (hidden : List (List Bool)) (xs : List Packed) (links : List Link) → AreLinked d t hidden xs links → GoBack links
goes-back d t hidden xs links h i link q =
    let n = h.count in
    let m = get-within links (suc i) link q in
    let r = get-some xs (suc i) (omega (arith, n, m)) in
    (h.each (suc i) r.0 link r.1 q).1

pub earlier : (links : List Link) (at : ℕ) (d : Link) → GoBack links → 0 < at → at < length links → (slice_index_or links at d).from < at
earlier links zero d h p l = absurd (let z : ⊥ = omega (arith, p) in z)
earlier links (suc i) d h p l = let r = h i (slice_index_or links (suc i) d) (slice_get-get_or links (suc i) d l) in omega (arith, r)

pub path-first : AlikeCoresAreExchangeable → (links : List Link) (at : ℕ) (d : Link) (cs was : List Choice) → at ≤ 0 → at < length links
    → cs ≡ played (slice_index_or links at d).turns.items was → was ≡ [] → IsPath links at cs
path-first all links zero d cs was p l e w = λ depth t hidden xs s h q.
    let link : Link = slice_index_or links 0 d in
    subst (λ z. LeadsToForgotten depth t hidden (start t) z (state_of_packed s)) (sym (e ∙ ap (played link.turns.items) w))
    (leads-first all depth t hidden (state_of_packed s) link.turns.items (h.each 0 s link q (slice_get-get_or links 0 d l)))
path-first all links (suc i) d cs was p l e w = absurd (let z : ⊥ = omega (arith, p) in z)

pub path-on : DeadRegistersChangeNothing
    → AlikeCoresAreExchangeable
    → (links : List Link) (at : ℕ) (c d : Link) (cs was before : List Choice)
    → 0 < at
    → at < length links
    → IsPath links (slice_index_or links at c).from before → cs ≡ played (slice_index_or links at d).turns.items was → was ≡ before → IsPath links at cs
path-on law all links zero c d cs was before p l h e w = absurd (let z : ⊥ = omega (arith, p) in z)
path-on law all links (suc i) c d cs was before p l h e w = λ depth t hidden xs s linked q.
    let link : Link = slice_index_or links (suc i) c in
    let g : slice_get links (suc i) ≡ Some link = slice_get-get_or links (suc i) c l in
    let r = linked.each (suc i) s link q g in
    let same : link ≡ slice_index_or links (suc i) d = get-one links (suc i) _ _ g (slice_get-get_or links (suc i) d l) in
    let is : cs ≡ played link.turns.items before = e ∙ ap (λ z. played z.turns.items was) (sym same) ∙ ap (played link.turns.items) w in
    subst (λ z. LeadsToForgotten depth t hidden (start t) z (state_of_packed s)) (sym is)
    (leads-join law all depth t hidden (state_of_packed r.0) (state_of_packed s) before link.turns.items (h depth t hidden xs r.0 linked r.2) r.3)

-- each kept state can be reached, but for its dead registers
pub linked-leads : DeadRegistersChangeNothing
    → AlikeCoresAreExchangeable
    → (d : ℕ) (t : Litmus) (hidden : List (List Bool)) (xs : List Packed) (links : List Link)
    → AreLinked d t hidden xs links
    → (n i : ℕ) (s : Packed) → i < n → slice_get xs i ≡ Some s → (cs : List Choice) × LeadsToForgotten d t hidden (start t) cs (state_of_packed s)
linked-leads law all d t hidden xs links h zero i s l at = absurd (let z : ⊥ = omega (arith, l) in z)
linked-leads law all d t hidden xs links h (suc n) zero s l at =
    let m = get-within xs 0 s at in let k = h.count in
    let r = get-some links 0 (omega (arith, m, k)) in
    (played r.0.turns.items [], leads-first all d t hidden (state_of_packed s) r.0.turns.items (h.each 0 s r.0 at r.1))
linked-leads law all d t hidden xs links h (suc n) (suc i) s l at =
    let m = get-within xs (suc i) s at in let k = h.count in
    let r = get-some links (suc i) (omega (arith, m, k)) in
    let w = h.each (suc i) s r.0 at r.1 in
    let before = w.1 in
    let p = linked-leads law all d t hidden xs links h n r.0.from w.0 (omega (arith, l, before)) w.2 in
    (played r.0.turns.items p.0, leads-join law all d t hidden (state_of_packed w.0) (state_of_packed s) p.0 r.0.turns.items p.1 w.3)

-- a kept state has its dead registers forgotten
pub linked-forgotten : DeadRegistersChangeNothing
    → AlikeCoresAreExchangeable
    → (d : ℕ) (t : Litmus) (hidden : List (List Bool)) (xs : List Packed) (links : List Link)
    → AreLinked d t hidden xs links
    → (i : ℕ) (s : Packed) → slice_get xs i ≡ Some s → forgotten t hidden (state_of_packed s) ≡ state_of_packed s
linked-forgotten law all d t hidden xs links h i s at =
    let w = linked-leads law all d t hidden xs links h (suc i) i s (omega arith) at in
    ap (forgotten t hidden) (sym w.1.kept_is) ∙ law.twice t hidden w.1.last ∙ w.1.kept_is

pub reachable : (d : ℕ) (t : Litmus) (s : State) (cs : List Choice) → LeadsBy d t (start t) cs s → IsReachable t d s
reachable d t s cs h = record { choices = cs; cores = leads-cores d t (start t) cs s h; state_is = leads-after d t (start t) cs s h }

-- ---- turns, one more

pub one-told : {A : Type 0} (f : A → Turn) (xs : List A) (i : ℕ) (d : A) (front before after : List Turn)
    → i < length xs
    → after ≡ before ++ f (get_or xs i d) ∷ []
    → before ≡ front ++ map f (take i xs) → after ≡ front ++ map f (take (i + 1) xs)
one-told f xs i d front before after within told so_far =
    told ∙ (ap (λ z. z ++ f (get_or xs i d) ∷ []) so_far ∙ (append_assoc front (map f (take i xs)) (f (get_or xs i d) ∷ [])
    ∙ ap (λ z. front ++ z) (sym (map-append f (take i xs) (get_or xs i d ∷ [])) ∙ ap (map f) (sym (take_more xs i d within)))))
