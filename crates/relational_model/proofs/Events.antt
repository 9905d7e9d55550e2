-- The events of a candidate come once each, and so do the writes in its coherence orders.
use Rattle.relational_model.proofs.Vocabulary.{◌≡◌, ◌≤◌, ℕ, ◌+◌, suc, true, List, [], ◌∷◌, ◌++◌, slice_index, slice_index_or, arith, refl}
use Rattle.relational_model.proofs.Vocabulary.{sym, ap, ◌∙◌, ◌⊎◌, inl, inr, subst, length, filter, action_of, entry, fence, value_in}
use Rattle.relational_model.proofs.Vocabulary.{value_of, updated, entries_by, registers_by, values_after, entries_of, writes_to, Litmus}
use Rattle.relational_model.proofs.Vocabulary.{Instr, Action, Store, Load, Move, Fence, Lock, Entry, R, W, LR, LW, IsIn, Candidate}
use Rattle.relational_model.proofs.Vocabulary.{IsCandidate, events_from, events, part_of, Once, part-small, rank, made, made_by, made_from}
use Rattle.relational_model.proofs.Vocabulary.{read_values, zero, slice_get, Some}
use Rattle.relational_model.proofs.Lists.{Cut, cut, in-case, in-none, in-first, in-later, in-append, in-left, in-right, in-filter}
use Rattle.relational_model.proofs.Same.{here-by, from-place, same-of}
use Rattle.relational_model.proofs.Sizes.{once-filter, length-middle}

pub once-append : (xs ys : List Entry) → Once xs → Once ys → ((x : Entry) → IsIn xs x → IsIn ys x → ⊥) → Once (xs ++ ys)
once-append [] ys a b f = b
once-append (x ∷ xs) ys a b f = ((λ i. go (in-append xs ys x i)), once-append xs ys a.1 b (λ y i j. f y (in-later x xs y i) j))
  where
    go : IsIn xs x ⊎ IsIn ys x → ⊥
    go (inl i) = a.0 i
    go (inr j) = f x (in-first x xs x refl) j

alone : (e : Entry) → Once (e ∷ [])
alone e = ((λ i. in-none e i), tt)

once-by : (core place : ℕ) (a : Action) (registers : List ℕ) (word : ℕ) → Once (entries_by core place a registers word)
once-by core place (Store loc operand) registers word = alone (entry core place W loc (value_of registers operand))
once-by core place (Load reg loc) registers word = alone (entry core place R loc word)
once-by core place (Move change) registers word = tt
once-by core place Fence registers word = alone (fence core place)
once-by core place (Lock loc reg update) registers word = ((λ i. clash (in-case second [] first i)), alone second)
  where
    first : Entry
    first = entry core place LR loc word

    second : Entry
    second = entry core place LW loc (updated update registers word)

    clash : (first ≡ second) ⊎ IsIn [] first → ⊥
    clash (inl e) = let k : LR ≡ LW = ap (λ (z : Entry). z.kind) e in let z : ⊥ = cc in z
    clash (inr i) = in-none first i

once-of-program : (core place : ℕ) (p : List Instr) (registers values : List ℕ) → Once (entries_of core place p registers values)
once-of-program core place [] registers values = tt
once-of-program core place (s ∷ p) registers values =
    once-append (entries_by core place (action_of s) registers (slice_index values 0)) _
    (once-by core place (action_of s) registers (slice_index values 0))
    (once-of-program core (place + 1) p (registers_by (action_of s) registers (slice_index values 0)) (values_after (action_of s) values))
    (λ x i j.
    let h : x.place ≡ place = (here-by core place (action_of s) registers (slice_index values 0) x i).1 in
    let l : place + 1 ≤ x.place =
    (from-place core (place + 1) p (registers_by (action_of s) registers (slice_index values 0))
    (values_after (action_of s) values) x j).1 in
    omega arith)

pub core-of-events : (core : ℕ) (ps : List (List Instr)) (registers reads : List (List ℕ)) (x : Entry)
    → IsIn (events_from core ps registers reads) x → core ≤ x.core.0
core-of-events core [] registers reads x i = absurd (in-none x i)
core-of-events core (p ∷ ps) registers reads x i =
    go (in-append (entries_of core 0 p (slice_index_or registers core []) (slice_index_or reads core []))
    (events_from (core + 1) ps registers reads) x i)
    (λ b. core-of-events (core + 1) ps registers reads x b)
  where
    go : IsIn (entries_of core 0 p (slice_index_or registers core []) (slice_index_or reads core [])) x
        ⊎ IsIn (events_from (core + 1) ps registers reads) x
        → (IsIn (events_from (core + 1) ps registers reads) x → core + 1 ≤ x.core.0) → core ≤ x.core.0
    go (inl a) later =
        let q : x.core.0 ≡ core = (from-place core 0 p (slice_index_or registers core []) (slice_index_or reads core []) x a).0 in
        omega arith
    go (inr b) later = let l : core + 1 ≤ x.core.0 = later b in omega arith

pub once-events : (core : ℕ) (ps : List (List Instr)) (registers reads : List (List ℕ)) → Once (events_from core ps registers reads)
once-events core [] registers reads = tt
once-events core (p ∷ ps) registers reads =
    once-append (entries_of core 0 p (slice_index_or registers core []) (slice_index_or reads core []))
    (events_from (core + 1) ps registers reads)
    (once-of-program core 0 p (slice_index_or registers core []) (slice_index_or reads core [])) (once-events (core + 1) ps registers reads)
    (λ x i j.
    let h : x.core.0 ≡ core = (from-place core 0 p (slice_index_or registers core []) (slice_index_or reads core []) x i).0 in
    let l : core + 1 ≤ x.core.0 = core-of-events (core + 1) ps registers reads x j in
    omega arith)

pub same-events-from : (core : ℕ) (ps : List (List Instr)) (registers reads : List (List ℕ)) (x y : Entry)
    → IsIn (events_from core ps registers reads) x
    → IsIn (events_from core ps registers reads) y → x.core.0 ≡ y.core.0 → x.place ≡ y.place → part_of x.kind ≡ part_of y.kind → x ≡ y
same-events-from core [] registers reads x y i j c e k = absurd (in-none x i)
same-events-from core (p ∷ ps) registers reads x y i j c e k =
    go (in-append first rest x i) (in-append first rest y j) (λ a b. same-events-from (core + 1) ps registers reads x y a b c e k)
  where
    first : List Entry
    first = entries_of core 0 p (slice_index_or registers core []) (slice_index_or reads core [])

    rest : List Entry
    rest = events_from (core + 1) ps registers reads

    apart : (u v : Entry) → IsIn first u → IsIn rest v → u.core.0 ≡ v.core.0 → ⊥
    apart u v a b q =
        let h : u.core.0 ≡ core = (from-place core 0 p (slice_index_or registers core []) (slice_index_or reads core []) u a).0 in
        let l : core + 1 ≤ v.core.0 = core-of-events (core + 1) ps registers reads v b in
        omega (arith, q)

    go : IsIn first x ⊎ IsIn rest x → IsIn first y ⊎ IsIn rest y → (IsIn rest x → IsIn rest y → x ≡ y) → x ≡ y
    go (inl a) (inl b) later = same-of core 0 p (slice_index_or registers core []) (slice_index_or reads core []) x y a b e k
    go (inl a) (inr b) later = absurd (apart x y a b c)
    go (inr a) (inl b) later = absurd (apart y x b a (sym c))
    go (inr a) (inr b) later = later a b

-- ---- what the programs make in an order

abbrev pub reads_from : ℕ → List (List Instr) → List Entry → List (List ℕ)
reads_from core [] order = []
reads_from core (p ∷ ps) order = read_values core 0 p order ∷ reads_from (core + 1) ps order

reads-at : (core : ℕ) (ps : List (List Instr)) (order : List Entry) (j : ℕ) (p : List Instr) → slice_get ps j ≡ Some p
    → slice_index_or (reads_from core ps order) j [] ≡ read_values (core + j) 0 p order
reads-at core [] order j p e = let z : ⊥ = cc in absurd z
reads-at core (q ∷ ps) order zero p e =
    let same : q ≡ p = cc in
    let z : core ≡ core + 0 = omega arith in
    ap (λ x. read_values core 0 x order) same ∙ ap (λ k. read_values k 0 p order) z
reads-at core (q ∷ ps) order (suc j) p e =
    let z : (core + 1) + j ≡ core + suc j = omega arith in
    reads-at (core + 1) ps order j p e ∙ ap (λ k. read_values k 0 p order) z

events-made : (core : ℕ) (ps : List (List Instr)) (registers reads : List (List ℕ)) (order : List Entry)
    → ((j : ℕ) (p : List Instr) → slice_get ps j ≡ Some p → slice_index_or reads (core + j) [] ≡ read_values (core + j) 0 p order)
    → events_from core ps registers reads ≡ made_from core ps registers order
events-made core [] registers reads order h = refl
events-made core (p ∷ ps) registers reads order h =
    let here : slice_index_or reads core [] ≡ read_values core 0 p order = subst
    (λ k. slice_index_or reads k [] ≡ read_values k 0 p order) (let z : core + 0 ≡ core = omega arith in z) (h 0 p refl) in
    let rest : events_from (core + 1) ps registers reads ≡ made_from (core + 1) ps registers order =
    events-made (core + 1) ps registers reads order
    (λ j q e. subst (λ k. slice_index_or reads k [] ≡ read_values k 0 q order) (let z : core + suc j ≡ (core + 1) + j = omega arith in z)
    (h (suc j) q e)) in
    ap (λ values. entries_of core 0 p (slice_index_or registers core []) values ++ events_from (core + 1) ps registers reads) here
    ∙ ap (λ es. made_by core p (slice_index_or registers core []) order ++ es) rest

pub made-events : (t : Litmus) (order : List Entry) → events_from 0 t.programs t.registers (reads_from 0 t.programs order) ≡ made t order
made-events t order =
    events-made 0 t.programs t.registers (reads_from 0 t.programs order) order
    (λ j p e. subst (λ k. slice_index_or (reads_from 0 t.programs order) k [] ≡ read_values (0 + j) 0 p order)
    (let z : j ≡ 0 + j = omega arith in z) (reads-at 0 t.programs order j p e))

pub same-made : (t : Litmus) (order : List Entry) (x y : Entry) → IsIn (made t order) x → IsIn (made t order) y → x.core.0 ≡ y.core.0
    → x.place ≡ y.place → x.kind ≡ y.kind → x ≡ y
same-made t order x y i j c e k =
    same-events-from 0 t.programs t.registers (reads_from 0 t.programs order) x y (subst (λ es. IsIn es x) (sym (made-events t order)) i)
    (subst (λ es. IsIn es y) (sym (made-events t order)) j) c e (ap part_of k)

-- ---- lists of one length

-- two lists of one length, the members of the first, each once, in the second
pub record Alike (xs ys : List Entry) : Type 0 where
  pub inside : (y : Entry) → IsIn ys y → IsIn xs y
  pub once : Once ys

once-middle : (xs ys : List Entry) (e : Entry) → Once (xs ++ ys) → (IsIn (xs ++ ys) e → ⊥) → Once (xs ++ (e ∷ ys))
once-middle [] ys e o n = (n, o)
once-middle (x ∷ xs) ys e o n = ((λ i. go (in-append xs (e ∷ ys) x i)), once-middle xs ys e o.1 (λ i. n (in-later x (xs ++ ys) e i)))
  where
    go : IsIn xs x ⊎ IsIn (e ∷ ys) x → ⊥
    go (inl i) = o.0 (in-left xs ys x i)
    go (inr j) = elim (in-case e ys x j) [ inl q ↦ n (in-first x (xs ++ ys) e (sym q)) | inr i ↦ o.0 (in-right xs ys x i) ]

pub pigeons : (xs ys : List Entry) → Once xs → ((x : Entry) → IsIn xs x → IsIn ys x) → length ys ≡ length xs → Alike xs ys
pigeons [] [] o f n = record { inside = λ y i. i; once = tt }
pigeons [] (y ∷ ys) o f n = absurd (omega arith)
pigeons (x ∷ xs) ys o f n = on (cut ys x (f x (in-first x xs x refl))) (λ zs g m. pigeons xs zs o.1 g m)
  where
    on : Cut ys x → ((zs : List Entry) → ((y : Entry) → IsIn xs y → IsIn zs y) → length zs ≡ length xs → Alike xs zs) → Alike (x ∷ xs) ys
    on k rest =
        finish (rest (k.front ++ k.back) inside
        (let a : length ys ≡ suc (length (k.front ++ k.back)) = ap length k.is ∙ length-middle k.front k.back x in
        let b : length ys ≡ suc (length xs) = n in omega arith))
      where
        inside : (y : Entry) → IsIn xs y → IsIn (k.front ++ k.back) y
        inside y i = elim (in-append k.front (x ∷ k.back) y (subst (λ zs. IsIn zs y) k.is (f y (in-later x xs y i)))) [
          | inl a ↦ in-left k.front k.back y a
          | inr b ↦ elim (in-case x k.back y b) [ inl e ↦ absurd (o.0 (subst (IsIn xs) e i)) | inr b ↦ in-right k.front k.back y b ]
        ]

        finish : Alike xs (k.front ++ k.back) → Alike (x ∷ xs) ys
        finish s = record {
          inside = λ y i. go y (in-append k.front (x ∷ k.back) y (subst (λ zs. IsIn zs y) k.is i));
          once = subst Once (sym k.is) (once-middle k.front k.back x s.once (λ i. o.0 (s.inside x i)));
        }
          where
            go : (y : Entry) → IsIn k.front y ⊎ IsIn (x ∷ k.back) y → IsIn (x ∷ xs) y
            go y (inl a) = in-later x xs y (s.inside y (in-left k.front k.back y a))
            go y (inr b) =
                elim (in-case x k.back y b) [ inl e ↦ in-first x xs y e | inr b ↦ in-later x xs y (s.inside y (in-right k.front k.back y b)) ]

-- ---- what is known of a candidate

pub record Sound (t : Litmus) (c : Candidate) : Type 0 where
  pub candidate : IsCandidate t c
  pub once : Once (events t c)
  pub same : (x y : Entry) → IsIn (events t c) x → IsIn (events t c) y → x.core.0 ≡ y.core.0 → x.place ≡ y.place
      → part_of x.kind ≡ part_of y.kind → x ≡ y
  pub coherent : (loc : ℕ) (w : Entry) → IsIn (c.coherence loc) w → IsIn (events t c) w × (writes_to loc w ≡ true)
  pub single : (loc : ℕ) → Once (c.coherence loc)

pub halves : (p a q b : ℕ) → a ≤ 1 → b ≤ 1 → p + p + a ≡ q + q + b → (p ≡ q) × (a ≡ b)
halves p a q b x y e = (omega arith, omega arith)

-- events of one core differ in their ranks
pub same-rank : (t : Litmus) (c : Candidate) → Sound t c → (x y : Entry) → IsIn (events t c) x → IsIn (events t c) y → x.core.0 ≡ y.core.0
    → rank x ≡ rank y → x ≡ y
same-rank t c s x y i j e q =
    let h = halves x.place (part_of x.kind) y.place (part_of y.kind) (part-small x.kind) (part-small y.kind) q in s.same x y i j e h.0 h.1

pub sound : (t : Litmus) (c : Candidate) → IsCandidate t c → Sound t c
sound t c h = record {
  candidate = h;
  once = once-events 0 t.programs t.registers c.reads;
  same = λ x y i j a b d. same-events-from 0 t.programs t.registers c.reads x y i j a b d;
  coherent = λ loc w i. in-filter (writes_to loc) (events t c) w ((picked loc).inside w i);
  single = λ loc. (picked loc).once;
}
  where
    picked : (loc : ℕ) → Alike (filter (writes_to loc) (events t c)) (c.coherence loc)
    picked loc =
        pigeons (filter (writes_to loc) (events t c)) (c.coherence loc)
        (once-filter (writes_to loc) (events t c) (once-events 0 t.programs t.registers c.reads))
        (λ x i. let k = in-filter (writes_to loc) (events t c) x i in h.writes loc x k.0 k.1) (h.count loc)
