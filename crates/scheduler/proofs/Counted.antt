-- One entry more at the front of those that are passed, in the counts of plain stores.
use Rattle.scheduler.proofs.Vocabulary.{◌≡◌, ◌≢◌, ℕ, ◌+◌, ◌-◌, ◌<◌, ◌≤◌, ◌==◌, ◌&&◌, zero, suc, Bool, true, false, if◌then◌else◌, List, []}
use Rattle.scheduler.proofs.Vocabulary.{◌∷◌, ◌++◌, length, get_or, take, replicate, drop, filter, sum, refl, ap, sym, ◌∙◌, ◌||◌, not, arith}
use Rattle.scheduler.proofs.Vocabulary.{drop-cons, subst, max, All, ◌⊎◌, inl, inr, set, length-set, drop_all, length_push, length-replicate}
use Rattle.scheduler.proofs.Vocabulary.{take-set-le, get_or-take, get_or-set_same, get_or-set_other, length-take, get_or_default}
use Rattle.scheduler.proofs.Vocabulary.{take-set-lt, All-get_or, sum_by-set, get_or-le-sum_by, ord_max, nat_cmp, same_kind, is_store}
use Rattle.scheduler.proofs.Vocabulary.{is_load, is_before, needed, asked, HaveCounted, stores_below, Entry, Kind, R, W, F, LR, LW}
use Rattle.std.proofs.Common.{nat_lt, length-drop}
use Rattle.std.proofs.lemmas.List.{take_all}
use borrow.Author.Tests.{tests}

-- what was passed, and the entry in front of it
pub passed-more : {X : Type 0} (xs : List X) (i : ℕ) (d : X) → i < length xs →
    drop (length xs - (i + 1)) xs ≡ get_or xs (length xs - 1 - i) d ∷ drop (length xs - i) xs
passed-more xs i d h =
    let a : length xs - (i + 1) ≡ length xs - 1 - i = omega arith in
    let b : length xs - i ≡ suc (length xs - 1 - i) = omega arith in
    rw (a, b) (drop-cons xs (length xs - 1 - i) d (omega arith))

-- one row more, and a fact of each row
row-pushed : (P : List ℕ → Type 0) (rows : List (List ℕ)) (row : List ℕ) (i : ℕ)
    → i < length rows + 1
    → (i < length rows → P (get_or rows i []))
    → P row
    → P (get_or (rows ++ row ∷ []) i [])
row-pushed P [] row zero m h k = k
row-pushed P [] row (suc i) m h k = absurd (let q : ⊥ = omega arith in q)
row-pushed P (r ∷ rs) row zero m h k = h (omega arith)
row-pushed P (r ∷ rs) row (suc i) m h k = row-pushed P rs row i (omega arith) (λ l. h (omega arith)) k

-- noughts add up to nothing
no-sum : (n place : ℕ) → sum (take place (replicate n 0)) ≡ 0
no-sum zero zero = refl
no-sum zero (suc place) = refl
no-sum (suc n) zero = refl
no-sum (suc n) (suc place) = omega (arith, no-sum n place)

-- where nothing is counted yet, one core more
pub nothing-counted : (n : ℕ) (rows new : List (List ℕ)) → new ≡ rows ++ replicate 32 0 ∷ [] → HaveCounted n rows [] → HaveCounted (n + 1) new []
nothing-counted n rows new e h =
    let few : length rows ≡ n = h.cores_are in
    rw e (record {
      cores_are = omega (arith, length_push rows (replicate 32 0));
      places_are = λ core k.
          row-pushed (λ row. length row ≡ 32) rows (replicate 32 0) core (omega arith)
          (λ l. h.places_are core (omega arith)) (length-replicate {A = ℕ} 32 0);
      below = λ core place k m.
          row-pushed (λ row. sum (take place row) ≡ 0) rows (replicate 32 0) core (omega arith)
          (λ l. h.below core place (omega arith) m) (no-sum 32 place);
    })

few-step : (b : Bool) (y : Entry) (zs : List Entry) (n : ℕ) → length zs ≤ n → length (if b then y ∷ zs else zs) ≤ suc n
few-step true y zs n h = omega arith
few-step false y zs n h = omega arith

pub few : (core place : ℕ) (ys : List Entry) → stores_below core place ys ≤ length ys
few core place [] = omega arith
few core place (y ∷ ys) = few-step (is_store y && ((y.core.0 == core) && nat_lt y.place place)) y _ _ (few core place ys)

-- an entry that is no plain store counts for no place
pub no-store : (cores : ℕ) (rows : List (List ℕ)) (x : Entry) (ys : List Entry) → is_store x ≡ false →
    HaveCounted cores rows ys → HaveCounted cores rows (x ∷ ys)
no-store cores rows x ys e h = record {
  cores_are = h.cores_are;
  places_are = h.places_are;
  below = λ core place k m. rw e (h.below core place k m);
}

-- one store more in a row
row-more : (row : List ℕ) (q place n : ℕ) (x : Entry) (zs : List Entry) (b : Bool) → nat_lt q place ≡ b → q < length row → sum (take place row) ≡ length zs →
    sum (take place (set row q (get_or row q 0 + 1))) ≡ length (if b then x ∷ zs else zs)
row-more row q place n x zs true b below e =
    let m : q < place = search (tests, b) in
    let t : take place (set row q (get_or row q 0 + 1)) ≡ set (take place row) q (get_or row q 0 + 1) = take-set-lt place row q _ m in
    let g : get_or (take place row) q 0 ≡ get_or row q 0 = get_or-take place row q 0 m in
    let s : sum (set (take place row) q (get_or row q 0 + 1)) + get_or (take place row) q 0 ≡ sum (take place row) + (get_or row q 0 + 1) =
    sum_by-set (λ n. n) (take place row) q (get_or row q 0 + 1) 0 (simp length-take (omega arith)) in
    rw t (omega (arith, g, s, e))
row-more row q place n x zs false b below e =
    rw (take-set-le place row q (get_or row q 0 + 1) (search (tests, b))) e

counted-here : (cores : ℕ) (rows : List (List ℕ)) (x : Entry) (ys : List Entry) (place : ℕ) → (x.core.0 == x.core.0) ≡ true → is_store x ≡ true →
    x.core.0 < cores → x.place < 32 → HaveCounted cores rows ys → place ≤ 32 →
    sum (take place (get_or (set rows x.core.0 (set (get_or rows x.core.0 []) x.place (get_or (get_or rows x.core.0 []) x.place 0 + 1))) x.core.0 []))
    ≡ stores_below x.core.0 place (x ∷ ys)
counted-here cores rows x ys place same e i p h m =
    let long : length (get_or rows x.core.0 []) ≡ 32 = h.places_are x.core.0 i in
    let inside : x.place < length (get_or rows x.core.0 []) = omega arith in
    rw (get_or-set_same rows x.core.0 _ [] (rw h.cores_are i), e, same)
    (row-more (get_or rows x.core.0 []) x.place place 0 x (filter (λ y. is_store y && ((y.core.0 == x.core.0) && nat_lt y.place place)) ys)
    (nat_lt x.place place) refl inside (h.below x.core.0 place i m))

-- a plain store counts at its place
counted-at : (cores : ℕ) (rows : List (List ℕ)) (x : Entry) (ys : List Entry) (core place : ℕ) (b : Bool) → (x.core.0 == core) ≡ b → is_store x ≡ true →
    x.core.0 < cores → x.place < 32 → HaveCounted cores rows ys → core < cores → place ≤ 32 →
    sum (take place (get_or (set rows x.core.0 (set (get_or rows x.core.0 []) x.place (get_or (get_or rows x.core.0 []) x.place 0 + 1))) core []))
    ≡ stores_below core place (x ∷ ys)
counted-at cores rows x ys core place true b e i p h k m =
    let q : x.core.0 ≡ core = search (tests, b) in
    subst (λ (c : ℕ).
    sum (take place (get_or (set rows x.core.0 (set (get_or rows x.core.0 []) x.place (get_or (get_or rows x.core.0 []) x.place 0 + 1))) c []))
    ≡ stores_below c place (x ∷ ys))
    q (counted-here cores rows x ys place (rw (sym q) at b) e i p h m)
counted-at cores rows x ys core place false b e i _ h k m =
    let p : x.core.0 ≢ core = search (tests, b) in
    let q : core ≢ x.core.0 = λ z. p (sym z) in
    rw (get_or-set_other rows x.core.0 core _ [] q, e, b) (h.below core place k m)

long-at : (rows : List (List ℕ)) (i j : ℕ) (row : List ℕ) → length (get_or rows j []) ≡ 32 → length row ≡ 32 → length (get_or (set rows i row) j []) ≡ 32
long-at [] i j row h k = h
long-at (r ∷ rs) zero zero row h k = k
long-at (r ∷ rs) zero (suc j) row h k = h
long-at (r ∷ rs) (suc i) zero row h k = h
long-at (r ∷ rs) (suc i) (suc j) row h k = long-at rs i j row h k

pub store : (cores : ℕ) (rows : List (List ℕ)) (x : Entry) (ys : List Entry) → is_store x ≡ true → x.core.0 < cores → x.place < 32 →
    HaveCounted cores rows ys →
    HaveCounted cores (set rows x.core.0 (set (get_or rows x.core.0 []) x.place (get_or (get_or rows x.core.0 []) x.place 0 + 1))) (x ∷ ys)
store cores rows x ys e i p h = record {
  cores_are = simp length-set h.cores_are;
  places_are = λ core k. long-at rows x.core.0 core _ (h.places_are core k) (simp length-set (h.places_are x.core.0 i));
  below = λ core place k m. counted-at cores rows x ys core place (x.core.0 == core) refl e i p h k m;
}

alone : (b c : Bool) → (b || (c && false)) ≡ b
alone true c = refl
alone false true = refl
alone false false = refl

-- of a plain store and a plain load the places decide
same-test : (s l : Kind) (a b : ℕ) (c : Bool) → same_kind l R ≡ true →
    (same_kind s W && (c && (nat_lt a b || ((a == b) && (same_kind l LW && not (same_kind s LW)))))) ≡ (same_kind s W && (c && nat_lt a b))
same-test s R a b c e = ap (λ t. same_kind s W && (c && t)) (alone (nat_lt a b) (a == b))
same-test s _ a b c e = absurd (let q : ⊥ = cc in q)

same-filter : (p q : Entry → Bool) (ys : List Entry) → ((y : Entry) → p y ≡ q y) → filter p ys ≡ filter q ys
same-filter p q [] h = refl
same-filter p q (y ∷ ys) h = rw (h y, same-filter p q ys h) refl

-- for a load, the stores that it passes
pub load : (cores : ℕ) (rows : List (List ℕ)) (x : Entry) (ys : List Entry) → is_load x ≡ true → x.core.0 < cores → x.place < 32 →
    HaveCounted cores rows ys → sum (take x.place (get_or rows x.core.0 [])) ≡ asked x ys
load cores rows x ys e i p h =
    rw e (h.below x.core.0 x.place i (omega arith)
    ∙ ap length (same-filter (λ y. is_store y && ((y.core.0 == x.core.0) && nat_lt y.place x.place)) (λ y. is_store y && is_before y x) ys
    (λ y. sym (same-test y.kind x.kind y.place x.place (y.core.0 == x.core.0) e))))

-- what is needed is the most that an entry asks of the depth
abbrev pub Law : Type 0
Law = (x : Entry) (back : List Entry) → needed (x ∷ back) ≡ max (asked x back) (needed back)

-- what a loop over an order from its end on has counted and found, where so many entries are passed
abbrev pub Counted : ℕ → List (List ℕ) → ℕ → List Entry → ℕ → Type 0
Counted cores rows most order i = record {
  counted : HaveCounted cores rows (drop (length order - i) order);
  most : most ≡ needed (drop (length order - i) order);
}

row-is : (cores : ℕ) (rows : List (List ℕ)) (ys : List Entry) (core : ℕ) (row : List ℕ)
    → HaveCounted cores rows ys
    → core < cores
    → row ≡ get_or rows core row
    → row ≡ get_or rows core []
row-is cores rows ys core row h k e = e ∙ get_or_default rows core row [] (rw h.cores_are k)

passed-few : (order : List Entry) (i : ℕ) → length (drop (length order - i) order) ≤ i
passed-few order i = simp length-drop (omega arith)

-- no count passes a word
pub sum-fits : (cores : ℕ) (rows : List (List ℕ)) (order : List Entry) (i core place : ℕ) (row : List ℕ) (n : ℕ) →
    HaveCounted cores rows (drop (length order - i) order) → core < cores → place ≤ 32 → row ≡ get_or rows core row → i < n → sum (take place row) < n
sum-fits cores rows order i core place row n h k m e less =
    let r : row ≡ get_or rows core [] = row-is cores rows _ core row h k e in
    let s : sum (take place row) ≡ stores_below core place (drop (length order - i) order) = rw r (h.below core place k m) in
    omega (arith, few core place (drop (length order - i) order), passed-few order i)

pub count-fits : (cores : ℕ) (rows : List (List ℕ)) (order : List Entry) (i core place : ℕ) (row : List ℕ) (n : ℕ) →
    HaveCounted cores rows (drop (length order - i) order) → core < cores → place < 32 → row ≡ get_or rows core row → i + 1 < n → get_or row place 0 + 1 < n
count-fits cores rows order i core place row n h k m e less =
    let r : row ≡ get_or rows core [] = row-is cores rows _ core row h k e in
    let long : length row ≡ 32 = rw r (h.places_are core k) in
    let whole : take 32 row ≡ row = take_all 32 row (omega arith) in
    let s : sum (take 32 row) < i + 1 = sum-fits cores rows order i core 32 row (i + 1) h k (omega arith) e (omega arith) in
    let one : get_or row place 0 ≤ sum row = get_or-le-sum_by (λ n. n) row place 0 (omega arith) in
    let t : sum row < i + 1 = rw whole at s in
    omega arith

greatest-by : (a b : ℕ) (p q : Bool) → nat_lt b a ≡ p → (b == a) ≡ q → ord_max nat_cmp a b ≡ max a b
greatest-by a b true q e f = let m : b < a = search (tests, e) in rw e (omega arith)
greatest-by a b false true e f = let m : a ≤ b = search (tests, e) in rw (e, f) (omega arith)
greatest-by a b false false e f = let m : a ≤ b = search (tests, e) in rw (e, f) (omega arith)

-- the greater of two numbers
pub greatest : (a b : ℕ) → ord_max nat_cmp a b ≡ max a b
greatest a b = greatest-by a b (nat_lt b a) (b == a) refl refl

the-most : (new most s a n : ℕ) → new ≡ max most s → most ≡ n → s ≡ a → new ≡ max a n
the-most new most s a n e f g = omega arith

pub onward-load : Law → (order : List Entry) (i : ℕ) (d x : Entry) (cores : ℕ) (rows : List (List ℕ)) (most new s core place : ℕ) (row : List ℕ) →
    i < length order → x ≡ get_or order (length order - 1 - i) d → x.kind ≡ R → x.core.0 < cores → x.place < 32 →
    core ≡ x.core.0 → place ≡ x.place → row ≡ get_or rows core row → s ≡ sum (take place row) → new ≡ max most s →
    Counted cores rows most order i → Counted cores rows new order (i + 1)
onward-load law order i d x cores rows most new s core place row h xe kind k p ce pe re se ne c =
    let load-is : is_load x ≡ true = rw kind refl in
    let none : is_store x ≡ false = rw kind refl in
    let r : row ≡ get_or rows x.core.0 [] = row-is cores rows _ x.core.0 row c.counted k (rw ce at re) in
    let q : s ≡ asked x (drop (length order - i) order) = rw (se, pe, r) (load cores rows x _ load-is k p c.counted) in
    rw (passed-more order i d h, sym xe) (record {
      counted = no-store cores rows x _ none c.counted;
      most = the-most new most s _ _ ne c.most q ∙ sym (law x (drop (length order - i) order));
    })

pub onward-store : Law → (order : List Entry) (i : ℕ) (d x : Entry) (cores : ℕ) (rows : List (List ℕ)) (most new core place : ℕ) (row : List ℕ) →
    i < length order → x ≡ get_or order (length order - 1 - i) d → x.kind ≡ W → x.core.0 < cores → x.place < 32 →
    core ≡ x.core.0 → place ≡ x.place → row ≡ get_or rows core row → new ≡ max most 1 →
    Counted cores rows most order i → Counted cores (set rows core (set row place (get_or row place 0 + 1))) new order (i + 1)
onward-store law order i d x cores rows most new core place row h xe kind k p ce pe re ne c =
    let store-is : is_store x ≡ true = rw kind refl in
    let asks : asked x (drop (length order - i) order) ≡ 1 = rw kind refl in
    let r : row ≡ get_or rows x.core.0 [] = row-is cores rows _ x.core.0 row c.counted k (rw ce at re) in
    rw (passed-more order i d h, sym xe, ce, pe, r) (record {
      counted = store cores rows x _ store-is k p c.counted;
      most = the-most new most 1 _ _ ne c.most (sym asks) ∙ sym (law x (drop (length order - i) order));
    })

no-load : (x : Entry) → (x.kind ≡ F) ⊎ ((x.kind ≡ LR) ⊎ (x.kind ≡ LW)) → is_load x ≡ false
no-load x (inl e) = rw e refl
no-load x (inr (inl e)) = rw e refl
no-load x (inr (inr e)) = rw e refl

neither-store : (x : Entry) → (x.kind ≡ F) ⊎ ((x.kind ≡ LR) ⊎ (x.kind ≡ LW)) → is_store x ≡ false
neither-store x (inl e) = rw e refl
neither-store x (inr (inl e)) = rw e refl
neither-store x (inr (inr e)) = rw e refl

pub onward-other : Law → (order : List Entry) (i : ℕ) (d x : Entry) (cores : ℕ) (rows : List (List ℕ)) (most : ℕ) →
    i < length order → x ≡ get_or order (length order - 1 - i) d → (x.kind ≡ F) ⊎ ((x.kind ≡ LR) ⊎ (x.kind ≡ LW)) →
    Counted cores rows most order i → Counted cores rows most order (i + 1)
onward-other law order i d x cores rows most h xe kind c =
    let l : is_load x ≡ false = no-load x kind in
    let s : is_store x ≡ false = neither-store x kind in
    let asks : asked x (drop (length order - i) order) ≡ 0 = rw (l, s) refl in
    rw (passed-more order i d h, sym xe) (record {
      counted = no-store cores rows x _ s c.counted;
      most = the-most most most 0 _ _ (omega arith) c.most (sym asks) ∙ sym (law x (drop (length order - i) order));
    })

-- the entry in front of those that are passed is of the test
pub entry-fits : (cores : ℕ) (order : List Entry) (i : ℕ) (d : Entry) → All (λ x. x.core.0 < cores) order → All (λ x. x.place < 32) order →
    i < length order → ((get_or order (length order - 1 - i) d).core.0 < cores) × ((get_or order (length order - 1 - i) d).place < 32)
entry-fits cores order i d cs ps h = (
  All-get_or (λ x. x.core.0 < cores) order (length order - 1 - i) d (omega arith) cs,
  All-get_or (λ x. x.place < 32) order (length order - 1 - i) d (omega arith) ps,
)

-- before the first entry that is passed
pub none-passed : (cores : ℕ) (rows : List (List ℕ)) (order : List Entry) → HaveCounted cores rows [] → Counted cores rows 0 order 0
none-passed cores rows order h =
    let none : drop (length order - 0) order ≡ [] = drop_all (length order - 0) order (omega arith) in
    rw none (record { counted = h; most = refl })

-- after the last one
pub all-passed : (order : List Entry) (i most : ℕ) → length order ≤ i → most ≡ needed (drop (length order - i) order) → most ≡ needed order
all-passed order i most le e = let none : length order - i ≡ 0 = omega arith in rw none at e
