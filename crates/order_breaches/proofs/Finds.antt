-- The last of the writes that count for a read, found by going over what comes before it and then what comes after it.
use Rattle.order_breaches.proofs.Vocabulary.{◌≡◌, ℕ, List, [], ◌∷◌, ◌++◌, Bool, true, false, filter, ap, ◌∙◌, refl, cond, writes_to}
use Rattle.order_breaches.proofs.Vocabulary.{is_before, last_value, counting, Entry}

pub last_value-append : (xs ys : List Entry) (w : ℕ) → last_value (xs ++ ys) w ≡ last_value ys (last_value xs w)
last_value-append [] ys w = refl
last_value-append (x ∷ xs) ys w = last_value-append xs ys x.value

cond-append : (b : Bool) (x : Entry) (xs ys : List Entry) → cond b (x ∷ (xs ++ ys)) (xs ++ ys) ≡ cond b (x ∷ xs) xs ++ ys
cond-append true x xs ys = refl
cond-append false x xs ys = refl

pub filter-append : (p : Entry → Bool) (xs ys : List Entry) → filter p (xs ++ ys) ≡ filter p xs ++ filter p ys
filter-append p [] ys = refl
filter-append p (x ∷ xs) ys = rw (filter-append p xs ys) (cond-append (p x) x (filter p xs) (filter p ys))

pub last_counting : (x : Entry) (front back : List Entry) (w : ℕ) → last_value (counting x front back) w
    ≡ last_value (filter (writes_to x.loc.0) (filter (λ e. is_before e x) back)) (last_value (filter (writes_to x.loc.0) front) w)
last_counting x front back w =
    ap (λ z. last_value z w) (filter-append (writes_to x.loc.0) front (filter (λ e. is_before e x) back))
    ∙ last_value-append (filter (writes_to x.loc.0) front) (filter (writes_to x.loc.0) (filter (λ e. is_before e x) back)) w
