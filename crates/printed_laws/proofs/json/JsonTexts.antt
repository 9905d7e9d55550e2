-- What is where in a JSON value.
use Rattle.printed_laws.proofs.Vocabulary.{◌≡◌, ℕ, Bool, true, false, List, [], ◌∷◌, refl, sym, ap, zero, suc, All, map, Data, string}
use Rattle.printed_laws.proofs.Vocabulary.{outline, items_outline, All-head, All-tail, items_of}
use Rattle.json.specs.Json as json
use Rattle.printed_laws.proofs.texts.Lists.{all-told}

abbrev pub members_in : json.Json → json.Members
members_in (json.object ms) = ms
members_in _ = json.no_members

abbrev pub items_in : json.Json → json.Items
items_in (json.array js) = js
items_in _ = json.no_items

-- a number's digits, or a string
abbrev pub text_in : json.Json → List ℕ
text_in (json.number s) = s
text_in (json.string s) = s
text_in _ = []

abbrev pub truth_in : json.Json → Bool
truth_in (json.boolean b) = b
truth_in _ = false

-- the value of the member of this number, from 0
abbrev pub member_at : ℕ → json.Members → json.Json
member_at n json.no_members = json.null
member_at zero (json.member k j ms) = j
member_at (suc n) (json.member k j ms) = member_at n ms

abbrev pub value_at : ℕ → json.Json → json.Json
value_at n j = member_at n (members_in j)

abbrev pub text_at : ℕ → json.Json → List ℕ
text_at n j = text_in (value_at n j)

abbrev pub first_item : json.Items → json.Json
first_item json.no_items = json.null
first_item (json.item j js) = j

abbrev pub more_items : json.Items → json.Items
more_items json.no_items = json.no_items
more_items (json.item j js) = js

abbrev pub has_item : json.Items → Bool
has_item json.no_items = false
has_item (json.item j js) = true

-- one array has an item, and the other none
pub uneven : {A : Type 0} → true ≡ false → A
uneven e = absurd cc

-- the texts of a list
abbrev pub texts_of : json.Items → List (List ℕ)
texts_of json.no_items = []
texts_of (json.item j js) = text_in j ∷ texts_of js

pub texts-there : {A : Type 0} (print : A → List ℕ) (xs : List A) → texts_of (items_outline (items_of (map (λ x. string (print x)) xs))) ≡ map print xs
texts-there print [] = refl
texts-there print (x ∷ xs) = ap (λ (l : List (List ℕ)). print x ∷ l) (texts-there print xs)

pub words-there : (xs : List (List ℕ)) → texts_of (items_outline (items_of (map string xs))) ≡ xs
words-there [] = refl
words-there (x ∷ xs) = ap (λ (l : List (List ℕ)). x ∷ l) (words-there xs)

-- what a list's values tell
pub items-told : {A B : Type 0} (Fits : A → Type 0) (value : A → Data) (told : A → B)
    → ((x y : A) → Fits x → Fits y → outline (value x) ≡ outline (value y) → told x ≡ told y)
    → (xs ys : List A) → All Fits xs
    → All Fits ys
    → items_outline (items_of (map value xs)) ≡ items_outline (items_of (map value ys))
    → map told xs ≡ map told ys
items-told Fits value told each [] [] p q same = refl
items-told Fits value told each (x ∷ xs) (y ∷ ys) p q same =
    let first = each x y (All-head Fits x xs p) (All-head Fits y ys q) (ap first_item same) in
    let further = items-told Fits value told each xs ys (All-tail Fits x xs p) (All-tail Fits y ys q) (ap more_items same) in
    λ i. first i ∷ further i
items-told Fits value told each [] _ p q same = uneven (sym (ap has_item same))
items-told Fits value told each _ [] p q same = uneven (ap has_item same)

-- the same where each tells itself
pub items-alike : {A : Type 0} (Fits : A → Type 0) (value : A → Data) → ((x y : A) → Fits x → Fits y → outline (value x) ≡ outline (value y) → x ≡ y)
    → (xs ys : List A) → All Fits xs → All Fits ys → items_outline (items_of (map value xs)) ≡ items_outline (items_of (map value ys)) → xs ≡ ys
items-alike Fits value each xs ys p q same = all-told xs ys (items-told Fits value (λ x. x) each xs ys p q same)
