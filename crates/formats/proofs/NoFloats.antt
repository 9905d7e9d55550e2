-- What a format's values are as JSON data has no float, so that its text is known.
use Rattle.std.proofs.Common.{◌≡◌, ℕ, Bool, true, false, ◌||◌, List, [], ◌∷◌, map, refl}
use Rattle.std.specs.List.{AllByRecursion}
use Rattle.std.specs.Ordering.{nat_cmp, match_ordering}
use Rattle.std.specs.Cmp.Lexicographic.{slice_cmp}
use Rattle.std.specs.declared.cmp.Ordering.{Ordering}
use Rattle.std.specs.declared.cmp.Ordering.TheVariants.{Less, Equal, Greater}
use Rattle.std.proofs.lemmas.Bool.{or_parts}
use Rattle.serde_json.specs.Data.{Data, string, Members, no_members, member, put}
use Rattle.serde_json.specs.View.{items_of}
use Rattle.serde_json.specs.Written.{has_float, items_have_float, members_have_float}
use Rattle.formats.specs.Formats.{Manner, Member, Tagged, Entry, Object, Chain, NoItem, This, That, Format, Nothing, Number, Word}
use Rattle.formats.specs.Formats.{Printable, Times, Lead, Trail, Both, Either, Many, Separated, Spelled, As, Value}
use Rattle.formats.specs.JsonData.{Json, adding, plain, all_add, listed, text_in, chain_steps, in_manner, json, data_of}

neither : (p q : Bool) → p ≡ false → q ≡ false → p || q ≡ false
neither true q h k = h
neither false q h k = k

-- a value put among members
one_more : (k : List ℕ) (x : Data) (ms : Members) → has_float x ≡ false → members_have_float ms ≡ false → members_have_float (put k x ms) ≡ false
one_more k x no_members f h = neither (has_float x) false f refl
one_more k x (member l d ms) f h =
    by_order (slice_cmp nat_cmp k l) (or_parts (has_float d) (members_have_float ms) h)
    (one_more k x ms f (or_parts (has_float d) (members_have_float ms) h).1)
  where
    by_order : (o : Ordering) → (has_float d ≡ false) × (members_have_float ms ≡ false) → members_have_float (put k x ms) ≡ false
        → members_have_float (match_ordering o (member k x (member l d ms)) (member l x ms) (member l d (put k x ms))) ≡ false
    by_order Less parts further = neither (has_float x) (has_float d || members_have_float ms) f (neither (has_float d) (members_have_float ms) parts.0 parts.1)
    by_order Equal parts further = neither (has_float x) (members_have_float ms) f parts.1
    by_order Greater parts further = neither (has_float d) (members_have_float (put k x ms)) parts.0 further

record NoFloat (j : Json) : Type 0 where
  value : has_float j.value ≡ false
  adds : (ms : Members) → members_have_float ms ≡ false → members_have_float (j.adds ms) ≡ false
  first : has_float j.first ≡ false
  second : has_float j.second ≡ false
  pairs : AllByRecursion (λ (d : Data × Data). (has_float d.0 ≡ false) × (has_float d.1 ≡ false)) j.pairs

by-itself : (d : Data) → has_float d ≡ false → NoFloat (plain d)
by-itself d none = record { value = none; adds = λ ms h. h; first = none; second = refl; pairs = tt }

-- with members that are added
adding-none : (j : Json) (adds : Members → Members) → NoFloat j → ((ms : Members) → members_have_float ms ≡ false → members_have_float (adds ms) ≡ false)
    → NoFloat (adding adds j)
adding-none j adds none all = record { value = all no_members refl; adds = all; first = none.first; second = none.second; pairs = none.pairs }

all-none : (js : List Json) → AllByRecursion NoFloat js → NoFloat (listed js)
all-none [] all = record { value = refl; adds = λ ms h. h; first = refl; second = refl; pairs = tt }
all-none (j ∷ js) all =
    let more = all-none js all.1 in
    record {
      value = neither (has_float j.value) (items_have_float (items_of (map (λ k. k.value) js))) all.0.value more.value;
      adds = λ ms h. all.0.adds (all_add js ms) (more.adds ms h);
      first = refl;
      second = refl;
      pairs = ((all.0.first, all.0.second), more.pairs);
    }

steps-none : (from by to : List ℕ) (thing : Data) (ds : List (Data × Data)) → has_float thing ≡ false
    → AllByRecursion (λ (d : Data × Data). (has_float d.0 ≡ false) × (has_float d.1 ≡ false)) ds
    → items_have_float (items_of (chain_steps from by to thing ds)) ≡ false
steps-none from by to thing [] none all = refl
steps-none from by to thing (d ∷ ds) none all =
    neither (members_have_float (put from thing (put by d.0 (put to d.1 no_members)))) (items_have_float (items_of (chain_steps from by to d.1 ds)))
    (one_more from thing (put by d.0 (put to d.1 no_members)) none (one_more by d.0 (put to d.1 no_members) all.0.0 (one_more to d.1 no_members all.0.1 refl)))
    (steps-none from by to d.1 ds all.0.1 all.1)

manner-none : (manner : Manner) (j : Json) → NoFloat j → NoFloat (in_manner manner j)
manner-none (Member key) j none = adding-none j (put key j.value) none (λ ms h. one_more key j.value ms none.value h)
manner-none (Tagged key word) j none =
    adding-none j (λ ms. put key (string word) (j.adds ms)) none (λ ms h. one_more key (string word) (j.adds ms) refl (none.adds ms h))
manner-none Entry j none = adding-none j (put (text_in j.first) j.second) none (λ ms h. one_more (text_in j.first) j.second ms none.second h)
manner-none Object j none = by-itself _ (none.adds no_members refl)
manner-none (Chain from by to) j none = by-itself _ (steps-none from by to j.first j.pairs none.first none.pairs)
manner-none NoItem j none = by-itself _ refl

each-none : {X : Type 0} (f : X → Json) → ((x : X) → NoFloat (f x)) → (xs : List X) → AllByRecursion NoFloat (map f xs)
each-none f none [] = tt
each-none f none (x ∷ xs) = (none x, each-none f none xs)

json-none : (f : Format) (x : Value f) → NoFloat (json f x)
json-none Nothing x = by-itself _ refl
json-none Number n = by-itself _ refl
json-none (Word class) word = by-itself _ refl
json-none Printable bytes = by-itself _ refl
json-none (Times byte) n = by-itself _ refl
json-none (Lead front f) x = json-none f x
json-none (Trail f back) x = json-none f x
json-none (Both f g) x =
    let a = json-none f x.0 in
    let b = json-none g x.1 in
    record {
      value = a.adds _ (b.adds no_members refl);
      adds = λ ms h. a.adds _ (b.adds ms h);
      first = a.value;
      second = b.value;
      pairs = b.pairs;
    }
json-none (Either f g) (This x) = json-none f x
json-none (Either f g) (That y) = json-none g y
json-none (Many f) xs = all-none (map (json f) xs) (each-none (json f) (λ x. json-none f x) xs)
json-none (Separated between f) xs = all-none (map (json f) xs) (each-none (json f) (λ x. json-none f x) xs)
json-none (Spelled f) spelled = by-itself _ refl
json-none (As manner f) x = manner-none manner (json f x) (json-none f x)

pub data-has-no-float : (f : Format) (x : Value f) → has_float (data_of f x) ≡ false
data-has-no-float f x = (json-none f x).value
