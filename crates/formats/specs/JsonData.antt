-- A format's values as JSON data. A text between two parts says nothing there.
use Rattle.std.specs.Prelude.{ℕ, List, [], ◌∷◌, map}
use Rattle.serde_json.specs.Data.{Data, null, number, unsigned, string, array, object, Members, no_members, put}
use Rattle.serde_json.specs.View.{items_of}
use Rattle.formats.specs.Formats.{Manner, Member, Tagged, Entry, Object, Chain, NoItem, This, That, Format, Nothing, Number, Word}
use Rattle.formats.specs.Formats.{Printable, Times, Lead, Trail, Both, Either, Many, Separated, Spelled, As, Value}

-- how a value is shown: by itself; what it adds to the members of the object around it; its two parts, and those of all that it lists
pub record Json : Type 0 where
  pub value : Data
  pub adds : Members → Members
  pub first : Data
  pub second : Data
  pub pairs : List (Data × Data)

abbrev pub plain : Data → Json
plain d = record { value = d; adds = λ members. members; first = d; second = null; pairs = [] }

-- what adds members is an object with them
abbrev pub adding : (Members → Members) → Json → Json
adding adds j = record { value = object (adds no_members); adds = adds; first = j.first; second = j.second; pairs = j.pairs }

abbrev pub both : Json → Json → Json
both a b = record { value = object (a.adds (b.adds no_members)); adds = λ members. a.adds (b.adds members); first = a.value; second = b.value; pairs = b.pairs }

abbrev pub all_add : List Json → Members → Members
all_add [] members = members
all_add (j ∷ js) members = j.adds (all_add js members)

abbrev pub listed : List Json → Json
listed js = record {
  value = array (items_of (map (λ j. j.value) js));
  adds = all_add js;
  first = null;
  second = null;
  pairs = map (λ j. (j.first, j.second)) js;
}

abbrev pub text_in : Data → List ℕ
text_in (string word) = word
text_in _ = []

abbrev pub chain_steps : (from by to : List ℕ) → Data → List (Data × Data) → List Data
chain_steps from by to thing [] = []
chain_steps from by to thing (d ∷ ds) = object (put from thing (put by d.0 (put to d.1 no_members))) ∷ chain_steps from by to d.1 ds

abbrev pub in_manner : Manner → Json → Json
in_manner (Member key) j = adding (put key j.value) j
in_manner (Tagged key word) j = adding (λ members. put key (string word) (j.adds members)) j
in_manner Entry j = adding (put (text_in j.first) j.second) j
in_manner Object j = plain (object (j.adds no_members))
in_manner (Chain from by to) j = plain (array (items_of (chain_steps from by to j.first j.pairs)))
in_manner NoItem j = plain (array (items_of []))

abbrev pub json : (f : Format) → Value f → Json
json Nothing x = plain null
json Number n = plain (number (unsigned n))
json (Word class) word = plain (string word)
json Printable bytes = plain (string bytes)
json (Times byte) n = plain (number (unsigned n))
json (Lead front f) x = json f x
json (Trail f back) x = json f x
json (Both f g) x = both (json f x.0) (json g x.1)
json (Either f g) (This x) = json f x
json (Either f g) (That y) = json g y
json (Many f) xs = listed (map (json f) xs)
json (Separated between f) xs = listed (map (json f) xs)
json (Spelled f) spelled = plain (string spelled)
json (As manner f) x = in_manner manner (json f x)

abbrev pub data_of : (f : Format) → Value f → Data
data_of f x = (json f x).value
