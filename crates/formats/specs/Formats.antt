-- What a printed text is made of, as data. A format says what values are printed by it and which text each has.
use Rattle.std.specs.Prelude.{ℕ, ◌<◌, ◌^◌, ◌≡◌, Bool, true, false, List, [], ◌∷◌, ◌++◌, replicate}
use Rattle.std.specs.List.{flat_map, list_all, AllByRecursion}
use Rattle.std.specs.Fmt.{decimal}
use Rattle.tso_terms.specs.Names.{continues_name, is_location_name, is_printable}

-- which words a name may be: that of a location, or any
pub data Class : Type 0 where
  LocationName : Class
  AnyWord : Class

-- one letter, digit or underscore or more
abbrev pub is_whole_word : List ℕ → Bool
is_whole_word [] = false
is_whole_word (c ∷ cs) = list_all continues_name (c ∷ cs)

abbrev pub is_in : Class → List ℕ → Bool
is_in LocationName word = is_location_name word
is_in AnyWord word = is_whole_word word

-- a value of this, or of that
pub data OneOf (A B : Type 0) : Type 0 where
  This : A → OneOf A B
  That : B → OneOf A B

-- how a part is shown as JSON
pub data Manner : Type 0 where
  -- as a member of the object around it, with this key; with one more member there, which says this word
  Member : (key : List ℕ) → Manner
  Tagged : (key word : List ℕ) → Manner
  -- as a member there, whose key is the text of its first part; as an object of all such members
  Entry : Manner
  Object : Manner
  -- as steps from one thing to the next: each has what it comes from, the step, and what it leads to; as a list of nothing
  Chain : (from by to : List ℕ) → Manner
  NoItem : Manner

pub data Format : Type 0 where
  -- nothing
  Nothing : Format
  Number : Format
  Word : Class → Format
  -- printable bytes, up to the end of their line
  Printable : Format
  -- as many of this byte as the value says
  Times : (byte : ℕ) → Format
  -- this text, and then; and then this text
  Lead : (front : List ℕ) → Format → Format
  Trail : Format → (back : List ℕ) → Format
  -- the one and then the other; the one or the other
  Both : Format → Format → Format
  Either : Format → Format → Format
  -- as many as there are; one or more, with this text between them
  Many : Format → Format
  Separated : (between : List ℕ) → Format → Format
  -- a text of this format, of which nothing but itself is told
  Spelled : Format → Format
  -- a text of this format, which is shown so as JSON
  As : Manner → Format → Format

abbrev pub Value : Format → Type 0
Value Nothing = Unit {0}
Value Number = ℕ
Value (Word class) = List ℕ
Value Printable = List ℕ
Value (Times byte) = ℕ
Value (Lead front f) = Value f
Value (Trail f back) = Value f
Value (Both f g) = Value f × Value g
Value (Either f g) = OneOf (Value f) (Value g)
Value (Many f) = List (Value f)
Value (Separated between f) = List (Value f)
Value (Spelled f) = List ℕ
Value (As manner f) = Value f

-- texts, with this between them
abbrev pub separated : {X : Type 0} → List ℕ → (X → List ℕ) → List X → List ℕ
separated between f [] = []
separated between f (x ∷ xs) = f x ++ flat_map (λ y. between ++ f y) xs

abbrev pub text : (f : Format) → Value f → List ℕ
text Nothing x = []
text Number n = decimal n
text (Word class) word = word
text Printable bytes = bytes
text (Times byte) n = replicate n byte
text (Lead front f) x = front ++ text f x
text (Trail f back) x = text f x ++ back
text (Both f g) x = text f x.0 ++ text g x.1
text (Either f g) (This x) = text f x
text (Either f g) (That y) = text g y
text (Many f) xs = flat_map (text f) xs
text (Separated between f) xs = separated between (text f) xs
text (Spelled f) spelled = spelled
text (As manner f) x = text f x

abbrev pub IsSome : {X : Type 0} → List X → Type 0
IsSome [] = ⊥
IsSome (x ∷ xs) = Unit {0}

-- what the format prints: numbers of 64 bits, words of their class, and one or more of what is separated
abbrev pub FitsFormat : (f : Format) → Value f → Type 0
FitsFormat Nothing x = Unit {0}
FitsFormat Number n = n < 2 ^ 64
FitsFormat (Word class) word = is_in class word ≡ true
FitsFormat Printable bytes = list_all is_printable bytes ≡ true
FitsFormat (Times byte) n = Unit {0}
FitsFormat (Lead front f) x = FitsFormat f x
FitsFormat (Trail f back) x = FitsFormat f x
FitsFormat (Both f g) x = FitsFormat f x.0 × FitsFormat g x.1
FitsFormat (Either f g) (This x) = FitsFormat f x
FitsFormat (Either f g) (That y) = FitsFormat g y
FitsFormat (Many f) xs = AllByRecursion (FitsFormat f) xs
FitsFormat (Separated between f) xs = IsSome xs × AllByRecursion (FitsFormat f) xs
FitsFormat (Spelled f) spelled = (x : Value f) × FitsFormat f x × (text f x ≡ spelled)
FitsFormat (As manner f) x = FitsFormat f x

-- a text of this format
abbrev pub Spells : Format → List ℕ → Type 0
Spells f spelled = (x : Value f) × FitsFormat f x × (text f x ≡ spelled)

-- ---- short forms

abbrev pub fixed : List ℕ → Format
fixed word = Lead word Nothing

abbrev pub optional : Format → Format
optional f = Either Nothing f
