-- The word that says a choice is the word at which one reading of the words stops, where as many choices have room as stand
-- before that one.
use Rattle.scheduler.proofs.Vocabulary.{◌≡◌, ℕ, ◌+◌, ◌-◌, ◌<◌, ◌≤◌, List, [], ◌∷◌, ◌++◌, length, take, drop, Option, Some, Ok, Err, refl}
use Rattle.scheduler.proofs.Vocabulary.{sym, ap, subst, ◌∙◌, inl, inr, append_assoc, arith, IfSome, IsSome, is_some, take-add, cases_lt}
use Rattle.scheduler.proofs.Vocabulary.{length-append, length-drop, length-take, take-append-drop, drop-drop, Choice, ChoiceFault, TooMany}
use Rattle.scheduler.proofs.Vocabulary.{ChoiceItem, One, Seeded, most_choices, IsItem, AreItems, none, more, WordsSpell, IsItemAtFault}
use Rattle.scheduler.proofs.Vocabulary.{bad_form, cut_seed, bad_seed, bad_count, no_core, too_many, SayAt, made_of, words_in, item_of}
use Rattle.scheduler.proofs.Vocabulary.{too_many_at}
use Rattle.scheduler.proofs.Found.{Fits, IsRead, item_read}
use Rattle.scheduler.proofs.Loop.{one_more}
use Rattle.scheduler.proofs.Whole.{with_front, whole, items_whole, fault_whole}

-- where so many choices have room, the words before this one are items, with choices that leave this room
pub record Passed (cores : ℕ) (words : List (List ℕ)) (place at room : ℕ) (left : List (List ℕ)) : Type 0 where
  pub made : List Choice
  pub items : AreItems cores (take at words) made
  pub room_is : length made + room ≡ place
  pub to_come : drop at words ≡ left
  pub at_most : at ≤ length words

pub at_first : (cores : ℕ) (words : List (List ℕ)) (place : ℕ) → Passed cores words place 0 place words
at_first cores words place = record { made = []; items = none; room_is = omega arith; to_come = refl; at_most = omega arith }

after_first : (word : List ℕ) (rest : List (List ℕ)) (item : ChoiceItem) → drop (words_in item) (word ∷ rest) ≡ drop (words_in item - 1) rest
after_first word rest (One choice) = refl
after_first word rest (Seeded seed count) = refl

-- past an item that has room
pub passed_on : (cores place at room count : ℕ) (words rest left : List (List ℕ)) (word : List ℕ) (item : ChoiceItem) → 0 < cores → place < most_choices
    → Passed cores words place at room (word ∷ rest)
    → item_of cores room (at + 1) word rest ≡ Ok item
    → left ≡ drop (words_in item - 1) rest
    → length (made_of cores item) ≡ count
    → Passed cores words place (at + words_in item) (room - count) left
passed_on cores place at room count words rest left word item some small p is after counts =
    let read : Fits cores room (word ∷ rest) item =
    subst (IsRead cores (most_choices - room) room (at + 1) (word ∷ rest)) is
    (item_read cores (most_choices - room) room (at + 1) word rest some (omega (arith, p.room_is, small))) in
    let here = ap length p.to_come in
    record {
      made = p.made ++ made_of cores item;
      items = subst (λ (ws : List (List ℕ)). AreItems cores ws (p.made ++ made_of cores item)) (sym (take-add at (words_in item) words))
          (one_more cores (take at words) p.made p.items (take (words_in item) (drop at words)) (made_of cores item)
          (subst (λ (ws : List (List ℕ)). IsItem cores (take (words_in item) ws) (made_of cores item)) (sym p.to_come) read.is_item));
      room_is = omega (arith, length-append p.made (made_of cores item), read.room_left, p.room_is, counts);
      to_come =
          sym (drop-drop (words_in item) at words)
          ∙ ap (λ (ws : List (List ℕ)). drop (words_in item) ws) p.to_come
          ∙ after_first word rest item
          ∙ sym after;
      at_most = omega (arith, read.words_there, here, length-drop at words, p.at_most);
    }

-- an item fits into its room
pub fits_room : (cores place at room count : ℕ) (words rest : List (List ℕ)) (word : List ℕ) (item : ChoiceItem) → 0 < cores → place < most_choices
    → Passed cores words place at room (word ∷ rest) → item_of cores room (at + 1) word rest ≡ Ok item → length (made_of cores item) ≡ count → count ≤ room
fits_room cores place at room count words rest word item some small p is counts =
    let read : Fits cores room (word ∷ rest) item =
    subst (IsRead cores (most_choices - room) room (at + 1) (word ∷ rest)) is
    (item_read cores (most_choices - room) room (at + 1) word rest some (omega (arith, p.room_is, small))) in
    omega (arith, read.room_left, counts)

-- ---- one reading

-- words up to here are read
front_read : (cores place at room : ℕ) (words left : List (List ℕ)) → place < most_choices → (p : Passed cores words place at room left)
    → whole cores 0 (most_choices - place) 1 words ≡ with_front p.made (whole cores 0 (most_choices - room) (at + 1) left)
front_read cores place at room words left small p =
    let joined : take at words ++ left ≡ words = ap (λ (ws : List (List ℕ)). take at words ++ ws) (sym p.to_come) ∙ take-append-drop at words in
    let long : length (take at words) ≡ at = omega (arith, length-take at words, p.at_most) in
    let used : most_choices - place + length p.made ≡ most_choices - room = omega (arith, p.room_is, small) in
    let number : 1 + length (take at words) ≡ at + 1 = omega (arith, long) in
    ap (whole cores 0 (most_choices - place) 1) (sym joined)
    ∙ items_whole cores (take at words) p.made p.items (most_choices - place) 1 (omega (arith, p.room_is, small)) left
    ∙ rw (used, number) refl

-- the word that says a choice is where the reading stops
pub stops : (cores : ℕ) (words : List (List ℕ)) (place number : ℕ) → 0 < cores → place < most_choices → SayAt cores words place number
    → whole cores 0 (most_choices - place) 1 words ≡ Err (TooMany number)
unfolding with_front
stops cores words place number some small s =
    let front = items_whole cores s.front s.before s.items (most_choices - place) 1 (omega (arith, s.not_before, small)) (s.item ++ s.back) in
    let same_number : 1 + length s.front ≡ number = omega (arith, s.number_is) in
    let back = fault_whole cores (most_choices - place + length s.before) number (s.item ++ s.back) (TooMany number) some (omega (arith, s.not_before, small))
    (too_many s.item s.choices s.back s.is_item (omega (arith, s.not_before, s.within, small))) in
    ap (whole cores 0 (most_choices - place) 1) s.split
    ∙ front
    ∙ ap (with_front s.before) (ap (λ (n : ℕ). whole cores 0 (most_choices - place + length s.before) n (s.item ++ s.back)) same_number ∙ back)

-- ---- where it stops

say_by : (cores place at room : ℕ) (words left : List (List ℕ)) (fault : ChoiceFault) → place < most_choices → (p : Passed cores words place at room left)
    → IsItemAtFault cores (most_choices - room) (at + 1) left fault → IfSome (too_many_at fault) (SayAt cores words place)
say_by cores place at room words _ _ small p (bad_form word rest no_form other) = tt
say_by cores place at room words _ _ small p (cut_seed rest short) = tt
say_by cores place at room words _ _ small p (bad_seed seed count rest bad) = tt
say_by cores place at room words _ _ small p (bad_count seed count rest good less bad) = tt
say_by cores place at room words _ _ small p (no_core word choice rest is over) = tt
say_by cores place at room words _ _ small p (too_many item choices rest is over) = record {
  front = take at words;
  item = item;
  back = rest;
  before = p.made;
  choices = choices;
  split = sym (take-append-drop at words) ∙ ap (λ (ws : List (List ℕ)). take at words ++ ws) p.to_come;
  items = p.items;
  is_item = is;
  not_before = omega (arith, p.room_is);
  within = omega (arith, p.room_is, over, small);
  number_is = omega (arith, length-take at words, p.at_most);
}

at_fault : (cores place at room : ℕ) (words rest : List (List ℕ)) (word : List ℕ) (fault : ChoiceFault) → 0 < cores → place < most_choices
    → Passed cores words place at room (word ∷ rest)
    → item_of cores room (at + 1) word rest ≡ Err fault
    → IsItemAtFault cores (most_choices - room) (at + 1) (word ∷ rest) fault
at_fault cores place at room words rest word fault some small p is =
    subst (IsRead cores (most_choices - room) room (at + 1) (word ∷ rest)) is
    (item_read cores (most_choices - room) room (at + 1) word rest some (omega (arith, p.room_is, small)))

pub found : (cores place at room : ℕ) (words rest : List (List ℕ)) (word : List ℕ) (fault : ChoiceFault) → 0 < cores → place < most_choices
    → Passed cores words place at room (word ∷ rest) → item_of cores room (at + 1) word rest ≡ Err fault → IfSome (too_many_at fault) (SayAt cores words place)
found cores place at room words rest word fault some small p is =
    say_by cores place at room words (word ∷ rest) fault small p (at_fault cores place at room words rest word fault some small p is)

pub only : (cores place at room : ℕ) (words rest : List (List ℕ)) (word : List ℕ) (fault : ChoiceFault) → 0 < cores → place < most_choices
    → Passed cores words place at room (word ∷ rest)
    → item_of cores room (at + 1) word rest ≡ Err fault
    → (number : ℕ) → SayAt cores words place number
    → too_many_at fault ≡ Some number
unfolding with_front
only cores place at room words rest word fault some small p is number s =
    let stopped : whole cores 0 (most_choices - place) 1 words ≡ Err fault =
    front_read cores place at room words (word ∷ rest) small p
    ∙ ap (with_front p.made) (fault_whole cores (most_choices - room) (at + 1) (word ∷ rest) fault some (omega arith)
    (at_fault cores place at room words rest word fault some small p is)) in
    let said = stops cores words place number some small s in
    let same : fault ≡ TooMany number = cc in
    ap too_many_at same

-- where no word is left, none says it
pub no_word : (cores place at room : ℕ) (words left : List (List ℕ)) → 0 < cores → place < most_choices
    → Passed cores words place at room left → left ≡ [] → (number : ℕ) → ¬ (SayAt cores words place number)
unfolding with_front whole
no_word cores place at room words left some small p past number s =
    let read : whole cores 0 (most_choices - place) 1 words ≡ Ok (p.made ++ []) =
    front_read cores place at room words left small p ∙ ap (λ (ws : List (List ℕ)). with_front p.made (whole cores 0 (most_choices - room) (at + 1) ws)) past in
    let said = stops cores words place number some small s in
    absurd cc

-- ---- each choice that is spelled is said by a word

later : (cores place number : ℕ) (words rest : List (List ℕ)) (choices : List Choice) → IsItem cores words choices → length choices ≤ place
    → SayAt cores rest (place - length choices) number → SayAt cores (words ++ rest) place (length words + number)
later cores place number words rest choices item le s = record {
  front = words ++ s.front;
  item = s.item;
  back = s.back;
  before = choices ++ s.before;
  choices = s.choices;
  split = ap (λ (ws : List (List ℕ)). words ++ ws) s.split ∙ sym (append_assoc words s.front (s.item ++ s.back));
  items = more words s.front choices s.before item s.items;
  is_item = s.is_item;
  not_before = omega (arith, length-append choices s.before, s.not_before, le);
  within = omega (arith, length-append choices s.before, s.within, le);
  number_is = omega (arith, length-append words s.front, s.number_is);
}

pub said : (cores place : ℕ) (words : List (List ℕ)) (choices : List Choice)
    → AreItems cores words choices
    → place < length choices
    → (number : ℕ) × SayAt cores words place number
said cores place _ _ none below = absurd (omega arith)
said cores place _ _ (more words rest choices others item items) below =
    elim (cases_lt place (length choices)) [
      | inl here ↦ (
        1,
        record {
          front = [];
          item = words;
          back = rest;
          before = [];
          choices = choices;
          split = refl;
          items = none;
          is_item = item;
          not_before = omega arith;
          within = omega (arith, here);
          number_is = refl;
        },
      )
      | inr past ↦
          let s = said cores (place - length choices) rest others items (omega (arith, below, length-append choices others, past)) in
          (length words + s.0, later cores place s.0 words rest choices item past s.1)
    ]

-- so a text that spells more choices is answered
pub is_there : (cores place : ℕ) (words : List (List ℕ)) (answer : Option ℕ) → ((number : ℕ) → SayAt cores words place number → answer ≡ Some number)
    → (choices : List Choice) → WordsSpell cores words choices → place < length choices → IsSome answer
is_there cores place words answer answered choices spells below =
    let s = said cores place words choices spells.items below in
    ap is_some (answered s.0 s.1)
