-- One item more, after items that were read.
use Rattle.scheduler.proofs.Vocabulary.{◌≡◌, ℕ, ◌+◌, ◌-◌, ◌<◌, ◌≤◌, List, [], ◌∷◌, ◌++◌, length, take, drop, Ok, Err, refl, sym, ap, subst}
use Rattle.scheduler.proofs.Vocabulary.{◌∙◌, append_assoc, take_all, arith, take-add, append-nil, length-append, length-drop, length-take}
use Rattle.scheduler.proofs.Vocabulary.{take-append-drop, drop-drop, Choice, ChoiceFault, ChoiceItem, One, Seeded, most_choices, IsItem}
use Rattle.scheduler.proofs.Vocabulary.{AreItems, none, more, IsItemAtFault, AreRefused, made_of, words_in, item_of}
use Rattle.scheduler.proofs.Found.{Fits, IsRead, item_read}

-- an item after items
pub one_more : (cores : ℕ) (front : List (List ℕ)) (choices : List Choice)
    → AreItems cores front choices
    → (words : List (List ℕ)) (made : List Choice)
    → IsItem cores words made
    → AreItems cores (front ++ words) (choices ++ made)
one_more cores _ _ none words made item =
    subst (λ (w : List (List ℕ)). AreItems cores w made) (append-nil words)
    (subst (λ (m : List Choice). AreItems cores (words ++ []) m) (append-nil made) (more words [] made [] item none))
one_more cores _ _ (more first rest cs others it items) words made item =
    subst (λ (w : List (List ℕ)). AreItems cores w ((cs ++ others) ++ made)) (sym (append_assoc first rest words))
    (subst (λ (m : List Choice). AreItems cores (first ++ (rest ++ words)) m) (sym (append_assoc cs others made))
    (more first (rest ++ words) cs (others ++ made) it (one_more cores rest others items words made item)))

-- where an item was read, the choices after it are those of the words up to there, and the rest is still to be read
pub record WentOn (cores : ℕ) (words : List (List ℕ)) (to : ℕ) (left : List (List ℕ)) (choices : List Choice) : Type 0 where
  pub items : AreItems cores (take to words) choices
  pub few : length choices ≤ most_choices
  pub to_come : drop to words ≡ left

pub went_on : (cores room number at : ℕ) (words rest left : List (List ℕ)) (word : List ℕ) (choices : List Choice)
    (item : ChoiceItem)
    → 0 < cores
    → length choices ≤ most_choices
    → room ≡ most_choices - length choices
    → drop at words ≡ word ∷ rest
    → item_of cores room number word rest ≡ Ok item
    → left ≡ drop (words_in item - 1) rest
    → AreItems cores (take at words) choices
    → WentOn cores words (at + words_in item) left (choices ++ made_of cores item)
went_on cores room number at words rest left word choices item some few room_is here is after items =
    let read : Fits cores room (word ∷ rest) item =
    subst (IsRead cores (length choices) room number (word ∷ rest)) is
    (item_read cores (length choices) room number word rest some (omega arith)) in
    record {
      items = subst (λ (ws : List (List ℕ)). AreItems cores ws (choices ++ made_of cores item)) (sym (take-add at (words_in item) words))
          (one_more cores (take at words) choices items (take (words_in item) (drop at words)) (made_of cores item)
          (subst (λ (ws : List (List ℕ)). IsItem cores (take (words_in item) ws) (made_of cores item)) (sym here) read.is_item));
      few = omega (arith, length-append choices (made_of cores item), read.room_left);
      to_come = sym (drop-drop (words_in item) at words) ∙ ap (λ (ws : List (List ℕ)). drop (words_in item) ws) here ∙ after_first item ∙ sym after;
    }
  where
    after_first : (item : ChoiceItem) → drop (words_in item) (word ∷ rest) ≡ drop (words_in item - 1) rest
    after_first (One choice) = refl
    after_first (Seeded seed count) = refl

-- where an item was at fault, so are the words
pub refused_at : (cores room at : ℕ) (words rest : List (List ℕ)) (word : List ℕ) (choices : List Choice)
    (fault : ChoiceFault)
    → 0 < cores
    → length choices ≤ most_choices
    → room ≡ most_choices - length choices
    → drop at words ≡ word ∷ rest
    → item_of cores room (at + 1) word rest ≡ Err fault
    → AreItems cores (take at words) choices
    → AreRefused cores words fault
refused_at cores room at words rest word choices fault some few room_is here is items =
    let read : IsItemAtFault cores (length choices) (at + 1) (word ∷ rest) fault =
    subst (IsRead cores (length choices) room (at + 1) (word ∷ rest)) is
    (item_read cores (length choices) room (at + 1) word rest some (omega arith)) in
    let left = ap length here in
    let front : length (take at words) ≡ at = omega (arith, length-take at words, length-drop at words) in
    record {
      front = take at words;
      back = drop at words;
      choices = choices;
      split = sym (take-append-drop at words);
      items = items;
      few = few;
      at_fault = rw front (subst (λ (ws : List (List ℕ)). IsItemAtFault cores (length choices) (at + 1) ws fault) (sym here) read);
    }

-- where no word is left, the choices are those of all words
pub all_read : (cores at : ℕ) (words left : List (List ℕ)) (choices : List Choice)
    → AreItems cores (take at words) choices
    → drop at words ≡ left
    → left ≡ []
    → AreItems cores words choices
all_read cores at words left choices items to_come past =
    let gone = ap length (to_come ∙ past) in
    subst (λ (ws : List (List ℕ)). AreItems cores ws choices) (take_all at words (omega (arith, length-drop at words))) items
