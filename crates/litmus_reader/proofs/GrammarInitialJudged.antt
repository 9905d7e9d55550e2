-- An item more of the initial state, and what is given so far.
use Rattle.litmus_reader.proofs.Vocabulary.{◌≡◌, ℕ, suc, ◌+◌, ◌≤◌, ◌<◌, ◌^◌, Bool, true, false, cond, ltb, not, List, [], ◌∷◌, ◌++◌, length}
use Rattle.litmus_reader.proofs.Vocabulary.{map, Ok, Err, refl, sym, ap, subst, ◌∙◌, inl, inr, arith, list_any, list_all, bytes_eq}
use Rattle.litmus_reader.proofs.Vocabulary.{ltb-false, and_parts, or_parts, not-true, length-append, map-append, list_any-append}
use Rattle.litmus_reader.proofs.Vocabulary.{list_all-append, Reg, Loc, TwiceInit, located, word_at, Given, given, Initial, initial, gives}
use Rattle.litmus_reader.proofs.Vocabulary.{judged, given_value, same_place, each_once, names_in, Fits, fault, number_of, location, Setting}
use Rattle.litmus_reader.proofs.Vocabulary.{of_register, of_location, append-nil, lt-ltb, le-ltb, ◌||◌}
use Rattle.litmus_tokens.proofs.Maps.{list_any_map}
use Rattle.litmus_reader.proofs.GrammarNames.{place_below, place_none}
use Rattle.litmus_reader.proofs.GrammarTokens.{chosen, ok_is, bind_ok}
use Rattle.litmus_reader.proofs.GrammarPhrases.{names_in-append}
use Rattle.litmus_reader.proofs.GrammarAtoms.{word_ok, located_ok}

-- ---- what settings give

-- the words of the locations
abbrev pub words_in : List Setting → List ℕ
words_in [] = []
words_in (of_register core reg v ∷ rest) = words_in rest
words_in (of_location x v ∷ rest) = v ∷ words_in rest

-- the settings of registers
abbrev pub settings_of_registers : List Setting → List Setting
settings_of_registers [] = []
settings_of_registers (of_register core reg v ∷ rest) = of_register core reg v ∷ settings_of_registers rest
settings_of_registers (of_location x v ∷ rest) = settings_of_registers rest

abbrev pub unplaced : Given → Setting
unplaced g = of_register g.core g.reg g.value

-- what has been read is what the settings so far give
pub record Holds (done : List Setting) (i : Initial) : Type 0 where
  pub names : i.names ≡ names_in done
  pub words : i.words ≡ words_in done
  pub registers : map unplaced i.registers ≡ settings_of_registers done

pub words_in-append : (xs ys : List Setting) → words_in (xs ++ ys) ≡ words_in xs ++ words_in ys
words_in-append [] ys = refl
words_in-append (of_register core reg v ∷ xs) ys = words_in-append xs ys
words_in-append (of_location x v ∷ xs) ys = ap (λ (l : List ℕ). v ∷ l) (words_in-append xs ys)

pub settings_of_registers-append : (xs ys : List Setting) → settings_of_registers (xs ++ ys) ≡ settings_of_registers xs ++ settings_of_registers ys
settings_of_registers-append [] ys = refl
settings_of_registers-append (of_register core reg v ∷ xs) ys = ap (λ (l : List Setting). of_register core reg v ∷ l) (settings_of_registers-append xs ys)
settings_of_registers-append (of_location x v ∷ xs) ys = settings_of_registers-append xs ys

pub a_word_each : (xs : List Setting) → length (words_in xs) ≡ length (names_in xs)
a_word_each [] = refl
a_word_each (of_register core reg v ∷ xs) = a_word_each xs
a_word_each (of_location x v ∷ xs) = ap suc (a_word_each xs)

-- ---- given before

pub location_given : (x : List ℕ) (v : ℕ) (done : List Setting) → list_any (same_place (of_location x v)) done ≡ list_any (bytes_eq x) (names_in done)
location_given x v [] = refl
location_given x v (of_register core reg w ∷ done) = location_given x v done
location_given x v (of_location y w ∷ done) = ap (λ (b : Bool). bytes_eq x y || b) (location_given x v done)

among_registers : (core : List ℕ) (reg : Reg) (v : ℕ) (done : List Setting)
    → list_any (same_place (of_register core reg v)) done
    ≡ list_any (same_place (of_register core reg v)) (settings_of_registers done)
among_registers core reg v [] = refl
among_registers core reg v (of_register c r w ∷ done) =
    ap (λ (b : Bool). same_place (of_register core reg v) (of_register c r w) || b) (among_registers core reg v done)
among_registers core reg v (of_location y w ∷ done) = among_registers core reg v done

pub register_given : (core : List ℕ) (reg : Reg) (v : ℕ) (done : List Setting) (gs : List Given) → map unplaced gs ≡ settings_of_registers done
    → list_any (same_place (of_register core reg v)) done ≡ list_any (gives core reg) gs
register_given core reg v done gs e =
    among_registers core reg v done
    ∙ ap (list_any (same_place (of_register core reg v))) (sym e)
    ∙ list_any_map (same_place (of_register core reg v)) unplaced gs

pub once_apart : (done rest : List Setting) (s : Setting) → each_once (done ++ s ∷ rest) ≡ true → list_any (same_place s) done ≡ false
once_apart [] rest s e = refl
once_apart (d ∷ ds) rest s e =
    let both = and_parts (not (list_any (λ later. same_place later d) (ds ++ s ∷ rest))) (each_once (ds ++ s ∷ rest)) e in
    let none : list_any (λ later. same_place later d) (ds ++ s ∷ rest) ≡ false = not-true _ both.0 in
    let split =
    or_parts (list_any (λ later. same_place later d) ds) (list_any (λ later. same_place later d) (s ∷ rest))
    (sym (list_any-append (λ later. same_place later d) ds (s ∷ rest)) ∙ none) in
    let first = or_parts (same_place s d) (list_any (λ later. same_place later d) rest) split.1 in
    let apart : same_place s d ≡ false = first.0 in
    rw apart (once_apart ds rest s both.1)

pub once_more : (done : List Setting) (s : Setting) → each_once done ≡ true → list_any (same_place s) done ≡ false → each_once (done ++ s ∷ []) ≡ true
once_more [] s e new = refl
once_more (d ∷ ds) s e new =
    let both = and_parts (not (list_any (λ later. same_place later d) ds)) (each_once ds) e in
    let none : list_any (λ later. same_place later d) ds ≡ false = not-true _ both.0 in
    let fresh = or_parts (same_place s d) (list_any (same_place s) ds) new in
    let apart : same_place s d ≡ false = fresh.0 in
    let away : list_any (λ later. same_place later d) (ds ++ s ∷ []) ≡ false =
    list_any-append (λ later. same_place later d) ds (s ∷ []) ∙ rw (none, apart) refl in
    rw away (once_more ds s both.1 fresh.1)

-- ---- a word

has_room : (remaining v : ℕ) → ltb v (2 ^ 32) ≡ true → word_at remaining v ≡ Ok v
has_room remaining v e = rw e refl

-- ---- a location

located_new : (remaining : ℕ) (names : List (List ℕ)) (x : List ℕ)
    → list_any (bytes_eq x) names ≡ false
    → length names < 16
    → located remaining names x ≡ Ok (location (length names), names ++ x ∷ [])
unfolding located
located_new remaining names x new room =
    let at_end : number_of names x ≡ length names = place_none (bytes_eq x) names new in
    rw (at_end, lt-ltb (length names) 16 room, new) refl

-- where a location's number is none of those that have a word
located_is : (remaining : ℕ) (names : List (List ℕ)) (x : List ℕ) (loc : Loc × List (List ℕ))
    → located remaining names x ≡ Ok loc
    → ltb loc.0.0 (length names) ≡ false
    → (list_any (bytes_eq x) names ≡ false) × (length names < 16) × (loc.1 ≡ names ++ x ∷ [])
located_is remaining names x loc e past =
    let found = located_ok remaining names x loc e in
    let after_it : length names ≤ number_of names x = rw found.0 at (ltb-false _ _ past) in
    by_known (list_any (bytes_eq x) names) refl found.2 after_it (sym found.1)
  where
    by_known : (b : Bool) → list_any (bytes_eq x) names ≡ b → number_of names x < 16 → length names ≤ number_of names x → cond b names (names ++ x ∷ []) ≡ loc.1
        → (list_any (bytes_eq x) names ≡ false) × (length names < 16) × (loc.1 ≡ names ++ x ∷ [])
    by_known true any room after_it is = let below = place_below (bytes_eq x) names any in absurd (omega (arith, below, after_it))
    by_known false any room after_it is = (any, omega (arith, room, after_it), sym is)

-- ---- judged

values_split : (done rest : List Setting) (s : Setting)
    → list_all (λ s. ltb (given_value s) (2 ^ 32)) (done ++ s ∷ rest) ≡ true
    → ltb (given_value s) (2 ^ 32) ≡ true
values_split done rest s e =
    let both =
    and_parts (list_all (λ s. ltb (given_value s) (2 ^ 32)) done)
    (list_all (λ s. ltb (given_value s) (2 ^ 32)) (s ∷ rest))
    (sym (list_all-append (λ s. ltb (given_value s) (2 ^ 32)) done (s ∷ rest)) ∙ e) in
    (and_parts (ltb (given_value s) (2 ^ 32)) (list_all (λ s. ltb (given_value s) (2 ^ 32)) rest) both.1).0

pub values_more : (done : List Setting) (s : Setting) → list_all (λ s. ltb (given_value s) (2 ^ 32)) done ≡ true → ltb (given_value s) (2 ^ 32) ≡ true
    → list_all (λ s. ltb (given_value s) (2 ^ 32)) (done ++ s ∷ []) ≡ true
values_more done s all one = list_all-append (λ s. ltb (given_value s) (2 ^ 32)) done (s ∷ []) ∙ rw (all, one) refl

-- the item is taken in
pub record Judged (remaining : ℕ) (i : Initial) (done : List Setting) (s : Setting) : Type 0 where
  pub after : Initial
  pub is : judged remaining i s ≡ Ok after
  pub holds : Holds (done ++ s ∷ []) after

hold_register : (done : List Setting) (i : Initial) (remaining : ℕ) (core : List ℕ) (reg : Reg) (v : ℕ) → Holds done i
    → Holds (done ++ of_register core reg v ∷ []) (initial i.names i.words (i.registers ++ given remaining core reg v ∷ []))
hold_register done i remaining core reg v h = record {
  names = h.names ∙ sym (append-nil (names_in done)) ∙ sym (names_in-append done (of_register core reg v ∷ []));
  words = h.words ∙ sym (append-nil (words_in done)) ∙ sym (words_in-append done (of_register core reg v ∷ []));
  registers =
      map-append unplaced i.registers (given remaining core reg v ∷ [])
      ∙ ap (λ (l : List Setting). l ++ of_register core reg v ∷ []) h.registers
      ∙ sym (settings_of_registers-append done (of_register core reg v ∷ []));
}

hold_location : (done : List Setting) (i : Initial) (x : List ℕ) (v : ℕ) (names : List (List ℕ)) → Holds done i → names ≡ names_in done ++ x ∷ []
    → Holds (done ++ of_location x v ∷ []) (initial names (i.words ++ v ∷ []) i.registers)
hold_location done i x v names h e = record {
  names = e ∙ sym (names_in-append done (of_location x v ∷ []));
  words = ap (λ (l : List ℕ). l ++ v ∷ []) h.words ∙ sym (words_in-append done (of_location x v ∷ []));
  registers = h.registers ∙ sym (append-nil (settings_of_registers done)) ∙ sym (settings_of_registers-append done (of_location x v ∷ []));
}

pub judged_found : (remaining : ℕ) (i : Initial) (done rest : List Setting) (s : Setting) → Holds done i → Fits (done ++ s ∷ rest) → Judged remaining i done s
unfolding judged
judged_found remaining i done rest (of_register core reg v) h fits =
    let room = has_room remaining v (values_split done rest (of_register core reg v) fits.values) in
    let once = sym (register_given core reg v done i.registers h.registers) ∙ once_apart done rest (of_register core reg v) fits.once in
    record {
      after = initial i.names i.words (i.registers ++ given remaining core reg v ∷ []);
      is = rw (room, once) refl;
      holds = hold_register done i remaining core reg v h;
    }
judged_found remaining i done rest (of_location x v) h fits =
    let room = has_room remaining v (values_split done rest (of_location x v) fits.values) in
    let apart : list_any (bytes_eq x) i.names ≡ false =
    ap (list_any (bytes_eq x)) h.names
    ∙ sym (location_given x v done)
    ∙ once_apart done rest (of_location x v) fits.once in
    let count : length (names_in (done ++ of_location x v ∷ rest))
    ≡ length (names_in done) + suc (length (names_in rest)) =
    ap length (names_in-append done (of_location x v ∷ rest)) ∙ length-append (names_in done) (x ∷ names_in rest) in
    let same : length i.names ≡ length (names_in done) = ap length h.names in
    let some : length i.names < 16 = omega (arith, count, same, fits.few) in
    let words : length i.words ≡ length i.names = ap length h.words ∙ a_word_each done ∙ sym same in
    let found = located_new remaining i.names x apart some in
    let new : ltb (length i.names) (length i.names) ≡ false = le-ltb (length i.names) (length i.names) (omega arith) in
    record {
      after = initial (i.names ++ x ∷ []) (i.words ++ v ∷ []) i.registers;
      is = rw (room, found, words, new) refl;
      holds = hold_location done i x v (i.names ++ x ∷ []) h (ap (λ (l : List (List ℕ)). l ++ x ∷ []) h.names);
    }

pub judged_taken : (remaining : ℕ) (i after : Initial) (done : List Setting) (s : Setting) → judged remaining i s ≡ Ok after → Holds done i → Fits done
    → Holds (done ++ s ∷ []) after × Fits (done ++ s ∷ [])
unfolding judged
judged_taken remaining i after done (of_register core reg v) e h fits =
    let value = bind_ok (word_at remaining v) _ after e in
    let word = word_ok remaining v value.0 value.1 in
    elim (chosen (list_any (gives core reg) i.registers) (Err (fault TwiceInit remaining))
    (Ok (initial i.names i.words (i.registers ++ given remaining core reg value.0 ∷ []))) (Ok after) value.2) [
      | inl twice ↦ absurd cc
      | inr once ↦
          let same : initial i.names i.words (i.registers ++ given remaining core reg value.0 ∷ []) ≡ after = ok_is _ after once.1 in
          let is : initial i.names i.words (i.registers ++ given remaining core reg v ∷ []) ≡ after =
          ap (λ (n : ℕ). initial i.names i.words (i.registers ++ given remaining core reg n ∷ [])) word.0 ∙ same in
          let apart = register_given core reg v done i.registers h.registers ∙ once.0 in (
            subst (Holds (done ++ of_register core reg v ∷ [])) is (hold_register done i remaining core reg v h),
            record {
              once = once_more done (of_register core reg v) fits.once apart;
              values = values_more done (of_register core reg v) fits.values (lt-ltb v (2 ^ 32) word.1);
              few = omega (arith, fits.few, ap length (names_in-append done (of_register core reg v ∷ [])), length-append (names_in done) []);
            },
          )
    ]
judged_taken remaining i after done (of_location x v) e h fits =
    let value = bind_ok (word_at remaining v) _ after e in
    let word = word_ok remaining v value.0 value.1 in
    let loc = bind_ok (located remaining i.names x) _ after value.2 in
    let words : length i.words ≡ length i.names = ap length h.words ∙ a_word_each done ∙ sym (ap length h.names) in
    elim (chosen (ltb loc.0.0.0 (length i.words)) (Err (fault TwiceInit remaining))
    (Ok (initial loc.0.1 (i.words ++ value.0 ∷ []) i.registers)) (Ok after) loc.2) [
      | inl twice ↦ absurd cc
      | inr once ↦
          let same : initial loc.0.1 (i.words ++ value.0 ∷ []) i.registers ≡ after = ok_is _ after once.1 in
          let is : initial loc.0.1 (i.words ++ v ∷ []) i.registers ≡ after = ap (λ (n : ℕ). initial loc.0.1 (i.words ++ n ∷ []) i.registers) word.0 ∙ same in
          let new = located_is remaining i.names x loc.0 loc.1 (rw (← words) once.0) in
          let apart : list_any (same_place (of_location x v)) done ≡ false = location_given x v done ∙ ap (list_any (bytes_eq x)) (sym h.names) ∙ new.0 in
          let known : length i.names ≡ length (names_in done) = ap length h.names in (
            subst (Holds (done ++ of_location x v ∷ [])) is (hold_location done i x v loc.0.1 h (new.2 ∙ ap (λ (l : List (List ℕ)). l ++ x ∷ []) h.names)),
            record {
              once = once_more done (of_location x v) fits.once apart;
              values = values_more done (of_location x v) fits.values (lt-ltb v (2 ^ 32) word.1);
              few = omega (arith, new.1, known, ap length (names_in-append done (of_location x v ∷ [])), length-append (names_in done) (x ∷ []));
            },
          )
    ]
