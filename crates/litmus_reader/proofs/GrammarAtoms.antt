-- Atoms are read as they are spelled.
use Rattle.litmus_reader.proofs.Vocabulary.{◌≡◌, ℕ, ◌+◌, ◌≤◌, ◌<◌, ◌^◌, Bool, true, false, cond, ltb, not, ◌&&◌, List, [], ◌∷◌, ◌++◌}
use Rattle.litmus_reader.proofs.Vocabulary.{length, Some, None, Ok, Err, refl, sym, ap, subst, ◌∙◌, inl, inr, arith, codes, bytes_eq}
use Rattle.litmus_reader.proofs.Vocabulary.{ltb-true, lt-ltb, and_parts, not-true, length-append, bytes_eq-Decides, Claim, TruthClaim}
use Rattle.litmus_reader.proofs.Vocabulary.{RegClaim, LocClaim, is_name, is_register_word, is_keyword, is_location_name, Loc, Stop, Equals}
use Rattle.litmus_reader.proofs.Vocabulary.{Colon, OpenSquare, CloseSquare, OpenRound, decimal_value, Term, number, name, symbol, Piece}
use Rattle.litmus_reader.proofs.Vocabulary.{is_symbol, symbol_at, name_at, TooLarge, NoSuchCore, there, word_after, located, word_at}
use Rattle.litmus_reader.proofs.Vocabulary.{setting_at, core_of, claim_in, Claimed, claimed, one_more, truth_at, setting_atom, atom_at}
use Rattle.litmus_reader.proofs.Vocabulary.{negation_at, terms, IsSetting, sets_register, sets_location, sets_in_squares, names_in}
use Rattle.litmus_reader.proofs.Vocabulary.{is_allowed, numbered, number_of, with_name, location, IsAtom, says_true, says_false}
use Rattle.litmus_reader.proofs.Vocabulary.{says_setting, PhraseFits, claim_by, IsWithin, fault, remaining_of, Setting, of_register}
use Rattle.litmus_reader.proofs.Vocabulary.{of_location, truth, atom, or_fault, BadNumber, part_of, BadCondition, ◌>>=◌, Passes}
use Rattle.litmus_reader.proofs.GrammarTokens.{chosen, there_is, there_some, some_is, ok_is, ok_pair, bind_ok, opened, terms_append, word_found}
use Rattle.litmus_reader.proofs.GrammarItems.{setting_found, setting_taken}
use Rattle.litmus_reader.proofs.GrammarPhrases.{Finds, Takes, Anything}
use Rattle.litmus_reader.proofs.GrammarNames.{with_name_by, place_below, place_none, known_with, number_with}
use Rattle.litmus_reader.proofs.Readings.{given_by, ReadsPhrase, SpellsPhrase}

-- ---- atoms

-- the core is one of the test, and a word has room for the number
abbrev pub SettingFits : ℕ → Setting → Type 0
SettingFits cores (of_register core reg v) = (decimal_value core < cores) × (v < 2 ^ 32)
SettingFits cores (of_location x v) = v < 2 ^ 32

pub atom_fits : (cores : ℕ) (s : Setting) → SettingFits cores s → PhraseFits cores (atom s)
atom_fits cores (of_register core reg v) f = rw (lt-ltb (decimal_value core) cores f.0, lt-ltb v (2 ^ 32) f.1) refl
atom_fits cores (of_location x v) f = rw (lt-ltb v (2 ^ 32) f) refl

pub fits_atom : (cores : ℕ) (s : Setting) → PhraseFits cores (atom s) → SettingFits cores s
fits_atom cores (of_register core reg v) f =
    let whole = and_parts (is_allowed cores (of_register core reg v)) true f in
    let parts = and_parts (ltb (decimal_value core) cores) (ltb v (2 ^ 32)) whole.0 in
    (ltb-true _ _ parts.0, ltb-true _ _ parts.1)
fits_atom cores (of_location x v) f = ltb-true _ _ (and_parts (ltb v (2 ^ 32)) true f).0

one_more_ok : (remaining atoms n : ℕ) → one_more remaining atoms ≡ Ok n → (n ≡ atoms + 1) × (atoms < 256)
one_more_ok remaining atoms n e =
    elim (chosen (ltb atoms 256) (Ok (atoms + 1)) (Err (fault TooLarge remaining)) (Ok n) e) [
      | inl hit ↦ (sym (ok_is (atoms + 1) n hit.1), ltb-true _ _ hit.0)
      | inr miss ↦ absurd cc
    ]

one_more_is : (remaining atoms : ℕ) → atoms + 1 ≤ 256 → one_more remaining atoms ≡ Ok (atoms + 1)
one_more_is remaining atoms few = let lt : ltb atoms 256 ≡ true = lt-ltb _ _ (omega arith) in rw lt refl

pub word_ok : (remaining v n : ℕ) → word_at remaining v ≡ Ok n → (v ≡ n) × (v < 2 ^ 32)
word_ok remaining v n e = by_room (ltb v (2 ^ 32)) refl e
  where
    by_room : (b : Bool) → ltb v (2 ^ 32) ≡ b → or_fault (cond b (Some v) None) (fault BadNumber remaining) ≡ Ok n → (v ≡ n) × (v < 2 ^ 32)
    by_room true is h = (ok_is v n h, ltb-true _ _ is)
    by_room false is h = absurd cc

pub word_is : (remaining v : ℕ) → v < 2 ^ 32 → word_at remaining v ≡ Ok v
word_is remaining v small = rw (lt-ltb v (2 ^ 32) small) refl

pub core_ok : (cores remaining : ℕ) (digits : List ℕ) (n : ℕ)
    → core_of cores remaining digits ≡ Ok n
    → (decimal_value digits ≡ n) × (decimal_value digits < cores)
core_ok cores remaining digits n e =
    elim (chosen (ltb (decimal_value digits) cores) (Ok (decimal_value digits)) (Err (fault NoSuchCore remaining)) (Ok n) e) [
      | inl hit ↦ (ok_is (decimal_value digits) n hit.1, ltb-true _ _ hit.0)
      | inr miss ↦ absurd cc
    ]

core_is : (cores remaining : ℕ) (digits : List ℕ) → decimal_value digits < cores → core_of cores remaining digits ≡ Ok (decimal_value digits)
core_is cores remaining digits below = rw (lt-ltb (decimal_value digits) cores below) refl

-- a setting is judged as it fits
claim_found : (cores remaining : ℕ) (names : List (List ℕ)) (s : Setting) → SettingFits cores s → length (numbered names (names_in (s ∷ []))) ≤ 16
    → claim_in cores remaining names s ≡ Ok (claim_by (numbered names (names_in (s ∷ []))) (atom s), numbered names (names_in (s ∷ [])))
unfolding claim_in numbered located
claim_found cores remaining names (of_register digits reg v) fits room = rw (core_is cores remaining digits fits.0, word_is remaining v fits.1) refl
claim_found cores remaining names (of_location x v) fits room =
    let below = place_below (bytes_eq x) (with_name names x) (known_with names x) in
    let few : number_of names x < 16 = omega (arith, below, number_with names x) in
    rw (word_is remaining v fits, lt-ltb (number_of names x) 16 few, number_with names x) refl

pub record ClaimTaken (cores : ℕ) (names : List (List ℕ)) (s : Setting) (c : Claim × List (List ℕ)) : Type 0 where
  pub fits : SettingFits cores s
  pub names_are : c.1 ≡ numbered names (names_in (s ∷ []))
  pub claim_is : c.0 ≡ claim_by (numbered names (names_in (s ∷ []))) (atom s)
  pub room : length names ≤ 16 → length (numbered names (names_in (s ∷ []))) ≤ 16

pub located_ok : (remaining : ℕ) (names : List (List ℕ)) (x : List ℕ) (r : Loc × List (List ℕ)) → located remaining names x ≡ Ok r
    → (r.0 ≡ location (number_of names x)) × (r.1 ≡ with_name names x) × (number_of names x < 16)
unfolding located
located_ok remaining names x r e =
    elim (chosen (ltb (number_of names x) 16) (Ok (location (number_of names x), with_name names x)) (Err (fault TooLarge remaining)) (Ok r) e) [
      | inl hit ↦
          let same = ok_pair (location (number_of names x)) r.0 (with_name names x) r.1 hit.1 in
          (sym same.0, sym same.1, ltb-true _ _ hit.0)
      | inr miss ↦ absurd cc
    ]

pub room_with : (names : List (List ℕ)) (x : List ℕ) → number_of names x < 16 → length names ≤ 16 → length (with_name names x) ≤ 16
room_with names x few le =
    with_name_by (λ l. length l ≤ 16) names x (λ _. le)
    (λ none. let at_end = place_none (bytes_eq x) names none in
    omega (arith, at_end, few, length-append names (x ∷ [])))

pub claim_taken : (cores remaining : ℕ) (names : List (List ℕ)) (s : Setting) (c : Claim × List (List ℕ))
    → claim_in cores remaining names s ≡ Ok c
    → ClaimTaken cores names s c
unfolding claim_in numbered
claim_taken cores remaining names (of_register digits reg v) c e =
    let a = bind_ok (core_of cores remaining digits) _ c e in
    let b = bind_ok (word_at remaining v) _ c a.2 in
    let core = core_ok cores remaining digits a.0 a.1 in
    let word = word_ok remaining v b.0 b.1 in
    let same = ok_pair (RegClaim a.0 reg b.0) c.0 names c.1 b.2 in
    record {
      fits = (core.1, word.1);
      names_are = sym same.1;
      claim_is = sym same.0 ∙ ap (λ (n : ℕ). RegClaim n reg b.0) (sym core.0) ∙ ap (λ (n : ℕ). RegClaim (decimal_value digits) reg n) (sym word.0);
      room = λ le. le;
    }
claim_taken cores remaining names (of_location x v) c e =
    let a = bind_ok (word_at remaining v) _ c e in
    let b = bind_ok (located remaining names x) _ c a.2 in
    let word = word_ok remaining v a.0 a.1 in
    let loc = located_ok remaining names x b.0 b.1 in
    let same = ok_pair (LocClaim b.0.0.0 a.0) c.0 b.0.1 c.1 b.2 in
    record {
      fits = word.1;
      names_are = sym same.1 ∙ loc.1;
      claim_is =
          sym same.0
          ∙ ap (λ (n : ℕ). LocClaim b.0.0.0 n) (sym word.0)
          ∙ ap (λ (l : Loc). LocClaim l.0 v) loc.0
          ∙ ap (λ (n : ℕ). LocClaim n v) (sym (number_with names x));
      room = λ le. room_with names x loc.2 le;
    }

-- ---- the first token of a setting

pub no_keyword : (x word : List ℕ) → is_location_name x ≡ true → is_keyword word ≡ true → bytes_eq x word ≡ false
no_keyword x word good bad = by_test (bytes_eq x word) refl
  where
    by_test : (b : Bool) → bytes_eq x word ≡ b → b ≡ false
    by_test true is =
        let same : x ≡ word = (bytes_eq-Decides x word).0 is in
        let both = and_parts (is_name x && not (is_register_word x)) (not (is_keyword x)) good in
        let none : is_keyword x ≡ false = not-true _ both.1 in
        let some : is_keyword x ≡ true = ap is_keyword same ∙ bad in
        absurd cc
    by_test false is = refl

-- neither a truth, a negation nor a bracket
pub record IsPlain (ps : List Piece) : Type 0 where
  pub no_truth : truth_at ps ≡ None
  pub no_negation : negation_at ps ≡ None
  pub no_bracket : symbol_at OpenRound ps ≡ None

pub setting_plain : (ts back : List Term) (s : Setting) → IsSetting ts s → (ps : List Piece) → terms ps ≡ ts ++ back → IsPlain ps
unfolding truth_at negation_at word_after name_at symbol_at is_symbol
setting_plain _ back _ (sets_register core word reg v value good is_value) ps e =
    opened IsPlain ps (number core) (symbol Colon ∷ name word ∷ symbol Equals ∷ v ++ back) e (λ p rest is _.
    record { no_truth = rw is refl; no_negation = rw is refl; no_bracket = rw is refl })
setting_plain _ back _ (sets_location x v value good is_value) ps e =
    opened IsPlain ps (name x) (symbol Equals ∷ v ++ back) e (λ p rest is _.
    record {
      no_truth = rw (is, no_keyword x (codes "true") good refl, no_keyword x (codes "false") good refl) refl;
      no_negation = rw (is, no_keyword x (codes "not") good refl) refl;
      no_bracket = rw is refl;
    })
setting_plain _ back _ (sets_in_squares x v value good is_value) ps e =
    opened IsPlain ps (symbol OpenSquare) (name x ∷ symbol CloseSquare ∷ symbol Equals ∷ v ++ back) e (λ p rest is _.
    record { no_truth = rw is refl; no_negation = rw is refl; no_bracket = rw is refl })

-- ---- atoms found

setting_atom_found : (stop : Stop) (cores : ℕ) (ts : List Term) (s : Setting)
    → IsSetting ts s
    → (atoms : ℕ) (names : List (List ℕ))
    → IsWithin cores atoms names (atom s)
    → (back : List Term) (ps : List Piece) → terms ps ≡ ts ++ back → ReadsPhrase (atom_at stop cores) atoms names (atom s) back ps
unfolding atom_at setting_atom
setting_atom_found stop cores ts s is atoms names allowed back ps e =
    let plain = setting_plain ts back s is ps e in
    let f = setting_found (part_of BadCondition stop) ts back s is ps e in
    let claim = claim_found cores (remaining_of ps) names s (fits_atom cores s allowed.fits) allowed.room in
    let done : atom_at stop cores atoms names ps ≡ Ok (given_by atoms names (atom s) f.rest) =
    rw (plain.no_truth, f.is, claim, one_more_is (remaining_of ps) atoms allowed.few) refl in
    record { rest = f.rest; is = done; after_it = f.after_it }

pub atom_found : (stop : Stop) (cores : ℕ) → Finds cores (atom_at stop cores) IsAtom Anything
unfolding atom_at truth_at word_after name_at numbered
atom_found stop cores _ _ says_true atoms names allowed back ok ps e =
    opened (ReadsPhrase (atom_at stop cores) atoms names (truth true) back) ps (name (codes "true")) back e (λ p rest is after_it.
    record { rest = rest; is = rw (is, one_more_is p.remaining atoms allowed.few) refl; after_it = after_it })
atom_found stop cores _ _ says_false atoms names allowed back ok ps e =
    opened (ReadsPhrase (atom_at stop cores) atoms names (truth false) back) ps (name (codes "false")) back e (λ p rest is after_it.
    record { rest = rest; is = rw (is, one_more_is p.remaining atoms allowed.few) refl; after_it = after_it })
atom_found stop cores _ _ (says_setting ts s is) atoms names allowed back ok ps e = setting_atom_found stop cores ts s is atoms names allowed back ps e

-- ---- atoms taken

pub truth_taken : (ps : List Piece) (t : Bool × List Piece) → truth_at ps ≡ Some t → Passes (λ ts. IsAtom ts (truth t.0)) ps t.1
unfolding truth_at
truth_taken ps t e =
    elim (there_is (word_after (codes "true") ps) (λ rest. Some (true, rest))
    (there (word_after (codes "false") ps) (λ rest. Some (false, rest)) None) (Some t) e) [
      | inl yes_at ↦ let word = word_found (codes "true") ps yes_at.0 yes_at.1 in
          subst (λ (t : Bool × List Piece). Passes (λ ts. IsAtom ts (truth t.0)) ps t.1) (some_is (true, yes_at.0) t yes_at.2)
          (record { front = word.0 ∷ []; parts = word.1; is = rw word.2 says_true })
      | inr no_true ↦
          let no_at = there_some (word_after (codes "false") ps) (λ rest. Some (false, rest)) t no_true.1 in
          let word = word_found (codes "false") ps no_at.0 no_at.1 in
          subst (λ (t : Bool × List Piece). Passes (λ ts. IsAtom ts (truth t.0)) ps t.1) (some_is (false, no_at.0) t no_at.2)
          (record { front = word.0 ∷ []; parts = word.1; is = rw word.2 says_false })
    ]

setting_atom_taken : (stop : Stop) (cores atoms : ℕ) (names : List (List ℕ)) (ps : List Piece) (c : Claimed)
    → length names ≤ 16
    → setting_atom stop cores atoms names ps ≡ Ok c
    → SpellsPhrase IsAtom cores atoms names ps c
unfolding setting_atom
setting_atom_taken stop cores atoms names ps c le e =
    let a = bind_ok (setting_at (part_of BadCondition stop) ps) _ c e in
    let b = bind_ok (claim_in cores (remaining_of ps) names a.0.0) _ c a.2 in
    let n = bind_ok (one_more (remaining_of ps) atoms) _ c b.2 in
    let t = setting_taken (part_of BadCondition stop) ps a.0.1 a.0.0 a.1 in
    let claim = claim_taken cores (remaining_of ps) names a.0.0 b.0 b.1 in
    let count = one_more_ok (remaining_of ps) atoms n.0 n.1 in
    let new = numbered names (names_in (a.0.0 ∷ [])) in
    subst (SpellsPhrase IsAtom cores atoms names ps) (ok_is (claimed b.0.0 n.0 b.0.1 a.0.1) c n.2) (record {
      ts = terms t.front;
      phrase = atom a.0.0;
      is = says_setting (terms t.front) a.0.0 t.is;
      parts = ap terms t.parts ∙ terms_append t.front a.0.1;
      within = record { fits = atom_fits cores a.0.0 claim.fits; few = omega (arith, count.1); room = claim.room le };
      given = ap (λ (x : Claim). claimed x n.0 b.0.1 a.0.1) claim.claim_is ∙ ap (λ (k : ℕ). claimed (claim_by new (atom a.0.0)) k b.0.1 a.0.1) count.0
          ∙ ap (λ (l : List (List ℕ)). claimed (claim_by new (atom a.0.0)) (atoms + 1) l a.0.1) claim.names_are;
    })

truth_atom_taken : (remaining cores atoms : ℕ) (names : List (List ℕ)) (ps : List Piece) (t : Bool × List Piece)
    (c : Claimed)
    → length names ≤ 16
    → truth_at ps ≡ Some t
    → (one_more remaining atoms >>= λ n. Ok (claimed (TruthClaim t.0) n names t.1)) ≡ Ok c → SpellsPhrase IsAtom cores atoms names ps c
unfolding numbered
truth_atom_taken remaining cores atoms names ps t c le at e =
    let n = bind_ok (one_more remaining atoms) _ c e in
    let b = truth_taken ps t at in
    let count = one_more_ok remaining atoms n.0 n.1 in
    subst (SpellsPhrase IsAtom cores atoms names ps) (ok_is (claimed (TruthClaim t.0) n.0 names t.1) c n.2) (record {
      ts = terms b.front;
      phrase = truth t.0;
      is = b.is;
      parts = ap terms b.parts ∙ terms_append b.front t.1;
      within = record { fits = refl; few = omega (arith, count.1); room = le };
      given = ap (λ (k : ℕ). claimed (TruthClaim t.0) k names t.1) count.0;
    })

pub atom_taken : (stop : Stop) (cores : ℕ) → Takes cores (atom_at stop cores) IsAtom
unfolding atom_at
atom_taken stop cores atoms names ps c le e =
    elim (there_is (truth_at ps) _ (setting_atom stop cores atoms names ps) (Ok c) e) [
      | inl t ↦ truth_atom_taken (remaining_of ps) cores atoms names ps t.0 c le t.1 t.2
      | inr none ↦ setting_atom_taken stop cores atoms names ps c le none.1
    ]
