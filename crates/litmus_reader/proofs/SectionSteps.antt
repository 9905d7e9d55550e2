-- Sections of a text, one token after the other.
use Rattle.litmus_reader.proofs.Vocabulary.{◌≡◌, ℕ, ◌+◌, ◌≤◌, ◌<◌, Bool, true, false, cond, List, [], ◌∷◌, ◌++◌, length, Some, None, Ok}
use Rattle.litmus_reader.proofs.Vocabulary.{Err, refl, sym, ap, ◌∙◌, append_assoc, append-nil, arith, length-append, list_any, Stop, End}
use Rattle.litmus_reader.proofs.Vocabulary.{Symbol, Tilde, Term, number, hexadecimal, name, symbol, terms, Piece, piece_at, is_symbol_term}
use Rattle.litmus_reader.proofs.Vocabulary.{is_symbol, symbol_at, name_then, name_at, Why, there, is_one_of, Section, onto_section}
use Rattle.litmus_reader.proofs.Vocabulary.{section_of, section, IsSection, tokens_in, stop_of, opened, fault, at_stop, remaining_of}
use Rattle.litmus_reader.proofs.Vocabulary.{bytes_eq, ends_rows_term, ends_rows, is_word, word_after, ◌||◌, Instructions}
use Rattle.litmus_tokens.specs.declared.fault.Why.TheVariants.{BadToken}
use Rattle.litmus_reader.proofs.Lexed.{first_again, none_again}
use Rattle.litmus_reader.proofs.GrammarTokens.{terms_append}

-- ---- sections of tokens

-- a section after these tokens
abbrev pub after_these : List Piece → Section → Section
after_these ps s = section (ps ++ s.tokens) s.stop s.rest

pub section_parts : (ends : List Symbol) (stop : Stop) (ps : List Piece) → ps ≡ (section_of ends stop ps).tokens ++ (section_of ends stop ps).rest
unfolding section_of
section_parts ends stop [] = refl
section_parts ends stop (p ∷ ps) = by_test (is_one_of ends p) (section_parts ends stop ps)
  where
    by_test : (b : Bool) → ps ≡ (section_of ends stop ps).tokens ++ (section_of ends stop ps).rest
        → p ∷ ps ≡ (cond b (section (p ∷ []) End ps) (onto_section p (section_of ends stop ps))).tokens
        ++ (cond b (section (p ∷ []) End ps) (onto_section p (section_of ends stop ps))).rest
    by_test true further = refl
    by_test false further = ap (λ (l : List Piece). p ∷ l) further

-- a section that has a token takes one or more
pub section_shorter : (ends : List Symbol) (stop : Stop) (ps : List Piece)
    → 0 < length (section_of ends stop ps).tokens
    → length (section_of ends stop ps).rest < length ps
section_shorter ends stop ps some =
    let s = section_of ends stop ps in
    omega (arith, some, ap (λ (l : List Piece). length l) (section_parts ends stop ps), length-append s.tokens s.rest)

-- one of the symbols comes last, if it is there
pub section_last : (ends : List Symbol) (stop : Stop) (ps front back : List Piece) (p : Piece)
    → (section_of ends stop ps).tokens ≡ front ++ p ∷ back
    → is_one_of ends p ≡ true
    → back ≡ []
unfolding section_of
section_last ends stop [] [] back p e is = absurd cc
section_last ends stop [] (x ∷ front) back p e is = absurd cc
section_last ends stop (q ∷ qs) front back p e is = by_test (is_one_of ends q) refl front e (λ front e. section_last ends stop qs front back p e is)
  where
    by_test : (b : Bool)
        → is_one_of ends q ≡ b
        → (front : List Piece)
        → (cond b (section (q ∷ []) End qs) (onto_section q (section_of ends stop qs))).tokens ≡ front ++ p ∷ back
        → ((front : List Piece) → (section_of ends stop qs).tokens ≡ front ++ p ∷ back → back ≡ []) → back ≡ []
    by_test true one [] e further = cc
    by_test true one (x ∷ front) e further = none_last front cc
      where
        none_last : (front : List Piece) → [] ≡ front ++ p ∷ back → back ≡ []
        none_last [] e = absurd cc
        none_last (y ∷ front) e = absurd cc
    by_test false none [] e further = let same : q ≡ p = cc in let also : is_one_of ends q ≡ true = ap (is_one_of ends) same ∙ is in absurd cc
    by_test false none (x ∷ front) e further = further front cc

-- where a symbol comes after some tokens that are none of these, there the section ends
pub record SectionFound (ends : List Symbol) (stop : Stop) (us : List Term) (t : Term) (back : List Term) (ps : List Piece) : Type 0 where
  pub front : List Piece
  pub last : Piece
  pub rest : List Piece
  pub is : section_of ends stop ps ≡ section (front ++ last ∷ []) End rest
  pub is_front : terms front ≡ us
  pub is_last : last.term ≡ t
  pub is_rest : terms rest ≡ back

-- whether a term is one of these symbols
abbrev pub ends_with : List Symbol → Term → Bool
ends_with ends t = list_any (λ s. is_symbol_term s t) ends

-- none of the terms is so
abbrev pub Lacks : (Term → Bool) → List Term → Type 0
Lacks is [] = Unit {0}
Lacks is (t ∷ ts) = (is t ≡ false) × Lacks is ts

pub section_found : (ends : List Symbol) (stop : Stop) (us back : List Term) (t : Term)
    → Lacks (ends_with ends) us
    → ends_with ends t ≡ true
    → (ps : List Piece) → terms ps ≡ us ++ t ∷ back
    → SectionFound ends stop us t back ps
unfolding section_of is_symbol
section_found ends stop [] back t lacks one [] e = absurd cc
section_found ends stop (u ∷ us) back t lacks one [] e = absurd cc
section_found ends stop [] back t lacks one (p ∷ ps) e =
    let is : p.term ≡ t = cc in
    let after : terms ps ≡ back = cc in
    let hit : is_one_of ends p ≡ true = ap (ends_with ends) is ∙ one in
    record { front = []; last = p; rest = ps; is = rw hit refl; is_front = refl; is_last = is; is_rest = after }
section_found ends stop (u ∷ us) back t lacks one (p ∷ ps) e =
    let is : p.term ≡ u = cc in
    let after : terms ps ≡ us ++ t ∷ back = cc in
    let miss : is_one_of ends p ≡ false = ap (ends_with ends) is ∙ lacks.0 in
    let further = section_found ends stop us back t lacks.1 one ps after in
    record {
      front = p ∷ further.front;
      last = further.last;
      rest = further.rest;
      is = rw (miss, further.is) refl;
      is_front = rw (is, further.is_front) refl;
      is_last = further.is_last;
      is_rest = further.is_rest;
    }

pub section_terms : (ends : List Symbol) (stop : Stop) (us back : List Term) (t : Term) (ps : List Piece)
    → (f : SectionFound ends stop us t back ps) → terms (f.front ++ f.last ∷ []) ≡ us ++ t ∷ []
section_terms ends stop us back t ps f = terms_append f.front (f.last ∷ []) ∙ rw (f.is_front, f.is_last) refl

-- what a section has, where one of its symbols is in it
pub section_taken : (ends : List Symbol) (stop : Stop) (ps front back : List Piece) (end : Piece) (t : Term)
    → (section_of ends stop ps).tokens ≡ front ++ end ∷ back
    → end.term ≡ t
    → ends_with ends t ≡ true
    → terms (section_of ends stop ps).tokens ≡ terms front ++ t ∷ []
unfolding is_symbol
section_taken ends stop ps front back end t e is one =
    let none = section_last ends stop ps front back end e (ap (ends_with ends) is ∙ one) in
    ap terms (e ∙ ap (λ (l : List Piece). front ++ end ∷ l) none) ∙ terms_append front (end ∷ []) ∙ rw is refl

-- ---- sections of texts

-- a section as far as it has been read
pub record SoFar (set : Instructions) (ends : List Symbol) (text : List ℕ) (ps : List Piece) (rest : List ℕ) : Type 0 where
  pub is : section_of ends (stop_of set text) (tokens_in set text) ≡ after_these ps (section_of ends (stop_of set text) (tokens_in set rest))
  pub stop_kept : stop_of set text ≡ stop_of set rest
  pub within : length ps + length rest ≤ length text

-- the tokens from one on
pub record Token (set : Instructions) (text : List ℕ) (p : Piece) (after : List ℕ) : Type 0 where
  pub tokens : tokens_in set text ≡ p ∷ tokens_in set after
  pub stop_kept : stop_of set text ≡ stop_of set after

pub token_there : (set : Instructions) (text after : List ℕ) (p : Piece) → Ok (p, after) ≡ piece_at set text → Token set text p after
token_there set text after p e =
    let all = first_again set text p (tokens_in set after) (stop_of set after) after (sym e) refl in
    record { tokens = sym (ap (λ (x : List Piece × Stop). x.0) all); stop_kept = sym (ap (λ (x : List Piece × Stop). x.1) all) }

pub record NoToken (set : Instructions) (text : List ℕ) (stop : Stop) : Type 0 where
  pub tokens : tokens_in set text ≡ []
  pub stop_kept : stop_of set text ≡ stop

pub token_missing : (set : Instructions) (text : List ℕ) (stop : Stop) → Err stop ≡ piece_at set text → NoToken set text stop
token_missing set text stop e =
    let all = none_again set text stop (sym e) in
    record { tokens = sym (ap (λ (x : List Piece × Stop). x.0) all); stop_kept = sym (ap (λ (x : List Piece × Stop). x.1) all) }

pub so_far_start : (set : Instructions) (ends : List Symbol) (text : List ℕ) → SoFar set ends text [] text
so_far_start set ends text = record { is = refl; stop_kept = refl; within = omega arith }

pub so_far_more : (set : Instructions) (ends : List Symbol) (text rest after : List ℕ) (ps : List Piece) (p : Piece)
    → Ok (p, after) ≡ piece_at set rest
    → length after < length rest
    → is_one_of ends p ≡ false
    → SoFar set ends text ps rest → SoFar set ends text (ps ++ p ∷ []) after
unfolding section_of
so_far_more set ends text rest after ps p e shorter other s =
    let t = token_there set rest after p e in
    let last = section_of ends (stop_of set text) (tokens_in set after) in
    let one : section_of ends (stop_of set text) (tokens_in set rest) ≡ onto_section p last = rw (t.tokens, other) refl in
    record {
      is = s.is ∙ ap (after_these ps) one ∙ ap (λ (l : List Piece). section l last.stop last.rest) (sym (append_assoc ps (p ∷ []) last.tokens));
      stop_kept = s.stop_kept ∙ t.stop_kept;
      within = omega (arith, s.within, shorter, length-append ps (p ∷ []));
    }

pub section_ends : (set : Instructions) (ends : List Symbol) (text rest after : List ℕ) (ps : List Piece) (p : Piece)
    → Ok (p, after) ≡ piece_at set rest
    → is_one_of ends p ≡ true
    → SoFar set ends text ps rest → IsSection set ends text (ps ++ p ∷ []) after End
unfolding section_of
section_ends set ends text rest after ps p e is s =
    let t = token_there set rest after p e in
    let one : section_of ends (stop_of set text) (tokens_in set rest) ≡ section (p ∷ []) End (tokens_in set after) = rw (t.tokens, is) refl in
    record { is = s.is ∙ ap (after_these ps) one; stop_kept = s.stop_kept ∙ t.stop_kept }

pub section_stops : (set : Instructions) (ends : List Symbol) (text rest : List ℕ) (ps : List Piece) (stop : Stop)
    → Err stop ≡ piece_at set rest
    → SoFar set ends text ps rest
    → IsSection set ends text ps rest stop
unfolding section_of
section_stops set ends text rest ps stop e s =
    let t = token_missing set rest stop e in
    let none : section_of ends (stop_of set text) (tokens_in set rest) ≡ section [] stop (tokens_in set rest) = rw (t.tokens, s.stop_kept, t.stop_kept) refl in
    record { is = s.is ∙ ap (after_these ps) none ∙ ap (λ (l : List Piece). section l stop (tokens_in set rest)) (append-nil ps); stop_kept = s.stop_kept }

-- ---- the token at the front

pub opened_there : (set : Instructions) (s : Symbol) (why : Why) (text after : List ℕ) (p : Piece)
    → Ok (p, after) ≡ piece_at set text
    → is_symbol s p ≡ true
    → Ok (tokens_in set after) ≡ opened set s why text
unfolding symbol_at
opened_there set s why text after p e is = let t = token_there set text after p e in rw (t.tokens, is) refl

pub opened_other : (set : Instructions) (s : Symbol) (why : Why) (text after : List ℕ) (p : Piece)
    → Ok (p, after) ≡ piece_at set text
    → is_symbol s p ≡ false
    → Err (fault BadToken p.remaining) ≡ opened set s why text
unfolding symbol_at
opened_other set s why text after p e is = let t = token_there set text after p e in rw (t.tokens, is) refl

pub opened_missing : (set : Instructions) (s : Symbol) (why : Why) (text : List ℕ) (stop : Stop)
    → Err stop ≡ piece_at set text
    → Err (at_stop (fault why 0) stop) ≡ opened set s why text
unfolding symbol_at
opened_missing set s why text stop e = let t = token_missing set text stop e in rw (t.tokens, t.stop_kept) refl

pub place_there : (set : Instructions) (text after : List ℕ) (p : Piece) → Ok (p, after) ≡ piece_at set text → p.remaining ≡ remaining_of (tokens_in set text)
place_there set text after p e = let t = token_there set text after p e in rw t.tokens refl

pub ends_rows_there : (set : Instructions) (text after : List ℕ) (p : Piece)
    → Ok (p, after) ≡ piece_at set text
    → ends_rows (tokens_in set text) ≡ (ends_rows_term p.term || is_symbol Tilde p)
unfolding ends_rows
ends_rows_there set text after p e = let t = token_there set text after p e in rw t.tokens refl

pub ends_rows_missing : (set : Instructions) (text : List ℕ) (stop : Stop) → Err stop ≡ piece_at set text → ends_rows (tokens_in set text) ≡ true
unfolding ends_rows
ends_rows_missing set text stop e = let t = token_missing set text stop e in rw t.tokens refl

pub word_there : (set : Instructions) (word text after : List ℕ) (p : Piece)
    → Ok (p, after) ≡ piece_at set text
    → word_after word (tokens_in set text) ≡ cond (is_word word p.term) (Some (tokens_in set after)) None
unfolding word_after name_at
word_there set word text after p e = let t = token_there set text after p e in rw t.tokens (by_term p.term)
  where
    by_term : (t : Term)
        → there (name_then t (tokens_in set after)) (λ x. cond (bytes_eq x.0 word) (Some x.1) None) None
        ≡ cond (is_word word t) (Some (tokens_in set after)) None
    by_term (name x) = refl
    by_term (number d) = refl
    by_term (hexadecimal d) = refl
    by_term (symbol s) = refl

pub stop_there : (set : Instructions) (text after : List ℕ) (p : Piece) → Ok (p, after) ≡ piece_at set text → stop_of set after ≡ stop_of set text
stop_there set text after p e = sym (token_there set text after p e).stop_kept

pub word_missing : (set : Instructions) (word text : List ℕ) (stop : Stop) → Err stop ≡ piece_at set text → word_after word (tokens_in set text) ≡ None
unfolding word_after name_at
word_missing set word text stop e = let t = token_missing set text stop e in rw t.tokens refl

pub word_begins : (set : Instructions) (word text after : List ℕ) (p : Piece)
    → Ok (p, after) ≡ piece_at set text
    → is_word word p.term ≡ true
    → Some (tokens_in set after) ≡ word_after word (tokens_in set text)
word_begins set word text after p e is = sym (word_there set word text after p e ∙ rw is refl)

pub word_differs : (set : Instructions) (word text after : List ℕ) (p : Piece)
    → Ok (p, after) ≡ piece_at set text
    → is_word word p.term ≡ false
    → None ≡ word_after word (tokens_in set text)
word_differs set word text after p e is = sym (word_there set word text after p e ∙ rw is refl)
