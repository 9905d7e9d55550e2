-- Tokens at the front, found and taken.
use Rattle.litmus_reader.proofs.Vocabulary.{◌≡◌, ℕ, true, List, [], ◌∷◌, Option, Some, None, Result, Ok, Err, refl, sym, ap, ◌∙◌, ◌⊎◌, inl}
use Rattle.litmus_reader.proofs.Vocabulary.{inr, bytes_eq, bytes_eq-Decides, Symbol, Term, number, name, symbol, spelling_of, Piece}
use Rattle.litmus_reader.proofs.Vocabulary.{is_symbol_term, is_symbol, symbol_at, name_then, name_at, number_then, number_at, hexadecimal}
use Rattle.litmus_reader.proofs.Vocabulary.{Fault, Part, ◌>>=◌, there, or_unfit, terms, or_fault, word_after, ◌++◌}
use Rattle.litmus_tokens.proofs.Symbols.{spelling_tells}
pub use Rattle.litmus_tokens.proofs.Gaps.{chosen}

pub there_is : {A B : Type 0} (o : Option A) (f : A → B) (other z : B) → there o f other ≡ z → ((x : A) × (o ≡ Some x) × (f x ≡ z)) ⊎ ((o ≡ None) × (other ≡ z))
there_is (Some x) f other z e = inl (x, refl, e)
there_is None f other z e = inr (refl, e)

-- where nothing else is tried
pub there_some : {A B : Type 0} (o : Option A) (f : A → Option B) (y : B) → there o f None ≡ Some y → (x : A) × (o ≡ Some x) × (f x ≡ Some y)
there_some (Some x) f y e = (x, refl, e)
there_some None f y e = absurd cc

pub some_is : {A : Type 0} (x y : A) → Some x ≡ Some y → x ≡ y
some_is x y e = cc

pub pair_is : {A B : Type 0} (a c : A) (b d : B) → (let p : Option (A × B) = Some (a, b) in p) ≡ Some (c, d) → (a ≡ c) × (b ≡ d)
pair_is {A} {B} a c b d e = let both = some_is (a, b) (c, d) e in (ap (λ (q : A × B). q.0) both, ap (λ (q : A × B). q.1) both)

pub ok_is : {A : Type 0} (x y : A) → (let a : Result A Fault = Ok x in a) ≡ Ok y → x ≡ y
ok_is x y e = cc

pub ok_pair : {A B : Type 0} (a c : A) (b d : B) → (let p : Result (A × B) Fault = Ok (a, b) in p) ≡ Ok (c, d) → (a ≡ c) × (b ≡ d)
ok_pair {A} {B} a c b d e = let both = ok_is (a, b) (c, d) e in (ap (λ (q : A × B). q.0) both, ap (λ (q : A × B). q.1) both)

pub bind_ok : {A B : Type 0} (r : Result A Fault) (f : A → Result B Fault) (y : B) → (r >>= f) ≡ Ok y → (x : A) × (r ≡ Ok x) × (f x ≡ Ok y)
bind_ok (Ok x) f y e = (x, refl, e)
bind_ok (Err d) f y e = absurd cc

pub or_fault_ok : {A : Type 0} (o : Option A) (f : Fault) (x : A) → or_fault o f ≡ Ok x → o ≡ Some x
or_fault_ok (Some y) f x e = ap (λ a. Some a) (ok_is y x e)
or_fault_ok None f x e = absurd cc

pub or_unfit_ok : {A : Type 0} (part : Part) (ps : List Piece) (o : Option A) (x : A) → or_unfit part ps o ≡ Ok x → o ≡ Some x
or_unfit_ok part ps o x e = or_fault_ok o _ x e

-- ---- found

-- the token at the front, where the tokens are these
pub record Front (ps : List Piece) (t : Term) (back : List Term) : Type 0 where
  pub first : Piece
  pub rest : List Piece
  pub parts : ps ≡ first ∷ rest
  pub is : first.term ≡ t
  pub after_it : terms rest ≡ back

pub front : (ps : List Piece) (t : Term) (back : List Term) → terms ps ≡ t ∷ back → Front ps t back
front [] t back e = absurd cc
front (p ∷ ps) t back e = record { first = p; rest = ps; parts = refl; is = cc; after_it = cc }

pub opened : (P : List Piece → Type 0) (ps : List Piece) (t : Term) (back : List Term) → terms ps ≡ t ∷ back
    → ((p : Piece) (rest : List Piece) → p.term ≡ t → terms rest ≡ back → P (p ∷ rest)) → P ps
opened P [] t back e f = absurd cc
opened P (p ∷ ps) t back e f = let is : p.term ≡ t = cc in let after_it : terms ps ≡ back = cc in f p ps is after_it

pub no_terms : (ps : List Piece) → terms ps ≡ [] → ps ≡ []
no_terms [] e = refl
no_terms (p ∷ ps) e = absurd cc

-- ---- taken

pub terms_append : (xs ys : List Piece) → terms (xs ++ ys) ≡ terms xs ++ terms ys
terms_append [] ys = refl
terms_append (x ∷ xs) ys = ap (λ (l : List Term). x.term ∷ l) (terms_append xs ys)

-- this token is at the front, and after it the rest
abbrev pub Takes : Term → List Piece → List Piece → Type 0
Takes t ps rest = (p : Piece) × (ps ≡ p ∷ rest) × (p.term ≡ t)

pub takes : (t : Term) (ps rest : List Piece) → Takes t ps rest → terms ps ≡ t ∷ terms rest
takes t ps rest found = rw (found.1, found.2) refl

pub number_found : (ps rest : List Piece) (digits : List ℕ) → number_at ps ≡ Some (digits, rest) → Takes (number digits) ps rest
unfolding number_at
number_found [] rest digits e = absurd cc
number_found (p ∷ ps) rest digits e = by_term p.term refl e
  where
    by_term : (t : Term) → p.term ≡ t → number_then t ps ≡ Some (digits, rest) → Takes (number digits) (p ∷ ps) rest
    by_term (number d) is h = let same = pair_is d digits ps rest h in (p, ap (λ l. p ∷ l) same.1, is ∙ ap (λ d. number d) same.0)
    by_term (hexadecimal d) is h = absurd cc
    by_term (name x) is h = absurd cc
    by_term (symbol s) is h = absurd cc

pub name_found : (ps rest : List Piece) (x : List ℕ) → name_at ps ≡ Some (x, rest) → Takes (name x) ps rest
unfolding name_at
name_found [] rest x e = absurd cc
name_found (p ∷ ps) rest x e = by_term p.term refl e
  where
    by_term : (t : Term) → p.term ≡ t → name_then t ps ≡ Some (x, rest) → Takes (name x) (p ∷ ps) rest
    by_term (number d) is h = absurd cc
    by_term (hexadecimal d) is h = absurd cc
    by_term (name y) is h = let same = pair_is y x ps rest h in (p, ap (λ l. p ∷ l) same.1, is ∙ ap (λ y. name y) same.0)
    by_term (symbol s) is h = absurd cc

pub number_takes : (ps rest : List Piece) (digits : List ℕ) → number_at ps ≡ Some (digits, rest) → terms ps ≡ number digits ∷ terms rest
number_takes ps rest digits e = takes (number digits) ps rest (number_found ps rest digits e)

pub name_takes : (ps rest : List Piece) (x : List ℕ) → name_at ps ≡ Some (x, rest) → terms ps ≡ name x ∷ terms rest
name_takes ps rest x e = takes (name x) ps rest (name_found ps rest x e)

pub symbol_is : (s : Symbol) (p : Piece) → is_symbol s p ≡ true → p.term ≡ symbol s
unfolding is_symbol
symbol_is s p e = by_term p.term refl e
  where
    by_term : (t : Term) → p.term ≡ t → is_symbol_term s t ≡ true → p.term ≡ symbol s
    by_term (number n) is h = absurd cc
    by_term (hexadecimal n) is h = absurd cc
    by_term (name x) is h = absurd cc
    by_term (symbol t) is h = is ∙ ap (λ (u : Symbol). symbol u) (sym (spelling_tells s t ((bytes_eq-Decides (spelling_of s) (spelling_of t)).0 h)))

pub symbol_found : (s : Symbol) (ps rest : List Piece) → symbol_at s ps ≡ Some rest → Takes (symbol s) ps rest
unfolding symbol_at
symbol_found s [] rest e = absurd cc
symbol_found s (p ∷ ps) rest e =
    elim (chosen (is_symbol s p) (Some ps) None (Some rest) e) [
      | inl hit ↦ (p, ap (λ (l : List Piece). p ∷ l) (some_is ps rest hit.1), symbol_is s p hit.0)
      | inr miss ↦ absurd cc
    ]

pub symbol_takes : (s : Symbol) (ps rest : List Piece) → symbol_at s ps ≡ Some rest → terms ps ≡ symbol s ∷ terms rest
symbol_takes s ps rest e = takes (symbol s) ps rest (symbol_found s ps rest e)

pub word_found : (word : List ℕ) (ps rest : List Piece) → word_after word ps ≡ Some rest → Takes (name word) ps rest
unfolding word_after
word_found word ps rest e =
    let n = there_some (name_at ps) _ rest e in
    let found = name_found ps n.0.1 n.0.0 n.1 in
    elim (chosen (bytes_eq n.0.0 word) (Some n.0.1) None (Some rest) n.2) [
      | inl hit ↦ (found.0, found.1 ∙ ap (λ l. found.0 ∷ l) (some_is n.0.1 rest hit.1), found.2 ∙ ap (λ x. name x) ((bytes_eq-Decides n.0.0 word).0 hit.0))
      | inr miss ↦ absurd cc
    ]

pub word_taken : (word : List ℕ) (ps rest : List Piece) → word_after word ps ≡ Some rest → terms ps ≡ name word ∷ terms rest
word_taken word ps rest e = takes (name word) ps rest (word_found word ps rest e)
