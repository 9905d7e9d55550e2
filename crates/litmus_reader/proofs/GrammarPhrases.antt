-- Propositions by their phrases: claims as names appear, and parts with a symbol between them.
use Rattle.litmus_reader.proofs.Vocabulary.{◌≡◌, ℕ, zero, suc, ◌+◌, ◌≤◌, Bool, true, false, List, [], ◌∷◌, ◌++◌, length, Some, None, Ok}
use Rattle.litmus_reader.proofs.Vocabulary.{refl, sym, ap, subst, ◌∙◌, inl, inr, append_assoc, arith, list_all, and_from, and_parts}
use Rattle.litmus_reader.proofs.Vocabulary.{length-append, length-map, list_all-append, Claim, LocClaim, NotClaim, Symbol, And, Or, Term}
use Rattle.litmus_reader.proofs.Vocabulary.{symbol, Piece, is_symbol, is_symbol_term, symbol_at, ◌>>=◌, Claimed, claimed, Proposition}
use Rattle.litmus_reader.proofs.Vocabulary.{chain, chain_of, conjunction, disjunction, terms, numbered, names_in, is_allowed, AreJoined}
use Rattle.litmus_reader.proofs.Vocabulary.{one, IsConjunction, IsProposition, settings_in, locations_in, atoms_of, PhraseFits, claim_by}
use Rattle.litmus_reader.proofs.Vocabulary.{IsWithin, Setting, of_register, of_location, Phrase, truth, atom, negation, AndClaim, OrClaim}
use Rattle.litmus_reader.specs.GrammarConditions.{more}
use Rattle.litmus_reader.proofs.Chains.{joined_to}
use Rattle.litmus_tokens.proofs.Symbols.{spelled_so}
use Rattle.litmus_reader.proofs.GrammarTokens.{there_is, ok_is, bind_ok, front, symbol_takes}
use Rattle.litmus_reader.proofs.GrammarNames.{AllKnown, all_known, known_parts, number_more, numbered_append, grows}
use Rattle.litmus_reader.proofs.Readings.{given_by, ReadsPhrase, SpellsPhrase}
use Rattle.litmus_reader.specs.Written.{both, either}

-- ---- claims stay as more names appear

pub names_in-append : (before after : List Setting) → names_in (before ++ after) ≡ names_in before ++ names_in after
names_in-append [] after = refl
names_in-append (of_register core reg v ∷ before) after = names_in-append before after
names_in-append (of_location x v ∷ before) after = ap (λ (l : List (List ℕ)). x ∷ l) (names_in-append before after)

-- the names of two phrases are known
pub known_both : (p q : Phrase) (names : List (List ℕ))
    → AllKnown names (names_in (settings_in p ++ settings_in q))
    → AllKnown names (locations_in p) × AllKnown names (locations_in q)
known_both p q names k = known_parts (locations_in p) (locations_in q) names (subst (AllKnown names) (names_in-append (settings_in p) (settings_in q)) k)

pub stays : (p : Phrase) (xs names : List (List ℕ)) → AllKnown names (locations_in p) → claim_by (numbered names xs) p ≡ claim_by names p
stays (truth b) xs names k = refl
stays (atom (of_register core reg v)) xs names k = refl
stays (atom (of_location x v)) xs names k = ap (λ (n : ℕ). LocClaim n v) (number_more xs names x k.0)
stays (negation p) xs names k = ap (λ (c : Claim). NotClaim c) (stays p xs names k)
stays (both p q) xs names k = let parts = known_both p q names k in rw (stays p xs names parts.0, stays q xs names parts.1) refl
stays (either p q) xs names k = let parts = known_both p q names k in rw (stays p xs names parts.0, stays q xs names parts.1) refl

-- the first claim of two, where the second brought more names
first_stays : (p : Phrase) (xs names : List (List ℕ))
    → claim_by (numbered (numbered names (locations_in p)) xs) p ≡ claim_by (numbered names (locations_in p)) p
first_stays p xs names = stays p xs (numbered names (locations_in p)) (all_known (locations_in p) names)

-- ---- what is found and what is taken

abbrev pub Finds : ℕ → Proposition → (List Term → Phrase → Type 0) → (List Term → Type 0) → Type 0
Finds cores unit Is After = (ts : List Term) (p : Phrase) → Is ts p → (atoms : ℕ) (names : List (List ℕ)) → IsWithin cores atoms names p
    → (back : List Term) → After back → (ps : List Piece) → terms ps ≡ ts ++ back → ReadsPhrase unit atoms names p back ps

abbrev pub Takes : ℕ → Proposition → (List Term → Phrase → Type 0) → Type 0
Takes cores unit Is =
    (atoms : ℕ) (names : List (List ℕ)) (ps : List Piece) (c : Claimed)
    → length names ≤ 16
    → unit atoms names ps ≡ Ok c
    → SpellsPhrase Is cores atoms names ps c

-- what is spelled by one form is spelled by another
pub spelled_as : (Is Also : List Term → Phrase → Type 0)
    → ((ts : List Term) (p : Phrase) → Is ts p → Also ts p)
    → (cores atoms : ℕ) (names : List (List ℕ)) (ps : List Piece) (c : Claimed)
    → SpellsPhrase Is cores atoms names ps c → SpellsPhrase Also cores atoms names ps c
spelled_as Is Also so cores atoms names ps c a = record {
  ts = a.ts;
  phrase = a.phrase;
  is = so a.ts a.phrase a.is;
  parts = a.parts;
  within = a.within;
  given = a.given;
}

-- ---- parts with a symbol between them

-- phrases are joined as their claims are
pub record Joining (join : Claim → Claim → Claim) (phrases : Phrase → Phrase → Phrase) : Type 0 where
  pub claims : (names : List (List ℕ)) (p q : Phrase) → claim_by names (phrases p q) ≡ join (claim_by names p) (claim_by names q)
  pub locations : (p q : Phrase) → locations_in (phrases p q) ≡ locations_in p ++ locations_in q
  pub counts : (p q : Phrase) → atoms_of (phrases p q) ≡ atoms_of p + atoms_of q
  pub fit : (cores : ℕ) (p q : Phrase) → PhraseFits cores p → PhraseFits cores q → PhraseFits cores (phrases p q)
  pub parts_fit : (cores : ℕ) (p q : Phrase) → PhraseFits cores (phrases p q) → PhraseFits cores p × PhraseFits cores q

both_fit : (cores : ℕ) (p q : Phrase) → PhraseFits cores p → PhraseFits cores q → list_all (is_allowed cores) (settings_in p ++ settings_in q) ≡ true
both_fit cores p q f g = list_all-append (is_allowed cores) (settings_in p) (settings_in q) ∙ and_from _ _ f g

pub each_fits : (cores : ℕ) (p q : Phrase) → list_all (is_allowed cores) (settings_in p ++ settings_in q) ≡ true → PhraseFits cores p × PhraseFits cores q
each_fits cores p q f =
    and_parts (list_all (is_allowed cores) (settings_in p)) (list_all (is_allowed cores) (settings_in q))
    (sym (list_all-append (is_allowed cores) (settings_in p) (settings_in q)) ∙ f)

pub joining_both : Joining AndClaim both
joining_both = record {
  claims = λ names p q. refl;
  locations = λ p q. names_in-append (settings_in p) (settings_in q);
  counts = λ p q. refl;
  fit = both_fit;
  parts_fit = each_fits;
}

pub joining_either : Joining OrClaim either
joining_either = record {
  claims = λ names p q. refl;
  locations = λ p q. names_in-append (settings_in p) (settings_in q);
  counts = λ p q. refl;
  fit = both_fit;
  parts_fit = each_fits;
}

names_joined : (join : Claim → Claim → Claim) (phrases : Phrase → Phrase → Phrase) → Joining join phrases → (names : List (List ℕ)) (p q : Phrase)
    → numbered names (locations_in (phrases p q)) ≡ numbered (numbered names (locations_in p)) (locations_in q)
names_joined join phrases j names p q = ap (λ (l : List (List ℕ)). numbered names l) (j.locations p q) ∙ numbered_append (locations_in p) (locations_in q) names

claim_joined : (join : Claim → Claim → Claim) (phrases : Phrase → Phrase → Phrase) → Joining join phrases → (names : List (List ℕ)) (p q : Phrase)
    → claim_by (numbered names (locations_in (phrases p q))) (phrases p q)
    ≡ join (claim_by (numbered names (locations_in p)) p) (claim_by (numbered (numbered names (locations_in p)) (locations_in q)) q)
claim_joined join phrases j names p q =
    let new = numbered (numbered names (locations_in p)) (locations_in q) in
    ap (λ (l : List (List ℕ)). claim_by l (phrases p q)) (names_joined join phrases j names p q) ∙ j.claims new p q
    ∙ ap (λ (c : Claim). join c (claim_by new q)) (first_stays p (locations_in q) names)

given_joined : (join : Claim → Claim → Claim) (phrases : Phrase → Phrase → Phrase)
    → Joining join phrases
    → (atoms : ℕ) (names : List (List ℕ)) (p q : Phrase) (rest : List Piece)
    → given_by atoms names (phrases p q) rest
    ≡ joined_to join (claim_by (numbered names (locations_in p)) p) (given_by (atoms + atoms_of p) (numbered names (locations_in p)) q rest)
given_joined join phrases j atoms names p q rest =
    let counted : atoms + atoms_of (phrases p q) ≡ atoms + atoms_of p + atoms_of q = omega (arith, j.counts p q) in
    let whole = numbered names (locations_in (phrases p q)) in
    ap (λ (c : Claim). claimed c (atoms + atoms_of (phrases p q)) whole rest) (claim_joined join phrases j names p q)
    ∙ ap (λ (n : ℕ).
    claimed
    (join (claim_by (numbered names (locations_in p)) p) (claim_by (numbered (numbered names (locations_in p)) (locations_in q)) q))
    n whole rest)
    counted
    ∙ ap (λ (l : List (List ℕ)).
    claimed
    (join (claim_by (numbered names (locations_in p)) p) (claim_by (numbered (numbered names (locations_in p)) (locations_in q)) q))
    (atoms + atoms_of p + atoms_of q) l rest)
    (names_joined join phrases j names p q)

-- ---- taken

joined_within : (join : Claim → Claim → Claim) (phrases : Phrase → Phrase → Phrase)
    → Joining join phrases
    → (cores atoms : ℕ) (names : List (List ℕ)) (p q : Phrase)
    → IsWithin cores atoms names p
    → IsWithin cores (atoms + atoms_of p) (numbered names (locations_in p)) q → IsWithin cores atoms names (phrases p q)
joined_within join phrases j cores atoms names p q a b = record {
  fits = j.fit cores p q a.fits b.fits;
  few = omega (arith, b.few, j.counts p q);
  room = subst (λ (l : List (List ℕ)). length l ≤ 16) (sym (names_joined join phrases j names p q)) b.room;
}

pub joined_taken : (s : Symbol) (join : Claim → Claim → Claim) (phrases : Phrase → Phrase → Phrase)
    (IsPart : List Term → Phrase → Type 0)
    → Joining join phrases
    → (cores atoms : ℕ) (names : List (List ℕ)) (ps after : List Piece) (c right : Claimed)
    → (a : SpellsPhrase (AreJoined s phrases IsPart) cores atoms names ps c) → symbol_at s c.rest ≡ Some after
    → SpellsPhrase IsPart cores (atoms + atoms_of a.phrase) (numbered names (locations_in a.phrase)) after right
    → SpellsPhrase (AreJoined s phrases IsPart) cores atoms names ps (joined_to join c.claim right)
joined_taken s join phrases IsPart j cores atoms names ps after c right a at r =
    let p = a.phrase in
    let q = r.phrase in
    record {
      ts = a.ts ++ symbol s ∷ r.ts;
      phrase = phrases p q;
      is = more a.ts r.ts p q a.is r.is;
      parts =
          a.parts
          ∙ ap (λ (l : List Term). a.ts ++ l) (symbol_takes s c.rest after at ∙ ap (λ (l : List Term). symbol s ∷ l) r.parts)
          ∙ sym (append_assoc a.ts (symbol s ∷ r.ts) (terms right.rest));
      within = joined_within join phrases j cores atoms names p q a.within r.within;
      given = ap (λ (c : Claimed). joined_to join c.claim right) a.given ∙ ap (joined_to join (claim_by (numbered names (locations_in p)) p)) r.given
          ∙ sym (given_joined join phrases j atoms names p q right.rest);
    }

chain_taken : (s : Symbol) (join : Claim → Claim → Claim) (phrases : Phrase → Phrase → Phrase) (IsPart : List Term → Phrase → Type 0) → Joining join phrases
    → (cores : ℕ) (unit : Proposition) → Takes cores unit IsPart → (n atoms : ℕ) (names : List (List ℕ)) (ps : List Piece) (c d : Claimed)
    → SpellsPhrase (AreJoined s phrases IsPart) cores atoms names ps c
    → chain s join unit n c ≡ Ok d
    → SpellsPhrase (AreJoined s phrases IsPart) cores atoms names ps d
unfolding chain
chain_taken s join phrases IsPart j cores unit takes zero atoms names ps c d a e =
    subst (SpellsPhrase (AreJoined s phrases IsPart) cores atoms names ps) (ok_is c d e) a
chain_taken s join phrases IsPart j cores unit takes (suc n) atoms names ps c d a e =
    elim (there_is (symbol_at s c.rest) (λ rest. unit c.atoms c.names rest >>= λ right. chain s join unit n (joined_to join c.claim right)) (Ok c) (Ok d) e) [
      | inl at ↦
          let b = bind_ok (unit c.atoms c.names at.0) (λ right. chain s join unit n (joined_to join c.claim right)) d at.2 in
          let here = ap (λ (c : Claimed). unit c.atoms c.names at.0) (sym a.given) ∙ b.1 in
          let r = takes (atoms + atoms_of a.phrase) (numbered names (locations_in a.phrase)) at.0 b.0 a.within.room here in
          chain_taken s join phrases IsPart j cores unit takes n atoms names ps (joined_to join c.claim b.0) d
          (joined_taken s join phrases IsPart j cores atoms names ps at.0 c b.0 a at.1 r) b.2
      | inr none ↦ subst (SpellsPhrase (AreJoined s phrases IsPart) cores atoms names ps) (ok_is c d none.1) a
    ]

joined_takes : (s : Symbol) (join : Claim → Claim → Claim) (phrases : Phrase → Phrase → Phrase) (IsPart : List Term → Phrase → Type 0) → Joining join phrases
    → (cores : ℕ) (unit : Proposition) → Takes cores unit IsPart → Takes cores (chain_of s join unit) (AreJoined s phrases IsPart)
unfolding chain_of
joined_takes s join phrases IsPart j cores unit takes atoms names ps d le e =
    let first = bind_ok (unit atoms names ps) (λ first. chain s join unit (length first.rest) first) d e in
    let a = spelled_as IsPart (AreJoined s phrases IsPart) (λ ts p is. one ts p is) cores atoms names ps first.0 (takes atoms names ps first.0 le first.1) in
    chain_taken s join phrases IsPart j cores unit takes (length first.0.rest) atoms names ps first.0 d a first.2

pub conjunction_takes : (IsPart : List Term → Phrase → Type 0) (cores : ℕ) (unit : Proposition)
    → Takes cores unit IsPart
    → Takes cores (conjunction unit) (IsConjunction IsPart)
conjunction_takes IsPart cores unit takes = joined_takes And AndClaim both IsPart joining_both cores unit takes

pub proposition_takes : (IsPart : List Term → Phrase → Type 0) (cores : ℕ) (unit : Proposition)
    → Takes cores unit IsPart
    → Takes cores (disjunction unit) (IsProposition IsPart)
proposition_takes IsPart cores unit takes =
    joined_takes Or OrClaim either (IsConjunction IsPart) joining_either cores (conjunction unit) (conjunction_takes IsPart cores unit takes)

-- ---- found

-- a chain has been read so far
pub record ChainAt (s : Symbol) (join : Claim → Claim → Claim) (unit : Proposition) (atoms : ℕ) (names : List (List ℕ))
    (p : Phrase) (back : List Term) (ps : List Piece) : Type 0 where
  pub rest : List Piece
  pub count : ℕ
  pub enough : length rest ≤ count
  pub same : chain_of s join unit atoms names ps ≡ chain s join unit count (given_by atoms names p rest)
  pub after_it : terms rest ≡ back

chain_step : (s : Symbol) (join : Claim → Claim → Claim) (unit : Proposition) (k : ℕ) (c right : Claimed)
    (after : List Piece)
    → symbol_at s c.rest ≡ Some after
    → unit c.atoms c.names after ≡ Ok right
    → chain s join unit (suc k) c ≡ chain s join unit k (joined_to join c.claim right)
unfolding chain
chain_step s join unit k c right after at is = rw (at, is) refl

chain_ends : (s : Symbol) (join : Claim → Claim → Claim) (unit : Proposition) (k : ℕ) (c : Claimed) → symbol_at s c.rest ≡ None → chain s join unit k c ≡ Ok c
unfolding chain
chain_ends s join unit zero c none = refl
chain_ends s join unit (suc k) c none = rw none refl

pub terms_length : (ps : List Piece) (ts : List Term) → terms ps ≡ ts → length ps ≡ length ts
terms_length ps ts e = sym (length-map ps (λ p. p.term)) ∙ ap length e

pub symbol_there : (s : Symbol) (ps rest : List Piece) (p : Piece) → ps ≡ p ∷ rest → p.term ≡ symbol s → symbol_at s ps ≡ Some rest
unfolding symbol_at is_symbol
symbol_there s ps rest p parts is = rw (parts, is, spelled_so s) refl

-- whether such a token is at the front
abbrev pub begins_with : (Term → Bool) → List Term → Bool
begins_with is [] = false
begins_with is (t ∷ ts) = is t

pub no_symbol : (s : Symbol) (ps : List Piece) → begins_with (is_symbol_term s) (terms ps) ≡ false → symbol_at s ps ≡ None
unfolding symbol_at is_symbol
no_symbol s [] none = refl
no_symbol s (p ∷ ps) none = rw none refl

chain_started : (s : Symbol) (join : Claim → Claim → Claim) (unit : Proposition) (atoms : ℕ) (names : List (List ℕ))
    (p : Phrase) (back : List Term) (ps : List Piece)
    → ReadsPhrase unit atoms names p back ps
    → ChainAt s join unit atoms names p back ps
unfolding chain_of
chain_started s join unit atoms names p back ps f =
    let same : chain_of s join unit atoms names ps ≡ chain s join unit (length f.rest) (given_by atoms names p f.rest) = rw f.is refl in
    record { rest = f.rest; count = length f.rest; enough = omega arith; same = same; after_it = f.after_it }

pub first_allowed : (join : Claim → Claim → Claim) (phrases : Phrase → Phrase → Phrase)
    → Joining join phrases
    → (cores atoms : ℕ) (names : List (List ℕ)) (p q : Phrase)
    → IsWithin cores atoms names (phrases p q) → IsWithin cores atoms names p
first_allowed join phrases j cores atoms names p q a =
    let first = numbered names (locations_in p) in
    let more = grows (locations_in q) first in
    let whole = ap (λ (l : List (List ℕ)). length l) (names_joined join phrases j names p q) in
    record { fits = (j.parts_fit cores p q a.fits).0; few = omega (arith, a.few, j.counts p q); room = omega (arith, a.room, more, whole) }

pub second_allowed : (join : Claim → Claim → Claim) (phrases : Phrase → Phrase → Phrase)
    → Joining join phrases
    → (cores atoms : ℕ) (names : List (List ℕ)) (p q : Phrase)
    → IsWithin cores atoms names (phrases p q) → IsWithin cores (atoms + atoms_of p) (numbered names (locations_in p)) q
second_allowed join phrases j cores atoms names p q a =
    record {
      fits = (j.parts_fit cores p q a.fits).1;
      few = omega (arith, a.few, j.counts p q);
      room = subst (λ (l : List (List ℕ)). length l ≤ 16) (names_joined join phrases j names p q) a.room;
    }

chain_further : (s : Symbol) (join : Claim → Claim → Claim) (phrases : Phrase → Phrase → Phrase)
    → Joining join phrases
    → (unit : Proposition) (atoms : ℕ) (names : List (List ℕ)) (p q : Phrase)
    → (us back : List Term) (ps after : List Piece) (left : ChainAt s join unit atoms names p (symbol s ∷ us ++ back) ps) → symbol_at s left.rest ≡ Some after
    → ReadsPhrase unit (atoms + atoms_of p) (numbered names (locations_in p)) q back after → ChainAt s join unit atoms names (phrases p q) back ps
chain_further s join phrases j unit atoms names p q us back ps after left at right = by_count left.count left.enough left.same
  where
    by_count : (k : ℕ)
        → length left.rest ≤ k
        → chain_of s join unit atoms names ps ≡ chain s join unit k (given_by atoms names p left.rest)
        → ChainAt s join unit atoms names (phrases p q) back ps
    by_count zero enough same = let long = terms_length left.rest (symbol s ∷ us ++ back) left.after_it in absurd (omega arith)
    by_count (suc k) enough same =
        let long = terms_length left.rest (symbol s ∷ us ++ back) left.after_it in
        let sum = length-append us back in
        let short = terms_length right.rest back right.after_it in
        record {
          rest = right.rest;
          count = k;
          enough = omega (arith, long, sum, short, enough);
          same =
              same
              ∙ chain_step s join unit k (given_by atoms names p left.rest)
              (given_by (atoms + atoms_of p) (numbered names (locations_in p)) q right.rest) after at right.is
              ∙ ap (λ (c : Claimed). chain s join unit k c) (sym (given_joined join phrases j atoms names p q right.rest));
          after_it = right.after_it;
        }

pub chain_found : (s : Symbol) (join : Claim → Claim → Claim) (phrases : Phrase → Phrase → Phrase) (IsPart : List Term → Phrase → Type 0) → Joining join phrases
    → (cores : ℕ) (unit : Proposition) (After : List Term → Type 0) → Finds cores unit IsPart After → ((l : List Term) → After (symbol s ∷ l))
    → (ts : List Term) (p : Phrase) → AreJoined s phrases IsPart ts p → (atoms : ℕ) (names : List (List ℕ)) → IsWithin cores atoms names p
    → (back : List Term) → After back → (ps : List Piece) → terms ps ≡ ts ++ back → ChainAt s join unit atoms names p back ps
chain_found s join phrases IsPart j cores unit After finds separated _ _ (one ts p is) atoms names allowed back ok ps e =
    chain_started s join unit atoms names p back ps (finds ts p is atoms names allowed back ok ps e)
chain_found s join phrases IsPart j cores unit After finds separated _ _ (more ts us p q are is) atoms names allowed back ok ps e =
    let left =
    chain_found s join phrases IsPart j cores unit After finds separated ts p are atoms names
    (first_allowed join phrases j cores atoms names p q allowed)
    (symbol s ∷ us ++ back) (separated (us ++ back)) ps (e ∙ append_assoc ts (symbol s ∷ us) back) in
    let f = front left.rest (symbol s) (us ++ back) left.after_it in
    let right =
    finds us q is (atoms + atoms_of p) (numbered names (locations_in p))
    (second_allowed join phrases j cores atoms names p q allowed) back ok f.rest f.after_it in
    chain_further s join phrases j unit atoms names p q us back ps f.rest left (symbol_there s left.rest f.rest f.first f.parts f.is) right

joined_finds : (s : Symbol) (join : Claim → Claim → Claim) (phrases : Phrase → Phrase → Phrase) (IsPart : List Term → Phrase → Type 0) → Joining join phrases
    → (cores : ℕ) (unit : Proposition) (After : List Term → Type 0) → Finds cores unit IsPart After → ((l : List Term) → After (symbol s ∷ l))
    → Finds cores (chain_of s join unit) (AreJoined s phrases IsPart) (λ back. After back × (begins_with (is_symbol_term s) back ≡ false))
joined_finds s join phrases IsPart j cores unit After finds separated ts p are atoms names allowed back ok ps e =
    let c = chain_found s join phrases IsPart j cores unit After finds separated ts p are atoms names allowed back ok.0 ps e in
    let none : begins_with (is_symbol_term s) (terms c.rest) ≡ false = ap (λ (l : List Term). begins_with (is_symbol_term s) l) c.after_it ∙ ok.1 in
    record { rest = c.rest; is = c.same ∙ chain_ends s join unit c.count (given_by atoms names p c.rest) (no_symbol s c.rest none); after_it = c.after_it }

-- where anything may come after
abbrev pub Anything : List Term → Type 0
Anything back = Unit {0}

-- neither `/\` nor `\/` comes after
abbrev pub EndsThere : List Term → Type 0
EndsThere back = (Anything back × (begins_with (is_symbol_term And) back ≡ false)) × (begins_with (is_symbol_term Or) back ≡ false)

pub conjunction_finds : (IsPart : List Term → Phrase → Type 0) (cores : ℕ) (unit : Proposition) → Finds cores unit IsPart Anything
    → Finds cores (conjunction unit) (IsConjunction IsPart) (λ back. Anything back × (begins_with (is_symbol_term And) back ≡ false))
conjunction_finds IsPart cores unit finds = joined_finds And AndClaim both IsPart joining_both cores unit Anything finds (λ l. tt)

pub proposition_finds : (IsPart : List Term → Phrase → Type 0) (cores : ℕ) (unit : Proposition)
    → Finds cores unit IsPart Anything
    → Finds cores (disjunction unit) (IsProposition IsPart) EndsThere
proposition_finds IsPart cores unit finds =
    joined_finds Or OrClaim either (IsConjunction IsPart) joining_either cores (conjunction unit)
    (λ back. Anything back × (begins_with (is_symbol_term And) back ≡ false))
    (conjunction_finds IsPart cores unit finds) (λ l. (tt, refl))
