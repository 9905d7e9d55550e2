-- Units and propositions are read as they are spelled.
use Rattle.litmus_reader.proofs.Vocabulary.{◌≡◌, ℕ, zero, suc, ◌≤◌, Bool, true, false, List, [], ◌∷◌, ◌++◌, length, Some, None, Ok, Err}
use Rattle.litmus_reader.proofs.Vocabulary.{refl, sym, ap, subst, ◌∙◌, inl, inr, append_assoc, codes, NotClaim, Stop, OpenRound, CloseRound}
use Rattle.litmus_reader.proofs.Vocabulary.{And, Or, Tilde, Term, name, symbol, number, hexadecimal, Piece, is_symbol, is_symbol_term}
use Rattle.litmus_reader.proofs.Vocabulary.{symbol_at, name_at, TooLarge, there, or_unfit, word_after, Claimed, claimed, atom_at}
use Rattle.litmus_reader.proofs.Vocabulary.{Proposition, disjunction, negation_at, opens_unit, bracketed, unit_by, unit_at, proposition_at}
use Rattle.litmus_reader.proofs.Vocabulary.{terms, IsAtom, says_true, says_false, says_setting, IsProposition, in_brackets, is_negation}
use Rattle.litmus_reader.proofs.Vocabulary.{IsUnit, IsWithin, fault, remaining_of, Phrase, negation, Symbol, bytes_eq, part_of}
use Rattle.litmus_reader.proofs.Vocabulary.{BadCondition, ◌>>=◌, ◌||◌}
use Rattle.litmus_reader.specs.GrammarConditions.{plain, negated as negated_by}
use Rattle.litmus_reader.proofs.GrammarTokens.{chosen, there_is, some_is, ok_is, bind_ok, or_unfit_ok, front, opened, symbol_takes, word_taken}
use Rattle.litmus_reader.proofs.GrammarPhrases.{Finds, Takes, spelled_as, Anything, proposition_takes, proposition_finds, begins_with}
use Rattle.litmus_reader.proofs.GrammarAtoms.{setting_plain, atom_found, atom_taken}
use Rattle.litmus_reader.proofs.Readings.{given_by, ReadsPhrase, SpellsPhrase}

-- ---- units found

pub atom_plain : (ts back : List Term) (p : Phrase)
    → IsAtom ts p
    → (ps : List Piece) → terms ps ≡ ts ++ back
    → (negation_at ps ≡ None) × (symbol_at OpenRound ps ≡ None)
unfolding negation_at word_after name_at symbol_at is_symbol
atom_plain _ back _ says_true ps e =
    opened (λ ps. (negation_at ps ≡ None) × (symbol_at OpenRound ps ≡ None)) ps (name (codes "true")) back e (λ p rest is _. (rw is refl, rw is refl))
atom_plain _ back _ says_false ps e =
    opened (λ ps. (negation_at ps ≡ None) × (symbol_at OpenRound ps ≡ None)) ps (name (codes "false")) back e (λ p rest is _. (rw is refl, rw is refl))
atom_plain _ back _ (says_setting ts s is) ps e = let plain = setting_plain ts back s is ps e in (plain.no_negation, plain.no_bracket)

last_found : (stop : Stop) (cores : ℕ) → Finds cores (unit_at stop cores zero) (IsUnit zero) Anything
unfolding unit_at opens_unit
last_found stop cores ts p is atoms names allowed back ok ps e =
    let plain = atom_plain ts back p is ps e in
    let f = atom_found stop cores ts p is atoms names allowed back tt ps e in
    record { rest = f.rest; is = rw (plain.0, plain.1) f.is; after_it = f.after_it }

abbrev negated_claim : Claimed → Claimed
negated_claim c = claimed (NotClaim c.claim) c.atoms c.names c.rest

negated_found : (inner : Proposition) (atoms : ℕ) (names : List (List ℕ)) (p : Phrase) (back : List Term)
    (ps : List Piece) (f : ReadsPhrase inner atoms names p back ps)
    → (inner atoms names ps >>= λ c. Ok (negated_claim c)) ≡ Ok (given_by atoms names (negation p) f.rest)
negated_found inner atoms names p back ps f = rw f.is refl

plain_found : (stop : Stop) (cores n : ℕ) (ts : List Term) (p : Phrase) → IsAtom ts p → (atoms : ℕ) (names : List (List ℕ)) → IsWithin cores atoms names p
    → (back : List Term) (ps : List Piece) → terms ps ≡ ts ++ back → ReadsPhrase (unit_at stop cores (suc n)) atoms names p back ps
unfolding unit_at unit_by
plain_found stop cores n ts p is atoms names allowed back ps e =
    let plain = atom_plain ts back p is ps e in
    let f = atom_found stop cores ts p is atoms names allowed back tt ps e in
    record { rest = f.rest; is = rw (plain.0, plain.1) f.is; after_it = f.after_it }

bracketed_found : (stop : Stop) (inner : Proposition) (atoms : ℕ) (names : List (List ℕ)) (p : Phrase) (ps close rest : List Piece) (r : Piece)
    → disjunction inner atoms names ps ≡ Ok (given_by atoms names p close) → close ≡ r ∷ rest → r.term ≡ symbol CloseRound
    → bracketed stop inner atoms names ps ≡ Ok (given_by atoms names p rest)
unfolding symbol_at is_symbol
bracketed_found stop inner atoms names p ps close rest r is parts is_close = rw (is, parts, is_close) refl

negation_there : (p : Piece) (rest : List Piece) → is_negation p.term ≡ true → negation_at (p ∷ rest) ≡ Some rest
unfolding negation_at word_after name_at symbol_at is_symbol
negation_there p rest e = by_term p.term refl e
  where
    by_word : (x : List ℕ) → p.term ≡ name x → (b : Bool) → bytes_eq x (codes "not") ≡ b → b ≡ true → negation_at (p ∷ rest) ≡ Some rest
    by_word x is true word h = rw (is, word) refl
    by_word x is false word h = absurd cc

    by_symbol : (s : Symbol) → p.term ≡ symbol s → (b : Bool) → is_symbol_term Tilde (symbol s) ≡ b → (b || false) ≡ true → negation_at (p ∷ rest) ≡ Some rest
    by_symbol s is true tilde h = rw (is, tilde) refl
    by_symbol s is false tilde h = absurd cc

    by_term : (t : Term) → p.term ≡ t → is_negation t ≡ true → negation_at (p ∷ rest) ≡ Some rest
    by_term (number d) is h = absurd cc
    by_term (hexadecimal d) is h = absurd cc
    by_term (name x) is h = by_word x is (bytes_eq x (codes "not")) refl h
    by_term (symbol s) is h = by_symbol s is (is_symbol_term Tilde (symbol s)) refl h

next_found : (stop : Stop) (cores n : ℕ)
    → Finds cores (unit_at stop cores n) (IsUnit n) Anything
    → Finds cores (unit_at stop cores (suc n)) (IsUnit (suc n)) Anything
unfolding unit_at unit_by negation_at word_after name_at symbol_at is_symbol
next_found stop cores n finds _ _ (plain ts p is) atoms names allowed back ok ps e = plain_found stop cores n ts p is atoms names allowed back ps e
next_found stop cores n finds _ _ (negated_by t ts p is_not is) atoms names allowed back ok ps e =
    opened (ReadsPhrase (unit_at stop cores (suc n)) atoms names (negation p) back) ps t (ts ++ back) e (λ a rest here after_it.
    let f = finds ts p is atoms names (record { fits = allowed.fits; few = allowed.few; room = allowed.room }) back tt rest after_it in
    let there = negation_there a rest (ap is_negation here ∙ is_not) in
    record { rest = f.rest; is = rw there (negated_found (unit_at stop cores n) atoms names p back rest f); after_it = f.after_it })
next_found stop cores n finds _ _ (in_brackets ts p is) atoms names allowed back ok ps e =
    opened (ReadsPhrase (unit_at stop cores (suc n)) atoms names p back) ps (symbol OpenRound)
    ((ts ++ symbol CloseRound ∷ []) ++ back) e (λ a rest is_open after_it.
    let f =
    proposition_finds (IsUnit n) cores (unit_at stop cores n) finds ts p is atoms names allowed
    (symbol CloseRound ∷ back) ((tt, refl), refl) rest
    (after_it ∙ append_assoc ts (symbol CloseRound ∷ []) back) in
    let g = front f.rest (symbol CloseRound) back f.after_it in
    record {
      rest = g.rest;
      is =
          rw is_open (bracketed_found stop (unit_at stop cores n) atoms names p rest f.rest g.rest g.first f.is g.parts g.is);
      after_it = g.after_it;
    })

pub unit_finds : (stop : Stop) (cores n : ℕ) → Finds cores (unit_at stop cores n) (IsUnit n) Anything
unit_finds stop cores zero = last_found stop cores
unit_finds stop cores (suc n) = next_found stop cores n (unit_finds stop cores n)

-- ---- units taken

negation_taken : (ps rest : List Piece) → negation_at ps ≡ Some rest → (t : Term) × (terms ps ≡ t ∷ terms rest) × (is_negation t ≡ true)
unfolding negation_at
negation_taken ps rest e =
    elim (there_is (symbol_at Tilde ps) (λ rest. Some rest) (word_after (codes "not") ps) (Some rest) e) [
      | inl at ↦ (symbol Tilde, symbol_takes Tilde ps at.0 at.1 ∙ ap (λ (l : List Piece). symbol Tilde ∷ terms l) (some_is at.0 rest at.2), refl)
      | inr none ↦ (name (codes "not"), word_taken (codes "not") ps rest none.1, refl)
    ]

negated_taken : (cores n atoms : ℕ) (names : List (List ℕ)) (ps rest : List Piece) (c : Claimed)
    → negation_at ps ≡ Some rest
    → SpellsPhrase (IsUnit n) cores atoms names rest c
    → SpellsPhrase (IsUnit (suc n)) cores atoms names ps (negated_claim c)
negated_taken cores n atoms names ps rest c at t =
    let word = negation_taken ps rest at in
    record {
      ts = word.0 ∷ t.ts;
      phrase = negation t.phrase;
      is = negated_by word.0 t.ts t.phrase word.2 t.is;
      parts = word.1 ∙ ap (λ (l : List Term). word.0 ∷ l) t.parts;
      within = record { fits = t.within.fits; few = t.within.few; room = t.within.room };
      given = ap negated_claim t.given;
    }

bracketed_taken : (cores n atoms : ℕ) (names : List (List ℕ)) (ps inside rest : List Piece) (c : Claimed)
    → symbol_at OpenRound ps ≡ Some inside
    → SpellsPhrase (IsProposition (IsUnit n)) cores atoms names inside c
    → symbol_at CloseRound c.rest ≡ Some rest → SpellsPhrase (IsUnit (suc n)) cores atoms names ps (claimed c.claim c.atoms c.names rest)
bracketed_taken cores n atoms names ps inside rest c at t close = record {
  ts = symbol OpenRound ∷ t.ts ++ symbol CloseRound ∷ [];
  phrase = t.phrase;
  is = in_brackets t.ts t.phrase t.is;
  parts = symbol_takes OpenRound ps inside at ∙ ap (λ (l : List Term). symbol OpenRound ∷ l)
      (t.parts ∙ ap (λ (l : List Term). t.ts ++ l) (symbol_takes CloseRound c.rest rest close) ∙ sym (append_assoc t.ts (symbol CloseRound ∷ []) (terms rest)));
  within = t.within;
  given = ap (λ (c : Claimed). claimed c.claim c.atoms c.names rest) t.given;
}

last_taken : (stop : Stop) (cores : ℕ) → Takes cores (unit_at stop cores zero) (IsUnit zero)
unfolding unit_at
last_taken stop cores atoms names ps c le e =
    elim (chosen (opens_unit ps) (Err (fault TooLarge (remaining_of ps))) (atom_at stop cores atoms names ps) (Ok c) e) [
      | inl hit ↦ absurd cc
      | inr miss ↦ atom_taken stop cores atoms names ps c le miss.1
    ]

next_taken : (stop : Stop) (cores n : ℕ) → Takes cores (unit_at stop cores n) (IsUnit n) → Takes cores (unit_at stop cores (suc n)) (IsUnit (suc n))
unfolding unit_at unit_by
next_taken stop cores n takes atoms names ps c le e =
    elim (there_is (negation_at ps) _
    (there (symbol_at OpenRound ps) (bracketed stop (unit_at stop cores n) atoms names) (atom_at stop cores atoms names ps)) (Ok c) e) [
      | inl at ↦
          let b = bind_ok (unit_at stop cores n atoms names at.0) _ c at.2 in
          subst (SpellsPhrase (IsUnit (suc n)) cores atoms names ps) (ok_is (negated_claim b.0) c b.2)
          (negated_taken cores n atoms names ps at.0 b.0 at.1 (takes atoms names at.0 b.0 le b.1))
      | inr no_negation ↦
          elim (there_is (symbol_at OpenRound ps) (bracketed stop (unit_at stop cores n) atoms names)
          (atom_at stop cores atoms names ps) (Ok c) no_negation.1) [
            | inl at ↦
                let b = bind_ok (disjunction (unit_at stop cores n) atoms names at.0) _ c at.2 in
                let r = bind_ok (or_unfit (part_of BadCondition stop) b.0.rest (symbol_at CloseRound b.0.rest)) _ c b.2 in
                let close = or_unfit_ok (part_of BadCondition stop) b.0.rest (symbol_at CloseRound b.0.rest) r.0 r.1 in
                subst (SpellsPhrase (IsUnit (suc n)) cores atoms names ps) (ok_is (claimed b.0.claim b.0.atoms b.0.names r.0) c r.2)
                (bracketed_taken cores n atoms names ps at.0 r.0 b.0 at.1
                (proposition_takes (IsUnit n) cores (unit_at stop cores n) takes atoms names at.0 b.0 le b.1) close)
            | inr no_bracket ↦
                spelled_as IsAtom (IsUnit (suc n)) (λ ts p is. plain ts p is) cores atoms names ps c
                (atom_taken stop cores atoms names ps c le no_bracket.1)
          ]
    ]

pub unit_takes : (stop : Stop) (cores n : ℕ) → Takes cores (unit_at stop cores n) (IsUnit n)
unit_takes stop cores zero = last_taken stop cores
unit_takes stop cores (suc n) = next_taken stop cores n (unit_takes stop cores n)

-- ---- both ways

pub proposition_again : (stop : Stop) (cores opens atoms : ℕ) (names : List (List ℕ)) (ps : List Piece) (ts back : List Term) (p : Phrase)
    → IsProposition (IsUnit opens) ts p
    → IsWithin cores atoms names p
    → terms ps ≡ ts ++ back
    → begins_with (is_symbol_term And) back ≡ false
    → begins_with (is_symbol_term Or) back ≡ false
    → ReadsPhrase (proposition_at stop cores opens) atoms names p back ps
proposition_again stop cores opens atoms names ps ts back p is within e no_and no_or =
    proposition_finds (IsUnit opens) cores (unit_at stop cores opens) (unit_finds stop cores opens) ts p is atoms names within back ((tt, no_and), no_or) ps e

pub proposition_spelled : (stop : Stop) (cores opens atoms : ℕ) (names : List (List ℕ)) (ps : List Piece) (c : Claimed)
    → length names ≤ 16 → proposition_at stop cores opens atoms names ps ≡ Ok c → SpellsPhrase (IsProposition (IsUnit opens)) cores atoms names ps c
proposition_spelled stop cores opens atoms names ps c le e =
    proposition_takes (IsUnit opens) cores (unit_at stop cores opens) (unit_takes stop cores opens) atoms names ps c le e
