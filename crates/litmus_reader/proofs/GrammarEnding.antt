-- What comes after the rows is read as it is spelled.
use Rattle.litmus_reader.proofs.Vocabulary.{◌≡◌, ℕ, ◌≤◌, List, [], ◌∷◌, length, Option, Some, None, Ok, refl, sym, ap, subst, ◌∙◌, inl, inr}
use Rattle.litmus_reader.proofs.Vocabulary.{codes, Condition, Stop, End, OpenSquare, Tilde, Term, name, symbol, Piece, pieces_of, is_symbol}
use Rattle.litmus_reader.proofs.Vocabulary.{symbol_at, name_at, ◌>>=◌, or_unfit, word_after, square_end, brackets_end, ending_tokens}
use Rattle.litmus_reader.proofs.Vocabulary.{Conditioned, condition_at, end_at, tail_at, terms, numbered, ClosesBrackets, condition}
use Rattle.litmus_reader.proofs.Vocabulary.{says_exists, says_forall, says_not_exists, MayAsk, nothing, a_condition, IsEnding, at_once}
use Rattle.litmus_reader.proofs.Vocabulary.{after_locations, names_asked, condition_of, IsAskedWithin, remaining_of, from_place}
use Rattle.litmus_reader.proofs.Vocabulary.{WrittenCondition, Phrase, Quantifier, part_of, Result, Fault, Instructions}
use Rattle.std.proofs.Common.{append-nil}
use Rattle.litmus_tokens.specs.declared.token.Stop.TheVariants.{BadToken, Unclosed}
use Rattle.litmus_tokens.specs.declared.fault.Why.TheVariants as whys
use Rattle.litmus_reader.proofs.GrammarTokens.{there_is, ok_is, bind_ok, or_unfit_ok, opened, no_terms, symbol_found, word_found}
use Rattle.litmus_reader.proofs.GrammarQuantified.{condition_again, condition_takes}
use Rattle.litmus_reader.proofs.GrammarBrackets.{brackets_again, brackets_take}

abbrev pub asked : Quantifier → Phrase → Option WrittenCondition
asked quantifier phrase = Some (record { quantifier = quantifier; phrase = phrase })

-- what an ending gives after these names
abbrev pub Given : Type 0
Given = Option Condition × List (List ℕ)

abbrev pub given : List (List ℕ) → Option WrittenCondition → Given
given names c = (condition_of (numbered names (names_asked c)) c, numbered names (names_asked c))

-- the condition, and then the end
abbrev ending_at : Stop → ℕ → List (List ℕ) → List Piece → Result Given Fault
ending_at stop cores names ps = condition_at stop cores names ps >>= λ c. end_at stop c.rest >>= λ end. Ok (c.condition, c.names)

-- ---- found

end_found : (stop : Stop) → stop ≡ End → end_at stop [] ≡ Ok tt
unfolding end_at
end_found stop ended = rw ended refl

ending_found : (stop : Stop) (cores : ℕ) (names : List (List ℕ)) (ps : List Piece) (c : Option WrittenCondition)
    (ts : List Term)
    → stop ≡ End
    → terms ps ≡ ts
    → MayAsk ts c
    → IsAskedWithin cores names c
    → ending_at stop cores names ps ≡ Ok (given names c)
unfolding condition_at word_after name_at symbol_at numbered end_at
ending_found stop cores names ps _ _ ended e nothing within = rw (no_terms ps e, ended) refl
ending_found stop cores names ps _ _ ended e (a_condition ts quantifier phrase is) within =
    let f = condition_again stop cores names ps ts [] quantifier phrase is within (e ∙ sym (append-nil ts)) refl refl in
    rw (f.is, no_terms f.rest f.after_it, end_found stop ended) refl

no_locations : (ps : List Piece) (c : Option WrittenCondition) (ts : List Term) → terms ps ≡ ts → MayAsk ts c → word_after (codes "locations") ps ≡ None
unfolding word_after name_at
no_locations ps _ _ e nothing = rw (no_terms ps e) refl
no_locations ps _ _ e (a_condition _ _ _ (condition _ us _ phrase says_exists is)) =
    opened (λ ps. word_after (codes "locations") ps ≡ None) ps (name (codes "exists")) us e (λ p rest is after_it. rw is refl)
no_locations ps _ _ e (a_condition _ _ _ (condition _ us _ phrase says_forall is)) =
    opened (λ ps. word_after (codes "locations") ps ≡ None) ps (name (codes "forall")) us e (λ p rest is after_it. rw is refl)
no_locations ps _ _ e (a_condition _ _ _ (condition _ us _ phrase says_not_exists is)) =
    opened (λ ps. word_after (codes "locations") ps ≡ None) ps (symbol Tilde) (name (codes "exists") ∷ us) e (λ p rest is after_it. rw is refl)

pub observed_found : (set : Instructions) (text : List ℕ) (stop : Stop) (word opener : Piece) (ps : List Piece)
    (bytes : List ℕ)
    → word.term ≡ name (codes "locations")
    → opener.term ≡ symbol OpenSquare
    → ClosesBrackets (from_place text opener.remaining) bytes → ending_tokens set text stop (word ∷ opener ∷ ps) ≡ Ok (pieces_of set bytes)
unfolding ending_tokens word_after name_at brackets_end symbol_at is_symbol
observed_found set text stop word opener ps bytes is_word is_opener found =
    rw (is_word, is_opener, brackets_again opener.remaining (from_place text opener.remaining) bytes found) refl

pub tail_again : (set : Instructions) (text : List ℕ) (stop : Stop) (cores : ℕ) (names : List (List ℕ))
    (ps : List Piece) (c : Option WrittenCondition)
    → IsEnding set text stop ps c
    → IsAskedWithin cores names c
    → tail_at set text stop cores names ps ≡ Ok (given names c)
unfolding tail_at ending_tokens
tail_again set text stop cores names _ _ (at_once ps c ended is) within =
    rw (no_locations ps c (terms ps) refl is) (ending_found stop cores names ps c (terms ps) ended refl is within)
tail_again set text stop cores names _ _ (after_locations word opener ps bytes c is_word is_opener found ended is) within =
    rw (observed_found set text stop word opener ps bytes is_word is_opener found)
    (ending_found (pieces_of set bytes).1 cores names (pieces_of set bytes).0 c (terms (pieces_of set bytes).0) ended refl is within)

-- ---- taken

end_taken : (stop : Stop) (ps : List Piece) (u : Unit {0}) → end_at stop ps ≡ Ok u → (stop ≡ End) × (ps ≡ [])
unfolding end_at
end_taken stop (p ∷ ps) u e = absurd cc
end_taken End [] u e = (refl, refl)
end_taken (BadToken remaining) [] u e = absurd cc
end_taken (Unclosed remaining) [] u e = absurd cc

-- what was read after these names is what the tokens up to the end spell
pub record Ends (stop : Stop) (cores : ℕ) (names : List (List ℕ)) (ps : List Piece) (g : Given) : Type 0 where
  pub c : Option WrittenCondition
  pub ended : stop ≡ End
  pub is : MayAsk (terms ps) c
  pub within : IsAskedWithin cores names c
  pub gives : g ≡ given names c

ending_taken : (stop : Stop) (cores : ℕ) (names : List (List ℕ)) (ps : List Piece) (g : Given)
    → length names ≤ 16
    → ending_at stop cores names ps ≡ Ok g
    → Ends stop cores names ps g
unfolding numbered
ending_taken stop cores names ps g le e =
    let a = bind_ok (condition_at stop cores names ps) (λ c. end_at stop c.rest >>= λ end. Ok (c.condition, c.names)) g e in
    let b = bind_ok (end_at stop a.0.rest) (λ end. Ok (a.0.condition, a.0.names)) g a.2 in
    let ended = end_taken stop a.0.rest b.0 b.1 in
    let gives : (a.0.condition, a.0.names) ≡ g = ok_is (a.0.condition, a.0.names) g b.2 in
    elim (condition_takes stop cores names ps a.0 le a.1) [
      | inl s ↦ record {
        c = asked s.quantifier s.phrase;
        ended = ended.0;
        is = subst (λ ts. MayAsk ts (asked s.quantifier s.phrase)) (sym (s.parts ∙ rw ended.1 (append-nil s.ts))) (a_condition s.ts s.quantifier s.phrase s.is);
        within = s.within;
        gives = sym gives ∙ ap (λ (c : Conditioned). (c.condition, c.names)) s.given;
      }
      | inr none ↦ record {
        c = None;
        ended = ended.0;
        is = let empty : ps ≡ [] = sym (ap (λ (c : Conditioned). c.rest) none) ∙ ended.1 in rw empty nothing;
        within = le;
        gives = sym gives ∙ ap (λ (c : Conditioned). (c.condition, c.names)) none;
      }
    ]

-- what was read after these names is what the rest of the text spells
pub record Tail (set : Instructions) (text : List ℕ) (stop : Stop) (cores : ℕ) (names : List (List ℕ)) (ps : List Piece) (g : Given) : Type 0 where
  pub c : Option WrittenCondition
  pub ending : IsEnding set text stop ps c
  pub within : IsAskedWithin cores names c
  pub gives : g ≡ given names c

pub tail_takes : (set : Instructions) (text : List ℕ) (stop : Stop) (cores : ℕ) (names : List (List ℕ)) (ps : List Piece) (g : Given) → length names ≤ 16
    → tail_at set text stop cores names ps ≡ Ok g → Tail set text stop cores names ps g
unfolding tail_at ending_tokens brackets_end
tail_takes set text stop cores names ps g le e =
    let a = bind_ok (ending_tokens set text stop ps) (λ rest. ending_at rest.1 cores names rest.0) g e in
    elim (there_is (word_after (codes "locations") ps) _ (Ok (ps, stop)) (Ok a.0) a.1) [
      | inl at ↦
          let w = word_found (codes "locations") ps at.0 at.1 in
          let b = bind_ok (brackets_end text stop at.0) (λ bytes. Ok (pieces_of set bytes)) a.0 at.2 in
          let d =
          bind_ok (or_unfit (part_of whys.BadToken stop) at.0 (symbol_at OpenSquare at.0))
          (λ rest. square_end (remaining_of at.0) (from_place text (remaining_of at.0))) b.0 b.1 in
          let o = symbol_found OpenSquare at.0 d.0 (or_unfit_ok _ at.0 (symbol_at OpenSquare at.0) d.0 d.1) in
          let tokens : pieces_of set b.0 ≡ a.0 = ok_is (pieces_of set b.0) a.0 b.2 in
          let ends =
          ending_taken (pieces_of set b.0).1 cores names (pieces_of set b.0).0 g le
          (subst (λ (rest : List Piece × Stop). ending_at rest.1 cores names rest.0 ≡ Ok g) (sym tokens) a.2) in
          let place : ClosesBrackets (from_place text o.0.remaining) b.0 =
          brackets_take o.0.remaining (from_place text o.0.remaining) b.0
          (subst (λ (l : List Piece). square_end (remaining_of l) (from_place text (remaining_of l)) ≡ Ok b.0) o.1 d.2) in
          record {
            c = ends.c;
            ending =
                subst (λ l. IsEnding set text stop l ends.c) (sym (w.1 ∙ ap (λ (l : List Piece). w.0 ∷ l) o.1))
                (after_locations w.0 o.0 d.0 b.0 ends.c w.2 o.2 place ends.ended ends.is);
            within = ends.within;
            gives = ends.gives;
          }
      | inr none ↦
          let all : (ps, stop) ≡ a.0 = ok_is (ps, stop) a.0 none.1 in
          let ends = ending_taken stop cores names ps g le (subst (λ (rest : List Piece × Stop). ending_at rest.1 cores names rest.0 ≡ Ok g) (sym all) a.2) in
          record { c = ends.c; ending = at_once ps ends.c ends.ended ends.is; within = ends.within; gives = ends.gives }
    ]
