-- Rows are separated into cells as they are spelled.
use Rattle.litmus_reader.proofs.Vocabulary.{section, End, row_ends, section_of, ◌≡◌, ℕ, suc, ◌+◌, ◌<◌, Bool, true, false, ltb, List, []}
use Rattle.litmus_reader.proofs.Vocabulary.{◌∷◌, ◌++◌, length, Option, Some, None, Ok, Err, refl, sym, ap, subst, ◌∙◌, inl, inr}
use Rattle.litmus_reader.proofs.Vocabulary.{append_assoc, arith, slice_split, onto_first, position_or_len, before_first, ltb-true, lt-ltb}
use Rattle.litmus_reader.proofs.Vocabulary.{append-nil, slice_split-cons_yes, slice_split-cons_no, Stop, Symbol, OpenSquare, CloseSquare}
use Rattle.litmus_reader.proofs.Vocabulary.{Comma, Dollar, Semicolon, Bar, Term, symbol, Piece, is_symbol_term, is_symbol, name_at}
use Rattle.litmus_reader.proofs.Vocabulary.{Unclosed, spelled_in, row_at, terms, IsCell, IsField, empty, full, AreFields, IsRow, row, fault}
use Rattle.litmus_reader.proofs.Vocabulary.{at_stop, remaining_of, Shape, cells_of, ArgumentTerm, codes, IsOperand, IsCall, Passes}
use Rattle.litmus_reader.proofs.Vocabulary.{IsLocked, Instructions, Minus, IsCallOfOne, IsLockedMore, IsCellMore, in_memory, in_register}
use Rattle.litmus_reader.proofs.Vocabulary.{constant}
use Rattle.litmus_reader.specs.GrammarCells as cells
use Rattle.litmus_reader.specs.GrammarRows.{last, more}
use Rattle.litmus_tokens.proofs.Symbols.{spelled_so}
use Rattle.litmus_reader.proofs.GrammarTokens.{chosen, ok_is, symbol_is}
use Rattle.litmus_reader.proofs.SectionSteps.{Lacks, ends_with, section_found, section_terms, section_taken, section_parts}
use Rattle.litmus_reader.proofs.GrammarNumerals.{numeral_lacks}
use Rattle.litmus_reader.proofs.GrammarCells.{cell_again, cell_takes}
use Rattle.litmus_reader.proofs.Readings.{ReadsRow, IsReadAs, AreReadAs}

-- ---- cells have no `|` and no `;`

lacks-append : (s : Symbol) (ts us : List Term) → Lacks (is_symbol_term s) ts → Lacks (is_symbol_term s) us → Lacks (is_symbol_term s) (ts ++ us)
lacks-append s [] us h k = k
lacks-append s (t ∷ ts) us h k = (h.0, lacks-append s ts us h.1 k)

-- a symbol that parts cells or ends rows
record Parts (s : Symbol) : Type 0 where
  pub no_open : is_symbol_term s (symbol OpenSquare) ≡ false
  pub no_close : is_symbol_term s (symbol CloseSquare) ≡ false
  pub no_comma : is_symbol_term s (symbol Comma) ≡ false
  pub no_dollar : is_symbol_term s (symbol Dollar) ≡ false
  pub no_minus : is_symbol_term s (symbol Minus) ≡ false

bar_parts : Parts Bar
bar_parts = record { no_open = refl; no_close = refl; no_comma = refl; no_dollar = refl; no_minus = refl }

semicolon_parts : Parts Semicolon
semicolon_parts = record { no_open = refl; no_close = refl; no_comma = refl; no_dollar = refl; no_minus = refl }

operand_lacks : (s : Symbol) → Parts s → (ts : List Term) (o : ArgumentTerm) → IsOperand ts o → Lacks (is_symbol_term s) ts
operand_lacks s p _ _ (cells.plain ts v is) = numeral_lacks (is_symbol_term s) (λ d. refl) (λ d. refl) p.no_minus ts v is
operand_lacks s p _ _ (cells.with_dollar ts v is) = (p.no_dollar, numeral_lacks (is_symbol_term s) (λ d. refl) (λ d. refl) p.no_minus ts v is)
operand_lacks s p _ _ (cells.in_squares x good) = (p.no_open, (refl, (p.no_close, tt)))
operand_lacks s p _ _ (cells.named word reg is) = (refl, tt)

call_lacks : (s : Symbol) → Parts s → (word : List ℕ) (ts : List Term) (a b : ArgumentTerm) → IsCall word ts a b → Lacks (is_symbol_term s) ts
call_lacks s p word _ _ _ (cells.call letters a b first second is f g) =
    (refl, lacks-append s a (symbol Comma ∷ b) (operand_lacks s p a first f) (p.no_comma, operand_lacks s p b second g))

call_of_one_lacks : (s : Symbol) → Parts s → (word : List ℕ) (ts : List Term) (a : ArgumentTerm) → IsCallOfOne word ts a → Lacks (is_symbol_term s) ts
call_of_one_lacks s p word _ _ (cells.call_of_one letters a only is f) = (refl, operand_lacks s p a only f)

locked_more_lacks : (s : Symbol) → Parts s → (ts : List Term) (shape : Shape) → IsLockedMore ts shape → Lacks (is_symbol_term s) ts
locked_more_lacks s p _ _ (cells.compares ts x r is) = call_lacks s p (codes "CMPXCHG") ts (in_memory x) (in_register r) is
locked_more_lacks s p _ _ (cells.combines_constant word o ts x v of is) = call_lacks s p word ts (in_memory x) (constant v) is
locked_more_lacks s p _ _ (cells.combines_register word o ts x r of is) = call_lacks s p word ts (in_memory x) (in_register r) is
locked_more_lacks s p _ _ (cells.steps word o v ts x of is) = call_of_one_lacks s p word ts (in_memory x) is
locked_more_lacks s p _ _ (cells.negates ts x is) = call_of_one_lacks s p (codes "NEG") ts (in_memory x) is

cell_more_lacks : (s : Symbol) → Parts s → (ts : List Term) (shape : Shape) → IsCellMore ts shape → Lacks (is_symbol_term s) ts
cell_more_lacks s p _ _ (cells.adds_constant word o ts r v of is) = call_lacks s p word ts (in_register r) (constant v) is
cell_more_lacks s p _ _ (cells.adds_register word o ts r other of is) = call_lacks s p word ts (in_register r) (in_register other) is
cell_more_lacks s p _ _ (cells.steps_register word o v ts r of is) = call_of_one_lacks s p word ts (in_register r) is
cell_more_lacks s p _ _ (cells.negates_register ts r is) = call_of_one_lacks s p (codes "NEG") ts (in_register r) is
cell_more_lacks s p _ _ (cells.swaps ts r other is) = call_lacks s p (codes "XCHG") ts (in_register r) (in_register other) is
cell_more_lacks s p _ _ (cells.does_nothing letters word of is) = (refl, tt)

locked_lacks : (set : Instructions) (s : Symbol) → Parts s → (ts : List Term) (shape : Shape) → IsLocked set ts shape → Lacks (is_symbol_term s) ts
locked_lacks set s p _ _ (cells.locked_exchange ts a b shape is made) = call_lacks s p (codes "XCHG") ts a b is
locked_lacks set s p _ _ (cells.locked_addition ts a b shape is made) = call_lacks s p (codes "XADD") ts a b is
locked_lacks set s p _ _ (cells.locked_more ts shape all is) = locked_more_lacks s p ts shape is

cell_lacks : (set : Instructions) (s : Symbol) → Parts s → (ts : List Term) (shape : Shape) → IsCell set ts shape → Lacks (is_symbol_term s) ts
cell_lacks set s p _ _ (cells.moves ts a b shape is made) = call_lacks s p (codes "MOV") ts a b is
cell_lacks set s p _ _ (cells.fences letters is) = (refl, tt)
cell_lacks set s p _ _ (cells.exchanges ts a b shape is made) = call_lacks s p (codes "XCHG") ts a b is
cell_lacks set s p _ _ (cells.locks letters ts shape is locked) = (refl, locked_lacks set s p ts shape locked)
cell_lacks set s p _ _ (cells.more ts shape all is) = cell_more_lacks s p ts shape is

field_lacks : (set : Instructions) (s : Symbol) → Parts s → (ts : List Term) (c : Option Shape) → IsField set ts c → Lacks (is_symbol_term s) ts
field_lacks set s p _ _ empty = tt
field_lacks set s p _ _ (full ts shape is) = cell_lacks set s p ts shape is

fields_lack : (set : Instructions) (ts : List Term) (cells : List (Option Shape)) → AreFields set ts cells → Lacks (is_symbol_term Semicolon) ts
fields_lack set _ _ (last ts c is) = field_lacks set Semicolon semicolon_parts ts c is
fields_lack set _ _ (more ts us c cs is are) =
    lacks-append Semicolon ts (symbol Bar ∷ us) (field_lacks set Semicolon semicolon_parts ts c is) (
      refl,
      fields_lack set us cs are,
    )

-- ---- tokens cut at a symbol

-- what comes before a symbol, and what comes after it
record Cut (s : Symbol) (us back : List Term) (ps : List Piece) : Type 0 where
  pub front : List Piece
  pub rest : List Piece
  pub split : slice_split (is_symbol s) ps ≡ front ∷ slice_split (is_symbol s) rest
  pub there : position_or_len (is_symbol s) ps < length ps
  pub before : before_first (is_symbol s) ps ≡ front
  pub is_front : terms front ≡ us
  pub is_rest : terms rest ≡ back

hits : (s : Symbol) (p : Piece) → p.term ≡ symbol s → is_symbol s p ≡ true
unfolding is_symbol
hits s p is = rw is (spelled_so s)

misses : (s : Symbol) (p : Piece) (t : Term) → p.term ≡ t → is_symbol_term s t ≡ false → is_symbol s p ≡ false
unfolding is_symbol
misses s p t is none = rw is none

no_end : (s : Symbol) (us back : List Term) → [] ≡ us ++ symbol s ∷ back → ⊥
no_end s [] back e = absurd cc
no_end s (u ∷ us) back e = absurd cc

cut_here : (s : Symbol) (back : List Term) (p : Piece) (ps : List Piece) → is_symbol s p ≡ true → terms ps ≡ back → Cut s [] back (p ∷ ps)
cut_here s back p ps hit after_it = record {
  front = [];
  rest = ps;
  split = slice_split-cons_yes (is_symbol s) p ps hit;
  there = rw hit (omega arith);
  before = rw hit refl;
  is_front = refl;
  is_rest = after_it;
}

before_miss : (s : Symbol) (p : Piece) (ps : List Piece) → is_symbol s p ≡ false → before_first (is_symbol s) (p ∷ ps) ≡ p ∷ before_first (is_symbol s) ps
before_miss s p ps miss =
    let further : 1 + position_or_len (is_symbol s) ps ≡ suc (position_or_len (is_symbol s) ps) = omega arith in
    rw (miss, further) refl

cut_further : (s : Symbol) (u : Term) (us back : List Term) (p : Piece) (ps : List Piece)
    → is_symbol s p ≡ false
    → p.term ≡ u
    → Cut s us back ps
    → Cut s (u ∷ us) back (p ∷ ps)
cut_further s u us back p ps miss is c = record {
  front = p ∷ c.front;
  rest = c.rest;
  split = slice_split-cons_no (is_symbol s) p ps miss ∙ ap (onto_first p) c.split;
  there = rw miss (omega (arith, c.there));
  before = before_miss s p ps miss ∙ ap (λ (l : List Piece). p ∷ l) c.before;
  is_front = rw (is, c.is_front) refl;
  is_rest = c.is_rest;
}

cut : (s : Symbol) (us back : List Term) → Lacks (is_symbol_term s) us → (ps : List Piece) → terms ps ≡ us ++ symbol s ∷ back → Cut s us back ps
cut s us back lacks [] e = absurd (no_end s us back e)
cut s [] back lacks (p ∷ ps) e =
    let is : p.term ≡ symbol s = cc in
    let after_it : terms ps ≡ back = cc in
    cut_here s back p ps (hits s p is) after_it
cut s (u ∷ us) back lacks (p ∷ ps) e =
    let is : p.term ≡ u = cc in
    let after_it : terms ps ≡ us ++ symbol s ∷ back = cc in
    cut_further s u us back p ps (misses s p u is lacks.0) is (cut s us back lacks.1 ps after_it)

uncut : (s : Symbol) (ps : List Piece) → Lacks (is_symbol_term s) (terms ps) → slice_split (is_symbol s) ps ≡ ps ∷ []
uncut s [] lacks = refl
uncut s (p ∷ ps) lacks = slice_split-cons_no (is_symbol s) p ps (misses s p p.term refl lacks.0) ∙ ap (onto_first p) (uncut s ps lacks.1)

-- ---- found

no_instruction : (set : Instructions) (shape : Shape) → spelled_in set [] ≡ Some shape → ⊥
unfolding spelled_in name_at
no_instruction set shape e = absurd cc

pub field_read : (set : Instructions) (ts : List Term) (c : Option Shape) → IsField set ts c → (ps : List Piece) → terms ps ≡ ts → IsReadAs set ps c
field_read set _ _ empty [] e = tt
field_read set _ _ empty (p ∷ ps) e = absurd cc
field_read set _ _ (full ts shape is) [] e = no_instruction set shape (cell_again set [] shape (subst (λ (ts : List Term). IsCell set ts shape) (sym e) is))
field_read set _ _ (full ts shape is) (p ∷ ps) e = cell_again set (p ∷ ps) shape (subst (λ (ts : List Term). IsCell set ts shape) (sym e) is)

fields_read : (set : Instructions) (ts : List Term) (cells : List (Option Shape))
    → AreFields set ts cells
    → (ps : List Piece) → terms ps ≡ ts
    → AreReadAs set (cells_of ps) cells
fields_read set _ _ (last ts c is) ps e =
    let lacks : Lacks (is_symbol_term Bar) (terms ps) =
    subst (λ (l : List Term). Lacks (is_symbol_term Bar) l) (sym e) (field_lacks set Bar bar_parts ts c is) in
    subst (λ (l : List (List Piece)). AreReadAs set l (c ∷ [])) (sym (uncut Bar ps lacks)) (field_read set ts c is ps e, tt)
fields_read set _ _ (more ts us c cs is are) ps e =
    let at = cut Bar ts us (field_lacks set Bar bar_parts ts c is) ps e in
    subst (λ (l : List (List Piece)). AreReadAs set l (c ∷ cs)) (sym at.split) (
      field_read set ts c is at.front at.is_front,
      fields_read set us cs are at.rest at.is_rest,
    )

lacks_end : (ts : List Term) → Lacks (is_symbol_term Semicolon) ts → Lacks (ends_with row_ends) ts
lacks_end [] lacks = tt
lacks_end (t ∷ ts) lacks = (rw lacks.0 refl, lacks_end ts lacks.1)

pub row_again : (set : Instructions) (stop : Stop) (cores : ℕ) (ps : List Piece) (ts back : List Term)
    (cells : List (Option Shape))
    → IsRow set cores ts cells
    → terms ps ≡ ts ++ back
    → ReadsRow set stop ps cells back
unfolding row_at
row_again set stop cores ps _ back _ (row ts cells are count) e =
    let lacks = fields_lack set ts cells are in
    let f = section_found row_ends stop ts back (symbol Semicolon) (lacks_end ts lacks) refl ps (e ∙ append_assoc ts (symbol Semicolon ∷ []) back) in
    let tokens = f.front ++ f.last ∷ [] in
    let at = cut Semicolon ts [] lacks tokens (section_terms row_ends stop ts back (symbol Semicolon) ps f) in
    let closed : row_at End tokens ≡ Ok at.front = rw (lt-ltb _ _ at.there, at.before) refl in
    record {
      s = section tokens End f.rest;
      at = f.is;
      row = at.front;
      is = closed;
      cells_are = fields_read set ts cells are at.front at.is_front;
      after_it = f.is_rest;
    }

-- ---- taken

row_cut : (s : Symbol) (ps : List Piece)
    → position_or_len (is_symbol s) ps < length ps
    → (p : Piece) × (back : List Piece) × (ps ≡ before_first (is_symbol s) ps ++ p ∷ back) × (p.term ≡ symbol s)
row_cut s [] lt = absurd (omega arith)
row_cut s (p ∷ ps) lt = by_first (λ h. row_cut s ps h) (is_symbol s p) refl
  where
    by_first : (position_or_len (is_symbol s) ps < length ps
        → (q : Piece) × (back : List Piece) × (ps ≡ before_first (is_symbol s) ps ++ q ∷ back) × (q.term ≡ symbol s))
        → (b : Bool) → is_symbol s p ≡ b
        → (q : Piece) × (back : List Piece) × (p ∷ ps ≡ before_first (is_symbol s) (p ∷ ps) ++ q ∷ back) × (q.term ≡ symbol s)
    by_first further true is = (p, ps, rw is refl, symbol_is s p is)
    by_first further false is =
        let lower : position_or_len (is_symbol s) (p ∷ ps) < length (p ∷ ps) = lt in
        let apart : 1 + position_or_len (is_symbol s) ps < suc (length ps) = rw is at lower in
        let found = further (omega (arith, apart)) in
        (found.0, found.1, rw (before_miss s p ps is) (ap (λ (l : List Piece). p ∷ l) found.2), found.3)

-- cells with vertical bars between them
abbrev after_bars : List (List Piece) → List Term
after_bars [] = []
after_bars (ps ∷ rest) = symbol Bar ∷ terms ps ++ after_bars rest

abbrev joined : List (List Piece) → List Term
joined [] = []
joined (ps ∷ rest) = terms ps ++ after_bars rest

abbrev HasOne : List (List Piece) → Type 0
HasOne [] = ⊥
HasOne (ps ∷ rest) = Unit {0}

bar_before : (parts : List (List Piece)) → HasOne parts → after_bars parts ≡ symbol Bar ∷ joined parts
bar_before [] some = absurd some
bar_before (ps ∷ rest) some = refl

first_grows : (p : Piece) (parts : List (List Piece)) → HasOne parts → (HasOne (onto_first p parts)) × (joined (onto_first p parts) ≡ p.term ∷ joined parts)
first_grows p [] some = absurd some
first_grows p (ps ∷ rest) some = (tt, refl)

split_joined : (ps : List Piece) → (HasOne (slice_split (is_symbol Bar) ps)) × (joined (slice_split (is_symbol Bar) ps) ≡ terms ps)
split_joined [] = (tt, refl)
split_joined (p ∷ ps) = by_first (split_joined ps) (is_symbol Bar p) refl
  where
    by_first : (HasOne (slice_split (is_symbol Bar) ps)) × (joined (slice_split (is_symbol Bar) ps) ≡ terms ps) → (b : Bool) → is_symbol Bar p ≡ b
        → (HasOne (slice_split (is_symbol Bar) (p ∷ ps))) × (joined (slice_split (is_symbol Bar) (p ∷ ps)) ≡ terms (p ∷ ps))
    by_first further true is =
        subst (λ (l : List (List Piece)). HasOne l × (joined l ≡ terms (p ∷ ps))) (sym (slice_split-cons_yes (is_symbol Bar) p ps is)) (
          tt,
          bar_before (slice_split (is_symbol Bar) ps) further.0
              ∙ ap (λ (l : List Term). symbol Bar ∷ l) further.1
              ∙ ap (λ (t : Term). t ∷ terms ps) (sym (symbol_is Bar p is)),
        )
    by_first further false is =
        let grown = first_grows p (slice_split (is_symbol Bar) ps) further.0 in
        subst (λ (l : List (List Piece)). HasOne l × (joined l ≡ terms (p ∷ ps))) (sym (slice_split-cons_no (is_symbol Bar) p ps is))
        (grown.0, grown.1 ∙ ap (λ (l : List Term). p.term ∷ l) further.1)

pub field_made : (set : Instructions) (ps : List Piece) (c : Option Shape) → IsReadAs set ps c → IsField set (terms ps) c
field_made set [] None is = empty
field_made set [] (Some shape) is = absurd is
field_made set (p ∷ ps) None is = absurd is
field_made set (p ∷ ps) (Some shape) is = full (terms (p ∷ ps)) shape (cell_takes set (p ∷ ps) shape is)

fields_made : (set : Instructions) (parts : List (List Piece)) (cells : List (Option Shape))
    → HasOne parts
    → AreReadAs set parts cells
    → AreFields set (joined parts) cells
fields_made set [] cells some are = absurd some
fields_made set (ps ∷ rest) [] some are = absurd are
fields_made set (ps ∷ []) (c ∷ []) some are =
    subst (λ (ts : List Term). AreFields set ts (c ∷ [])) (sym (append-nil (terms ps))) (last (terms ps) c (field_made set ps c are.0))
fields_made set (ps ∷ []) (c ∷ d ∷ cs) some are = absurd are.1
fields_made set (ps ∷ qs ∷ rest) (c ∷ cs) some are =
    more (terms ps) (joined (qs ∷ rest)) c cs (field_made set ps c are.0) (fields_made set (qs ∷ rest) cs tt are.1)

pub row_takes : (set : Instructions) (stop : Stop) (cores : ℕ) (ps front : List Piece) (cells : List (Option Shape))
    → row_at (section_of row_ends stop ps).stop (section_of row_ends stop ps).tokens ≡ Ok front
    → AreReadAs set (cells_of front) cells
    → length cells ≡ cores → Passes (λ ts. IsRow set cores ts cells) ps (section_of row_ends stop ps).rest
unfolding row_at
row_takes set stop cores ps front cells e are count =
    let s = section_of row_ends stop ps in
    elim (chosen (ltb (position_or_len (is_symbol Semicolon) s.tokens) (length s.tokens))
    (Ok (before_first (is_symbol Semicolon) s.tokens))
    (Err (at_stop (fault Unclosed (remaining_of s.tokens)) s.stop)) (Ok front) e) [
      | inl hit ↦
          let same = ok_is (before_first (is_symbol Semicolon) s.tokens) front hit.1 in
          let end = row_cut Semicolon s.tokens (ltb-true _ _ hit.0) in
          let whole =
          section_taken row_ends stop ps front end.1 end.0 (symbol Semicolon)
          (end.2 ∙ ap (λ (l : List Piece). l ++ end.0 ∷ end.1) same) end.3 refl in
          let split = split_joined front in
          let fields = subst (λ (ts : List Term). AreFields set ts cells) split.1 (fields_made set (cells_of front) cells split.0 are) in
          record {
            front = s.tokens;
            parts = section_parts row_ends stop ps;
            is =
                subst (λ (ts : List Term). IsRow set cores ts cells) (sym whole) (row (terms front) cells fields count);
          }
      | inr miss ↦ absurd cc
    ]
