-- Initial states are read as they are spelled.
use Rattle.litmus_reader.proofs.Vocabulary.{End, Unclosed, OpenSquare, section_of, there, section, item_end, Section, item_ends, fault, ◌≡◌}
use Rattle.litmus_reader.proofs.Vocabulary.{ℕ, zero, suc, Bool, true, false, cond, List, [], ◌∷◌, ◌++◌, length, Some, None, Ok, Err, refl}
use Rattle.litmus_reader.proofs.Vocabulary.{sym, ap, subst, ◌∙◌, inl, inr, append_assoc, arith, append-nil, Stop, OpenCurly, CloseCurly}
use Rattle.litmus_reader.proofs.Vocabulary.{Semicolon, Term, number, name, symbol, Piece, is_symbol, symbol_at, Part, setting_at, Initial}
use Rattle.litmus_reader.proofs.Vocabulary.{initial, judged, item_in, items_within, items_at, initial_at, terms, IsSetting, sets_register}
use Rattle.litmus_reader.proofs.Vocabulary.{sets_location, sets_in_squares, IsInitialItem, AreInitialItems, last, more, IsInitialState}
use Rattle.litmus_reader.proofs.Vocabulary.{in_braces, Fits, remaining_of, in_initial, Setting, or_unfit, Passes}
use Rattle.litmus_reader.specs.GrammarInitial.{empty, given}
use Rattle.litmus_reader.proofs.ItemSteps.{ReadItems, ItemsAfter, items_start, items_done, items_further}
use Rattle.litmus_reader.proofs.SectionSteps.{Lacks, ends_with, section_found, section_terms, section_last, section_parts}
use Rattle.litmus_reader.proofs.GrammarTokens.{there_is, there_some, some_is, bind_ok, or_unfit_ok, ok_pair, opened, symbol_found, terms_append}
use Rattle.litmus_reader.proofs.GrammarNumerals.{numeral_lacks}
use Rattle.litmus_reader.proofs.GrammarItems.{setting_found, setting_taken}
use Rattle.litmus_reader.proofs.GrammarInitialJudged.{Holds, judged_found, judged_taken}
use Rattle.litmus_reader.proofs.Readings.{Reads}

-- ---- found

-- a setting has none of the symbols with which an item ends, and doesn't begin with one
record IsNoEnd (ts : List Term) : Type 0 where
  pub lacks : Lacks (ends_with item_ends) ts
  pub before_it : (back : List Term) (ps : List Piece) → terms ps ≡ ts ++ back → item_end ps ≡ None

setting_no_end : (ts : List Term) (s : Setting) → IsSetting ts s → IsNoEnd ts
unfolding item_end symbol_at is_symbol
setting_no_end _ _ (sets_register core word reg v value good is_value) = record {
  lacks = (
    refl,
    (refl, (refl, (refl, numeral_lacks (ends_with item_ends) (λ d. refl) (λ d. refl) refl v value is_value))),
  );
  before_it = λ back ps e. opened (λ ps. item_end ps ≡ None) ps (number core) _ e (λ p rest is _. rw is refl);
}
setting_no_end _ _ (sets_location x v value good is_value) = record {
  lacks = (refl, (refl, numeral_lacks (ends_with item_ends) (λ d. refl) (λ d. refl) refl v value is_value));
  before_it = λ back ps e. opened (λ ps. item_end ps ≡ None) ps (name x) _ e (λ p rest is _. rw is refl);
}
setting_no_end _ _ (sets_in_squares x v value good is_value) = record {
  lacks = (
    refl,
    (refl, (refl, (refl, numeral_lacks (ends_with item_ends) (λ d. refl) (λ d. refl) refl v value is_value))),
  );
  before_it = λ back ps e. opened (λ ps. item_end ps ≡ None) ps (symbol OpenSquare) _ e (λ p rest is _. rw is refl);
}

item_lacks : (ts : List Term) (item : List Setting) → IsInitialItem ts item → Lacks (ends_with item_ends) ts
item_lacks _ _ empty = tt
item_lacks _ _ (given ts s is) = (setting_no_end ts s is).lacks

-- what ends an item, and with the last one the initial state
abbrev end_term : Bool → Term
end_term true = symbol CloseCurly
end_term false = symbol Semicolon

is_end : (is_last : Bool) → ends_with item_ends (end_term is_last) ≡ true
is_end true = refl
is_end false = refl

ended : (is_last : Bool) (ps : List Piece) → terms ps ≡ end_term is_last ∷ [] → item_end ps ≡ Some is_last
unfolding item_end symbol_at is_symbol
ended true ps e = opened (λ ps. item_end ps ≡ Some true) ps (symbol CloseCurly) [] e (λ p rest is _. rw is refl)
ended false ps e = opened (λ ps. item_end ps ≡ Some false) ps (symbol Semicolon) [] e (λ p rest is _. rw is refl)

-- an item is taken in
record ItemFound (part : Part) (i : Initial) (ps : List Piece) (done : List Setting) (is_last : Bool) : Type 0 where
  pub after : Initial
  pub is : item_in part i ps ≡ Ok (after, is_last)
  pub holds : Holds done after

item_found : (part : Part) (i : Initial) (ps : List Piece) (done item others : List Setting) (ts : List Term)
    (is_last : Bool)
    → IsInitialItem ts item
    → terms ps ≡ ts ++ end_term is_last ∷ []
    → Holds done i → Fits (done ++ (item ++ others)) → ItemFound part i ps (done ++ item) is_last
unfolding item_in
item_found part i ps done _ others _ is_last empty e h fits = record {
  after = i;
  is = rw (ended is_last ps e) refl;
  holds = subst (λ (l : List Setting). Holds l i) (sym (append-nil done)) h;
}
item_found part i ps done _ others _ is_last (given ts s is) e h fits =
    let found = setting_found part ts (end_term is_last ∷ []) s is ps e in
    let none = (setting_no_end ts s is).before_it (end_term is_last ∷ []) ps e in
    let j = judged_found (remaining_of ps) i done others s h fits in
    record { after = j.after; is = rw (none, found.is, ended is_last found.rest found.after_it, j.is) refl; holds = j.holds }

-- all items are taken in
record Found (total : ReadItems) (settings : List Setting) (back : List Term) : Type 0 where
  pub after : Initial
  pub rest : List Piece
  pub is : total ≡ Ok (after, rest)
  pub parts : terms rest ≡ back
  pub holds : Holds settings after

-- an item is found as a section, and taken in
record OneFound (remaining : ℕ) (stop : Stop) (i : Initial) (ps : List Piece) (done : List Setting) (is_last : Bool) (back : List Term) : Type 0 where
  pub s : Section
  pub at : section_of item_ends stop ps ≡ s
  pub one : ItemFound (in_initial remaining s.stop) i s.tokens done is_last
  pub after_it : terms s.rest ≡ back

one_found : (remaining : ℕ) (stop : Stop) (i : Initial) (ps : List Piece) (done item others : List Setting)
    (ts back : List Term) (is_last : Bool)
    → IsInitialItem ts item
    → terms ps ≡ ts ++ end_term is_last ∷ back
    → Holds done i → Fits (done ++ (item ++ others)) → OneFound remaining stop i ps (done ++ item) is_last back
one_found remaining stop i ps done item others ts back is_last is e h fits =
    let f = section_found item_ends stop ts back (end_term is_last) (item_lacks ts item is) (is_end is_last) ps e in
    let tokens = f.front ++ f.last ∷ [] in
    record {
      s = section tokens End f.rest;
      at = f.is;
      one = item_found (in_initial remaining End) i tokens done item others ts is_last is (section_terms item_ends stop ts back (end_term is_last) ps f) h fits;
      after_it = f.is_rest;
    }

items_found : (ts : List Term) (settings : List Setting)
    → AreInitialItems ts settings
    → (remaining : ℕ) (stop : Stop) (i : Initial) (ps : List Piece) (total : ReadItems) (done : List Setting) (back : List Term)
    → terms ps ≡ ts ++ symbol CloseCurly ∷ back
    → Holds done i
    → Fits (done ++ settings)
    → ItemsAfter remaining stop i ps total
    → Found total (done ++ settings) back
items_found _ _ (last ts item is) remaining stop i ps total done back e h fits b =
    let f = one_found remaining stop i ps done item [] ts back true is e h (subst (λ (l : List Setting). Fits (done ++ l)) (sym (append-nil item)) fits) in
    record {
      after = f.one.after;
      rest = f.s.rest;
      is = items_done remaining stop i f.one.after ps f.s total f.at f.one.is b;
      parts = f.after_it;
      holds = f.one.holds;
    }
items_found _ _ (more ts others item settings is are) remaining stop i ps total done back e h fits b =
    let f =
    one_found remaining stop i ps done item settings ts (others ++ symbol CloseCurly ∷ back) false is
    (e ∙ append_assoc ts (symbol Semicolon ∷ others) (symbol CloseCurly ∷ back)) h fits in
    let further = items_further remaining stop i f.one.after ps f.s total f.at f.one.is b in
    let all : (done ++ item) ++ settings ≡ done ++ (item ++ settings) = append_assoc done item settings in
    subst (λ (l : List Setting). Found total l back) all
    (items_found others settings are remaining stop f.one.after f.s.rest total (done ++ item) back f.after_it
    f.one.holds (subst Fits (sym all) fits) further)

pub nothing : Holds [] (initial [] [] [])
nothing = record { names = refl; words = refl; registers = refl }

pub record InitialFound (stop : Stop) (ps : List Piece) (settings : List Setting) (back : List Term) : Type 0 where
  pub i : Initial
  pub reads : Reads (initial_at stop [] ps) i back
  pub holds : Holds settings i

pub initial_found : (stop : Stop) (ps : List Piece) (ts back : List Term) (settings : List Setting)
    → IsInitialState ts settings
    → Fits settings
    → terms ps ≡ ts ++ back
    → InitialFound stop ps settings back
unfolding initial_at symbol_at is_symbol
initial_found stop ps _ back _ (in_braces ts settings are) fits e =
    let front : terms ps ≡ symbol OpenCurly ∷ ts ++ symbol CloseCurly ∷ back =
    e ∙ ap (λ (l : List Term). symbol OpenCurly ∷ l) (append_assoc ts (symbol CloseCurly ∷ []) back) in
    opened (λ ps. InitialFound stop ps settings back) ps (symbol OpenCurly) (ts ++ symbol CloseCurly ∷ back) front (λ p rest is after_it.
    let found =
    items_found ts settings are p.remaining stop (initial [] [] []) rest (items_at p.remaining stop [] rest) [] back
    after_it nothing fits (items_start p.remaining stop [] rest) in
    record { i = found.after; reads = record { rest = found.rest; is = rw is found.is; after_it = found.parts }; holds = found.holds })

-- ---- taken

-- the end of an item was taken
record EndTaken (ps : List Piece) (is_last : Bool) : Type 0 where
  pub end : Piece
  pub back : List Piece
  pub parts : ps ≡ end ∷ back
  pub is : end.term ≡ end_term is_last

end_taken : (ps : List Piece) (is_last : Bool) → item_end ps ≡ Some is_last → EndTaken ps is_last
unfolding item_end
end_taken ps is_last e =
    elim (there_is (symbol_at Semicolon ps) (λ _. Some false) (there (symbol_at CloseCurly ps) (λ _. Some true) None) (Some is_last) e) [
      | inl hit ↦
          let p = symbol_found Semicolon ps hit.0 hit.1 in
          record { end = p.0; back = hit.0; parts = p.1; is = p.2 ∙ ap end_term (some_is false is_last hit.2) }
      | inr miss ↦
          let hit = there_some (symbol_at CloseCurly ps) (λ _. Some true) is_last miss.1 in
          let p = symbol_found CloseCurly ps hit.0 hit.1 in
          record { end = p.0; back = hit.0; parts = p.1; is = p.2 ∙ ap end_term (some_is true is_last hit.2) }
    ]

-- an item was taken, up to its end
record ItemTaken (ps : List Piece) (done : List Setting) (after : Initial) (is_last : Bool) : Type 0 where
  pub front : List Piece
  pub end : Piece
  pub back : List Piece
  pub parts : ps ≡ front ++ end ∷ back
  pub ends : end.term ≡ end_term is_last
  pub item : List Setting
  pub is : IsInitialItem (terms front) item
  pub holds : Holds (done ++ item) after
  pub fits : Fits (done ++ item)

item_taken : (part : Part) (i : Initial) (ps : List Piece) (done : List Setting) (after : Initial) (is_last : Bool)
    → item_in part i ps ≡ Ok (after, is_last)
    → Holds done i
    → Fits done
    → ItemTaken ps done after is_last
unfolding item_in
item_taken part i ps done after is_last e h fits =
    elim (there_is (item_end ps) (λ last. Ok (i, last)) _ (Ok (after, is_last)) e) [
      | inl none ↦
          let same = ok_pair i after none.0 is_last none.2 in
          let at = end_taken ps none.0 none.1 in
          record {
            front = [];
            end = at.end;
            back = at.back;
            parts = at.parts;
            ends = at.is ∙ ap end_term same.1;
            item = [];
            is = empty;
            holds = subst (λ (l : List Setting). Holds l after) (sym (append-nil done)) (subst (Holds done) same.0 h);
            fits = subst Fits (sym (append-nil done)) fits;
          }
      | inr some ↦
          let a = bind_ok (setting_at part ps) _ (after, is_last) some.1 in
          let b = bind_ok (or_unfit part a.0.1 (item_end a.0.1)) _ (after, is_last) a.2 in
          let j = bind_ok (judged (remaining_of ps) i a.0.0) _ (after, is_last) b.2 in
          let same = ok_pair j.0 after b.0 is_last j.2 in
          let taken = setting_taken part ps a.0.1 a.0.0 a.1 in
          let at = end_taken a.0.1 b.0 (or_unfit_ok part a.0.1 (item_end a.0.1) b.0 b.1) in
          let both = judged_taken (remaining_of ps) i after done a.0.0 (j.1 ∙ ap (λ (k : Initial). Ok k) same.0) h fits in
          record {
            front = taken.front;
            end = at.end;
            back = at.back;
            parts = taken.parts ∙ ap (λ (l : List Piece). taken.front ++ l) at.parts;
            ends = at.is ∙ ap end_term same.1;
            item = a.0.0 ∷ [];
            is = given (terms taken.front) a.0.0 taken.is;
            holds = both.0;
            fits = both.1;
          }
    ]

-- what comes before the `}`
record ItemsTaken (done : List Setting) (ps rest : List Piece) (i : Initial) : Type 0 where
  pub further : List Piece
  pub last : Piece
  pub settings : List Setting
  pub are : AreInitialItems (terms further) settings
  pub parts : ps ≡ further ++ last ∷ rest
  pub closes : last.term ≡ symbol CloseCurly
  pub holds : Holds (done ++ settings) i
  pub fits : Fits (done ++ settings)

onto : (done : List Setting) (ps after rest : List Piece) (i j : Initial) (t : ItemTaken ps done i false)
    → ItemsTaken (done ++ t.item) after rest j
    → (all : List Piece) → all ≡ t.front ++ t.end ∷ after
    → ItemsTaken done all rest j
onto done ps after rest i j t others all parts =
    let settings : (done ++ t.item) ++ others.settings ≡ done ++ (t.item ++ others.settings) = append_assoc done t.item others.settings in
    record {
      further = t.front ++ t.end ∷ others.further;
      last = others.last;
      settings = t.item ++ others.settings;
      are = rw (terms_append t.front (t.end ∷ others.further), t.ends) (more (terms t.front) (terms others.further) t.item others.settings t.is others.are);
      parts = parts ∙ ap (λ (l : List Piece). t.front ++ t.end ∷ l) others.parts ∙ sym (append_assoc t.front (t.end ∷ others.further) (others.last ∷ rest));
      closes = others.closes;
      holds = subst (λ (l : List Setting). Holds l j) settings others.holds;
      fits = subst Fits settings others.fits;
    }

items_taken : (n remaining : ℕ) (stop : Stop) (i j : Initial) (ps rest : List Piece) (done : List Setting)
    → Holds done i
    → Fits done
    → items_within n remaining stop i ps ≡ Ok (j, rest)
    → ItemsTaken done ps rest j
unfolding items_within is_symbol
items_taken zero remaining stop i j ps rest done h fits e =
    let never : (let r : ReadItems = Err (fault Unclosed remaining) in r) ≡ Ok (j, rest) = e in
    absurd cc
items_taken (suc n) remaining stop i j ps rest done h fits e =
    let s = section_of item_ends stop ps in
    let b = bind_ok (item_in (in_initial remaining s.stop) i s.tokens) _ (j, rest) e in
    let t = item_taken (in_initial remaining s.stop) i s.tokens done b.0.0 b.0.1 b.1 h fits in
    let none = section_last item_ends stop ps t.front t.back t.end t.parts (ap (ends_with item_ends) t.ends ∙ is_end b.0.1) in
    let whole : ps ≡ t.front ++ t.end ∷ s.rest =
    section_parts item_ends stop ps
    ∙ ap (λ (l : List Piece). l ++ s.rest) (t.parts ∙ ap (λ (l : List Piece). t.front ++ t.end ∷ l) none)
    ∙ append_assoc t.front (t.end ∷ []) s.rest in
    by_end b.0.0 b.0.1 s.tokens s.rest t whole b.2 (λ i h fits e. items_taken n remaining stop i j s.rest rest (done ++ t.item) h fits e)
  where
    by_end : (k : Initial) (is_last : Bool) (tokens after : List Piece) (t : ItemTaken tokens done k is_last)
        → ps ≡ t.front ++ t.end ∷ after
        → cond is_last (Ok (k, after)) (items_within n remaining stop k after) ≡ Ok (j, rest)
        → ((k : Initial)
        → Holds (done ++ t.item) k
        → Fits (done ++ t.item)
        → items_within n remaining stop k after ≡ Ok (j, rest)
        → ItemsTaken (done ++ t.item) after rest j)
        → ItemsTaken done ps rest j
    by_end k true tokens after t whole e further =
        let same = ok_pair k j after rest e in
        record {
          further = t.front;
          last = t.end;
          settings = t.item;
          are = last (terms t.front) t.item t.is;
          parts = whole ∙ ap (λ (l : List Piece). t.front ++ t.end ∷ l) same.1;
          closes = t.ends;
          holds = subst (Holds (done ++ t.item)) same.0 t.holds;
          fits = t.fits;
        }
    by_end k false tokens after t whole e further = onto done tokens after rest k j t (further k t.holds t.fits e) ps whole

pub record InitialTaken (ps rest : List Piece) (i : Initial) : Type 0 where
  pub settings : List Setting
  pub spelled : Passes (λ ts. IsInitialState ts settings) ps rest
  pub holds : Holds settings i
  pub fits : Fits settings

pub initial_taken : (stop : Stop) (ps rest : List Piece) (i : Initial) → initial_at stop [] ps ≡ Ok (i, rest) → InitialTaken ps rest i
unfolding initial_at
initial_taken stop ps rest i e =
    let front = bind_ok (or_unfit _ ps (symbol_at OpenCurly ps)) _ (i, rest) e in
    let all =
    items_taken (suc (length front.0)) (remaining_of ps) stop (initial [] [] []) i front.0 rest [] nothing
    (record { once = refl; values = refl; few = omega arith }) front.2 in
    let curly = symbol_found OpenCurly ps front.0 (or_unfit_ok _ ps (symbol_at OpenCurly ps) front.0 front.1) in
    record {
      settings = all.settings;
      spelled = record {
        front = curly.0 ∷ all.further ++ all.last ∷ [];
        is = rw (curly.2, terms_append all.further (all.last ∷ []), all.closes) (in_braces (terms all.further) all.settings all.are);
        parts = curly.1 ∙ ap (λ (l : List Piece). curly.0 ∷ l) (all.parts ∙ sym (append_assoc all.further (all.last ∷ []) rest));
      };
      holds = all.holds;
      fits = all.fits;
    }
