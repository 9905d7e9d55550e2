-- Rows one after the other are read as they are spelled.
use Rattle.litmus_reader.proofs.Vocabulary.{Fault, row_ends, Result, section_of, ◌≡◌, ℕ, zero, suc, ◌≤◌, Bool, true, false, eqb, eqb-true}
use Rattle.litmus_reader.proofs.Vocabulary.{eq-eqb, IsTrue, List, [], ◌∷◌, ◌++◌, length, Option, Ok, Err, refl, sym, ap, subst, ◌∙◌, inl}
use Rattle.litmus_reader.proofs.Vocabulary.{inr, append_assoc, arith, codes, bytes_eq, bytes_eq-Decides, append-nil, same_letters, Stop}
use Rattle.litmus_reader.proofs.Vocabulary.{Semicolon, Bar, Term, symbol, Piece, is_symbol, WrongCells, ◌>>=◌, cells_of, row_at, row_in}
use Rattle.litmus_reader.proofs.Vocabulary.{Rows, rows, rows_within, rows_at, terms, IsCell, numbered, IsField, empty, full, AreFields}
use Rattle.litmus_reader.proofs.Vocabulary.{IsRow, row, AreRows, ends_rows, fault, remaining_of, Shape, ArgumentTerm, IsCall, Comma, name}
use Rattle.litmus_reader.proofs.Vocabulary.{Passes, Instructions, IsCallOfOne, IsOperator, IsStep, DoesNothing, IsCellMore, in_register}
use Rattle.litmus_reader.proofs.Vocabulary.{constant}
use Rattle.litmus_reader.specs.GrammarCells as cells
use Rattle.tso_terms.specs.declared.action.Operator.{Operator}
use Rattle.litmus_reader.specs.GrammarRows as grammar
use Rattle.litmus_reader.specs.GrammarTable.{none, more}
use Rattle.litmus_reader.proofs.Placed.{Placed, placed_from, placed_in, EntriesWithin}
use Rattle.litmus_reader.proofs.GrammarTokens.{chosen, ok_is, bind_ok, terms_append}
use Rattle.litmus_reader.proofs.RowSteps.{RowsAfter, rows_start, rows_end, rows_go_on, row_shorter}
use Rattle.litmus_reader.proofs.GrammarRows.{row_again, row_takes}
use Rattle.litmus_reader.proofs.GrammarTableEntries.{names_of, instrs_of, Read, read_of, within_first, within_none, cells_found, CellsTaken, cells_taken}
use Rattle.litmus_reader.proofs.Readings.{AreReadAs, rows_by, ReadsPlaced, SpellsRows, ends_table}

-- ---- a row begins with a cell, a `|` or a `;`

other_word : (letters other word : List ℕ) → IsTrue (same_letters letters word) → same_letters other word ≡ false → bytes_eq letters other ≡ false
other_word letters other word is differs = by_test (bytes_eq letters other) refl
  where
    by_test : (b : Bool) → bytes_eq letters other ≡ b → b ≡ false
    by_test true e =
        let same : letters ≡ other = (bytes_eq-Decides letters other).0 e in
        let both : same_letters other word ≡ true = ap (λ (l : List ℕ). same_letters l word) (sym same) ∙ is in
        absurd cc
    by_test false e = refl

-- none of the words that end the rows
record IsOther (word : List ℕ) : Type 0 where
  pub no_locations : same_letters (codes "locations") word ≡ false
  pub no_exists : same_letters (codes "exists") word ≡ false
  pub no_forall : same_letters (codes "forall") word ≡ false

mnemonic_begins : (word : List ℕ)
    → IsOther word
    → (letters : List ℕ) → IsTrue (same_letters letters word)
    → (back : List Term) → ends_table (name letters ∷ back) ≡ false
mnemonic_begins word o letters is back =
    rw (
      other_word letters (codes "locations") word is o.no_locations,
      other_word letters (codes "exists") word is o.no_exists,
      other_word letters (codes "forall") word is o.no_forall,
    )
    refl

call_begins : (word : List ℕ) → IsOther word → (ts : List Term) (a b : ArgumentTerm) → IsCall word ts a b → (back : List Term) → ends_table (ts ++ back) ≡ false
call_begins word o _ _ _ (cells.call letters a b first second is _ _) back = mnemonic_begins word o letters is ((a ++ symbol Comma ∷ b) ++ back)

call_of_one_begins : (word : List ℕ)
    → IsOther word
    → (ts : List Term) (a : ArgumentTerm)
    → IsCallOfOne word ts a
    → (back : List Term) → ends_table (ts ++ back) ≡ false
call_of_one_begins word o _ _ (cells.call_of_one letters a only is _) back = mnemonic_begins word o letters is (a ++ back)

operator_other : (word : List ℕ) (o : Operator) → IsOperator word o → IsOther word
operator_other _ _ cells.adds_both = record { no_locations = refl; no_exists = refl; no_forall = refl }
operator_other _ _ cells.subtracts = record { no_locations = refl; no_exists = refl; no_forall = refl }
operator_other _ _ cells.ands = record { no_locations = refl; no_exists = refl; no_forall = refl }
operator_other _ _ cells.ors = record { no_locations = refl; no_exists = refl; no_forall = refl }
operator_other _ _ cells.xors = record { no_locations = refl; no_exists = refl; no_forall = refl }

step_other : (word : List ℕ) (o : Operator) (v : ℕ) → IsStep word o v → IsOther word
step_other _ _ _ cells.increments = record { no_locations = refl; no_exists = refl; no_forall = refl }
step_other _ _ _ cells.decrements = record { no_locations = refl; no_exists = refl; no_forall = refl }
step_other _ _ _ cells.complements = record { no_locations = refl; no_exists = refl; no_forall = refl }

no_operation_other : (word : List ℕ) → DoesNothing word → IsOther word
no_operation_other _ cells.no_operation = record { no_locations = refl; no_exists = refl; no_forall = refl }
no_operation_other _ cells.pauses = record { no_locations = refl; no_exists = refl; no_forall = refl }
no_operation_other _ cells.fences_loads = record { no_locations = refl; no_exists = refl; no_forall = refl }
no_operation_other _ cells.fences_stores = record { no_locations = refl; no_exists = refl; no_forall = refl }

cell_more_begins : (ts : List Term) (shape : Shape) → IsCellMore ts shape → (back : List Term) → ends_table (ts ++ back) ≡ false
cell_more_begins _ _ (cells.adds_constant word o ts r v of is) back = call_begins word (operator_other word o of) ts (in_register r) (constant v) is back
cell_more_begins _ _ (cells.adds_register word o ts r s of is) back = call_begins word (operator_other word o of) ts (in_register r) (in_register s) is back
cell_more_begins _ _ (cells.steps_register word o v ts r of is) back = call_of_one_begins word (step_other word o v of) ts (in_register r) is back
cell_more_begins _ _ (cells.negates_register ts r is) back =
    call_of_one_begins (codes "NEG") (record {
      no_locations = refl;
      no_exists = refl;
      no_forall = refl;
    }) ts (in_register r) is back
cell_more_begins _ _ (cells.swaps ts r s is) back =
    call_begins (codes "XCHG") (record {
      no_locations = refl;
      no_exists = refl;
      no_forall = refl;
    }) ts (in_register r) (in_register s) is back
cell_more_begins _ _ (cells.does_nothing letters word of is) back = mnemonic_begins word (no_operation_other word of) letters is back

cell_begins : (set : Instructions) (ts : List Term) (shape : Shape) → IsCell set ts shape → (back : List Term) → ends_table (ts ++ back) ≡ false
cell_begins set _ _ (cells.moves ts a b shape is _) back =
    call_begins (codes "MOV") (record { no_locations = refl; no_exists = refl; no_forall = refl }) ts a b is back
cell_begins set _ _ (cells.fences letters is) back =
    mnemonic_begins (codes "MFENCE") (record {
      no_locations = refl;
      no_exists = refl;
      no_forall = refl;
    }) letters is back
cell_begins set _ _ (cells.exchanges ts a b shape is _) back =
    call_begins (codes "XCHG") (record { no_locations = refl; no_exists = refl; no_forall = refl }) ts a b is back
cell_begins set _ _ (cells.locks letters ts shape is _) back =
    mnemonic_begins (codes "LOCK") (record { no_locations = refl; no_exists = refl; no_forall = refl }) letters is (ts ++ back)
cell_begins set _ _ (cells.more ts shape all is) back = cell_more_begins ts shape is back

field_begins : (set : Instructions) (ts : List Term) (c : Option Shape)
    → IsField set ts c
    → (t : Term) (back : List Term)
    → ends_table (t ∷ back) ≡ false
    → ends_table (ts ++ t ∷ back) ≡ false
field_begins set _ _ empty t back other = other
field_begins set _ _ (full ts shape is) t back other = cell_begins set ts shape is (t ∷ back)

fields_begin : (set : Instructions) (ts : List Term) (cells : List (Option Shape))
    → AreFields set ts cells
    → (back : List Term) → ends_table (ts ++ symbol Semicolon ∷ back) ≡ false
fields_begin set _ _ (grammar.last ts c is) back = field_begins set ts c is (symbol Semicolon) back refl
fields_begin set _ _ (grammar.more ts us c cs is are) back =
    ap ends_table (append_assoc ts (symbol Bar ∷ us) (symbol Semicolon ∷ back)) ∙ field_begins set ts c is (symbol Bar) (us ++ symbol Semicolon ∷ back) refl

pub row_begins : (set : Instructions) (cores : ℕ) (ts : List Term) (cells : List (Option Shape))
    → IsRow set cores ts cells
    → (back : List Term) → ends_table (ts ++ back) ≡ false
row_begins set cores _ _ (row ts cells are count) back = ap ends_table (append_assoc ts (symbol Semicolon ∷ []) back) ∙ fields_begin set ts cells are back

pub row_count : (set : Instructions) (cores : ℕ) (ts : List Term) (cells : List (Option Shape)) → IsRow set cores ts cells → length cells ≡ cores
row_count set cores _ _ (row ts cells are count) = count

pub ends_is : (ps : List Piece) → ends_rows ps ≡ ends_table (terms ps)
unfolding ends_rows is_symbol
ends_is [] = refl
ends_is (p ∷ ps) = refl

-- ---- one row

pub as_many : (set : Instructions) (parts : List (List Piece)) (cells : List (Option Shape)) → AreReadAs set parts cells → length parts ≡ length cells
as_many set [] [] are = refl
as_many set [] (c ∷ cs) are = absurd are
as_many set (ps ∷ rest) [] are = absurd are
as_many set (ps ∷ rest) (c ∷ cs) are = ap suc (as_many set rest cs are.1)

pub row_found : (set : Instructions) (cores : ℕ) (stop : Stop) (names : List (List ℕ)) (done : List Placed)
    (ps front : List Piece) (cells : List (Option Shape))
    → row_at stop ps ≡ Ok front
    → length cells ≡ cores
    → AreReadAs set (cells_of front) cells → EntriesWithin names (done ++ placed_from 0 cells)
    → row_in set cores stop (instrs_of names done) (names_of names done) ps ≡ Ok (read_of names (done ++ placed_from 0 cells))
unfolding row_in
row_found set cores stop names done ps front cells at count are h =
    let same : eqb (length (cells_of front)) cores ≡ true = eq-eqb (length (cells_of front)) cores (as_many set (cells_of front) cells are ∙ count) in
    rw (at, same) (cells_found set (cells_of front) cells are 0 names done h)

pub record RowTaken (set : Instructions) (cores : ℕ) (stop : Stop) (names : List (List ℕ)) (done : List Placed) (ps : List Piece) (r : Read) : Type 0 where
  pub front : List Piece
  pub at : row_at stop ps ≡ Ok front
  pub count : length (cells_of front) ≡ cores
  pub cells : CellsTaken set 0 names done (cells_of front) r

pub row_taken : (set : Instructions) (cores : ℕ) (stop : Stop) (names : List (List ℕ)) (done : List Placed)
    (ps : List Piece) (r : Read)
    → EntriesWithin names done
    → row_in set cores stop (instrs_of names done) (names_of names done) ps ≡ Ok r → RowTaken set cores stop names done ps r
unfolding row_in
row_taken set cores stop names done ps r h e =
    let a = bind_ok (row_at stop ps) _ r e in
    elim (chosen (eqb (length (cells_of a.0)) cores) _ (Err (fault WrongCells (remaining_of ps))) (Ok r) a.2) [
      | inl hit ↦ record { front = a.0; at = a.1; count = eqb-true _ _ hit.0; cells = cells_taken set (cells_of a.0) 0 names done r h hit.1 }
      | inr miss ↦ absurd cc
    ]

-- ---- rows found

record RowsFound (total : Result Rows Fault) (names : List (List ℕ)) (all : List Placed) (back : List Term) : Type 0 where
  pub rest : List Piece
  pub is : total ≡ Ok (rows_by names all rest)
  pub after_it : terms rest ≡ back

rows_found : (set : Instructions) (stop : Stop) (cores : ℕ) (names : List (List ℕ)) (ts : List Term)
    (table : List (List (Option Shape)))
    → AreRows set cores ts table
    → (ps : List Piece) (total : Result Rows Fault)
    → (done : List Placed) → EntriesWithin names (done ++ placed_in table) → (back : List Term) → terms ps ≡ ts ++ back → ends_table back ≡ true
    → RowsAfter set stop cores (instrs_of names done) (names_of names done) ps total → RowsFound total names (done ++ placed_in table) back
rows_found set stop cores names _ _ none ps total done h back e end b =
    let here : ends_rows ps ≡ true = ends_is ps ∙ ap ends_table e ∙ end in
    record {
      rest = ps;
      is =
          rows_end set stop cores (instrs_of names done) (names_of names done) ps total here b
          ∙ ap (λ (l : List Placed). Ok (rows_by names l ps)) (sym (append-nil done));
      after_it = e;
    }
rows_found set stop cores names _ _ (more ts us cells others is are) ps total done h back e end b =
    let e' : terms ps ≡ ts ++ (us ++ back) = e ∙ append_assoc ts us back in
    let first = row_again set stop cores ps ts (us ++ back) cells is e' in
    let one = placed_from 0 cells in
    let regroup : (done ++ one) ++ placed_in others ≡ done ++ (one ++ placed_in others) = append_assoc done one (placed_in others) in
    let whole : EntriesWithin names ((done ++ one) ++ placed_in others) = subst (λ (l : List Placed). EntriesWithin names l) (sym regroup) h in
    let read =
    row_found set cores first.s.stop names done first.s.tokens first.row cells first.is
    (row_count set cores ts cells is) first.cells_are
    (within_first names (done ++ one) (placed_in others) whole) in
    let go : ends_rows ps ≡ false = ends_is ps ∙ ap ends_table e' ∙ row_begins set cores ts cells is (us ++ back) in
    let further =
    rows_go_on set stop cores (instrs_of names done) (instrs_of names (done ++ one)) (names_of names done)
    (names_of names (done ++ one)) ps first.s total go first.at read b in
    subst (λ (l : List Placed). RowsFound total names l back) regroup
    (rows_found set stop cores names us others are first.s.rest total (done ++ one) whole back first.after_it end further)

pub rows_again : (set : Instructions) (stop : Stop) (cores : ℕ) (names : List (List ℕ)) (ps : List Piece)
    (ts back : List Term) (table : List (List (Option Shape)))
    → AreRows set cores ts table
    → EntriesWithin names (placed_in table)
    → terms ps ≡ ts ++ back
    → ends_table back ≡ true
    → ReadsPlaced (rows_at set stop cores names ps) names (placed_in table) back
unfolding numbered
rows_again set stop cores names ps ts back table are h e end =
    let f = rows_found set stop cores names ts table are ps (rows_at set stop cores names ps) [] h back e end (rows_start set stop cores names ps) in
    record { rest = f.rest; is = f.is; after_it = f.after_it }

-- ---- rows taken

record RowsTaken (set : Instructions) (cores : ℕ) (names : List (List ℕ)) (done : List Placed) (ps : List Piece) (r : Rows) : Type 0 where
  pub table : List (List (Option Shape))
  pub spelled : Passes (λ ts. AreRows set cores ts table) ps r.rest
  pub within : EntriesWithin names (done ++ placed_in table)
  pub given : r ≡ rows_by names (done ++ placed_in table) r.rest
  pub ended : ends_rows r.rest ≡ true

no_more : (set : Instructions) (cores : ℕ) (names : List (List ℕ)) (done : List Placed) (ps : List Piece) (r : Rows)
    → EntriesWithin names done
    → ends_rows ps ≡ true
    → rows (instrs_of names done) (names_of names done) ps ≡ r
    → RowsTaken set cores names done ps r
no_more set cores names done ps r h end is =
    let same = append-nil done in
    subst (λ (r : Rows). RowsTaken set cores names done ps r) is (record {
      table = [];
      spelled = record { front = []; parts = refl; is = none };
      within = subst (λ (l : List Placed). EntriesWithin names l) (sym same) h;
      given = ap (λ (l : List Placed). rows_by names l ps) (sym same);
      ended = end;
    })

rows_taken : (set : Instructions) (n : ℕ) (stop : Stop) (cores : ℕ) (names : List (List ℕ)) (done : List Placed)
    (ps : List Piece) (r : Rows)
    → length ps ≤ n
    → EntriesWithin names done
    → rows_within set n stop cores (instrs_of names done) (names_of names done) ps ≡ Ok r → RowsTaken set cores names done ps r
unfolding rows_within
rows_taken set zero stop cores names done [] r enough h e =
    no_more set cores names done [] r h (ends_is []) (ok_is (rows (instrs_of names done) (names_of names done) []) r e)
rows_taken set zero stop cores names done (p ∷ ps) r enough h e = absurd (omega arith)
rows_taken set (suc n) stop cores names done ps r enough h e =
    let s = section_of row_ends stop ps in
    elim (chosen (ends_rows ps) (Ok (rows (instrs_of names done) (names_of names done) ps))
    (row_in set cores s.stop (instrs_of names done) (names_of names done) s.tokens >>= λ read. rows_within set n stop cores read.0 read.1 s.rest) (Ok r) e) [
      | inl end ↦ no_more set cores names done ps r h end.0 (ok_is (rows (instrs_of names done) (names_of names done) ps) r end.1)
      | inr go ↦
          let b =
          bind_ok (row_in set cores s.stop (instrs_of names done) (names_of names done) s.tokens)
          (λ read. rows_within set n stop cores read.0 read.1 s.rest) r go.1 in
          let t = row_taken set cores s.stop names done s.tokens b.0 h b.1 in
          let cells = t.cells.cells in
          let one = placed_from 0 cells in
          let count : length cells ≡ cores = sym (as_many set (cells_of t.front) cells t.cells.are) ∙ t.count in
          let front = row_takes set stop cores ps t.front cells t.at t.cells.are count in
          let shorter = row_shorter set stop cores (instrs_of names done) (names_of names done) ps s b.0 refl b.1 in
          let further : rows_within set n stop cores (instrs_of names (done ++ one)) (names_of names (done ++ one)) s.rest ≡ Ok r =
          ap (λ (read : Read). rows_within set n stop cores read.0 read.1 s.rest) (sym t.cells.given) ∙ b.2 in
          let others = rows_taken set n stop cores names (done ++ one) s.rest r (omega arith) t.cells.within further in
          let regroup : (done ++ one) ++ placed_in others.table ≡ done ++ (one ++ placed_in others.table) = append_assoc done one (placed_in others.table) in
          record {
            table = cells ∷ others.table;
            spelled = record {
              front = front.front ++ others.spelled.front;
              parts = front.parts ∙ ap (λ (l : List Piece). front.front ++ l) others.spelled.parts ∙ sym (append_assoc front.front others.spelled.front r.rest);
              is =
                  rw (terms_append front.front others.spelled.front)
                  (more (terms front.front) (terms others.spelled.front) cells others.table front.is others.spelled.is);
            };
            within = subst (λ (l : List Placed). EntriesWithin names l) regroup others.within;
            given = others.given ∙ ap (λ (l : List Placed). rows_by names l r.rest) regroup;
            ended = others.ended;
          }
    ]

pub rows_take : (set : Instructions) (stop : Stop) (cores : ℕ) (names : List (List ℕ)) (ps : List Piece) (r : Rows)
    → length names ≤ 16
    → rows_at set stop cores names ps ≡ Ok r
    → SpellsRows set cores names ps r
unfolding numbered
rows_take set stop cores names ps r le e =
    let t = rows_taken set (length ps) stop cores names [] ps r (omega arith) (within_none names le) e in
    record { table = t.table; spelled = t.spelled; within = t.within; given = t.given; ended = t.ended }
