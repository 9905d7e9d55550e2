-- Rows by their columns, and as one list of instructions with their cores.
use Rattle.litmus_reader.proofs.Vocabulary.{◌≡◌, ℕ, zero, suc, ◌+◌, ◌<◌, ◌≤◌, Bool, true, false, cond, eqb, eq-eqb, List, [], ◌∷◌, ◌++◌}
use Rattle.litmus_reader.proofs.Vocabulary.{length, map, filter, All, Option, Some, None, refl, sym, ap, subst, ◌∙◌, arith, count_by}
use Rattle.litmus_reader.proofs.Vocabulary.{slice_index_or, range_with_len, flat_map, map-append, sum_by-append, All-nil, All-cons}
use Rattle.litmus_reader.proofs.Vocabulary.{All-head, All-tail, Instr, CoreInstr, of_core, program_of, numbered, in_rows, column}
use Rattle.litmus_reader.proofs.Vocabulary.{location_in, instr_with, ValueFits, AreWithin, in_field, Shape, ne_eqb}
use Rattle.litmus_reader.proofs.Placed.{Placed, placed_from, placed_in, locations_of, instrs_with, ValuesFit, EntriesWithin}

-- ---- all instructions

-- the instructions of a row, and the locations that some name
abbrev pub in_row : List (Option Shape) → List Shape
in_row cells = flat_map in_field cells

abbrev pub named_by_all : List Shape → List (List ℕ)
named_by_all shapes = flat_map location_in shapes

-- a core's program: the instructions of its column
abbrev pub program : List (List ℕ) → List (List (Option Shape)) → ℕ → List Instr
program names table core = map (instr_with names) (column core table)

-- what a row has in a core's column
abbrev pub field_of : ℕ → List (Option Shape) → List Shape
field_of core [] = []
field_of zero (c ∷ cells) = in_field c
field_of (suc core) (c ∷ cells) = field_of core cells

pub field-there : (core : ℕ) (row : List (Option Shape)) → field_of core row ≡ in_field (slice_index_or row core None)
field-there zero [] = refl
field-there (suc core) [] = refl
field-there zero (c ∷ cells) = refl
field-there (suc core) (c ∷ cells) = field-there core cells

abbrev shape_of : Placed → Shape
shape_of e = e.shape

shapes-from : (core : ℕ) (cells : List (Option Shape)) → map shape_of (placed_from core cells) ≡ in_row cells
shapes-from core [] = refl
shapes-from core (None ∷ cells) = shapes-from (core + 1) cells
shapes-from core (Some shape ∷ cells) = ap (λ (l : List Shape). shape ∷ l) (shapes-from (core + 1) cells)

shapes-in : (table : List (List (Option Shape))) → map shape_of (placed_in table) ≡ in_rows table
shapes-in [] = refl
shapes-in (row ∷ others) =
    map-append shape_of (placed_from 0 row) (placed_in others) ∙ ap (λ (l : List Shape). l ++ map shape_of (placed_in others)) (shapes-from 0 row)
    ∙ ap (λ (l : List Shape). in_row row ++ l) (shapes-in others)

locations-named : (es : List Placed) → locations_of es ≡ named_by_all (map shape_of es)
locations-named [] = refl
locations-named (e ∷ es) = ap (λ (l : List (List ℕ)). location_in e.shape ++ l) (locations-named es)

pub named-same : (table : List (List (Option Shape))) → locations_of (placed_in table) ≡ named_by_all (in_rows table)
named-same table = locations-named (placed_in table) ∙ ap named_by_all (shapes-in table)

values-each : (es : List Placed) → ValuesFit es → All ValueFits (map shape_of es)
values-each [] h = All-nil _
values-each (e ∷ es) h = All-cons ValueFits e.shape (map shape_of es) h.0 (values-each es h.1)

values-all : (es : List Placed) → All ValueFits (map shape_of es) → ValuesFit es
values-all [] h = tt
values-all (e ∷ es) h = (All-head ValueFits e.shape (map shape_of es) h, values-all es (All-tail ValueFits e.shape (map shape_of es) h))

-- ---- those of a core

abbrev picked : ℕ → List Placed → List Shape
picked core [] = []
picked core (e ∷ es) = cond (eqb e.core core) (e.shape ∷ picked core es) (picked core es)

picked-append : (core : ℕ) (xs ys : List Placed) → picked core (xs ++ ys) ≡ picked core xs ++ picked core ys
picked-append core [] ys = refl
picked-append core (x ∷ xs) ys = by_test (eqb x.core core) (picked-append core xs ys)
  where
    by_test : (b : Bool) → picked core (xs ++ ys) ≡ picked core xs ++ picked core ys
        → cond b (x.shape ∷ picked core (xs ++ ys)) (picked core (xs ++ ys)) ≡ cond b (x.shape ∷ picked core xs) (picked core xs) ++ picked core ys
    by_test true others = ap (λ (l : List Shape). x.shape ∷ l) others
    by_test false others = others

none-before : (cells : List (Option Shape)) (core other : ℕ) → other < core → picked other (placed_from core cells) ≡ []
none-before [] core other lt = refl
none-before (None ∷ cells) core other lt = none-before cells (core + 1) other (omega arith)
none-before (Some shape ∷ cells) core other lt = rw (ne_eqb core other (λ same. omega (arith, same, lt))) (none-before cells (core + 1) other (omega arith))

picked-from : (cells : List (Option Shape)) (place core other : ℕ) → other ≡ core + place → picked other (placed_from core cells) ≡ field_of place cells
picked-from [] place core other e = refl
picked-from (None ∷ cells) zero core other e = none-before cells (core + 1) other (omega arith)
picked-from (Some shape ∷ cells) zero core other e =
    rw (eq-eqb core other (omega arith)) (ap (λ (l : List Shape). shape ∷ l) (none-before cells (core + 1) other (omega arith)))
picked-from (None ∷ cells) (suc place) core other e = picked-from cells place (core + 1) other (omega arith)
picked-from (Some shape ∷ cells) (suc place) core other e =
    rw (ne_eqb core other (λ same. omega (arith, same, e))) (picked-from cells place (core + 1) other (omega arith))

picked-column : (core : ℕ) (table : List (List (Option Shape))) → picked core (placed_in table) ≡ column core table
picked-column core [] = refl
picked-column core (row ∷ others) =
    picked-append core (placed_from 0 row) (placed_in others)
    ∙ ap (λ (l : List Shape). l ++ picked core (placed_in others)) (picked-from row core 0 core (omega arith))
    ∙ ap (λ (l : List Shape). field_of core row ++ l) (picked-column core others) ∙ ap (λ (l : List Shape). l ++ column core others) (field-there core row)

picked-count : (core : ℕ) (es : List Placed) → count_by (λ e. eqb e.core core) es ≡ length (picked core es)
picked-count core [] = refl
picked-count core (e ∷ es) = sum_by-append (λ (x : Placed). cond (eqb x.core core) 1 0) (e ∷ []) es ∙ by_test (eqb e.core core) (picked-count core es)
  where
    by_test : (b : Bool)
        → count_by (λ e. eqb e.core core) es ≡ length (picked core es)
        → 0 + cond b 1 0 + count_by (λ e. eqb e.core core) es
        ≡ length (cond b (e.shape ∷ picked core es) (picked core es))
    by_test true others = omega (arith, others)
    by_test false others = omega (arith, others)

picked-program : (core : ℕ) (names : List (List ℕ)) (es : List Placed) → program_of (instrs_with names es) core ≡ map (instr_with names) (picked core es)
picked-program core names [] = refl
picked-program core names (e ∷ es) = by_test (eqb e.core core) (picked-program core names es)
  where
    by_test : (b : Bool)
        → program_of (instrs_with names es) core ≡ map (instr_with names) (picked core es)
        → map (λ (i : CoreInstr). i.instr)
        (cond b
        (of_core e.core (instr_with names e.shape) ∷ filter (λ (i : CoreInstr). eqb i.core core) (instrs_with names es))
        (filter (λ (i : CoreInstr). eqb i.core core) (instrs_with names es)))
        ≡ map (instr_with names) (cond b (e.shape ∷ picked core es) (picked core es))
    by_test true others = ap (λ (l : List Instr). instr_with names e.shape ∷ l) others
    by_test false others = others

pub programs-columns : (names : List (List ℕ)) (table : List (List (Option Shape))) (cores core : ℕ)
    → map (program_of (instrs_with names (placed_in table))) (range_with_len core cores)
    ≡ map (program names table) (range_with_len core cores)
programs-columns names table zero core = refl
programs-columns names table (suc cores) core =
    ap (λ (l : List Instr).
    l ∷ map (program_of (instrs_with names (placed_in table))) (range_with_len (core + 1) cores))
    (picked-program core names (placed_in table) ∙ ap (map (instr_with names)) (picked-column core table))
    ∙ ap (λ (l : List (List Instr)). program names table core ∷ l) (programs-columns names table cores (core + 1))

-- ---- what fits

pub entries_within : (names : List (List ℕ)) (table : List (List (Option Shape))) → AreWithin names table → EntriesWithin names (placed_in table)
entries_within names table h = record {
  values = values-all (placed_in table) (subst (All ValueFits) (sym (shapes-in table)) h.values);
  few = λ core. omega (arith, h.few core, picked-count core (placed_in table), ap (λ (l : List Shape). length l) (picked-column core table));
  room = subst (λ (l : List (List ℕ)). length (numbered names l) ≤ 16) (sym (named-same table)) h.room;
}

pub columns_within : (names : List (List ℕ)) (table : List (List (Option Shape))) → EntriesWithin names (placed_in table) → AreWithin names table
columns_within names table h = record {
  values = subst (All ValueFits) (shapes-in table) (values-each (placed_in table) h.values);
  few = λ core. omega (arith, h.few core, picked-count core (placed_in table), ap (λ (l : List Shape). length l) (picked-column core table));
  room = subst (λ (l : List (List ℕ)). length (numbered names l) ≤ 16) (named-same table) h.room;
}
