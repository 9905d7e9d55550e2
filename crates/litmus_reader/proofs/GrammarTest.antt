-- A whole text is read as it is spelled.
use Rattle.litmus_reader.proofs.Vocabulary.{◌>>=◌, Fault, row_ends, Result, section_of, ◌≡◌, ℕ, ◌≤◌, ◌+◌, true, false, ltb, List, [], ◌∷◌}
use Rattle.litmus_reader.proofs.Vocabulary.{◌++◌, length, map, drop, Option, Ok, refl, sym, ap, subst, ◌∙◌, inl, inr, append_assoc, arith}
use Rattle.litmus_reader.proofs.Vocabulary.{IsTrue, ltb-false, le-ltb, length-map-range_with_len, range_with_len, Litmus, Instr, Stop, Term}
use Rattle.litmus_reader.proofs.Vocabulary.{Piece, pieces_of, sized, header_at, braces_at, Initial, words_of, registers_of, initial_at}
use Rattle.litmus_reader.proofs.Vocabulary.{Rows, Table, table, table_at, rows_at, test_of, tail_at, body_of, reading_of, terms, Passes}
use Rattle.litmus_reader.proofs.Vocabulary.{numbered, with_name, IsHeaderLine, has_cores, names_in, first_words, first_registers, condition}
use Rattle.litmus_reader.proofs.Vocabulary.{says_exists, says_forall, says_not_exists, MayAsk, nothing, a_condition, IsEnding, at_once}
use Rattle.litmus_reader.proofs.Vocabulary.{after_locations, names_asked, condition_of, IsAskedWithin, Shape, Setting, WrittenCondition}
use Rattle.litmus_reader.proofs.Vocabulary.{Written, program_of, columns, most_cores, length-map, Instructions}
use Rattle.std.proofs.Common.{length-append}
use Rattle.litmus_reader.specs.Limits.{longest_text}
use Rattle.litmus_reader.proofs.Placed.{placed_in, instrs_with, locations_of, EntriesWithin}
use Rattle.litmus_reader.specs.GrammarTest.{IsBody, first_names, test_written, KeepsLimits, FollowsGrammar}
use Rattle.litmus_reader.proofs.Columnwise.{named-same, programs-columns, entries_within, columns_within, program}
use Rattle.litmus_reader.proofs.GrammarTokens.{chosen, bind_ok, ok_is, terms_append}
use Rattle.litmus_reader.proofs.GrammarNames.{numbered_append, with_name_by, all_known, grows}
use Rattle.litmus_reader.proofs.GrammarShapes.{instrs_stay}
use Rattle.litmus_reader.proofs.GrammarHeader.{header_again, header_takes}
use Rattle.litmus_reader.proofs.GrammarInformation.{lines_again, lines_take}
use Rattle.litmus_reader.proofs.GrammarInitialItems.{initial_found, initial_taken}
use Rattle.litmus_reader.proofs.GrammarInitialSaid.{said}
use Rattle.litmus_reader.proofs.GrammarColumns.{header_row_again, header_row_found, header_row_takes}
use Rattle.litmus_reader.proofs.RowSteps.{table_is}
use Rattle.litmus_reader.proofs.GrammarTable.{rows_again, rows_take}
use Rattle.litmus_reader.proofs.GrammarPhrases.{terms_length}
use Rattle.litmus_reader.proofs.GrammarEnding.{Given, given, tail_again, tail_takes}
use Rattle.litmus_reader.proofs.Readings.{Says, rows_by, ends_table}

-- ---- lists

pub same_length : (a b : List Piece) → terms a ≡ terms b → length a ≡ length b
same_length a b e = terms_length a (terms b) e ∙ length-map b (λ p. p.term)

pub same_end : {A : Type 0} (xs ys a b : List A) → xs ++ a ≡ ys ++ b → length a ≡ length b → a ≡ b
same_end [] [] a b e n = e
same_end [] (y ∷ ys) a b e n = absurd (let whole = ap (λ l. length l) e in omega (arith, whole, n, length-append ys b))
same_end (x ∷ xs) [] a b e n = absurd (let whole = ap (λ l. length l) e in omega (arith, whole, n, length-append xs a))
same_end (x ∷ xs) (y ∷ ys) a b e n = same_end xs ys a b (ap (λ l. drop 1 l) e) n

-- ---- what is left

-- these are the last of the tokens
record AreLast (ps rest : List Piece) : Type 0 where
  pub taken : List Piece
  pub parts : ps ≡ taken ++ rest

all_left : (ps : List Piece) → AreLast ps ps
all_left ps = record { taken = []; parts = refl }

-- what comes after a part has these as its last
left : {Is : List Term → Type 0} {ps after rest : List Piece} → Passes Is ps after → AreLast after rest → AreLast ps rest
left {Is} {ps} {after} {rest} p last = record {
  taken = p.front ++ last.taken;
  parts = p.parts ∙ ap (λ (l : List Piece). p.front ++ l) last.parts ∙ sym (append_assoc p.front last.taken rest);
}

-- ---- the table ends where the ending begins

ends_asked : (ts : List Term) (c : Option WrittenCondition) → MayAsk ts c → ends_table ts ≡ true
ends_asked _ _ nothing = refl
ends_asked _ _ (a_condition _ _ _ (condition _ us _ phrase says_exists is)) = refl
ends_asked _ _ (a_condition _ _ _ (condition _ us _ phrase says_forall is)) = refl
ends_asked _ _ (a_condition _ _ _ (condition _ us _ phrase says_not_exists is)) = refl

ends_here : (set : Instructions) (text : List ℕ) (stop : Stop) (ps : List Piece) (c : Option WrittenCondition)
    → IsEnding set text stop ps c
    → ends_table (terms ps) ≡ true
ends_here set text stop _ _ (at_once ps c ended is) = ends_asked (terms ps) c is
ends_here set text stop _ _ (after_locations word opener ps bytes c is_word is_opener found ended is) = rw is_word refl

-- ---- what has been read is the test that is written

cores_given : (settings : List Setting) (cores : ℕ) → length (first_registers settings cores) ≡ cores
cores_given settings cores = length-map-range_with_len _ 0 cores

-- what the parts give
abbrev pub parts_give : Written → Initial → Litmus
parts_give w i =
    test_of w.name (given (numbered i.names (locations_of (placed_in w.table))) w.asked).1 i.words (first_registers w.settings w.cores)
    (instrs_with (numbered i.names (locations_of (placed_in w.table))) (placed_in w.table))
    (given (numbered i.names (locations_of (placed_in w.table))) w.asked).0

-- the test of these names and programs
abbrev test_with : Written → List (List ℕ) → List (List Instr) → Litmus
test_with w names programs = record {
  name = w.name;
  locations = names;
  words = first_words w.settings names;
  registers = first_registers w.settings w.cores;
  programs = programs;
  condition = condition_of names w.asked;
}

abbrev all_with : Written → List (List ℕ) → List (List ℕ)
all_with w named = numbered (numbered (numbered [] (names_in w.settings)) named) (names_asked w.asked)

-- the test where the rows name these locations
abbrev test_by : Written → List (List ℕ) → Litmus
test_by w named = test_with w (all_with w named) (map (program (all_with w named) w.table) (range_with_len 0 w.cores))

by_columns : (w : Written)
    → test_with w (all_with w (locations_of (placed_in w.table)))
    (map (program_of (instrs_with (all_with w (locations_of (placed_in w.table))) (placed_in w.table))) (range_with_len 0 w.cores))
    ≡ test_written w
by_columns w =
    let all = all_with w (locations_of (placed_in w.table)) in
    ap (test_with w all) (programs-columns all w.table w.cores 0) ∙ ap (test_by w) (named-same w.table)

parts_are : (w : Written) (i : Initial) → Says w.settings i → parts_give w i ≡ test_written w
parts_are w i says =
    let es = placed_in w.table in
    let known = numbered i.names (locations_of es) in
    let all = numbered known (names_asked w.asked) in
    let words : words_of (length all) i.words ≡ first_words w.settings all =
    subst (λ (l : List (List ℕ)). words_of (length l) i.words ≡ first_words w.settings l) (numbered_append (locations_of es) (names_asked w.asked) i.names)
    (says.words (locations_of es ++ names_asked w.asked)) in
    let instrs : instrs_with all es ≡ instrs_with known es = instrs_stay es (names_asked w.asked) known (all_known (locations_of es) i.names) in
    let first : i.names ≡ numbered [] (names_in w.settings) = says.names in
    rw (cores_given w.settings w.cores, words, ← instrs, first) (by_columns w)

-- ---- found

body_found : (set : Instructions) (braces : List ℕ) (w : Written)
    → IsBody set braces w
    → KeepsLimits w
    → body_of set w.name braces (pieces_of set braces).1 (pieces_of set braces).0 ≡ Ok (test_written w)
unfolding body_of
body_found set braces w b limits =
    let stop = (pieces_of set braces).1 in
    let ps = (pieces_of set braces).0 in
    let es = placed_in w.table in
    let one = b.head.initial in
    let two = b.head.header_row in
    let three = b.are_rows in
    let initial =
    initial_found stop ps (terms one.front) (terms b.head.columns) w.settings one.is limits.settings
    (ap terms one.parts ∙ terms_append one.front b.head.columns) in
    let i = initial.reads in
    let says = said w.settings initial.i initial.holds limits.settings in
    let c = header_row_again stop i.rest (terms two.front) (terms b.rows) w.cores two.is (i.after_it ∙ ap terms two.parts ∙ terms_append two.front b.rows) in
    let registers : registers_of w.cores initial.i.registers ≡ Ok (first_registers w.settings w.cores) = says.registers w.cores limits.cores in
    let within : EntriesWithin initial.i.names es =
    subst (λ names. EntriesWithin names es) (sym says.names) (entries_within (first_names w) w.table limits.rows) in
    let r =
    rows_again set stop w.cores initial.i.names c.s.rest (terms three.front) (terms b.ending) w.table three.is
    within
    (c.after_it ∙ ap terms three.parts ∙ terms_append three.front b.ending)
    (ends_here set braces stop b.ending w.asked b.is_ending) in
    let known = numbered initial.i.names (locations_of es) in
    let most : length initial.i.names ≤ 16 = let more = grows (locations_of es) initial.i.names in omega (arith, more, within.room) in
    let last =
    left (initial_taken stop ps i.rest initial.i i.is).spelled
    (left (header_row_found stop i.rest w.cores c.s c.at c.is)
    (left (rows_take set stop w.cores initial.i.names c.s.rest (rows_by initial.i.names es r.rest) most r.is).spelled (all_left r.rest))) in
    let whole = left one (left two (left three (all_left b.ending))) in
    let same : r.rest ≡ b.ending = same_end last.taken whole.taken r.rest b.ending (sym last.parts ∙ whole.parts) (same_length r.rest b.ending r.after_it) in
    let asked : IsAskedWithin w.cores known w.asked =
    subst (λ names. IsAskedWithin w.cores (numbered names (locations_of es)) w.asked) (sym says.names)
    (subst (λ named. IsAskedWithin w.cores (numbered (first_names w) named) w.asked) (sym (named-same w.table)) limits.condition) in
    let tail : tail_at set braces stop w.cores known r.rest ≡ Ok (given known w.asked) =
    subst (λ (l : List Piece). tail_at set braces stop w.cores known l ≡ Ok (given known w.asked)) (sym same)
    (tail_again set braces stop w.cores known b.ending w.asked b.is_ending asked) in
    let table_here : table_at set stop initial.i.registers initial.i.names i.rest
    ≡ Ok (table w.cores (first_registers w.settings w.cores) (rows_by initial.i.names es r.rest)) =
    table_is set stop initial.i.registers initial.i.names i.rest c.s w.cores (first_registers w.settings w.cores) c.at (sym c.is) registers
    ∙ ap (λ (x : Result Rows Fault). x >>= λ rows. Ok (table w.cores (first_registers w.settings w.cores) rows)) r.is in
    rw (i.is, table_here, tail) (ap (λ (t : Litmus). Ok t) (parts_are w initial.i says))

pub sized_found : (text : List ℕ) → length text ≤ longest_text → sized text ≡ Ok text
sized_found text small = let fits : ltb longest_text (length text) ≡ false = le-ltb _ _ small in rw fits refl

pub text_again : (set : Instructions) (text : List ℕ) (t : Litmus) → FollowsGrammar set text t → reading_of set text ≡ Ok t
unfolding reading_of
text_again set text t s =
    let is = s.is in
    rw (sized_found text is.small, header_again text s.written.name is.after is.header, lines_again is.after is.braces is.information)
    (body_found set is.braces s.written is.body s.limits ∙ ap (λ (t : Litmus). Ok t) (sym s.says))

-- ---- taken

abbrev pub written : List ℕ → List Setting → ℕ → List (List (Option Shape)) → Option WrittenCondition → Written
written called settings cores table asked = record { name = called; settings = settings; cores = cores; table = table; asked = asked }

-- what was read is written in these bytes, after a header line with this name
pub record Taken (set : Instructions) (braces called : List ℕ) (t : Litmus) : Type 0 where
  pub w : Written
  pub named : w.name ≡ called
  pub body : IsBody set braces w
  pub limits : KeepsLimits w
  pub says : t ≡ test_written w

pub numbered_few : (xs names : List (List ℕ)) → length (numbered names xs) ≤ length names + length xs
unfolding numbered
numbered_few [] names = omega arith
numbered_few (x ∷ xs) names =
    let one : length (with_name names x) ≤ length names + 1 =
    with_name_by (λ l. length l ≤ length names + 1) names x (λ _. omega arith) (λ _. omega (arith, length-append names (x ∷ []))) in
    omega (arith, one, numbered_few xs (with_name names x))

pub body_taken : (set : Instructions) (called braces : List ℕ) (t : Litmus)
    → body_of set called braces (pieces_of set braces).1 (pieces_of set braces).0 ≡ Ok t
    → Taken set braces called t
unfolding body_of table_at
body_taken set called braces t e =
    let stop = (pieces_of set braces).1 in
    let ps = (pieces_of set braces).0 in
    let i = bind_ok (initial_at stop [] ps) _ t e in
    let b = bind_ok (table_at set stop i.0.0.registers i.0.0.names i.0.1) _ t i.2 in
    let tail = bind_ok (tail_at set braces stop b.0.cores b.0.rows.names b.0.rows.rest) _ t b.2 in
    let header = section_of row_ends stop i.0.1 in
    let c = bind_ok (columns header.stop most_cores 0 header.tokens) _ b.0 b.1 in
    let g = bind_ok (registers_of c.0 i.0.0.registers) _ b.0 c.2 in
    let r = bind_ok (rows_at set stop c.0 i.0.0.names header.rest) _ b.0 g.2 in
    let is_table : table c.0 g.0 r.0 ≡ b.0 = ok_is (table c.0 g.0 r.0) b.0 r.2 in
    let initial = initial_taken stop ps i.0.1 i.0.0 i.1 in
    let columns = header_row_takes stop i.0.1 c.0 c.1 in
    let settings = initial.settings in
    let says = said settings i.0.0 initial.holds initial.fits in
    let few : length i.0.0.names ≤ 16 =
    rw says.names (let count = numbered_few (names_in settings) [] in let most = initial.fits.few in omega (arith, count, most)) in
    let rows = rows_take set stop c.0 i.0.0.names header.rest r.0 few r.1 in
    let es = placed_in rows.table in
    let known = numbered i.0.0.names (locations_of es) in
    let tail_here : tail_at set braces stop c.0 r.0.names r.0.rest ≡ Ok tail.0 =
    subst (λ (b : Table). tail_at set braces stop b.cores b.rows.names b.rows.rest ≡ Ok tail.0) (sym is_table) tail.1 in
    let names_are : r.0.names ≡ known = ap (λ (r : Rows). r.names) rows.given in
    let instrs_are : r.0.instrs ≡ instrs_with known es = ap (λ (r : Rows). r.instrs) rows.given in
    let ends =
    tail_takes set braces stop c.0 known r.0.rest tail.0 rows.within.room
    (subst (λ names. tail_at set braces stop c.0 names r.0.rest ≡ Ok tail.0) names_are tail_here) in
    let w : Written = written called settings c.0 rows.table ends.c in
    let has : IsTrue (has_cores c.0 settings) = says.cores c.0 g.0 g.1 in
    let registers : first_registers settings c.0 ≡ g.0 = ok_is (first_registers settings c.0) g.0 (sym (says.registers c.0 has) ∙ g.1) in
    let read : test_of called tail.0.1 i.0.0.words b.0.registers b.0.rows.instrs tail.0.0 ≡ t =
    ok_is (test_of called tail.0.1 i.0.0.words b.0.registers b.0.rows.instrs tail.0.0) t tail.2 in
    let table_read : test_of called tail.0.1 i.0.0.words g.0 r.0.instrs tail.0.0 ≡ t =
    subst (λ (b : Table). test_of called tail.0.1 i.0.0.words b.registers b.rows.instrs tail.0.0 ≡ t) (sym is_table) read in
    let gives : parts_give w i.0.0 ≡ t =
    subst (λ registers. test_of called (given known ends.c).1 i.0.0.words registers (instrs_with known es) (given known ends.c).0 ≡ t) (sym registers)
    (subst (λ instrs. test_of called (given known ends.c).1 i.0.0.words g.0 instrs (given known ends.c).0 ≡ t) instrs_are
    (subst (λ (g' : Given). test_of called g'.1 i.0.0.words g.0 r.0.instrs g'.0 ≡ t) ends.gives table_read)) in
    record {
      w = w;
      named = refl;
      body = record {
        rows = header.rest;
        ending = r.0.rest;
        head = record {
          columns = i.0.1;
          initial = initial.spelled;
          header_row = columns;
        };
        are_rows = rows.spelled;
        is_ending = ends.ending;
      };
      limits = record {
        settings = initial.fits;
        cores = has;
        rows = columns_within (numbered [] (names_in settings)) rows.table (subst (λ names. EntriesWithin names es) says.names rows.within);
        condition = subst (λ named. IsAskedWithin c.0 (numbered (numbered [] (names_in settings)) named) ends.c) (named-same rows.table)
            (subst (λ names. IsAskedWithin c.0 (numbered names (locations_of es)) ends.c) says.names ends.within);
      };
      says = sym gives ∙ parts_are w i.0.0 says;
    }

pub sized_taken : (text bytes : List ℕ) → sized text ≡ Ok bytes → (length text ≤ longest_text) × (text ≡ bytes)
sized_taken text bytes e =
    elim (chosen (ltb longest_text (length text)) _ (Ok text) (Ok bytes) e) [
      | inl hit ↦ absurd cc
      | inr miss ↦ (ltb-false _ _ miss.0, ok_is text bytes miss.1)
    ]

pub text_takes : (set : Instructions) (text : List ℕ) (t : Litmus) → reading_of set text ≡ Ok t → FollowsGrammar set text t
unfolding reading_of
text_takes set text t e =
    let s = bind_ok (sized text) _ t e in
    let small = sized_taken text s.0 s.1 in
    let h = bind_ok (header_at s.0) _ t s.2 in
    let b = bind_ok (braces_at h.0.1) _ t h.2 in
    let header : header_at text ≡ Ok (h.0.0, h.0.1) = subst (λ bytes. header_at bytes ≡ Ok (h.0.0, h.0.1)) (sym small.1) h.1 in
    let k = body_taken set h.0.0 b.0 t b.2 in
    record {
      written = k.w;
      is = record {
        small = small.0;
        after = h.0.1;
        braces = b.0;
        header = subst (λ called. IsHeaderLine text called h.0.1) (sym k.named) (header_takes text h.0.0 h.0.1 header);
        information = lines_take h.0.1 b.0 b.1;
        body = k.body;
      };
      limits = k.limits;
      says = k.says;
    }
