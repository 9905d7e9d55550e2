-- What a text spells is within the limits of a test, for what is written keeps them.
use Rattle.litmus_reader.proofs.Vocabulary.{◌≡◌, ℕ, zero, suc, ◌≤◌, ◌<◌, ◌^◌, Bool, true, false, cond, not, eqb, ltb, ◌&&◌, List, [], ◌∷◌}
use Rattle.litmus_reader.proofs.Vocabulary.{◌++◌, length, map, All, Option, Some, None, Ok, refl, sym, ap, subst, ◌∙◌, arith, list_all}
use Rattle.litmus_reader.proofs.Vocabulary.{bytes_eq, IsUtf8, and_parts, and_from, ltb-true, nat_tests, AllPass-from_list_all, All-weaker}
use Rattle.litmus_reader.proofs.Vocabulary.{All-nil, All-cons, All-head, All-tail, All-map, length-map, length-map-range_with_len}
use Rattle.litmus_reader.proofs.Vocabulary.{range_with_len, flat_map, Litmus, IsTest, KnownLocation, ConstantIsWord, IsProgram, IsWord}
use Rattle.litmus_reader.proofs.Vocabulary.{AreRegisters, NamesExist, atoms_in, negations_in, Condition, is_name, is_location_name}
use Rattle.litmus_reader.proofs.Vocabulary.{is_register_word, is_test_name, is_printable, begins_name, continues_name, last_byte, Term, And}
use Rattle.litmus_reader.proofs.Vocabulary.{Or, Symbol, Stop, Piece, header_at, Initial, initial_at, Table, table_at, tail_at, test_of}
use Rattle.litmus_reader.proofs.Vocabulary.{body_of, reading_of, numbered, Fits, first_registers, first_registers_of, value_in, given_value}
use Rattle.litmus_reader.proofs.Vocabulary.{names_in, in_field, in_rows, column, location_in, instr_with, ValueFits, Shape, store_imm}
use Rattle.litmus_reader.proofs.Vocabulary.{store_reg, load, set_imm, set_reg, fence, xchg, xadd, IsAtom, says_true, says_false}
use Rattle.litmus_reader.proofs.Vocabulary.{says_setting, AreJoined, IsConjunction, IsProposition, IsUnit, in_brackets, condition, MayAsk}
use Rattle.litmus_reader.proofs.Vocabulary.{nothing, a_condition, IsEnding, at_once, after_locations, names_asked, IsAskedWithin}
use Rattle.litmus_reader.proofs.Vocabulary.{settings_in, locations_in, atoms_of, PhraseFits, claim_by, Setting, of_register, of_location}
use Rattle.litmus_reader.proofs.Vocabulary.{Phrase, truth, atom, negation, both, either, WrittenCondition, Written, tokens_in, stop_of}
use Rattle.litmus_reader.proofs.Vocabulary.{condition_of, AreWithin, Instr, slice_index_or, Eax, Ebx, Ecx, Edx, Esi, Edi, Instructions}
use Rattle.litmus_tokens.specs.Shapes.{compare_exchange, locked_constant, locked_register, locked_negate, combine_constant, combine_register, negate, swap}
use Rattle.litmus_tokens.specs.Shapes as shapes
use Rattle.std.proofs.lemmas.Str.{IsUtf8-from_ascii}
use Rattle.std.proofs.lemmas.Str.Ascii.{IsAscii-from_all}
use Rattle.std.specs.Option.{ForSome}
use Rattle.tso_terms.specs.Litmus.{IsCondition as IsConditionOf}
use Rattle.litmus_tokens.proofs.Pieces.{begins_in_name}
use Rattle.litmus_reader.specs.GrammarInitial as initial
use Rattle.litmus_reader.specs.GrammarConditions as conditions
use Rattle.litmus_reader.specs.GrammarTest.{IsBody, IsText, KeepsLimits, first_names, located_in_rows, located, test_written}
use Rattle.litmus_reader.proofs.GrammarNames.{AllKnown, all_known, all_known_more, known_parts, place_below}
use Rattle.litmus_reader.proofs.GrammarPhrases.{known_both, each_fits, names_in-append}
use Rattle.litmus_reader.proofs.NamesSpelled.{Spelled, AreNames, spelled_both, names_numbered, setting_spelled, state_spelled, rows_named}
use Rattle.litmus_reader.proofs.GrammarAtoms.{fits_atom}
use Rattle.litmus_reader.proofs.GrammarTest.{body_taken, text_takes}
use Rattle.litmus_reader.proofs.GrammarColumns.{grow}
use Rattle.litmus_reader.proofs.GrammarHeader.{header_takes}
use Rattle.litmus_reader.proofs.GrammarTokens.{some_is}

-- ---- names are text

each_ascii : (p : ℕ → Bool) → ((c : ℕ) → p c ≡ true → c < 128) → (cs : List ℕ) → list_all p cs ≡ true → IsUtf8 cs
each_ascii p small cs h = IsUtf8-from_ascii cs (IsAscii-from_all cs (All-weaker (λ c. p c ≡ true) (λ c. c < 128) small cs (AllPass-from_list_all p cs h)))

continues_ascii : (c : ℕ) → continues_name c ≡ true → c < 128
continues_ascii c h = grind (arith, nat_tests)

printable_ascii : (c : ℕ) → is_printable c ≡ true → c < 128
printable_ascii c h = grind (arith, nat_tests)

location_text : (x : List ℕ) → is_location_name x ≡ true → IsUtf8 x
location_text [] h = absurd cc
location_text (c ∷ cs) h =
    let plain = and_parts (is_name (c ∷ cs) && not (is_register_word (c ∷ cs))) _ h in
    let name = and_parts (is_name (c ∷ cs)) _ plain.0 in
    let short = and_parts (begins_name c && list_all continues_name cs) _ name.0 in
    let parts = and_parts (begins_name c) (list_all continues_name cs) short.0 in
    each_ascii continues_name continues_ascii (c ∷ cs) (and_from (continues_name c) (list_all continues_name cs) (begins_in_name c parts.0) parts.1)

test_text : (x : List ℕ) → is_test_name x ≡ true → IsUtf8 x
test_text [] h = absurd cc
test_text (c ∷ cs) h =
    let short = and_parts (not (eqb c 32) && not (eqb (last_byte c cs) 32) && list_all is_printable (c ∷ cs)) _ h in
    let parts = and_parts (not (eqb c 32) && not (eqb (last_byte c cs) 32)) (list_all is_printable (c ∷ cs)) short.0 in
    each_ascii is_printable printable_ascii (c ∷ cs) parts.1

-- ---- phrases

-- so many negations are within one another at most, and each location's name is one
record KeepsPhrase (d : ℕ) (p : Phrase) : Type 0 where
  pub spelled : Spelled (locations_in p)
  pub negations : (names : List (List ℕ)) → negations_in (claim_by names p) ≤ d

atom_keeps : (d : ℕ) (ts : List Term) (p : Phrase) → IsAtom ts p → KeepsPhrase d p
atom_keeps d _ _ says_true = record { spelled = refl; negations = λ names. omega arith }
atom_keeps d _ _ says_false = record { spelled = refl; negations = λ names. omega arith }
atom_keeps d _ _ (says_setting ts s is) = record { spelled = setting_spelled ts s is; negations = none s }
  where
    none : (s : Setting) (names : List (List ℕ)) → negations_in (claim_by names (atom s)) ≤ d
    none (of_register core reg v) names = omega arith
    none (of_location x v) names = omega arith

both_keep : (d : ℕ) (p q : Phrase) → KeepsPhrase d p → KeepsPhrase d q → KeepsPhrase d (both p q)
both_keep d p q h k = record {
  spelled =
      ap (list_all is_location_name) (names_in-append (settings_in p) (settings_in q))
      ∙ spelled_both (locations_in p) (locations_in q) h.spelled k.spelled;
  negations = λ names. let m = h.negations names in let n = k.negations names in omega (arith, m, n);
}

either_keep : (d : ℕ) (p q : Phrase) → KeepsPhrase d p → KeepsPhrase d q → KeepsPhrase d (either p q)
either_keep d p q h k = let b = both_keep d p q h k in record { spelled = b.spelled; negations = b.negations }

abbrev Keeping : ℕ → (List Term → Phrase → Type 0) → Type 0
Keeping d Is = (ts : List Term) (p : Phrase) → Is ts p → KeepsPhrase d p

joined_keep : (s : Symbol) (join : Phrase → Phrase → Phrase) (Is : List Term → Phrase → Type 0) (d : ℕ)
    → ((p q : Phrase) → KeepsPhrase d p → KeepsPhrase d q → KeepsPhrase d (join p q))
    → Keeping d Is
    → Keeping d (AreJoined s join Is)
joined_keep s join Is d two part _ _ (conditions.one ts p is) = part ts p is
joined_keep s join Is d two part _ _ (conditions.more ts us p q are is) = two p q (joined_keep s join Is d two part ts p are) (part us q is)

proposition_keeps : (Is : List Term → Phrase → Type 0) (d : ℕ) → Keeping d Is → Keeping d (IsProposition Is)
proposition_keeps Is d part = joined_keep Or either (IsConjunction Is) d (either_keep d) (joined_keep And both Is d (both_keep d) part)

next_keeps : (n : ℕ) → Keeping n (IsUnit n) → Keeping (suc n) (IsUnit (suc n))
next_keeps n inner _ _ (conditions.plain ts p is) = atom_keeps (suc n) ts p is
next_keeps n inner _ _ (conditions.negated t ts p is_not is) =
    let k = inner ts p is in record { spelled = k.spelled; negations = λ names. let m = k.negations names in omega (arith, m) }
next_keeps n inner _ _ (in_brackets ts p is) =
    let k = proposition_keeps (IsUnit n) n inner ts p is in record { spelled = k.spelled; negations = λ names. let m = k.negations names in omega (arith, m) }

unit_keeps : (n : ℕ) → Keeping n (IsUnit n)
unit_keeps zero = atom_keeps zero
unit_keeps (suc n) = next_keeps n (unit_keeps n)

exist_by : (cores : ℕ) (names : List (List ℕ)) (p : Phrase)
    → AllKnown names (locations_in p)
    → PhraseFits cores p
    → NamesExist cores (length names) (claim_by names p)
exist_by cores names (truth b) k f = tt
exist_by cores names (atom (of_register core reg v)) k f = (fits_atom cores (of_register core reg v) f).0
exist_by cores names (atom (of_location x v)) k f = place_below (bytes_eq x) names k.0
exist_by cores names (negation p) k f = exist_by cores names p k f
exist_by cores names (both p q) k f =
    let known = known_both p q names k in
    let fits = each_fits cores p q f in
    (exist_by cores names p known.0 fits.0, exist_by cores names q known.1 fits.1)
exist_by cores names (either p q) k f =
    let known = known_both p q names k in
    let fits = each_fits cores p q f in
    (exist_by cores names p known.0 fits.0, exist_by cores names q known.1 fits.1)

atoms_by : (names : List (List ℕ)) (p : Phrase) → atoms_in (claim_by names p) ≡ atoms_of p
atoms_by names (truth b) = refl
atoms_by names (atom (of_register core reg v)) = refl
atoms_by names (atom (of_location x v)) = refl
atoms_by names (negation p) = atoms_by names p
atoms_by names (both p q) = omega (arith, atoms_by names p, atoms_by names q)
atoms_by names (either p q) = omega (arith, atoms_by names p, atoms_by names q)

-- what is asked, if it is
abbrev AskedKeeps : Option WrittenCondition → Type 0
AskedKeeps None = Unit {0}
AskedKeeps (Some c) = KeepsPhrase 64 c.phrase

may_keep : (ts : List Term) (c : Option WrittenCondition) → MayAsk ts c → AskedKeeps c
may_keep _ _ nothing = tt
may_keep _ _ (a_condition _ _ _ (condition ts us q p is_quantifier is)) = proposition_keeps (IsUnit 64) 64 (unit_keeps 64) us p is

ending_keeps : (set : Instructions) (text : List ℕ) (stop : Stop) (ps : List Piece) (c : Option WrittenCondition) → IsEnding set text stop ps c → AskedKeeps c
ending_keeps set text stop _ _ (at_once ps c ended is) = may_keep _ c is
ending_keeps set text stop _ _ (after_locations w o ps bytes c is_word is_open closes ended is) = may_keep _ c is

asked_spelled : (c : Option WrittenCondition) → AskedKeeps c → Spelled (names_asked c)
asked_spelled None k = refl
asked_spelled (Some c) k = k.spelled

body_names : (set : Instructions) (braces : List ℕ) (w : Written) → IsBody set braces w → AreNames (located w)
body_names set braces w b =
    let first = names_numbered (names_in w.settings) [] (record { spelled = refl; differ = refl }) (state_spelled _ w.settings b.head.initial.is) in
    let further = names_numbered (flat_map location_in (in_rows w.table)) (first_names w) first (rows_named set w.cores _ w.table b.are_rows.is) in
    names_numbered (names_asked w.asked) (located_in_rows w) further (asked_spelled w.asked (ending_keeps set braces _ _ w.asked b.is_ending))

-- ---- words and registers

value_word : (is : Setting → Bool) (otherwise : ℕ) (settings : List Setting)
    → IsWord otherwise
    → list_all (λ s. ltb (given_value s) (2 ^ 32)) settings ≡ true
    → IsWord (value_in is otherwise settings)
value_word is otherwise [] w all = w
value_word is otherwise (s ∷ rest) w all =
    let both = and_parts (ltb (given_value s) (2 ^ 32)) (list_all (λ s. ltb (given_value s) (2 ^ 32)) rest) all in
    value_word is (cond (is s) (given_value s) otherwise) rest (by_test (is s) (ltb-true _ _ both.0)) both.1
  where
    by_test : (b : Bool) → given_value s < 2 ^ 32 → IsWord (cond b (given_value s) otherwise)
    by_test true given = given
    by_test false given = w

first_value : (is : Setting → Bool) (settings : List Setting) → Fits settings → IsWord (value_in is 0 settings)
first_value is settings fits = value_word is 0 settings (omega arith) fits.values

registers_are : (settings : List Setting) (cores : ℕ) → Fits settings → All AreRegisters (first_registers settings cores)
registers_are settings cores fits = All-map AreRegisters (first_registers_of settings) (range_with_len 0 cores) (λ i d lt. record {
  six = refl;
  words =
      All-map IsWord (λ r. value_in (initial.names_register (slice_index_or (range_with_len 0 cores) i d) r) 0 settings)
      (Eax ∷ Ebx ∷ Ecx ∷ Edx ∷ Esi ∷ Edi ∷ []) (λ j e less. first_value _ settings fits);
})

-- ---- programs

-- what holds of each, one by one
abbrev Each : {X : Type 0} → (X → Type 0) → List X → Type 0
Each P [] = Unit {0}
Each P (x ∷ xs) = P x × Each P xs

each_part : {X : Type 0} (P : X → Type 0) (xs ys : List X) → Each P (xs ++ ys) → Each P xs × Each P ys
each_part P [] ys h = (tt, h)
each_part P (x ∷ xs) ys h = let parts = each_part P xs ys h.1 in ((h.0, parts.0), parts.1)

each_join : {X : Type 0} (P : X → Type 0) (xs ys : List X) → Each P xs → Each P ys → Each P (xs ++ ys)
each_join P [] ys h k = k
each_join P (x ∷ xs) ys h k = (h.0, each_join P xs ys h.1 k)

each_all : {X Y : Type 0} (P : X → Type 0) (Q : Y → Type 0) (f : X → Y) → ((x : X) → P x → Q (f x)) → (xs : List X) → Each P xs → All Q (map f xs)
each_all P Q f so [] h = All-nil Q
each_all P Q f so (x ∷ xs) h = All-cons Q (f x) (map f xs) (so x h.0) (each_all P Q f so xs h.1)

from_all : {X : Type 0} (P : X → Type 0) (xs : List X) → All P xs → Each P xs
from_all P [] h = tt
from_all P (x ∷ xs) h = (All-head P x xs h, from_all P xs (All-tail P x xs h))

in_one_field : (P : Shape → Type 0) (core : ℕ) (fields : List (Option Shape))
    → Each P (flat_map in_field fields)
    → Each P (in_field (slice_index_or fields core None))
in_one_field P zero [] h = tt
in_one_field P (suc core) [] h = tt
in_one_field P zero (c ∷ cs) h = (each_part P (in_field c) (flat_map in_field cs) h).0
in_one_field P (suc core) (c ∷ cs) h = in_one_field P core cs (each_part P (in_field c) (flat_map in_field cs) h).1

in_one_column : (P : Shape → Type 0) (core : ℕ) (all : List (List (Option Shape))) → Each P (in_rows all) → Each P (column core all)
in_one_column P core [] h = tt
in_one_column P core (one ∷ others) h =
    let parts = each_part P (flat_map in_field one) (in_rows others) h in
    each_join P (in_field (slice_index_or one core None)) (column core others) (in_one_field P core one parts.0) (in_one_column P core others parts.1)

shapes_known : (shapes : List Shape) (names : List (List ℕ))
    → AllKnown names (flat_map location_in shapes)
    → Each (λ shape. AllKnown names (location_in shape)) shapes
shapes_known [] names k = tt
shapes_known (s ∷ shapes) names k =
    let parts = known_parts (location_in s) (flat_map location_in shapes) names k in
    (parts.0, shapes_known shapes names parts.1)

location_known : (names : List (List ℕ)) (shape : Shape) → AllKnown names (location_in shape) → KnownLocation (length names) (instr_with names shape)
location_known names (store_imm x v) k = place_below (bytes_eq x) names k.0
location_known names (store_reg x reg) k = place_below (bytes_eq x) names k.0
location_known names (load reg x) k = place_below (bytes_eq x) names k.0
location_known names (set_imm reg v) k = tt
location_known names (set_reg reg other) k = tt
location_known names fence k = tt
location_known names (xchg x reg) k = place_below (bytes_eq x) names k.0
location_known names (xadd x reg) k = place_below (bytes_eq x) names k.0
location_known names (compare_exchange x reg) k = place_below (bytes_eq x) names k.0
location_known names (locked_constant operator x v) k = place_below (bytes_eq x) names k.0
location_known names (locked_register operator x reg) k = place_below (bytes_eq x) names k.0
location_known names (locked_negate x) k = place_below (bytes_eq x) names k.0
location_known names (combine_constant operator reg v) k = tt
location_known names (combine_register operator reg other) k = tt
location_known names (negate reg) k = tt
location_known names (swap reg other) k = tt
location_known names shapes.nothing k = tt

constant_word : (names : List (List ℕ)) (shape : Shape) → ValueFits shape → ConstantIsWord (instr_with names shape)
constant_word names (store_imm x v) f = f
constant_word names (store_reg x reg) f = tt
constant_word names (load reg x) f = tt
constant_word names (set_imm reg v) f = f
constant_word names (set_reg reg other) f = tt
constant_word names fence f = tt
constant_word names (xchg x reg) f = tt
constant_word names (xadd x reg) f = tt
constant_word names (compare_exchange x reg) f = tt
constant_word names (locked_constant operator x v) f = f
constant_word names (locked_register operator x reg) f = tt
constant_word names (locked_negate x) f = tt
constant_word names (combine_constant operator reg v) f = f
constant_word names (combine_register operator reg other) f = tt
constant_word names (negate reg) f = tt
constant_word names (swap reg other) f = tt
constant_word names shapes.nothing f = tt

-- ---- the test

room_asked : (cores : ℕ) (names : List (List ℕ)) (c : Option WrittenCondition) → IsAskedWithin cores names c → length (numbered names (names_asked c)) ≤ 16
unfolding numbered
room_asked cores names None h = h
room_asked cores names (Some c) h = h.room

condition_fits : (cores : ℕ) (names : List (List ℕ)) (c : Option WrittenCondition) → AskedKeeps c → IsAskedWithin cores names c
    → ForSome (condition_of (numbered names (names_asked c)) c) (IsConditionOf cores (length (numbered names (names_asked c))))
condition_fits cores names None k h = λ x e. absurd cc
condition_fits cores names (Some c) k h = λ x e.
    let all = numbered names (locations_in c.phrase) in
    subst (IsConditionOf cores (length all)) (some_is _ x e) (record {
      names_known = exist_by cores all c.phrase (all_known (locations_in c.phrase) names) h.fits;
      atoms = omega (arith, atoms_by all c.phrase, h.few);
      negations = k.negations all;
    })

column_words : (w : Written) (core : ℕ) → AreWithin (first_names w) w.table → All ConstantIsWord (map (instr_with (located w)) (column core w.table))
column_words w core h =
    each_all ValueFits ConstantIsWord (instr_with (located w)) (constant_word (located w)) (column core w.table)
    (in_one_column ValueFits core w.table (from_all ValueFits (in_rows w.table) h.values))

column_fits : (w : Written) (core : ℕ) → AreWithin (first_names w) w.table → IsProgram (length (located w)) (map (instr_with (located w)) (column core w.table))
column_fits w core h =
    let all = located w in
    let Knows : Shape → Type 0 = λ shape. AllKnown all (location_in shape) in
    let named = flat_map location_in (in_rows w.table) in
    let known = shapes_known (in_rows w.table) all (all_known_more named (names_asked w.asked) (located_in_rows w) (all_known named (first_names w))) in
    record {
      size = omega (arith, length-map (column core w.table) (instr_with all), h.few core);
      locations_known =
          each_all Knows (KnownLocation (length all)) (instr_with all) (location_known all) (column core w.table)
          (in_one_column Knows core w.table known);
    }

written_is_test : (set : Instructions) (text : List ℕ) (w : Written) → IsText set text w → KeepsLimits w → IsTest (test_written w)
written_is_test set text w is limits =
    let names = body_names set is.braces w is.body in
    let all = located w in
    let asked = ending_keeps set is.braces _ _ w.asked is.body.is_ending in
    let some = grow 0 _ w.cores is.body.head.header_row.is.columns in
    let few = is.body.head.header_row.is.few in
    let many : length (test_written w).programs ≡ w.cores = length-map-range_with_len _ 0 w.cores in
    let cores = range_with_len 0 w.cores in
    let program : ℕ → List Instr = λ c. map (instr_with all) (column c w.table) in
    record {
      name_spelled = is.header.good;
      some_core = omega (arith, many, some);
      cores = omega (arith, many, few);
      registers_given = length-map-range_with_len _ 0 w.cores ∙ sym many;
      location_count = room_asked w.cores (located_in_rows w) w.asked limits.condition;
      locations_spelled = names.spelled;
      locations_differ = names.differ;
      words_given = length-map all _;
      values = record {
        words = All-map IsWord (λ x. value_in (initial.same_place (of_location x 0)) 0 w.settings) all (λ i d lt. first_value _ w.settings limits.settings);
        registers = registers_are w.settings w.cores limits.settings;
        constants = All-map (λ program. All ConstantIsWord program) program cores (λ i d lt. column_words w (slice_index_or cores i d) limits.rows);
      };
      programs_fit = All-map (IsProgram (length all)) program cores (λ i d lt. column_fits w (slice_index_or cores i d) limits.rows);
      condition_fits = rw many (condition_fits w.cores (located_in_rows w) w.asked asked limits.condition);
    }

pub spelled_is_test : (set : Instructions) (text : List ℕ) (t : Litmus) → reading_of set text ≡ Ok t → IsTest t
spelled_is_test set text t e = let f = text_takes set text t e in subst IsTest (sym f.says) (written_is_test set text f.written f.is f.limits)

pub name_is_text : (text called rest : List ℕ) → Ok (called, rest) ≡ header_at text → IsUtf8 called
name_is_text text called rest at = test_text called (header_takes text called rest (sym at)).good

pub names_are_text : (set : Instructions) (text : List ℕ) (rest : List Piece) (i : Initial) (t : Table)
    (asked : Option Condition) (names : List (List ℕ))
    → initial_at (stop_of set text) [] (tokens_in set text) ≡ Ok (i, rest)
    → table_at set (stop_of set text) i.registers i.names rest ≡ Ok t
    → tail_at set text (stop_of set text) t.cores t.rows.names t.rows.rest ≡ Ok (asked, names)
    → All (λ x. IsUtf8 x) names
unfolding body_of
names_are_text set text rest i t asked names first further ending =
    let read : body_of set [] text (stop_of set text) (tokens_in set text)
    ≡ Ok (test_of [] names i.words t.registers t.rows.instrs asked) =
    rw (first, further, ending) refl in
    let k = body_taken set [] text _ read in
    let same : names ≡ located k.w = ap (λ (t : Litmus). t.locations) k.says in
    All-weaker (λ x. is_location_name x ≡ true) (λ x. IsUtf8 x) location_text names
    (AllPass-from_list_all is_location_name names (rw same (body_names set text k.w k.body).spelled))
