-- What has been read of the initial state is what its settings say.
use Rattle.litmus_reader.proofs.Vocabulary.{◌≡◌, ℕ, zero, suc, ◌+◌, ◌-◌, ◌<◌, Bool, true, false, cond, eqb, eqb-true, ltb, not, ◌&&◌, List}
use Rattle.litmus_reader.proofs.Vocabulary.{[], ◌∷◌, ◌++◌, length, map, get_or, replicate, Result, Ok, refl, sym, ap, subst, ◌∙◌}
use Rattle.litmus_reader.proofs.Vocabulary.{append_assoc, arith, list_any, list_all, range_with_len, bytes_eq, ltb-true, and_parts}
use Rattle.litmus_reader.proofs.Vocabulary.{or_parts, not-true, length-append, append-nil, map-append, length-set, ext_get_or}
use Rattle.litmus_reader.proofs.Vocabulary.{get_or-set_same, get_or-set_other, length-map-range_with_len, get_or-map-range_with_len}
use Rattle.litmus_reader.proofs.Vocabulary.{list_any-append, list_all-append, index_of, with_value, Reg, Eax, Ebx, Ecx, Edx, Esi, Edi}
use Rattle.litmus_reader.proofs.Vocabulary.{decimal_value, Fault, ◌>>=◌, core_of, Given, Initial, with_register, registers_with, words_of}
use Rattle.litmus_reader.proofs.Vocabulary.{same_place, each_once, names_in, Fits, has_core, value_in, names_register, first_words}
use Rattle.litmus_reader.proofs.Vocabulary.{first_registers_of, first_registers, numbered, with_name, Setting, of_register, of_location}
use Rattle.litmus_reader.proofs.Vocabulary.{eq-eqb, lt-ltb, ◌||◌}
use Rattle.std.specs.Cmp.Lexicographic.{nat_list_eq_equiv}
use Rattle.litmus_reader.proofs.GrammarTokens.{bind_ok}
use Rattle.litmus_reader.proofs.GrammarPhrases.{names_in-append}
use Rattle.litmus_reader.proofs.GrammarAtoms.{core_ok}
use Rattle.litmus_reader.proofs.GrammarNames.{same_bytes}
use Rattle.litmus_reader.proofs.GrammarInitialJudged.{words_in, settings_of_registers, unplaced, Holds, a_word_each, location_given, once_apart}
use Rattle.litmus_reader.proofs.Readings.{Says}

-- ---- first words and registers

-- the word that a location begins as, and what a register of a core begins as
abbrev pub first_word : List ℕ → ℕ → List Setting → ℕ
first_word x otherwise settings = value_in (same_place (of_location x 0)) otherwise settings

abbrev pub first_register : ℕ → Reg → ℕ → List Setting → ℕ
first_register core reg otherwise settings = value_in (names_register core reg) otherwise settings

-- ---- names

names_said : (done rest : List Setting) → each_once (done ++ rest) ≡ true → numbered (names_in done) (names_in rest) ≡ names_in (done ++ rest)
unfolding numbered
names_said done [] once = ap names_in (sym (append-nil done))
names_said done (of_register core reg v ∷ rest) once =
    let all : (done ++ of_register core reg v ∷ []) ++ rest ≡ done ++ of_register core reg v ∷ rest = append_assoc done (of_register core reg v ∷ []) rest in
    let same : names_in (done ++ of_register core reg v ∷ []) ≡ names_in done =
    names_in-append done (of_register core reg v ∷ []) ∙ append-nil (names_in done) in
    ap (λ (l : List (List ℕ)). numbered l (names_in rest)) (sym same)
    ∙ names_said (done ++ of_register core reg v ∷ []) rest (ap each_once all ∙ once)
    ∙ ap names_in all
names_said done (of_location x v ∷ rest) once =
    let all : (done ++ of_location x v ∷ []) ++ rest ≡ done ++ of_location x v ∷ rest = append_assoc done (of_location x v ∷ []) rest in
    let new : list_any (bytes_eq x) (names_in done) ≡ false = sym (location_given x v done) ∙ once_apart done rest (of_location x v) once in
    let with_it : with_name (names_in done) x ≡ names_in (done ++ of_location x v ∷ []) =
    ap (λ (b : Bool). cond b (names_in done) (names_in done ++ x ∷ [])) new
    ∙ sym (names_in-append done (of_location x v ∷ [])) in
    ap (λ (l : List (List ℕ)). numbered l (names_in rest)) with_it ∙ names_said (done ++ of_location x v ∷ []) rest (ap each_once all ∙ once) ∙ ap names_in all

-- ---- first words

abbrev NewTo : List (List ℕ) → List (List ℕ) → Type 0
NewTo names xs = list_all (λ x. not (list_any (bytes_eq x) names)) xs ≡ true

-- names with new ones after them
record Extended (names all : List (List ℕ)) : Type 0 where
  pub extra : List (List ℕ)
  pub parts : all ≡ names ++ extra
  pub new : NewTo names extra

with_one : (names extra xs : List (List ℕ)) (x : List ℕ) → NewTo names extra → ((e : List (List ℕ)) → NewTo names e → Extended names (numbered (names ++ e) xs))
    → (b : Bool) → list_any (bytes_eq x) (names ++ extra) ≡ b → Extended names (numbered (cond b (names ++ extra) ((names ++ extra) ++ x ∷ [])) xs)
with_one names extra xs x new further true known = further extra new
with_one names extra xs x new further false fresh =
    let apart = or_parts (list_any (bytes_eq x) names) (list_any (bytes_eq x) extra) (sym (list_any-append (bytes_eq x) names extra) ∙ fresh) in
    let away : list_any (bytes_eq x) names ≡ false = apart.0 in
    let newer : NewTo names (extra ++ x ∷ []) = list_all-append (λ x. not (list_any (bytes_eq x) names)) extra (x ∷ []) ∙ rw (new, away) refl in
    subst (λ (l : List (List ℕ)). Extended names (numbered l xs)) (sym (append_assoc names extra (x ∷ []))) (further (extra ++ x ∷ []) newer)

extended_by : (names others extra : List (List ℕ)) → NewTo names extra → Extended names (numbered (names ++ extra) others)
unfolding numbered
extended_by names [] extra new = record { extra = extra; parts = refl; new = new }
extended_by names (x ∷ xs) extra new = with_one names extra xs x new (λ e n. extended_by names xs e n) (list_any (bytes_eq x) (names ++ extra)) refl

extended : (names others : List (List ℕ)) → Extended names (numbered names others)
extended names others = subst (λ (l : List (List ℕ)). Extended names (numbered l others)) (append-nil names) (extended_by names others [] refl)

any_turned : (x : List ℕ) (names : List (List ℕ)) → list_any (λ y. bytes_eq y x) names ≡ list_any (bytes_eq x) names
any_turned x [] = refl
any_turned x (y ∷ ys) =
    ap (λ (b : Bool). b || list_any (λ y. bytes_eq y x) ys) (nat_list_eq_equiv.symm y x)
    ∙ ap (λ (b : Bool). bytes_eq x y || b) (any_turned x ys)

later_names : (x : List ℕ) (v : ℕ) (rest : List Setting)
    → list_any (λ later. same_place later (of_location x v)) rest ≡ list_any (λ y. bytes_eq y x) (names_in rest)
later_names x v [] = refl
later_names x v (of_register core reg w ∷ rest) = later_names x v rest
later_names x v (of_location y w ∷ rest) = ap (λ (b : Bool). bytes_eq y x || b) (later_names x v rest)

not_given : (x : List ℕ) (otherwise : ℕ) (settings : List Setting)
    → list_any (bytes_eq x) (names_in settings) ≡ false
    → first_word x otherwise settings ≡ otherwise
not_given x otherwise [] e = refl
not_given x otherwise (of_register core reg v ∷ rest) e = not_given x otherwise rest e
not_given x otherwise (of_location y v ∷ rest) e =
    let both = or_parts (bytes_eq x y) (list_any (bytes_eq x) (names_in rest)) e in
    let first : bytes_eq x y ≡ false = both.0 in
    rw first (not_given x otherwise rest both.1)

with_first : {X : Type 0} (a b : X) (xs ys : List X) → a ≡ b → xs ≡ ys → a ∷ xs ≡ b ∷ ys
with_first {X} a b xs ys e f = ap (λ (x : X). x ∷ xs) e ∙ ap (λ (l : List X). b ∷ l) f

not_these : (x : List ℕ) (v : ℕ) (rest : List Setting) (ys : List (List ℕ)) → list_any (λ y. bytes_eq y x) ys ≡ false
    → map (λ y. first_word y (cond (bytes_eq y x) v 0) rest) ys ≡ map (λ y. first_word y 0 rest) ys
not_these x v rest [] e = refl
not_these x v rest (y ∷ ys) e =
    let both = or_parts (bytes_eq y x) (list_any (λ y. bytes_eq y x) ys) e in
    let first : bytes_eq y x ≡ false = both.0 in
    with_first (first_word y (cond (bytes_eq y x) v 0) rest) (first_word y 0 rest) _ _
    (ap (λ (b : Bool). first_word y (cond b v 0) rest) first) (not_these x v rest ys both.1)

words_given : (settings : List Setting) → each_once settings ≡ true → map (λ x. first_word x 0 settings) (names_in settings) ≡ words_in settings
words_given [] once = refl
words_given (of_register core reg v ∷ rest) once = words_given rest (and_parts _ (each_once rest) once).1
words_given (of_location x v ∷ rest) once =
    let both = and_parts (not (list_any (λ later. same_place later (of_location x v)) rest)) (each_once rest) once in
    let apart : list_any (λ y. bytes_eq y x) (names_in rest) ≡ false = sym (later_names x v rest) ∙ not-true _ both.0 in
    let here : first_word x (cond (bytes_eq x x) v 0) rest ≡ v =
    ap (λ (b : Bool). first_word x (cond b v 0) rest) (same_bytes x)
    ∙ not_given x v rest (sym (any_turned x (names_in rest)) ∙ apart) in
    with_first (first_word x (cond (bytes_eq x x) v 0) rest) v _ _ here (not_these x v rest (names_in rest) apart ∙ words_given rest both.1)

no_words : (settings : List Setting) (xs : List (List ℕ)) → NewTo (names_in settings) xs → map (λ x. first_word x 0 settings) xs ≡ replicate (length xs) 0
no_words settings [] new = refl
no_words settings (x ∷ xs) new =
    let both = and_parts (not (list_any (bytes_eq x) (names_in settings))) (list_all (λ x. not (list_any (bytes_eq x) (names_in settings))) xs) new in
    with_first (first_word x 0 settings) 0 _ _ (not_given x 0 settings (not-true _ both.0)) (no_words settings xs both.1)

words_said : (settings : List Setting) (others : List (List ℕ)) → each_once settings ≡ true
    → words_of (length (numbered (names_in settings) others)) (words_in settings) ≡ first_words settings (numbered (names_in settings) others)
words_said settings others once =
    let ext = extended (names_in settings) others in
    let names = names_in settings in
    let count : length (names ++ ext.extra) - length (words_in settings) ≡ length ext.extra =
    omega (arith, length-append names ext.extra, a_word_each settings) in
    let given = words_given settings once in
    let others = no_words settings ext.extra ext.new in
    ap (λ (l : List (List ℕ)). words_of (length l) (words_in settings)) ext.parts ∙ ap (λ (n : ℕ). words_in settings ++ replicate n 0) count
    ∙ ap (λ (l : List ℕ). l ++ replicate (length ext.extra) 0) (sym given) ∙ ap (λ (l : List ℕ). map (λ x. first_word x 0 settings) names ++ l) (sym others)
    ∙ sym (map-append (λ x. first_word x 0 settings) names ext.extra) ∙ ap (map (λ x. first_word x 0 settings)) (sym ext.parts)

-- ---- first registers

register_more : (core : ℕ) (reg : Reg) (otherwise : ℕ) (done : List Setting) (c : List ℕ) (r : Reg) (v : ℕ)
    → first_register core reg otherwise (done ++ of_register c r v ∷ [])
    ≡ cond (eqb (decimal_value c) core && eqb (index_of r) (index_of reg)) v (first_register core reg otherwise done)
register_more core reg otherwise [] c r v = refl
register_more core reg otherwise (of_register d s w ∷ done) c r v =
    register_more core reg (cond (eqb (decimal_value d) core && eqb (index_of s) (index_of reg)) w otherwise) done c r v
register_more core reg otherwise (of_location y w ∷ done) c r v = register_more core reg otherwise done c r v

other_row : (done : List Setting) (core : ℕ) (c : List ℕ) (r : Reg) (v : ℕ)
    → eqb (decimal_value c) core ≡ false
    → first_registers_of (done ++ of_register c r v ∷ []) core ≡ first_registers_of done core
other_row done core c r v other = rw (kept Eax, kept Ebx, kept Ecx, kept Edx, kept Esi, kept Edi) refl
  where
    kept : (reg : Reg) → first_register core reg 0 (done ++ of_register c r v ∷ []) ≡ first_register core reg 0 done
    kept reg = register_more core reg 0 done c r v ∙ ap (λ (b : Bool). cond (b && eqb (index_of r) (index_of reg)) v (first_register core reg 0 done)) other

this_entry : (done : List Setting) (c : List ℕ) (r : Reg) (v : ℕ) (reg : Reg)
    → first_register (decimal_value c) reg 0 (done ++ of_register c r v ∷ [])
    ≡ cond (eqb (index_of r) (index_of reg)) v (first_register (decimal_value c) reg 0 done)
this_entry done c r v reg =
    register_more (decimal_value c) reg 0 done c r v
    ∙ ap (λ (b : Bool). cond (b && eqb (index_of r) (index_of reg)) v (first_register (decimal_value c) reg 0 done))
    (eq-eqb (decimal_value c) (decimal_value c) refl)

this_row : (done : List Setting) (c : List ℕ) (r : Reg) (v : ℕ)
    → with_value (first_registers_of done (decimal_value c)) r v
    ≡ first_registers_of (done ++ of_register c r v ∷ []) (decimal_value c)
this_row done c Eax v = let e : (reg : Reg) → _ = this_entry done c Eax v in rw (e Eax, e Ebx, e Ecx, e Edx, e Esi, e Edi) refl
this_row done c Ebx v = let e : (reg : Reg) → _ = this_entry done c Ebx v in rw (e Eax, e Ebx, e Ecx, e Edx, e Esi, e Edi) refl
this_row done c Ecx v = let e : (reg : Reg) → _ = this_entry done c Ecx v in rw (e Eax, e Ebx, e Ecx, e Edx, e Esi, e Edi) refl
this_row done c Edx v = let e : (reg : Reg) → _ = this_entry done c Edx v in rw (e Eax, e Ebx, e Ecx, e Edx, e Esi, e Edi) refl
this_row done c Esi v = let e : (reg : Reg) → _ = this_entry done c Esi v in rw (e Eax, e Ebx, e Ecx, e Edx, e Esi, e Edi) refl
this_row done c Edi v = let e : (reg : Reg) → _ = this_entry done c Edi v in rw (e Eax, e Ebx, e Ecx, e Edx, e Esi, e Edi) refl

row_at : (done : List Setting) (cores k : ℕ) → k < cores → get_or (first_registers done cores) k [] ≡ first_registers_of done k
row_at done cores k lt = get_or-map-range_with_len (first_registers_of done) 0 cores k k [] lt (omega arith)

register_noted : (done : List Setting) (cores : ℕ) (c : List ℕ) (r : Reg) (v : ℕ) → decimal_value c < cores
    → with_register (first_registers done cores) (decimal_value c) r v ≡ first_registers (done ++ of_register c r v ∷ []) cores
register_noted done cores c r v lt =
    let table = first_registers done cores in
    let row = with_value (get_or table (decimal_value c) []) r v in
    let many : length table ≡ cores = length-map-range_with_len (first_registers_of done) 0 cores in
    let more : length (first_registers (done ++ of_register c r v ∷ []) cores) ≡ cores =
    length-map-range_with_len (first_registers_of (done ++ of_register c r v ∷ [])) 0 cores in
    let set_many : length (with_register table (decimal_value c) r v) ≡ cores = length-set table (decimal_value c) row ∙ many in
    ext_get_or [] (with_register table (decimal_value c) r v) (first_registers (done ++ of_register c r v ∷ []) cores)
    (set_many ∙ sym more)
    (λ k below. by_row k (omega (arith, below, set_many)) (eqb (decimal_value c) k) refl)
  where
    by_row : (k : ℕ) → k < cores → (b : Bool) → eqb (decimal_value c) k ≡ b
        → get_or (with_register (first_registers done cores) (decimal_value c) r v) k [] ≡ get_or (first_registers (done ++ of_register c r v ∷ []) cores) k []
    by_row k below true e =
        let is : decimal_value c ≡ k = eqb-true _ _ e in
        let table = first_registers done cores in
        let room : decimal_value c < length table = omega (arith, lt, length-map-range_with_len (first_registers_of done) 0 cores) in
        subst (λ (n : ℕ). get_or (with_register table (decimal_value c) r v) n [] ≡ get_or (first_registers (done ++ of_register c r v ∷ []) cores) n []) is
        (get_or-set_same table (decimal_value c) (with_value (get_or table (decimal_value c) []) r v) [] room
        ∙ ap (λ (l : List ℕ). with_value l r v) (row_at done cores (decimal_value c) lt)
        ∙ this_row done c r v
        ∙ sym (row_at (done ++ of_register c r v ∷ []) cores (decimal_value c) lt))
    by_row k below false e =
        let table = first_registers done cores in
        get_or-set_other table (decimal_value c) k (with_value (get_or table (decimal_value c) []) r v) []
        (λ is. let hit : eqb (decimal_value c) k ≡ true =
        ap (eqb (decimal_value c)) is ∙ eq-eqb (decimal_value c) (decimal_value c) refl in
        cc)
        ∙ row_at done cores k below ∙ sym (other_row done k c r v e) ∙ sym (row_at (done ++ of_register c r v ∷ []) cores k below)

core_there : (cores remaining : ℕ) (digits : List ℕ) → ltb (decimal_value digits) cores ≡ true → core_of cores remaining digits ≡ Ok (decimal_value digits)
core_there cores remaining digits lt = rw lt refl

registers_found : (cores : ℕ) (gs : List Given) (done : List Setting) → list_all (has_core cores) (map unplaced gs) ≡ true
    → registers_with cores (first_registers done cores) gs ≡ Ok (first_registers (done ++ map unplaced gs) cores)
unfolding registers_with
registers_found cores [] done has = ap (λ (l : List Setting). Ok (first_registers l cores)) (sym (append-nil done))
registers_found cores (g ∷ gs) done has =
    let both = and_parts (ltb (decimal_value g.core) cores) (list_all (has_core cores) (map unplaced gs)) has in
    let noted = register_noted done cores g.core g.reg g.value (ltb-true _ _ both.0) in
    ap (λ (r : Result ℕ Fault).
    r >>= λ core. registers_with cores (with_register (first_registers done cores) core g.reg g.value) gs)
    (core_there cores g.remaining g.core both.0)
    ∙ ap (λ (l : List (List ℕ)). registers_with cores l gs) noted
    ∙ registers_found cores gs (done ++ unplaced g ∷ []) both.1
    ∙ ap (λ (l : List Setting). Ok (first_registers l cores)) (append_assoc done (unplaced g ∷ []) (map unplaced gs))

registers_taken : (cores : ℕ) (registers table : List (List ℕ)) (gs : List Given)
    → registers_with cores registers gs ≡ Ok table
    → list_all (has_core cores) (map unplaced gs) ≡ true
unfolding registers_with
registers_taken cores registers table [] e = refl
registers_taken cores registers table (g ∷ gs) e =
    let core = bind_ok (core_of cores g.remaining g.core) _ table e in
    let further = registers_taken cores (with_register registers core.0 g.reg g.value) table gs core.2 in
    let there : ltb (decimal_value g.core) cores ≡ true = lt-ltb _ _ (core_ok cores g.remaining g.core core.0 core.1).1 in
    rw (there, further) refl

nothing_first : (a n : ℕ) → replicate n (replicate 6 0) ≡ map (first_registers_of []) (range_with_len a n)
nothing_first a zero = refl
nothing_first a (suc n) = ap (λ (l : List (List ℕ)). (replicate 6 0) ∷ l) (nothing_first (a + 1) n)

of_registers_alone : (core : ℕ) (reg : Reg) (otherwise : ℕ) (settings : List Setting)
    → first_register core reg otherwise (settings_of_registers settings) ≡ first_register core reg otherwise settings
of_registers_alone core reg otherwise [] = refl
of_registers_alone core reg otherwise (of_register c r v ∷ rest) =
    of_registers_alone core reg (cond (eqb (decimal_value c) core && eqb (index_of r) (index_of reg)) v otherwise) rest
of_registers_alone core reg otherwise (of_location y v ∷ rest) = of_registers_alone core reg otherwise rest

rows_alone : (settings : List Setting) (cores : List ℕ)
    → map (first_registers_of (settings_of_registers settings)) cores ≡ map (first_registers_of settings) cores
rows_alone settings [] = refl
rows_alone settings (core ∷ cores) =
    with_first (first_registers_of (settings_of_registers settings) core) (first_registers_of settings core) _ _
    (rw (e Eax, e Ebx, e Ecx, e Edx, e Esi, e Edi) refl) (rows_alone settings cores)
  where
    e : (reg : Reg) → first_register core reg 0 (settings_of_registers settings) ≡ first_register core reg 0 settings
    e reg = of_registers_alone core reg 0 settings

pub cores_alone : (cores : ℕ) (settings : List Setting) → list_all (has_core cores) (settings_of_registers settings) ≡ list_all (has_core cores) settings
cores_alone cores [] = refl
cores_alone cores (of_register c r v ∷ rest) = ap (λ (b : Bool). has_core cores (of_register c r v) && b) (cores_alone cores rest)
cores_alone cores (of_location y v ∷ rest) = cores_alone cores rest

pub said : (settings : List Setting) (i : Initial) → Holds settings i → Fits settings → Says settings i
said settings i h fits = record {
  names = h.names ∙ sym (names_said [] settings fits.once);
  words = λ others. rw (h.names, h.words) (words_said settings others fits.once);
  registers = λ cores has.
      let here : list_all (has_core cores) (map unplaced i.registers) ≡ true = ap (list_all (has_core cores)) h.registers ∙ cores_alone cores settings ∙ has in
      ap (λ (l : List (List ℕ)). registers_with cores l i.registers) (nothing_first 0 cores) ∙ registers_found cores i.registers [] here
      ∙ ap (λ (l : List Setting). Ok (first_registers l cores)) h.registers ∙ ap (λ (l : List (List ℕ)). Ok l) (rows_alone settings (range_with_len 0 cores));
  cores = λ cores table e.
      sym (cores_alone cores settings)
      ∙ ap (list_all (has_core cores)) (sym h.registers)
      ∙ registers_taken cores (replicate cores (replicate 6 0)) table i.registers e;
}
