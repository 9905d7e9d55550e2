-- What the grammar has as a location's name is one that a location may have.
use Rattle.litmus_reader.proofs.Vocabulary.{◌≡◌, ℕ, true, false, not, List, [], ◌∷◌, ◌++◌, Option, refl, sym, ap, ◌∙◌, list_any, list_all}
use Rattle.litmus_reader.proofs.Vocabulary.{bytes_eq, and_parts, and_from, or_parts, not-true, list_all-append, flat_map, is_location_name}
use Rattle.litmus_reader.proofs.Vocabulary.{is_among, are_distinct, Term, numbered, with_name, IsSetting, sets_register, sets_location}
use Rattle.litmus_reader.proofs.Vocabulary.{sets_in_squares, IsInitialItem, AreInitialItems, IsInitialState, in_braces, names_in, IsOperand}
use Rattle.litmus_reader.proofs.Vocabulary.{IsCall, IsMove, IsExchange, IsCell, IsField, empty, full, AreFields, IsRow, row, AreRows}
use Rattle.litmus_reader.proofs.Vocabulary.{in_field, in_rows, location_in, Shape, ArgumentTerm, in_memory, in_register, constant, Setting}
use Rattle.litmus_reader.proofs.Vocabulary.{IsAddition, IsLocked, Instructions, IsCallOfOne, IsLockedMore, IsCellMore}
use Rattle.litmus_reader.specs.GrammarInitial as initial
use Rattle.litmus_reader.specs.GrammarCells as cells
use Rattle.litmus_reader.specs.GrammarRows as rows
use Rattle.litmus_reader.specs.GrammarTable as table
use Rattle.litmus_reader.proofs.GrammarNames.{with_name_by}
use Rattle.litmus_reader.proofs.GrammarPhrases.{names_in-append}

-- ---- names, each once

abbrev pub Spelled : List (List ℕ) → Type 0
Spelled names = list_all is_location_name names ≡ true

-- names that the locations of a test may have
pub record AreNames (names : List (List ℕ)) : Type 0 where
  pub spelled : Spelled names
  pub differ : are_distinct names ≡ true

pub spelled_both : (xs ys : List (List ℕ)) → Spelled xs → Spelled ys → Spelled (xs ++ ys)
spelled_both xs ys h k = list_all-append is_location_name xs ys ∙ and_from _ _ h k

among-push : (y x : List ℕ) (names : List (List ℕ)) → is_among y names ≡ false → bytes_eq x y ≡ false → is_among y (names ++ x ∷ []) ≡ false
among-push y x [] h e = rw e refl
among-push y x (n ∷ ns) h e =
    let both = or_parts (bytes_eq n y) (is_among y ns) h in
    let first : bytes_eq n y ≡ false = both.0 in
    rw first (among-push y x ns both.1 e)

distinct-push : (x : List ℕ) (names : List (List ℕ)) → are_distinct names ≡ true → list_any (bytes_eq x) names ≡ false → are_distinct (names ++ x ∷ []) ≡ true
distinct-push x [] h new = refl
distinct-push x (n ∷ ns) h new =
    let both = and_parts (not (is_among n ns)) (are_distinct ns) h in
    let fresh = or_parts (bytes_eq x n) (list_any (bytes_eq x) ns) new in
    let away : is_among n (ns ++ x ∷ []) ≡ false = among-push n x ns (not-true _ both.0) fresh.0 in
    rw away (distinct-push x ns both.1 fresh.1)

pub names_numbered : (xs names : List (List ℕ)) → AreNames names → Spelled xs → AreNames (numbered names xs)
unfolding numbered
names_numbered [] names h are = h
names_numbered (x ∷ xs) names h are =
    let both = and_parts (is_location_name x) (list_all is_location_name xs) are in
    let one : Spelled (x ∷ []) = and_from (is_location_name x) true both.0 refl in
    names_numbered xs (with_name names x)
    (with_name_by AreNames names x (λ _. h)
    (λ new.
    record { spelled = spelled_both names (x ∷ []) h.spelled one; differ = distinct-push x names h.differ new }))
    both.1

-- ---- those of the grammar

pub setting_spelled : (ts : List Term) (s : Setting) → IsSetting ts s → Spelled (names_in (s ∷ []))
setting_spelled _ _ (sets_register core word reg v value good is_value) = refl
setting_spelled _ _ (sets_location x v value good is_value) = and_from (is_location_name x) true good refl
setting_spelled _ _ (sets_in_squares x v value good is_value) = and_from (is_location_name x) true good refl

item_spelled : (ts : List Term) (item : List Setting) → IsInitialItem ts item → Spelled (names_in item)
item_spelled _ _ initial.empty = refl
item_spelled _ _ (initial.given ts s is) = setting_spelled ts s is

items_spelled : (ts : List Term) (settings : List Setting) → AreInitialItems ts settings → Spelled (names_in settings)
items_spelled _ _ (initial.last ts item is) = item_spelled ts item is
items_spelled _ _ (initial.more ts others item settings is are) =
    ap (list_all is_location_name) (names_in-append item settings)
    ∙ spelled_both (names_in item) (names_in settings) (item_spelled ts item is) (items_spelled others settings are)

pub state_spelled : (ts : List Term) (settings : List Setting) → IsInitialState ts settings → Spelled (names_in settings)
state_spelled _ _ (in_braces ts settings are) = items_spelled ts settings are

memory_spelled : (ts : List Term) (x : List ℕ) → IsOperand ts (in_memory x) → Spelled (x ∷ [])
memory_spelled _ _ (cells.in_squares x good) = and_from (is_location_name x) true good refl

-- where an operand is a location
abbrev OperandSpelled : ArgumentTerm → Type 0
OperandSpelled (in_memory x) = Spelled (x ∷ [])
OperandSpelled other = Unit {0}

operand_spelled : (ts : List Term) (o : ArgumentTerm) → IsOperand ts o → OperandSpelled o
operand_spelled ts (in_memory x) is = memory_spelled ts x is
operand_spelled ts (in_register r) is = tt
operand_spelled ts (constant v) is = tt

call_spelled : (word : List ℕ) (ts : List Term) (a b : ArgumentTerm) → IsCall word ts a b → OperandSpelled a × OperandSpelled b
call_spelled word _ _ _ (cells.call letters a b first second is f g) = (operand_spelled a first f, operand_spelled b second g)

abbrev ShapeSpelled : Shape → Type 0
ShapeSpelled shape = Spelled (location_in shape)

move_spelled : (a b : ArgumentTerm) (shape : Shape) → IsMove a b shape → OperandSpelled a → OperandSpelled b → ShapeSpelled shape
move_spelled _ _ _ (cells.stores_constant x v) h k = h
move_spelled _ _ _ (cells.stores_register x r) h k = h
move_spelled _ _ _ (cells.loads r x) h k = k
move_spelled _ _ _ (cells.sets_constant r v) h k = refl
move_spelled _ _ _ (cells.sets_register r s) h k = refl

exchange_spelled : (a b : ArgumentTerm) (shape : Shape) → IsExchange a b shape → OperandSpelled a → OperandSpelled b → ShapeSpelled shape
exchange_spelled _ _ _ (cells.memory_first x r) h k = h
exchange_spelled _ _ _ (cells.register_first r x) h k = k

addition_spelled : (a b : ArgumentTerm) (shape : Shape) → IsAddition a b shape → OperandSpelled a → ShapeSpelled shape
addition_spelled _ _ _ (cells.adds x r) h = h

call_of_one_spelled : (word : List ℕ) (ts : List Term) (a : ArgumentTerm) → IsCallOfOne word ts a → OperandSpelled a
call_of_one_spelled word _ _ (cells.call_of_one letters a only is f) = operand_spelled a only f

locked_more_spelled : (ts : List Term) (shape : Shape) → IsLockedMore ts shape → ShapeSpelled shape
locked_more_spelled _ _ (cells.compares ts x r is) = (call_spelled _ ts (in_memory x) (in_register r) is).0
locked_more_spelled _ _ (cells.combines_constant word o ts x v of is) = (call_spelled word ts (in_memory x) (constant v) is).0
locked_more_spelled _ _ (cells.combines_register word o ts x r of is) = (call_spelled word ts (in_memory x) (in_register r) is).0
locked_more_spelled _ _ (cells.steps word o v ts x of is) = call_of_one_spelled word ts (in_memory x) is
locked_more_spelled _ _ (cells.negates ts x is) = call_of_one_spelled _ ts (in_memory x) is

cell_more_spelled : (ts : List Term) (shape : Shape) → IsCellMore ts shape → ShapeSpelled shape
cell_more_spelled _ _ (cells.adds_constant word o ts r v of is) = refl
cell_more_spelled _ _ (cells.adds_register word o ts r s of is) = refl
cell_more_spelled _ _ (cells.steps_register word o v ts r of is) = refl
cell_more_spelled _ _ (cells.negates_register ts r is) = refl
cell_more_spelled _ _ (cells.swaps ts r s is) = refl
cell_more_spelled _ _ (cells.does_nothing letters word of is) = refl

locked_spelled : (set : Instructions) (ts : List Term) (shape : Shape) → IsLocked set ts shape → ShapeSpelled shape
locked_spelled set _ _ (cells.locked_exchange ts a b shape is made) = let both = call_spelled _ ts a b is in exchange_spelled a b shape made both.0 both.1
locked_spelled set _ _ (cells.locked_addition ts a b shape is made) = addition_spelled a b shape made (call_spelled _ ts a b is).0
locked_spelled set _ _ (cells.locked_more ts shape all is) = locked_more_spelled ts shape is

cell_spelled : (set : Instructions) (ts : List Term) (shape : Shape) → IsCell set ts shape → ShapeSpelled shape
cell_spelled set _ _ (cells.moves ts a b shape is made) = let both = call_spelled _ ts a b is in move_spelled a b shape made both.0 both.1
cell_spelled set _ _ (cells.fences letters is) = refl
cell_spelled set _ _ (cells.exchanges ts a b shape is made) = let both = call_spelled _ ts a b is in exchange_spelled a b shape made both.0 both.1
cell_spelled set _ _ (cells.locks letters ts shape is locked) = locked_spelled set ts shape locked
cell_spelled set _ _ (cells.more ts shape all is) = cell_more_spelled ts shape is

abbrev Named : List Shape → Type 0
Named shapes = Spelled (flat_map location_in shapes)

named_both : (xs ys : List Shape) → Named xs → Named ys → Named (xs ++ ys)
named_both [] ys h k = k
named_both (x ∷ xs) ys h k =
    let parts =
    and_parts (list_all is_location_name (location_in x)) (list_all is_location_name (flat_map location_in xs))
    (sym (list_all-append is_location_name (location_in x) (flat_map location_in xs)) ∙ h) in
    spelled_both (location_in x) (flat_map location_in (xs ++ ys)) parts.0 (named_both xs ys parts.1 k)

field_named : (set : Instructions) (ts : List Term) (c : Option Shape) → IsField set ts c → Named (in_field c)
field_named set _ _ empty = refl
field_named set _ _ (full ts shape is) = spelled_both (location_in shape) [] (cell_spelled set ts shape is) refl

fields_named : (set : Instructions) (ts : List Term) (fields : List (Option Shape)) → AreFields set ts fields → Named (flat_map in_field fields)
fields_named set _ _ (rows.last ts c is) = named_both (in_field c) [] (field_named set ts c is) refl
fields_named set _ _ (rows.more ts us c cs is are) = named_both (in_field c) (flat_map in_field cs) (field_named set ts c is) (fields_named set us cs are)

row_named : (set : Instructions) (cores : ℕ) (ts : List Term) (fields : List (Option Shape)) → IsRow set cores ts fields → Named (flat_map in_field fields)
row_named set cores _ _ (row ts fields are count) = fields_named set ts fields are

pub rows_named : (set : Instructions) (cores : ℕ) (ts : List Term) (all : List (List (Option Shape))) → AreRows set cores ts all → Named (in_rows all)
rows_named set cores _ _ table.none = refl
rows_named set cores _ _ (table.more ts us one others is are) =
    named_both (flat_map in_field one) (in_rows others) (row_named set cores ts one is) (rows_named set cores us others are)
