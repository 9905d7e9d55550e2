-- Entries of rows: their instructions and locations, as cells are read one after the other.
use Rattle.litmus_reader.proofs.Vocabulary.{◌≡◌, ℕ, ◌+◌, ◌≤◌, ◌<◌, Bool, true, false, cond, eqb, eqb-true, eq-eqb, ltb, List, [], ◌∷◌, ◌++◌}
use Rattle.litmus_reader.proofs.Vocabulary.{length, Option, Some, None, Result, Ok, Err, refl, sym, ap, subst, ◌∙◌, inl, inr, append_assoc}
use Rattle.litmus_reader.proofs.Vocabulary.{arith, count_by, bytes_eq, ltb-true, lt-ltb, append-nil, map-append, sum_by-append, Loc, Instr}
use Rattle.litmus_reader.proofs.Vocabulary.{StoreImm, StoreReg, Load, SetImm, SetReg, Fence, Xchg, Xadd, Piece, TooLarge, Fault, CoreInstr}
use Rattle.litmus_reader.proofs.Vocabulary.{◌>>=◌, located, word_at, spelled_in, instr_of, count_of, cell_in, of_core, cells_in, numbered}
use Rattle.litmus_reader.proofs.Vocabulary.{number_of, with_name, location, location_in, instr_with, ValueFits, fault, Shape, store_imm}
use Rattle.litmus_reader.proofs.Vocabulary.{store_reg, load, set_imm, set_reg, fence, xchg, xadd, or_fault, BadInstruction, at_location}
use Rattle.litmus_reader.proofs.Vocabulary.{Instructions}
use Rattle.litmus_tokens.specs.Shapes.{compare_exchange, locked_constant, locked_register, locked_negate, combine_constant}
use Rattle.litmus_tokens.specs.Shapes.{combine_register, negate, swap, nothing}
use Rattle.tso_terms.specs.declared.instruction.Instr.TheVariants.{CompareExchange, LockedCombine, LockedNegate, Combine, Negate, Swap, Nop}
use Rattle.basic_laws.specs.Types.{Number, Held}
use Rattle.litmus_reader.proofs.Placed.{Placed, placed, placed_from, locations_of, instrs_with, ValuesFit, EntriesWithin}
use Rattle.litmus_reader.proofs.GrammarTokens.{chosen, ok_is, ok_pair, bind_ok, or_fault_ok}
use Rattle.litmus_reader.proofs.GrammarNames.{place_below, known_with, number_with, numbered_append, grows, all_known}
use Rattle.litmus_reader.proofs.GrammarAtoms.{word_is, word_ok, located_ok, room_with}
use Rattle.litmus_reader.proofs.GrammarShapes.{instrs_stay}
use Rattle.litmus_reader.proofs.Readings.{AreReadAs}

-- ---- entries so far

-- the names after those before, and the instructions
abbrev pub names_of : List (List ℕ) → List Placed → List (List ℕ)
names_of names entries = numbered names (locations_of entries)

abbrev pub instrs_of : List (List ℕ) → List Placed → List CoreInstr
instrs_of names entries = instrs_with (names_of names entries) entries

abbrev pub Read : Type 0
Read = List CoreInstr × List (List ℕ)

abbrev pub read_of : List (List ℕ) → List Placed → Read
read_of names entries = (instrs_of names entries, names_of names entries)

locations-append : (xs ys : List Placed) → locations_of (xs ++ ys) ≡ locations_of xs ++ locations_of ys
locations-append [] ys = refl
locations-append (x ∷ xs) ys =
    ap (λ (l : List (List ℕ)). location_in x.shape ++ l) (locations-append xs ys)
    ∙ sym (append_assoc (location_in x.shape) (locations_of xs) (locations_of ys))

names-append : (names : List (List ℕ)) (xs ys : List Placed) → names_of names (xs ++ ys) ≡ numbered (names_of names xs) (locations_of ys)
names-append names xs ys = ap (λ (l : List (List ℕ)). numbered names l) (locations-append xs ys) ∙ numbered_append (locations_of xs) (locations_of ys) names

names-push : (names : List (List ℕ)) (xs : List Placed) (core : ℕ) (shape : Shape)
    → names_of names (xs ++ placed core shape ∷ []) ≡ numbered (names_of names xs) (location_in shape)
names-push names xs core shape =
    names-append names xs (placed core shape ∷ [])
    ∙ ap (λ (l : List (List ℕ)). numbered (names_of names xs) l) (append-nil (location_in shape))

-- what an placed adds
abbrev pushed : List (List ℕ) → List Placed → ℕ → Shape → Read
pushed names xs core shape = (
  instrs_of names xs ++ of_core core (instr_with (numbered (names_of names xs) (location_in shape)) shape) ∷ [],
  numbered (names_of names xs) (location_in shape),
)

read-push : (names : List (List ℕ)) (xs : List Placed) (core : ℕ) (shape : Shape) → pushed names xs core shape ≡ read_of names (xs ++ placed core shape ∷ [])
read-push names xs core shape =
    let new = numbered (names_of names xs) (location_in shape) in
    let last = of_core core (instr_with new shape) ∷ [] in
    let instrs : instrs_with new (xs ++ placed core shape ∷ []) ≡ instrs_of names xs ++ last =
    map-append (λ (e : Placed). of_core e.core (instr_with new e.shape)) xs (placed core shape ∷ [])
    ∙ ap (λ (l : List CoreInstr). l ++ last) (instrs_stay xs (location_in shape) (names_of names xs) (all_known (locations_of xs) names)) in
    let pair : List CoreInstr → Read = λ l. (l, new) in
    ap pair (sym instrs)
    ∙ ap (λ (l : List (List ℕ)). (let r : Read = (instrs_with l (xs ++ placed core shape ∷ []), l) in r)) (sym (names-push names xs core shape))

-- ---- what fits

values-append : (xs ys : List Placed) → ValuesFit xs → ValuesFit ys → ValuesFit (xs ++ ys)
values-append [] ys h k = k
values-append (x ∷ xs) ys h k = (h.0, values-append xs ys h.1 k)

values-parts : (xs ys : List Placed) → ValuesFit (xs ++ ys) → ValuesFit xs × ValuesFit ys
values-parts [] ys h = (tt, h)
values-parts (x ∷ xs) ys h = let parts = values-parts xs ys h.1 in ((h.0, parts.0), parts.1)

abbrev count_in : ℕ → List Placed → ℕ
count_in core entries = count_by (λ e. eqb e.core core) entries

count-append : (core : ℕ) (xs ys : List Placed) → count_in core (xs ++ ys) ≡ count_in core xs + count_in core ys
count-append core xs ys = sum_by-append (λ (e : Placed). cond (eqb e.core core) 1 0) xs ys

count-instrs : (core : ℕ) (names : List (List ℕ)) (entries : List Placed) → count_of core (instrs_with names entries) ≡ count_in core entries
count-instrs core names [] = refl
count-instrs core names (e ∷ others) =
    sum_by-append (λ (i : CoreInstr). cond (eqb i.core core) 1 0) (of_core e.core (instr_with names e.shape) ∷ []) (instrs_with names others)
    ∙ ap (λ (n : ℕ). count_in core (e ∷ []) + n) (count-instrs core names others) ∙ sym (count-append core (e ∷ []) others)

pub within_first : (names : List (List ℕ)) (xs ys : List Placed) → EntriesWithin names (xs ++ ys) → EntriesWithin names xs
within_first names xs ys h =
    let more = grows (locations_of ys) (names_of names xs) in
    let whole = ap (λ (l : List (List ℕ)). length l) (names-append names xs ys) in
    record {
      values = (values-parts xs ys h.values).0;
      few = λ core. omega (arith, h.few core, count-append core xs ys);
      room = omega (arith, more, whole, h.room);
    }

pub within_none : (names : List (List ℕ)) → length names ≤ 16 → EntriesWithin names []
unfolding numbered
within_none names le = record { values = tt; few = λ core. omega arith; room = le }

-- ---- the instruction of a shape

located_found : (remaining : ℕ) (names : List (List ℕ)) (x : List ℕ)
    → length (with_name names x) ≤ 16
    → located remaining names x ≡ Ok (location (number_of (with_name names x) x), with_name names x)
unfolding located
located_found remaining names x room =
    let below = place_below (bytes_eq x) (with_name names x) (known_with names x) in
    let few : number_of names x < 16 = omega (arith, below, number_with names x) in
    rw (lt-ltb (number_of names x) 16 few, number_with names x) refl

pub instr_found : (remaining : ℕ) (names : List (List ℕ)) (shape : Shape) → ValueFits shape → length (numbered names (location_in shape)) ≤ 16
    → instr_of remaining names shape ≡ Ok (instr_with (numbered names (location_in shape)) shape, numbered names (location_in shape))
unfolding instr_of numbered
instr_found remaining names (store_imm x v) fits room = rw (word_is remaining v fits, located_found remaining names x room) refl
instr_found remaining names (store_reg x reg) fits room = rw (located_found remaining names x room) refl
instr_found remaining names (load reg x) fits room = rw (located_found remaining names x room) refl
instr_found remaining names (set_imm reg v) fits room = rw (word_is remaining v fits) refl
instr_found remaining names (set_reg reg other) fits room = refl
instr_found remaining names fence fits room = refl
instr_found remaining names (xchg x reg) fits room = rw (located_found remaining names x room) refl
instr_found remaining names (xadd x reg) fits room = rw (located_found remaining names x room) refl
instr_found remaining names (compare_exchange x reg) fits room = rw (located_found remaining names x room) refl
instr_found remaining names (locked_constant operator x v) fits room = rw (word_is remaining v fits, located_found remaining names x room) refl
instr_found remaining names (locked_register operator x reg) fits room = rw (located_found remaining names x room) refl
instr_found remaining names (locked_negate x) fits room = rw (located_found remaining names x room) refl
instr_found remaining names (combine_constant operator reg v) fits room = rw (word_is remaining v fits) refl
instr_found remaining names (combine_register operator reg other) fits room = refl
instr_found remaining names (negate reg) fits room = refl
instr_found remaining names (swap reg other) fits room = refl
instr_found remaining names nothing fits room = refl

-- what was read of a shape
record InstrTaken (names : List (List ℕ)) (shape : Shape) (r : Instr × List (List ℕ)) : Type 0 where
  pub fits : ValueFits shape
  pub instr_is : r.0 ≡ instr_with (numbered names (location_in shape)) shape
  pub names_are : r.1 ≡ numbered names (location_in shape)
  pub room : length names ≤ 16 → length (numbered names (location_in shape)) ≤ 16

located_taken : (remaining : ℕ) (names : List (List ℕ)) (x : List ℕ) (make : Loc → Instr) (shape : Shape)
    (r : Instr × List (List ℕ))
    → location_in shape ≡ x ∷ []
    → ((known : List (List ℕ)) → instr_with known shape ≡ make (location (number_of known x)))
    → ValueFits shape
    → at_location remaining names x make ≡ Ok r
    → InstrTaken names shape r
unfolding numbered
located_taken remaining names x make shape r named made fits e =
    let b = bind_ok (located remaining names x) (λ loc. Ok (make loc.0, loc.1)) r e in
    let loc = located_ok remaining names x b.0 b.1 in
    let same = ok_pair (make b.0.0) r.0 b.0.1 r.1 b.2 in
    let all : numbered names (location_in shape) ≡ with_name names x = ap (numbered names) named in
    record {
      fits = fits;
      instr_is =
          sym same.0
          ∙ ap make (loc.0 ∙ ap location (sym (number_with names x)))
          ∙ sym (made (with_name names x))
          ∙ ap (λ (l : List (List ℕ)). instr_with l shape) (sym all);
      names_are = sym same.1 ∙ loc.1 ∙ sym all;
      room = λ le. subst (λ (l : List (List ℕ)). length l ≤ 16) (sym all) (room_with names x loc.2 le);
    }

kept_taken : (names : List (List ℕ)) (shape : Shape) (i : Instr) (r : Instr × List (List ℕ))
    → location_in shape ≡ []
    → instr_with names shape ≡ i
    → ValueFits shape
    → (let q : Result (Instr × List (List ℕ)) Fault = Ok (i, names) in q) ≡ Ok r
    → InstrTaken names shape r
unfolding numbered
kept_taken names shape i r none made fits e =
    let same = ok_pair i r.0 names r.1 e in
    let all : numbered names (location_in shape) ≡ names = ap (numbered names) none in
    record {
      fits = fits;
      instr_is = sym same.0 ∙ sym made ∙ ap (λ (l : List (List ℕ)). instr_with l shape) (sym all);
      names_are = sym same.1 ∙ sym all;
      room = λ le. subst (λ (l : List (List ℕ)). length l ≤ 16) (sym all) le;
    }

instr_taken : (remaining : ℕ) (names : List (List ℕ)) (shape : Shape) (r : Instr × List (List ℕ))
    → instr_of remaining names shape ≡ Ok r
    → InstrTaken names shape r
unfolding instr_of
instr_taken remaining names (store_imm x v) r e =
    let a = bind_ok (word_at remaining v) _ r e in
    let word = word_ok remaining v a.0 a.1 in
    located_taken remaining names x (λ loc. StoreImm loc a.0) (store_imm x v) r refl
    (λ known. ap (λ (n : ℕ). StoreImm (location (number_of known x)) n) word.0) word.1 a.2
instr_taken remaining names (store_reg x reg) r e = located_taken remaining names x (λ loc. StoreReg loc reg) (store_reg x reg) r refl (λ known. refl) tt e
instr_taken remaining names (load reg x) r e = located_taken remaining names x (λ loc. Load reg loc) (load reg x) r refl (λ known. refl) tt e
instr_taken remaining names (set_imm reg v) r e =
    let a = bind_ok (word_at remaining v) _ r e in
    let word = word_ok remaining v a.0 a.1 in
    kept_taken names (set_imm reg v) (SetImm reg a.0) r refl (ap (λ (n : ℕ). SetImm reg n) word.0) word.1 a.2
instr_taken remaining names (set_reg reg other) r e = kept_taken names (set_reg reg other) (SetReg reg other) r refl refl tt e
instr_taken remaining names fence r e = kept_taken names fence Fence r refl refl tt e
instr_taken remaining names (xchg x reg) r e = located_taken remaining names x (λ loc. Xchg loc reg) (xchg x reg) r refl (λ known. refl) tt e
instr_taken remaining names (xadd x reg) r e = located_taken remaining names x (λ loc. Xadd loc reg) (xadd x reg) r refl (λ known. refl) tt e
instr_taken remaining names (compare_exchange x reg) r e =
    located_taken remaining names x (λ loc. CompareExchange loc reg) (compare_exchange x reg) r refl (λ known. refl) tt e
instr_taken remaining names (locked_constant operator x v) r e =
    let a = bind_ok (word_at remaining v) _ r e in
    let word = word_ok remaining v a.0 a.1 in
    located_taken remaining names x (λ loc. LockedCombine loc operator (Number a.0)) (locked_constant operator x v) r
    refl
    (λ known. ap (λ (n : ℕ). LockedCombine (location (number_of known x)) operator (Number n)) word.0) word.1 a.2
instr_taken remaining names (locked_register operator x reg) r e =
    located_taken remaining names x (λ loc. LockedCombine loc operator (Held reg)) (locked_register operator x reg) r refl (λ known. refl) tt e
instr_taken remaining names (locked_negate x) r e = located_taken remaining names x (λ loc. LockedNegate loc) (locked_negate x) r refl (λ known. refl) tt e
instr_taken remaining names (combine_constant operator reg v) r e =
    let a = bind_ok (word_at remaining v) _ r e in
    let word = word_ok remaining v a.0 a.1 in
    kept_taken names (combine_constant operator reg v) (Combine reg operator (Number a.0)) r refl
    (ap (λ (n : ℕ). Combine reg operator (Number n)) word.0) word.1 a.2
instr_taken remaining names (combine_register operator reg other) r e =
    kept_taken names (combine_register operator reg other) (Combine reg operator (Held other)) r refl refl tt e
instr_taken remaining names (negate reg) r e = kept_taken names (negate reg) (Negate reg) r refl refl tt e
instr_taken remaining names (swap reg other) r e = kept_taken names (swap reg other) (Swap reg other) r refl refl tt e
instr_taken remaining names nothing r e = kept_taken names nothing Nop r refl refl tt e

-- ---- cells

pub cell_found : (set : Instructions) (core : ℕ) (names : List (List ℕ)) (done : List Placed) (p : Piece)
    (ps : List Piece) (shape : Shape)
    → spelled_in set (p ∷ ps) ≡ Some shape
    → EntriesWithin names (done ++ placed core shape ∷ [])
    → cell_in set core (instrs_of names done) (names_of names done) (p ∷ ps) ≡ Ok (read_of names (done ++ placed core shape ∷ []))
unfolding cell_in
cell_found set core names done p ps shape is h =
    let value = (values-parts done (placed core shape ∷ []) h.values).1.0 in
    let room : length (numbered (names_of names done) (location_in shape)) ≤ 16 =
    subst (λ (l : List (List ℕ)). length l ≤ 16) (names-push names done core shape) h.room in
    let one : count_in core (placed core shape ∷ []) ≡ 1 = rw (eq-eqb core core refl) refl in
    let few : count_of core (instrs_of names done) < 32 =
    omega (
      arith,
      h.few core,
      count-append core done (placed core shape ∷ []),
      one,
      count-instrs core (names_of names done) done,
    ) in
    let read : cell_in set core (instrs_of names done) (names_of names done) (p ∷ ps) ≡ Ok (pushed names done core shape) =
    rw (is, instr_found p.remaining (names_of names done) shape value room, lt-ltb (count_of core (instrs_of names done)) 32 few) refl in
    read ∙ ap (λ (r : Read). Ok r) (read-push names done core shape)

-- what was read of a cell that isn't empty
pub record CellTaken (set : Instructions) (core : ℕ) (names : List (List ℕ)) (done : List Placed) (ps : List Piece) (r : Read) : Type 0 where
  pub shape : Shape
  pub is : spelled_in set ps ≡ Some shape
  pub within : EntriesWithin names (done ++ placed core shape ∷ [])
  pub given : r ≡ read_of names (done ++ placed core shape ∷ [])

few-push : (core other : ℕ) (shape : Shape) (done : List Placed)
    → count_in core done < 32
    → count_in other done ≤ 32
    → count_in other (done ++ placed core shape ∷ []) ≤ 32
few-push core other shape done room h = by_test (eqb core other) refl
  where
    by_test : (b : Bool) → eqb core other ≡ b → count_in other (done ++ placed core shape ∷ []) ≤ 32
    by_test true e =
        let same : core ≡ other = eqb-true _ _ e in
        let below : count_in other done < 32 = subst (λ (k : ℕ). count_in k done < 32) same room in
        let one : count_in other (placed core shape ∷ []) ≡ 1 = rw e refl in
        omega (arith, below, count-append other done (placed core shape ∷ []), one)
    by_test false e =
        let nothing : count_in other (placed core shape ∷ []) ≡ 0 = rw e refl in
        omega (arith, h, count-append other done (placed core shape ∷ []), nothing)

within_push : (core : ℕ) (names : List (List ℕ)) (done : List Placed) (shape : Shape) → EntriesWithin names done → ValueFits shape → count_in core done < 32
    → length (numbered (names_of names done) (location_in shape)) ≤ 16 → EntriesWithin names (done ++ placed core shape ∷ [])
within_push core names done shape h fits room few = record {
  values = values-append done (placed core shape ∷ []) h.values (fits, tt);
  few = λ other. few-push core other shape done room (h.few other);
  room = subst (λ (l : List (List ℕ)). length l ≤ 16) (sym (names-push names done core shape)) few;
}

pub cell_taken : (set : Instructions) (core : ℕ) (names : List (List ℕ)) (done : List Placed) (p : Piece)
    (ps : List Piece) (r : Read)
    → EntriesWithin names done
    → cell_in set core (instrs_of names done) (names_of names done) (p ∷ ps) ≡ Ok r → CellTaken set core names done (p ∷ ps) r
unfolding cell_in
cell_taken set core names done p ps r h e =
    let before = names_of names done in
    let s = bind_ok (or_fault (spelled_in set (p ∷ ps)) (fault BadInstruction p.remaining)) _ r e in
    let i = bind_ok (instr_of p.remaining before s.0) _ r s.2 in
    let t = instr_taken p.remaining before s.0 i.0 i.1 in
    elim (chosen (ltb (count_of core (instrs_of names done)) 32)
    (Ok (instrs_of names done ++ of_core core i.0.0 ∷ [], i.0.1)) (Err (fault TooLarge p.remaining)) (Ok r) i.2) [
      | inl hit ↦
          let below = ltb-true (count_of core (instrs_of names done)) 32 hit.0 in
          let room : count_in core done < 32 = omega (arith, below, count-instrs core before done) in
          record {
            shape = s.0;
            is = or_fault_ok (spelled_in set (p ∷ ps)) _ s.0 s.1;
            within = within_push core names done s.0 h t.fits room (t.room h.room);
            given = sym (ok_is (instrs_of names done ++ of_core core i.0.0 ∷ [], i.0.1) r hit.1)
                ∙ ap (λ (n : Instr). (let r : Read = (instrs_of names done ++ of_core core n ∷ [], i.0.1) in r)) t.instr_is
                ∙ ap (λ (l : List (List ℕ)).
                (let r : Read = (
                  instrs_of names done ++ of_core core (instr_with (numbered before (location_in s.0)) s.0) ∷ [],
                  l,
                ) in
                r))
                t.names_are
                ∙ read-push names done core s.0;
          }
      | inr miss ↦ absurd cc
    ]

-- ---- cells one after the other

pub cells_found : (set : Instructions) (parts : List (List Piece)) (cells : List (Option Shape))
    → AreReadAs set parts cells
    → (core : ℕ) (names : List (List ℕ)) (done : List Placed)
    → EntriesWithin names (done ++ placed_from core cells)
    → cells_in set core (instrs_of names done) (names_of names done) parts ≡ Ok (read_of names (done ++ placed_from core cells))
unfolding cells_in cell_in
cells_found set [] [] are core names done h = ap (λ (l : List Placed). Ok (read_of names l)) (sym (append-nil done))
cells_found set [] (c ∷ cs) are core names done h = absurd are
cells_found set (ps ∷ rest) [] are core names done h = absurd are
cells_found set ([] ∷ rest) (None ∷ cs) are core names done h = cells_found set rest cs are.1 (core + 1) names done h
cells_found set ([] ∷ rest) (Some shape ∷ cs) are core names done h = absurd are.0
cells_found set ((p ∷ ps) ∷ rest) (None ∷ cs) are core names done h = absurd are.0
cells_found set ((p ∷ ps) ∷ rest) (Some shape ∷ cs) are core names done h =
    let e = placed core shape in
    let others = placed_from (core + 1) cs in
    let regroup : (done ++ e ∷ []) ++ others ≡ done ++ e ∷ others = append_assoc done (e ∷ []) others in
    let whole : EntriesWithin names ((done ++ e ∷ []) ++ others) = subst (λ (l : List Placed). EntriesWithin names l) (sym regroup) h in
    let first = cell_found set core names done p ps shape are.0 (within_first names (done ++ e ∷ []) others whole) in
    ap (λ (r : Result Read Fault). r >>= λ read. cells_in set (core + 1) read.0 read.1 rest) first
    ∙ cells_found set rest cs are.1 (core + 1) names (done ++ e ∷ []) whole
    ∙ ap (λ (l : List Placed). Ok (read_of names l)) regroup

-- what was read of cells
pub record CellsTaken (set : Instructions) (core : ℕ) (names : List (List ℕ)) (done : List Placed) (parts : List (List Piece)) (r : Read) : Type 0 where
  pub cells : List (Option Shape)
  pub are : AreReadAs set parts cells
  pub within : EntriesWithin names (done ++ placed_from core cells)
  pub given : r ≡ read_of names (done ++ placed_from core cells)

pub cells_taken : (set : Instructions) (parts : List (List Piece)) (core : ℕ) (names : List (List ℕ)) (done : List Placed) (r : Read) → EntriesWithin names done
    → cells_in set core (instrs_of names done) (names_of names done) parts ≡ Ok r → CellsTaken set core names done parts r
unfolding cells_in cell_in
cells_taken set [] core names done r h e =
    let same = append-nil done in
    record {
      cells = [];
      are = tt;
      within = subst (λ (l : List Placed). EntriesWithin names l) (sym same) h;
      given = sym (ok_is (read_of names done) r e) ∙ ap (λ (l : List Placed). read_of names l) (sym same);
    }
cells_taken set ([] ∷ rest) core names done r h e =
    let t = cells_taken set rest (core + 1) names done r h e in
    record { cells = None ∷ t.cells; are = (tt, t.are); within = t.within; given = t.given }
cells_taken set ((p ∷ ps) ∷ rest) core names done r h e =
    let c = bind_ok (cell_in set core (instrs_of names done) (names_of names done) (p ∷ ps)) (λ read. cells_in set (core + 1) read.0 read.1 rest) r e in
    let first = cell_taken set core names done p ps c.0 h c.1 in
    let one = placed core first.shape in
    let further : cells_in set (core + 1) (instrs_of names (done ++ one ∷ [])) (names_of names (done ++ one ∷ [])) rest ≡ Ok r =
    ap (λ (read : Read). cells_in set (core + 1) read.0 read.1 rest) (sym first.given) ∙ c.2 in
    let t = cells_taken set rest (core + 1) names (done ++ one ∷ []) r first.within further in
    let regroup : (done ++ one ∷ []) ++ placed_from (core + 1) t.cells ≡ done ++ one ∷ placed_from (core + 1) t.cells =
    append_assoc done (one ∷ []) (placed_from (core + 1) t.cells) in
    record {
      cells = Some first.shape ∷ t.cells;
      are = (first.is, t.are);
      within = subst (λ (l : List Placed). EntriesWithin names l) regroup t.within;
      given = t.given ∙ ap (λ (l : List Placed). read_of names l) regroup;
    }
