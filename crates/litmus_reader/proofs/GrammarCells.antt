-- Cells are read as they are spelled.
use Rattle.litmus_reader.proofs.Vocabulary.{◌≡◌, ℕ, true, false, cond, List, [], ◌∷◌, map, Some, None, refl, sym, ap, subst, ◌∙◌, inl, inr}
use Rattle.litmus_reader.proofs.Vocabulary.{codes, to_ascii_lowercase, bytes_eq-Decides, same_letters, Term, name, Piece, name_at, there}
use Rattle.litmus_reader.proofs.Vocabulary.{ArgumentTerm, in_memory, in_register, constant, two_arguments, mov_of, xchg_of, xadd_of}
use Rattle.litmus_reader.proofs.Vocabulary.{no_more, locked_by, by_mnemonic, locked_at, spelled_in, terms, IsCall, IsMove, IsExchange}
use Rattle.litmus_reader.proofs.Vocabulary.{IsCell, Shape, store_imm, store_reg, load, set_imm, set_reg, fence, xchg, xadd, IsAddition}
use Rattle.litmus_reader.proofs.Vocabulary.{IsLocked, Instructions, if_all, swap_of, locked_more, more_by, exchange_of}
use Rattle.litmus_reader.specs.GrammarCells as cells
use Rattle.litmus_reader.proofs.GrammarTokens.{chosen, there_is, there_some, some_is, front, no_terms, name_takes}
use Rattle.litmus_reader.proofs.GrammarOperands.{call_taken, called}
use Rattle.litmus_reader.proofs.GrammarLargerSet.{given_by_all, swap_taken, locked_more_found, more_found, locked_more_taken, more_taken}

-- ---- which instruction the operands spell

mov_is : (a b : ArgumentTerm) (shape : Shape) → IsMove a b shape → mov_of (a, b) ≡ Some shape
mov_is _ _ _ (cells.stores_constant x v) = refl
mov_is _ _ _ (cells.stores_register x r) = refl
mov_is _ _ _ (cells.loads r x) = refl
mov_is _ _ _ (cells.sets_constant r v) = refl
mov_is _ _ _ (cells.sets_register r s) = refl

is_mov : (both : ArgumentTerm × ArgumentTerm) (shape : Shape) → mov_of both ≡ Some shape → IsMove both.0 both.1 shape
is_mov (in_memory x, constant v) shape e = subst (IsMove _ _) (some_is (store_imm x v) shape e) (cells.stores_constant x v)
is_mov (in_memory x, in_register r) shape e = subst (IsMove _ _) (some_is (store_reg x r) shape e) (cells.stores_register x r)
is_mov (in_memory x, in_memory y) shape e = absurd cc
is_mov (in_register r, in_memory x) shape e = subst (IsMove _ _) (some_is (load r x) shape e) (cells.loads r x)
is_mov (in_register r, constant v) shape e = subst (IsMove _ _) (some_is (set_imm r v) shape e) (cells.sets_constant r v)
is_mov (in_register r, in_register s) shape e = subst (IsMove _ _) (some_is (set_reg r s) shape e) (cells.sets_register r s)
is_mov (constant v, other) shape e = absurd cc

exchange_is : (a b : ArgumentTerm) (shape : Shape) → IsExchange a b shape → xchg_of (a, b) ≡ Some shape
exchange_is _ _ _ (cells.memory_first x r) = refl
exchange_is _ _ _ (cells.register_first r x) = refl

is_exchange : (both : ArgumentTerm × ArgumentTerm) (shape : Shape) → xchg_of both ≡ Some shape → IsExchange both.0 both.1 shape
is_exchange (in_memory x, in_register r) shape e = subst (IsExchange _ _) (some_is (xchg x r) shape e) (cells.memory_first x r)
is_exchange (in_memory x, in_memory y) shape e = absurd cc
is_exchange (in_memory x, constant v) shape e = absurd cc
is_exchange (in_register r, in_memory x) shape e = subst (IsExchange _ _) (some_is (xchg x r) shape e) (cells.register_first r x)
is_exchange (in_register r, in_register s) shape e = absurd cc
is_exchange (in_register r, constant v) shape e = absurd cc
is_exchange (constant v, other) shape e = absurd cc

addition_is : (a b : ArgumentTerm) (shape : Shape) → IsAddition a b shape → xadd_of (a, b) ≡ Some shape
addition_is _ _ _ (cells.adds x r) = refl

is_addition : (both : ArgumentTerm × ArgumentTerm) (shape : Shape) → xadd_of both ≡ Some shape → IsAddition both.0 both.1 shape
is_addition (in_memory x, in_register r) shape e = subst (IsAddition _ _) (some_is (xadd x r) shape e) (cells.adds x r)
is_addition (in_memory x, in_memory y) shape e = absurd cc
is_addition (in_memory x, constant v) shape e = absurd cc
is_addition (in_register r, other) shape e = absurd cc
is_addition (constant v, other) shape e = absurd cc

-- ---- found

-- a word with the letters of one mnemonic hasn't those of another
other_word : (x one another : List ℕ) → same_letters x one ≡ true → same_letters one another ≡ false → same_letters x another ≡ false
other_word x one another is apart =
    let lower = map to_ascii_lowercase in
    let same : lower x ≡ lower one = (bytes_eq-Decides (lower x) (lower one)).0 is in
    rw same apart

-- in either set
exchange_made : (set : Instructions) (a b : ArgumentTerm) (shape : Shape) → IsExchange a b shape → exchange_of set (a, b) ≡ Some shape
exchange_made set _ _ _ (cells.memory_first x r) = refl
exchange_made set _ _ _ (cells.register_first r x) = refl

locked_found : (set : Instructions) (ts : List Term) (shape : Shape) → IsLocked set ts shape → (ps : List Piece) → terms ps ≡ ts → locked_at set ps ≡ Some shape
unfolding locked_at
locked_found set _ _ (cells.locked_exchange ts a b shape is made) ps e =
    let c = called (codes "XCHG") ts a b is ps e in
    rw (c.named, c.word_is, c.two) (exchange_is a b shape made)
locked_found set _ _ (cells.locked_addition ts a b shape is made) ps e =
    let c = called (codes "XADD") ts a b is ps e in
    rw (c.named, other_word c.letters (codes "XADD") (codes "XCHG") c.word_is refl, c.word_is, c.two) (addition_is a b shape made)
locked_found set _ _ (cells.locked_more ts shape all is) ps e = ap (λ (set : Instructions). locked_at set ps) all ∙ locked_more_found ts shape is ps e

cell_found : (set : Instructions) (ts : List Term) (shape : Shape) → IsCell set ts shape → (ps : List Piece) → terms ps ≡ ts → spelled_in set ps ≡ Some shape
unfolding spelled_in name_at
cell_found set _ _ (cells.moves ts a b shape is made) ps e =
    let c = called (codes "MOV") ts a b is ps e in
    rw (c.named, c.word_is, c.two) (mov_is a b shape made)
cell_found set _ _ (cells.fences letters is) ps e =
    let f = front ps (name letters) [] e in
    rw (f.parts, f.is, other_word letters (codes "MFENCE") (codes "MOV") is refl, is, no_terms f.rest f.after_it) refl
cell_found set _ _ (cells.exchanges ts a b shape is made) ps e =
    let c = called (codes "XCHG") ts a b is ps e in
    rw (
      c.named,
      other_word c.letters (codes "XCHG") (codes "MOV") c.word_is refl,
      other_word c.letters (codes "XCHG") (codes "MFENCE") c.word_is refl,
      c.word_is,
      c.two,
    )
    (exchange_made set a b shape made)
cell_found set _ _ (cells.locks letters ts shape is locked) ps e =
    let f = front ps (name letters) ts e in
    rw (
      f.parts,
      f.is,
      other_word letters (codes "LOCK") (codes "MOV") is refl,
      other_word letters (codes "LOCK") (codes "MFENCE") is refl,
      other_word letters (codes "LOCK") (codes "XCHG") is refl,
      is,
    )
    (locked_found set ts shape locked f.rest f.after_it)
cell_found set _ _ (cells.more ts shape all is) ps e = ap (λ (set : Instructions). spelled_in set ps) all ∙ more_found ts shape is ps e

pub cell_again : (set : Instructions) (cell : List Piece) (shape : Shape) → IsCell set (terms cell) shape → spelled_in set cell ≡ Some shape
cell_again set cell shape is = cell_found set (terms cell) shape is cell refl

-- ---- taken

no_more_made : (set : Instructions) (letters : List ℕ) (ps : List Piece) (shape : Shape)
    → same_letters letters (codes "MFENCE") ≡ true
    → no_more fence ps ≡ Some shape
    → IsCell set (name letters ∷ terms ps) shape
no_more_made set letters [] shape is e = subst (IsCell set _) (some_is fence shape e) (cells.fences letters is)
no_more_made set letters (p ∷ ps) shape is e = absurd cc

exchange_taken : (set : Instructions) (word : List ℕ) (rest : List Piece) (both : ArgumentTerm × ArgumentTerm)
    (shape : Shape)
    → exchange_of set both ≡ Some shape
    → IsCall (codes "XCHG") (name word ∷ terms rest) both.0 both.1 → IsCell set (name word ∷ terms rest) shape
exchange_taken set word rest both shape e is =
    elim (there_is (xchg_of both) (λ (shape : Shape). Some shape) (if_all set (swap_of both)) (Some shape) e) [
      | inl memory ↦ cells.exchanges _ both.0 both.1 shape is (is_exchange both shape (memory.1 ∙ memory.2))
      | inr none ↦ let g = given_by_all set (swap_of both) shape none.1 in cells.more _ shape g.0 (swap_taken both shape g.1 _ is)
    ]

locked_taken : (set : Instructions) (ps : List Piece) (shape : Shape) → locked_at set ps ≡ Some shape → IsLocked set (terms ps) shape
unfolding locked_at
locked_taken set ps shape e =
    let w = there_some (name_at ps) (locked_by set) shape e in
    let word = w.0.0 in
    let rest = w.0.1 in
    subst (λ ts. IsLocked set ts shape) (sym (name_takes ps rest word w.1))
    (elim (chosen (same_letters word (codes "XCHG")) (there (two_arguments rest) xchg_of None)
    (cond (same_letters word (codes "XADD")) (there (two_arguments rest) xadd_of None) (if_all set (locked_more (word, rest)))) (Some shape) w.2) [
      | inl hit ↦
          let two = there_some (two_arguments rest) xchg_of shape hit.1 in
          cells.locked_exchange _ two.0.0 two.0.1 shape (call_taken (codes "XCHG") word rest two.0 hit.0 two.1) (is_exchange two.0 shape two.2)
      | inr miss ↦
          elim (chosen (same_letters word (codes "XADD")) (there (two_arguments rest) xadd_of None)
          (if_all set (locked_more (word, rest))) (Some shape) miss.1) [
            | inl hit ↦
                let two = there_some (two_arguments rest) xadd_of shape hit.1 in
                cells.locked_addition _ two.0.0 two.0.1 shape (call_taken (codes "XADD") word rest two.0 hit.0 two.1) (is_addition two.0 shape two.2)
            | inr others ↦
                let g = given_by_all set (locked_more (word, rest)) shape others.1 in
                cells.locked_more _ shape g.0 (locked_more_taken word rest shape g.1)
          ]
    ])

pub cell_takes : (set : Instructions) (cell : List Piece) (shape : Shape) → spelled_in set cell ≡ Some shape → IsCell set (terms cell) shape
unfolding spelled_in
cell_takes set ps shape e =
    let w = there_some (name_at ps) (by_mnemonic set) shape e in
    let word = w.0.0 in
    let rest = w.0.1 in
    let others = if_all set (more_by (word, rest)) in
    let at_lock = cond (same_letters word (codes "LOCK")) (locked_at set rest) others in
    let at_xchg = cond (same_letters word (codes "XCHG")) (there (two_arguments rest) (exchange_of set) None) at_lock in
    let at_fence = cond (same_letters word (codes "MFENCE")) (no_more fence rest) at_xchg in
    subst (λ ts. IsCell set ts shape) (sym (name_takes ps rest word w.1))
    (elim (chosen (same_letters word (codes "MOV")) (there (two_arguments rest) mov_of None) at_fence (Some shape) w.2) [
      | inl hit ↦
          let two = there_some (two_arguments rest) mov_of shape hit.1 in
          cells.moves _ two.0.0 two.0.1 shape (call_taken (codes "MOV") word rest two.0 hit.0 two.1) (is_mov two.0 shape two.2)
      | inr no_mov ↦ elim (chosen (same_letters word (codes "MFENCE")) (no_more fence rest) at_xchg (Some shape) no_mov.1) [
        | inl hit ↦ no_more_made set word rest shape hit.0 hit.1
        | inr no_fence ↦ elim (chosen (same_letters word (codes "XCHG")) (there (two_arguments rest) (exchange_of set) None) at_lock (Some shape) no_fence.1) [
          | inl hit ↦
              let two = there_some (two_arguments rest) (exchange_of set) shape hit.1 in
              exchange_taken set word rest two.0 shape two.2 (call_taken (codes "XCHG") word rest two.0 hit.0 two.1)
          | inr no_exchange ↦ elim (chosen (same_letters word (codes "LOCK")) (locked_at set rest) others (Some shape) no_exchange.1) [
            | inl hit ↦ cells.locks word (terms rest) shape hit.0 (locked_taken set rest shape hit.1)
            | inr no_lock ↦ let g = given_by_all set (more_by (word, rest)) shape no_lock.1 in cells.more _ shape g.0 (more_taken word rest shape g.1)
          ]
        ]
      ]
    ])
