-- The first registers of a test, one more at a time.
use Rattle.litmus_reader.proofs.Vocabulary.{◌≡◌, ◌==◌, ◌&&◌, true, false, ℕ, Bor, ◌+◌, ◌≤◌, ◌<◌, List, [], ◌∷◌, ◌++◌, length, map, drop}
use Rattle.litmus_reader.proofs.Vocabulary.{get_or, Result, Ok, Err, refl, sym, ap, ◌∙◌, add-one, drop-cons, arith, list_any, bytes_eq}
use Rattle.litmus_reader.proofs.Vocabulary.{index_of, nil_from_length, length-drop, map_push, Reg, TwiceInit, Fault, word_at, core_of}
use Rattle.litmus_reader.proofs.Vocabulary.{given_of, named_by_key, named_by_word, Given, initial, gives, judged, with_register}
use Rattle.litmus_reader.proofs.Vocabulary.{registers_with, fault, of_register}
use Rattle.std.specs.Prelude.{not, Bool}
use Rattle.std.specs.Cmp.{nat_eq_equiv}
use Rattle.std.specs.Cmp.Lexicographic.{nat_list_eq_equiv}
use Rattle.litmus_reader.specs.declared.initial.RegisterWord.{RegisterWord}
use Rattle.litmus_tokens.proofs.Maps.{list_any_map}

abbrev pub Registers : Type 0
Registers = Result (List (List ℕ)) Fault

rest_at : (given : List RegisterWord) (i : ℕ) (d : RegisterWord)
    → i < length given
    → map given_of (drop i given) ≡ given_of (get_or given i d) ∷ map given_of (drop (i + 1) given)
rest_at given i d lt = rw (add-one, drop-cons given i d) refl

pub registers_go_on : (cores i core : ℕ) (registers : List (List ℕ)) (given : List RegisterWord) (d : RegisterWord) (total : Registers)
    → i < length given → core_of cores (get_or given i d).remaining (get_or given i d).core.now ≡ Ok core
    → registers_with cores registers (map given_of (drop i given)) ≡ total
    → registers_with cores (with_register registers core (get_or given i d).reg (get_or given i d).value) (map given_of (drop (i + 1) given)) ≡ total
unfolding registers_with
registers_go_on cores i core registers given d total lt is so_far =
    let one : registers_with cores registers (map given_of (drop i given))
    ≡ registers_with cores (with_register registers core (get_or given i d).reg (get_or given i d).value) (map given_of (drop (i + 1) given)) =
    rw (rest_at given i d lt, is) refl in
    sym one ∙ so_far

pub registers_fail : (f : Fault) (cores i : ℕ) (registers : List (List ℕ)) (given : List RegisterWord) (d : RegisterWord) (total : Registers)
    → i < length given → core_of cores (get_or given i d).remaining (get_or given i d).core.now ≡ Err f
    → registers_with cores registers (map given_of (drop i given)) ≡ total → total ≡ Err f
unfolding registers_with
registers_fail f cores i registers given d total lt is so_far =
    let one : registers_with cores registers (map given_of (drop i given)) ≡ Err f = rw (rest_at given i d lt, is) refl in
    sym so_far ∙ one

pub registers_done : (cores i : ℕ) (registers : List (List ℕ)) (given : List RegisterWord) (total : Registers)
    → length given ≤ i → registers_with cores registers (map given_of (drop i given)) ≡ total → total ≡ Ok registers
unfolding registers_with
registers_done cores i registers given total past so_far =
    let nothing : drop i given ≡ [] = nil_from_length (drop i given) (omega (arith, length-drop i given)) in
    let one : registers_with cores registers (map given_of (drop i given)) ≡ Ok registers = rw nothing refl in
    sym so_far ∙ one

-- ---- a register's first word more

pub judged_twice : (remaining : ℕ) (names : List (List ℕ)) (words : List ℕ) (registers : List RegisterWord) (core : List ℕ) (reg : Reg) (v value : ℕ)
    → Ok value ≡ word_at remaining v → list_any (λ r. gives core reg (given_of r)) registers ≡ true
    → judged remaining (initial names words (map given_of registers)) (of_register core reg v) ≡ Err (fault TwiceInit remaining)
unfolding judged
judged_twice remaining names words registers core reg v value is twice = rw (← is, list_any_map (gives core reg) given_of registers, twice) refl

pub judged_new : (remaining : ℕ) (names : List (List ℕ)) (words : List ℕ) (registers new : List RegisterWord) (w : RegisterWord) (v : ℕ)
    → Ok w.value ≡ word_at remaining v
    → list_any (λ r. gives w.core.now w.reg (given_of r)) registers ≡ false
    → remaining ≡ w.remaining
    → new ≡ registers ++ w ∷ []
    → judged remaining (initial names words (map given_of registers)) (of_register w.core.now w.reg v) ≡ Ok (initial names words (map given_of new))
unfolding judged
judged_new remaining names words registers new w v is once place pushed =
    rw (← is, list_any_map (gives w.core.now w.reg) given_of registers, once, place, pushed)
    (ap (λ (l : List Given). Ok (initial names words l)) (sym (map_push given_of registers w)))

-- ---- the registers that were given before

same-register : (core : List ℕ) (i : ℕ) (k : Bor (List ℕ) × ℕ) (r : RegisterWord) → named_by_key k ≡ named_by_word r
    → (bytes_eq core k.0.now && (i == k.1)) ≡ (bytes_eq r.core.now core && (index_of r.reg == i))
same-register core i k r is =
    let digits : k.0.now ≡ r.core.now = ap (λ n. n.0) is in
    let number : k.1 ≡ index_of r.reg = ap (λ n. n.1) is in
    rw (digits, number, nat_list_eq_equiv.symm core r.core.now, nat_eq_equiv.symm i (index_of r.reg)) refl

pub given_before : (core : List ℕ) (reg : Reg) (i : ℕ) (keys : List (Bor (List ℕ) × ℕ)) (registers : List RegisterWord)
    → i ≡ index_of reg → map named_by_key keys ≡ map named_by_word registers
    → list_any (λ k. bytes_eq core k.0.now && (i == k.1)) keys ≡ list_any (λ r. gives core reg (given_of r)) registers
given_before core reg i [] [] at known = refl
given_before core reg i [] (r ∷ rs) at known = absurd cc
given_before core reg i (k ∷ ks) [] at known = absurd cc
given_before core reg i (k ∷ ks) (r ∷ rs) at known = rw (same-register core i k r cc, given_before core reg i ks rs at cc, at) refl

not_twice : (b : Bool) → not (not b) ≡ b
not_twice true = refl
not_twice false = refl

-- a register that is noted for the first time, and only such a one, wasn't given a word
pub given_unless_first : (core : List ℕ) (reg : Reg) (i : ℕ) (keys : List (Bor (List ℕ) × ℕ)) (registers : List RegisterWord) (first : Bool)
    → i ≡ index_of reg → map named_by_key keys ≡ map named_by_word registers
    → first ≡ not (list_any (λ k. bytes_eq core k.0.now && (i == k.1)) keys)
    → list_any (λ r. gives core reg (given_of r)) registers ≡ not first
given_unless_first core reg i keys registers first at known is =
    sym (given_before core reg i keys registers at known) ∙ sym (not_twice (list_any (λ k. bytes_eq core k.0.now && (i == k.1)) keys)) ∙ ap not (sym is)
