-- The lists of a test's parts, one item more at a time.
use Rattle.litmus_reader.proofs.Vocabulary.{◌≡◌, ◌==◌, ℕ, zero, suc, ◌+◌, ◌<◌, ◌≤◌, Bool, true, false, cond, List, [], ◌∷◌, ◌++◌, length}
use Rattle.litmus_reader.proofs.Vocabulary.{take, drop, get_or, All, refl, sym, ap, subst, ◌∙◌, add-one, drop-cons, append_assoc, arith}
use Rattle.litmus_reader.proofs.Vocabulary.{get_or-map, map-append, append-nil, nil_from_length, length-drop, take-suc, Instr, CoreInstr}
use Rattle.litmus_reader.proofs.Vocabulary.{texts, program_of, range_with_len, map}
use denote.Ref.{Bor}

range_next : (a n : ℕ) → range_with_len a (suc n) ≡ range_with_len a n ++ (a + n) ∷ []
range_next a zero = let e : a + 0 ≡ a = omega arith in rw e refl
range_next a (suc n) = let e : a + suc n ≡ a + 1 + n = omega arith in rw e (ap (λ (l : List ℕ). a ∷ l) (range_next (a + 1) n))

pub programs_next : (core : ℕ) (instrs : List CoreInstr)
    → map (program_of instrs) (range_with_len 0 (core + 1))
    ≡ map (program_of instrs) (range_with_len 0 core) ++ program_of instrs core ∷ []
programs_next core instrs =
    let e : 0 + core ≡ core = omega arith in
    rw add-one (ap (map (program_of instrs)) (range_next 0 core ∙ ap (λ (n : ℕ). range_with_len 0 core ++ n ∷ []) e)
    ∙ map-append (program_of instrs) (range_with_len 0 core) (core ∷ []))

pub texts_next : (names : List (Bor (List ℕ))) (i : ℕ) (d : Bor (List ℕ))
    → i < length names
    → texts (take (i + 1) names) ≡ texts (take i names) ++ (get_or names i d).now ∷ []
texts_next names i d lt = rw add-one (ap texts (take-suc names i d lt) ∙ map-append (λ x. x.now) (take i names) (get_or names i d ∷ []))

pub text_at : (P : List ℕ → Type 0) (names : List (Bor (List ℕ))) (i : ℕ) (d : Bor (List ℕ)) → i < length names → All P (texts names) → P (get_or names i d).now
text_at P names i d lt each = subst P (get_or-map (λ (x : Bor (List ℕ)). x.now) names i d [] lt) (each i [] (subst (λ n. i < n) (sym (length-texts names)) lt))
  where
    length-texts : (xs : List (Bor (List ℕ))) → length (texts xs) ≡ length xs
    length-texts [] = refl
    length-texts (x ∷ xs) = ap suc (length-texts xs)

-- the program of the instructions from this one on
program_at : (core i : ℕ) (instrs : List CoreInstr) (d : CoreInstr) (b : Bool) → i < length instrs → ((get_or instrs i d).core == core) ≡ b
    → program_of (drop i instrs) core ≡ cond b ((get_or instrs i d).instr ∷ program_of (drop (i + 1) instrs) core) (program_of (drop (i + 1) instrs) core)
program_at core i instrs d true lt is = rw (add-one, drop-cons instrs i d, is) refl
program_at core i instrs d false lt is = rw (add-one, drop-cons instrs i d, is) refl

pub program_more : (core i : ℕ) (instrs : List CoreInstr) (d : CoreInstr) (program whole : List Instr)
    → i < length instrs
    → ((get_or instrs i d).core == core) ≡ true
    → program ++ program_of (drop i instrs) core ≡ whole → program ++ (get_or instrs i d).instr ∷ [] ++ program_of (drop (i + 1) instrs) core ≡ whole
program_more core i instrs d program whole lt is so_far =
    append_assoc program ((get_or instrs i d).instr ∷ []) (program_of (drop (i + 1) instrs) core)
    ∙ ap (λ (l : List Instr). program ++ l) (sym (program_at core i instrs d true lt is)) ∙ so_far

pub program_same : (core i : ℕ) (instrs : List CoreInstr) (d : CoreInstr) (program whole : List Instr)
    → i < length instrs
    → ((get_or instrs i d).core == core) ≡ false
    → program ++ program_of (drop i instrs) core ≡ whole → program ++ program_of (drop (i + 1) instrs) core ≡ whole
program_same core i instrs d program whole lt is so_far = ap (λ (l : List Instr). program ++ l) (sym (program_at core i instrs d false lt is)) ∙ so_far

pub program_whole : (core i : ℕ) (instrs : List CoreInstr) (program whole : List Instr) → length instrs ≤ i
    → program ++ program_of (drop i instrs) core ≡ whole → program ≡ whole
program_whole core i instrs program whole past so_far =
    let nothing : drop i instrs ≡ [] = nil_from_length (drop i instrs) (omega (arith, length-drop i instrs)) in
    let done : program ++ program_of (drop i instrs) core ≡ program = rw nothing (append-nil program) in
    sym done ∙ so_far
