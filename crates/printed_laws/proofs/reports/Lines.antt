-- The lines of a report, one after the other: what each begins a text with is told by the text.
use Rattle.printed_laws.proofs.Vocabulary.{◌≡◌, ℕ, Bool, true, false, List, [], ◌∷◌, ◌++◌, get_or, refl, sym, ap, ◌∙◌, Option, arith}
use Rattle.printed_laws.proofs.Vocabulary.{length, All, Some, None, is_some, ◌==◌, map, decimal, append_cancel_left, append_assoc}
use Rattle.printed_laws.proofs.Vocabulary.{length-map, codes, line, printed_registers, register_lines, printed_words, printed_quantifier}
use Rattle.printed_laws.proofs.Vocabulary.{printed_truth, printed_verdict, all_registers, Condition, IsWord, AreRegisters, index_of}
use Rattle.printed_laws.proofs.Vocabulary.{name_of, value_in, Reg}
use Rattle.printed_laws.proofs.texts.Cutting.{Stops, AreSmall, unlike, filled, filled-cut, labels-are, words-small}
use Rattle.printed_laws.proofs.texts.Lists.{Tells, list-cut, all-told, word-at}

-- ---- registers

pub all-values : (registers : List ℕ) → length registers ≡ 6 → map (value_in registers) all_registers ≡ registers
unfolding all_registers
all-values (a ∷ b ∷ c ∷ d ∷ e ∷ f ∷ []) six = refl
all-values _ six = absurd (omega (arith, six))

values-small : (registers : List ℕ) (regs : List Reg) → All IsWord registers → AreSmall (map (value_in registers) regs)
values-small registers [] all = tt
values-small registers (reg ∷ regs) all = let word = word-at registers (index_of reg) all in (omega (arith, word), values-small registers regs all)

-- ` x=`
abbrev label_of : List ℕ → List ℕ
label_of name = codes " " ++ (name ++ codes "=")

pub labelled-flat : (name value more rest : List ℕ)
    → ((codes " " ++ (name ++ (codes "=" ++ value))) ++ more) ++ rest
    ≡ (codes " " ++ (name ++ codes "=")) ++ (value ++ (more ++ rest))
labelled-flat name value more rest = simp append_assoc

registers-filled : (xs : List ℕ) (regs : List Reg) (rest : List ℕ)
    → printed_registers xs regs ++ rest
    ≡ filled (map (λ reg. label_of (name_of reg)) regs) (map (value_in xs) regs) rest
registers-filled xs [] rest = refl
registers-filled xs (reg ∷ regs) rest =
    labelled-flat (name_of reg) (decimal (value_in xs reg)) (printed_registers xs regs) rest
    ∙ ap (λ (l : List ℕ). label_of (name_of reg) ++ (decimal (value_in xs reg) ++ l)) (registers-filled xs regs rest)

register-line-flat : (core text rest : List ℕ) → (codes "Registers P" ++ (core ++ line text)) ++ rest ≡ (codes "Registers P" ++ core) ++ (text ++ 10 ∷ rest)
register-line-flat core text rest = simp append_assoc

register-line-cut : (core : ℕ)
    → Tells AreRegisters (λ rest. Unit) (λ xs. codes "Registers P" ++ (decimal core ++ line (printed_registers xs all_registers))) (λ xs. xs)
register-line-cut core x y rest other p q f f' e =
    let text = λ (xs : List ℕ). printed_registers xs all_registers in
    let flat = sym (register-line-flat (decimal core) (text x) rest) ∙ (e ∙ register-line-flat (decimal core) (text y) other) in
    let numbered = append_cancel_left (codes "Registers P" ++ decimal core) (text x ++ 10 ∷ rest) (text y ++ 10 ∷ other) flat in
    let split = sym (registers-filled x all_registers (10 ∷ rest)) ∙ (numbered ∙ registers-filled y all_registers (10 ∷ other)) in
    let labels = map (λ reg. label_of (name_of reg)) all_registers in
    let size = λ (xs : List ℕ). length-map all_registers (value_in xs) ∙ sym (length-map all_registers (λ reg. label_of (name_of reg))) in
    let cut =
    filled-cut labels (map (value_in x) all_registers) (map (value_in y) all_registers) (10 ∷ rest) (10 ∷ other)
    (labels-are (λ reg. label_of (name_of reg)) all_registers (λ reg. refl)) (size x) (size y)
    (values-small x all_registers p.words) (values-small y all_registers q.words) refl refl split in
    (sym (all-values x p.six) ∙ (cut.0 ∙ all-values y q.six), append_cancel_left (10 ∷ []) rest other cut.1)

-- the text doesn't begin as a line of registers does
abbrev pub NoRegisters : List ℕ → Type 0
NoRegisters rest = (82 == get_or rest 0 0) ≡ false

pub register-lines-cut : (xs ys : List (List ℕ)) (rest other : List ℕ) → All AreRegisters xs → All AreRegisters ys → NoRegisters rest → NoRegisters other
    → register_lines 0 xs ++ rest ≡ register_lines 0 ys ++ other → (xs ≡ ys) × (rest ≡ other)
register-lines-cut xs ys rest other p q f f' e =
    let cut =
    list-cut AreRegisters (λ rest. Unit) NoRegisters
    (λ core xs. codes "Registers P" ++ (decimal core ++ line (printed_registers xs all_registers))) register_lines
    (λ xs. xs) (λ n. refl) (λ n x xs. refl)
    register-line-cut (λ n xs rest all f. tt) (λ n x more rest fits f e. unlike 0 _ rest f e) 0 xs ys rest other p q f f' e in
    (all-told xs ys cut.0, cut.1)

-- ---- words

words-filled : (names : List (List ℕ)) (words rest : List ℕ) → printed_words names words ++ rest ≡ filled (map label_of names) words rest
words-filled (name ∷ names) (word ∷ words) rest =
    words-flat name (decimal word) (printed_words names words) rest ∙ ap (λ (l : List ℕ). label_of name ++ (decimal word ++ l)) (words-filled names words rest)
  where
    words-flat : (name value more rest : List ℕ) → (codes " " ++ (name ++ (codes "=" ++ (value ++ more)))) ++ rest ≡ label_of name ++ (value ++ (more ++ rest))
    words-flat name value more rest = simp append_assoc
words-filled [] words rest = refl
words-filled (name ∷ names) [] rest = refl

pub words-cut : (names : List (List ℕ)) (xs ys rest other : List ℕ) → length xs ≡ length names → length ys ≡ length names → All IsWord xs → All IsWord ys
    → Stops rest → Stops other → printed_words names xs ++ rest ≡ printed_words names ys ++ other → (xs ≡ ys) × (rest ≡ other)
words-cut names xs ys rest other m n p q stops stops' e =
    let size = sym (length-map names label_of) in
    filled-cut (map label_of names) xs ys rest other (labels-are label_of names (λ name. refl)) (m ∙ size) (n ∙ size)
    (words-small xs p) (words-small ys q) stops stops'
    (sym (words-filled names xs rest) ∙ (e ∙ words-filled names ys other))

-- ---- the verdict

truth-cut : (a b : Bool) (rest other : List ℕ) → printed_truth a ++ rest ≡ printed_truth b ++ other → (a ≡ b) × (rest ≡ other)
truth-cut true true rest other e = (refl, append_cancel_left (codes "true") rest other e)
truth-cut false false rest other e = (refl, append_cancel_left (codes "false") rest other e)
truth-cut a b rest other e = unlike 0 (printed_truth a ++ rest) (printed_truth b ++ other) refl e

verdict-flat : (quantifier truth rest : List ℕ) → (quantifier ++ (codes " " ++ truth)) ++ rest ≡ quantifier ++ (codes " " ++ (truth ++ rest))
verdict-flat quantifier truth rest = simp append_assoc

pub verdict-cut : (condition : Option Condition) (a b : Option Bool) (rest other : List ℕ) → is_some a ≡ is_some condition → is_some b ≡ is_some condition
    → printed_verdict condition a ++ rest ≡ printed_verdict condition b ++ other → (a ≡ b) × (rest ≡ other)
verdict-cut None None None rest other p q e = (refl, append_cancel_left (codes "none") rest other e)
verdict-cut (Some c) (Some a) (Some b) rest other p q e =
    let quantifier = printed_quantifier c.quantifier in
    let flat = sym (verdict-flat quantifier (printed_truth a) rest) ∙ (e ∙ verdict-flat quantifier (printed_truth b) other) in
    let quantified = append_cancel_left quantifier (codes " " ++ (printed_truth a ++ rest)) (codes " " ++ (printed_truth b ++ other)) flat in
    let cut = truth-cut a b rest other (append_cancel_left (codes " ") (printed_truth a ++ rest) (printed_truth b ++ other) quantified) in
    (ap Some cut.0, cut.1)
verdict-cut _ _ _ rest other p q e = absurd cc
