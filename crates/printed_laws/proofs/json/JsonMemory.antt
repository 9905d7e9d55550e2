-- A JSON object with a member for each location tells the words, wherever the bytes of the names belong.
use Rattle.printed_laws.proofs.Vocabulary.{◌≡◌, ◌≢◌, ℕ, Bool, true, false, not, cond, ◌||◌, List, [], ◌∷◌, length, All, refl, sym, ap}
use Rattle.printed_laws.proofs.Vocabulary.{subst, ◌∙◌, arith, decimal, bytes_eq}
use Rattle.printed_laws.proofs.Vocabulary.{and_parts, decimal_injective, All-head, All-tail, Members}
use Rattle.printed_laws.proofs.Vocabulary.{put, members_outline, are_distinct, is_among, IsWord, bytes_eq-Decides, count}
use Rattle.printed_laws.proofs.Vocabulary.{memory_members}
use Rattle.json.specs.Json as json
use Rattle.printed_laws.proofs.json.JsonKeys.{found, own-value, other-value}
use Rattle.printed_laws.proofs.json.JsonTexts.{text_in}

-- the text at a key
abbrev named : List ℕ → json.Members → List ℕ
named k ms = text_in (found k ms)

own-text : (k : List ℕ) (w : ℕ) (ms : Members) → named k (members_outline (put k (count w) ms)) ≡ decimal w
own-text k w ms = ap text_in (own-value k (count w) ms)

other-text : (other k : List ℕ) (w : ℕ) (ms : Members) → other ≢ k → named other (members_outline (put k (count w) ms)) ≡ named other (members_outline ms)
other-text other k w ms differ = ap text_in (other-value other k (count w) ms differ)

or-true : (b : Bool) → (b || true) ≡ true
or-true true = refl
or-true false = refl

isnt-among : (name k : List ℕ) (names : List (List ℕ)) → not (is_among name names) ≡ true → is_among k names ≡ true → k ≢ name
isnt-among name k names alone among same =
    let here : is_among name names ≡ true = subst (λ (n : List ℕ). is_among n names ≡ true) same among in
    absurd (clash (is_among name names) here alone)
  where
    clash : (b : Bool) → b ≡ true → not b ≡ true → ⊥
    clash b is isnt = cc

words-agree : (names : List (List ℕ)) (xs ys : List ℕ)
    → are_distinct names ≡ true
    → length xs ≡ length names
    → length ys ≡ length names
    → All IsWord xs
    → All IsWord ys
    → ((k : List ℕ)
    → is_among k names ≡ true
    → named k (members_outline (memory_members names xs)) ≡ named k (members_outline (memory_members names ys)))
    → xs ≡ ys
words-agree [] [] [] distinct m n p q agree = refl
words-agree [] (x ∷ xs) ys distinct m n p q agree = absurd (omega (arith, m))
words-agree [] xs (y ∷ ys) distinct m n p q agree = absurd (omega (arith, n))
words-agree (name ∷ names) [] ys distinct m n p q agree = absurd (omega (arith, m))
words-agree (name ∷ names) (x ∷ xs) [] distinct m n p q agree = absurd (omega (arith, n))
words-agree (name ∷ names) (x ∷ xs) (y ∷ ys) distinct m n p q agree =
    let parts = and_parts (not (is_among name names)) (are_distinct names) distinct in
    let ms = memory_members names xs in
    let ms' = memory_members names ys in
    let px : IsWord x = All-head IsWord x xs p in
    let py : IsWord y = All-head IsWord y ys q in
    let here : is_among name (name ∷ names) ≡ true = ap (λ (b : Bool). b || is_among name names) ((bytes_eq-Decides name name).1 refl) in
    let digits = sym (own-text name x ms) ∙ (agree name here ∙ own-text name y ms') in
    let first = decimal_injective x y (omega (arith, px)) (omega (arith, py)) digits in
    let later : (k : List ℕ) → is_among k names ≡ true → named k (members_outline ms) ≡ named k (members_outline ms') = λ k among.
    let apart = isnt-among name k names parts.0 among in
    let still : is_among k (name ∷ names) ≡ true = ap (λ (b : Bool). bytes_eq name k || b) among ∙ or-true (bytes_eq name k) in
    sym (other-text k name x ms apart) ∙ (agree k still ∙ other-text k name y ms' apart) in
    let further = words-agree names xs ys parts.1 (omega (arith, m)) (omega (arith, n)) (All-tail IsWord x xs p) (All-tail IsWord y ys q) later in
    λ i. first i ∷ further i

pub memory-told : (names : List (List ℕ)) (xs ys : List ℕ)
    → are_distinct names ≡ true
    → length xs ≡ length names
    → length ys ≡ length names
    → All IsWord xs
    → All IsWord ys
    → members_outline (memory_members names xs) ≡ members_outline (memory_members names ys) → xs ≡ ys
memory-told names xs ys distinct m n p q same = words-agree names xs ys distinct m n p q (λ k among. ap (named k) same)
