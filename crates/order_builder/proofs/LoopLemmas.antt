-- Lines one after the other, as loops read them.
use Rattle.order_builder.proofs.Vocabulary.{◌≡◌, ℕ, ◌+◌, true, false, eqb, List, [], ◌∷◌, ◌++◌, length, Some, None, Result, Ok, Err, refl}
use Rattle.order_builder.proofs.Vocabulary.{sym, ap, ◌∙◌, append-nil, length-append, Litmus, Entry, lines_of, decimal_value, onto}
use Rattle.order_builder.proofs.Vocabulary.{entries_in, entry_in, end_in, OrderFault, BadLine, BadCount}
use Rattle.std.proofs.Common.{append_assoc}

-- what was read before, and what is still read
abbrev pub with_front : List Entry → Result (List Entry) OrderFault → Result (List Entry) OrderFault
with_front front (Ok es) = Ok (front ++ es)
with_front front (Err fault) = Err fault

regroup : (front : List Entry) (e : Entry) (read : Result (List Entry) OrderFault) → with_front front (onto e read) ≡ with_front (front ++ e ∷ []) read
regroup front e (Ok es) = ap (λ (l : List Entry). Ok l) (sym (append_assoc front (e ∷ []) es))
regroup front e (Err fault) = refl

-- an entry's line
pub goes_on : (t : Litmus) (start : ℕ) (front : List Entry) (rest line after : List ℕ) (e : Entry) (total : Result (List Entry) OrderFault)
    → lines_of rest ≡ line ∷ lines_of after → None ≡ end_in line → Some e ≡ entry_in t line
    → with_front front (entries_in t start (length front) (lines_of rest)) ≡ total
    → with_front (front ++ e ∷ []) (entries_in t start (length (front ++ e ∷ [])) (lines_of after)) ≡ total
unfolding entries_in
goes_on t start front rest line after e total lines no_end entry so_far =
    let more : length (front ++ e ∷ []) ≡ length front + 1 = length-append front (e ∷ []) in
    let one : with_front front (entries_in t start (length front) (lines_of rest))
    ≡ with_front front (onto e (entries_in t start (length front + 1) (lines_of after))) =
    rw (lines, ← no_end, ← entry) refl in
    rw more (sym (regroup front e (entries_in t start (length front + 1) (lines_of after))) ∙ sym one ∙ so_far)

pub ends_bad : (t : Litmus) (start n : ℕ) (front : List Entry) (rest line after : List ℕ) (total : Result (List Entry) OrderFault)
    → lines_of rest ≡ line ∷ lines_of after → None ≡ end_in line → None ≡ entry_in t line
    → with_front front (entries_in t start (length front) (lines_of rest)) ≡ total → n ≡ length front → total ≡ Err (BadLine (start + n + 1))
unfolding entries_in
ends_bad t start n front rest line after total lines no_end no_entry so_far n-is =
    let one : with_front front (entries_in t start (length front) (lines_of rest))
    ≡ Err (BadLine (start + length front + 1)) =
    rw (lines, ← no_end, ← no_entry) refl in
    rw n-is (sym so_far ∙ one)

pub ends_good : (t : Litmus) (start n : ℕ) (front : List Entry) (rest line after digits : List ℕ) (total : Result (List Entry) OrderFault)
    → lines_of rest ≡ line ∷ lines_of after → Some digits ≡ end_in line → true ≡ eqb (decimal_value digits) n
    → with_front front (entries_in t start (length front) (lines_of rest)) ≡ total → n ≡ length front → total ≡ Ok front
unfolding entries_in
ends_good t start n front rest line after digits total lines end count so_far n-is =
    let one : with_front front (entries_in t start (length front) (lines_of rest)) ≡ Ok front =
    rw (lines, ← end, ← n-is, ← count) (ap (λ (l : List Entry). Ok l) (append-nil front)) in
    sym so_far ∙ one

pub ends_miscounted : (t : Litmus) (start n : ℕ) (front : List Entry) (rest line after digits : List ℕ) (total : Result (List Entry) OrderFault)
    → lines_of rest ≡ line ∷ lines_of after → Some digits ≡ end_in line → false ≡ eqb (decimal_value digits) n
    → with_front front (entries_in t start (length front) (lines_of rest)) ≡ total → n ≡ length front → total ≡ Err BadCount
unfolding entries_in
ends_miscounted t start n front rest line after digits total lines end count so_far n-is =
    let one : with_front front (entries_in t start (length front) (lines_of rest)) ≡ Err BadCount = rw (lines, ← end, ← n-is, ← count) refl in
    sym so_far ∙ one

pub ends_early : (t : Litmus) (start : ℕ) (front : List Entry) (rest : List ℕ) (total : Result (List Entry) OrderFault)
    → lines_of rest ≡ [] → with_front front (entries_in t start (length front) (lines_of rest)) ≡ total → total ≡ Err BadCount
unfolding entries_in
ends_early t start front rest total none so_far =
    let one : with_front front (entries_in t start (length front) (lines_of rest)) ≡ Err BadCount = rw none refl in
    sym so_far ∙ one
