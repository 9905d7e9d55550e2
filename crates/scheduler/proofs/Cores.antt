-- The choices that a text spells are of cores that are there.
use Rattle.scheduler.proofs.Vocabulary.{◌≡◌, ◌<◌, ℕ, ◌*◌, ◌/◌, ◌%◌, ◌==◌, Bool, true, false, cond, List, [], ◌∷◌, ◌++◌, map, arith, refl}
use Rattle.scheduler.proofs.Vocabulary.{subst, sym, lit<, div-lt_iff_lt-mul, chosen, CoresExist, Choice, Step, Drain, choice_of_word}
use Rattle.scheduler.proofs.Vocabulary.{IsItem, one, seeded, AreItems, none, more, SpellsChoices}

CoresExist-append : (cores : ℕ) (xs ys : List Choice) → CoresExist cores xs → CoresExist cores ys → CoresExist cores (xs ++ ys)
CoresExist-append cores [] ys h k = k
CoresExist-append cores (x ∷ xs) ys h k = (h.0, CoresExist-append cores xs ys h.1 k)

half-below : (cores word : ℕ) → 0 < cores → (word % (2 * cores)) / 2 < cores
half-below cores word h =
    let below : word % (2 * cores) < 2 * cores = omega arith in
    let same : 2 * cores ≡ cores * 2 = omega arith in
    (div-lt_iff_lt-mul {k = 2} {x = word % (2 * cores)} {y = cores} (lit< tt)).1 (subst (λ n. word % (2 * cores) < n) same below)

picked : (b : Bool) (n : ℕ) → chosen (cond b (Step (record { 0 = n })) (Drain (record { 0 = n }))) ≡ n
picked true n = refl
picked false n = refl

pub words-exist : (cores : ℕ) (words : List ℕ) → 0 < cores → CoresExist cores (map (choice_of_word cores) words)
words-exist cores [] h = tt
words-exist cores (w ∷ ws) h =
    (subst (λ n. n < cores) (sym (picked ((w % (2 * cores)) % 2 == 0) ((w % (2 * cores)) / 2))) (half-below cores w h), words-exist cores ws h)

item-exists : (cores : ℕ) (words : List (List ℕ)) (choices : List Choice) → 0 < cores → IsItem cores words choices → CoresExist cores choices
item-exists cores _ _ h (one word choice is known) = (known, tt)
item-exists cores _ _ h (seeded seed count is fits all) = words-exist cores _ h

items-exist : (cores : ℕ) (words : List (List ℕ)) (choices : List Choice) → 0 < cores → AreItems cores words choices → CoresExist cores choices
items-exist cores _ _ h none = tt
items-exist cores _ _ h (more words rest choices others item items) =
    CoresExist-append cores choices others (item-exists cores words choices h item) (items-exist cores rest others h items)

pub CoresExist-spelled : (cores : ℕ) (text : List ℕ) (choices : List Choice) → 0 < cores → SpellsChoices cores text choices → CoresExist cores choices
CoresExist-spelled cores text choices h s = items-exist cores _ choices h s.items
