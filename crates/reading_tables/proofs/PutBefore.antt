-- Whether w is put before one of some events: by their program, or by a fact.
use Rattle.reading_tables.proofs.Vocabulary.{◌≡◌, ◌&&◌, ◌||◌, Bool, true, false, List, [], ◌∷◌, list_any, refl, ap, ◌∙◌, Entry}
use Rattle.refutation_laws.specs.Known.{same_event}
use Rattle.possible_reads.specs.Facts.{Fact, From, Before, Last, Returns, Holds}
use Rattle.possible_reads.specs.Possible.{is_told_before, is_put_before}
use Rattle.reading_tables.specs.inner.Orders.{is_followed_by, puts_before_some}

any-none : (xs : List Entry) → list_any (λ (v : Entry). false) xs ≡ false
any-none [] = refl
any-none (x ∷ xs) = any-none xs

any-and : (b : Bool) (f : Entry → Bool) (xs : List Entry) → list_any (λ v. b && f v) xs ≡ (b && list_any f xs)
any-and true f xs = refl
any-and false f xs = any-none xs

four : (a b c d : Bool) → ((a || b) || (c || d)) ≡ ((a || c) || (b || d))
four true b c d = refl
four false true true d = refl
four false true false d = refl
four false false c d = refl

any-or : (f g : Entry → Bool) (xs : List Entry) → list_any (λ v. f v || g v) xs ≡ (list_any f xs || list_any g xs)
any-or f g [] = refl
any-or f g (x ∷ xs) = ap (λ b. (f x || g x) || b) (any-or f g xs) ∙ four (f x) (g x) (list_any f xs) (list_any g xs)

pub other_way : (a b : Bool) → (a || b) ≡ (b || a)
other_way true true = refl
other_way true false = refl
other_way false true = refl
other_way false false = refl

told : (w : Entry) (events : List Entry) (facts : List Fact)
    → list_any (λ v. list_any (is_told_before w v) facts) events ≡ list_any (puts_before_some events w) facts
told w events [] = any-none events
told w events (Before first second ∷ fs) =
    any-or (λ v. same_event first w && same_event second v) (λ v. list_any (is_told_before w v) fs) events
    ∙ (ap (λ b. b || list_any (λ v. list_any (is_told_before w v) fs) events) (any-and (same_event first w) (same_event second) events)
    ∙ ap (λ b. (same_event first w && list_any (same_event second) events) || b) (told w events fs))
told w events (From read write truth ∷ fs) = told w events fs
told w events (Last write truth ∷ fs) = told w events fs
told w events (Returns read value truth ∷ fs) = told w events fs
told w events (Holds claim truth ∷ fs) = told w events fs

pub put_before_some : (w : Entry) (events : List Entry) (facts : List Fact)
    → list_any (is_put_before facts w) events ≡ (list_any (is_followed_by w) events || list_any (puts_before_some events w) facts)
put_before_some w events facts =
    any-or (λ v. list_any (is_told_before w v) facts) (is_followed_by w) events
    ∙ (ap (λ b. b || list_any (is_followed_by w) events) (told w events facts)
    ∙ other_way (list_any (puts_before_some events w) facts) (list_any (is_followed_by w) events))
