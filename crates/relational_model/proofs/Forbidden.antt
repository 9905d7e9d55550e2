-- Worked candidates that the model forbids: each is a candidate of its test, and a cycle or a write in between shows that it isn't allowed.
use Rattle.relational_model.proofs.Vocabulary.{◌≡◌, ◌<◌, ℕ, ◌==◌, zero, suc, Bool, true, false, List, [], ◌∷◌, refl, sym, ap, ◌∙◌, inl, inr}
use Rattle.relational_model.proofs.Vocabulary.{subst, length, arith, filter, Litmus, entry, fence, loc_x, loc_y, is_read, is_write}
use Rattle.relational_model.proofs.Vocabulary.{writes_to, Entry, R, W, LR, LW, IsIn, at_once, onward, Candidate, Returns, IsCandidate}
use Rattle.relational_model.proofs.Vocabulary.{events, IsAllowed, IsForbidden, write_before_write, read_before_access, mfence, implied, rfe}
use Rattle.relational_model.proofs.Vocabulary.{fr, of_x_and_y, fenced, fenced_candidate, exchanged, exchanged_candidate, passing}
use Rattle.relational_model.proofs.Vocabulary.{passing_candidate, buffering, buffering_candidate, independent, independent_candidate}
use Rattle.relational_model.proofs.Vocabulary.{between, between_candidate}
use Rattle.relational_model.proofs.Lists.{in-case, in-none}
use Rattle.relational_model.proofs.Worked.{Without, filter-none, not-first, not-second}
use Rattle.relational_model.proofs.Independent.{no-opposite-registers}
use Rattle.relational_model.proofs.KindFacts.{writes}

-- ---- candidates, told event by event

-- what is asked of each event: a read returns what it is to, a write is in its location's coherence order, a fence is neither
pub data Fits (t : Litmus) (c : Candidate) : List Entry → Type 0 where
  fit-none : Fits t c []
  fit-read : (x : Entry) (xs : List Entry) → Returns t c x (c.source x) → is_write x ≡ false → Fits t c xs → Fits t c (x ∷ xs)
  fit-write : (x : Entry) (xs : List Entry) → is_read x ≡ false → ((loc : ℕ) → writes_to loc x ≡ true → IsIn (c.coherence loc) x)
      → Fits t c xs → Fits t c (x ∷ xs)
  fit-fence : (x : Entry) (xs : List Entry) → is_read x ≡ false → is_write x ≡ false → Fits t c xs → Fits t c (x ∷ xs)

pub no-read : {A : Type 0} → false ≡ true → A
no-read h = let z : ⊥ = cc in absurd z

-- an event that is none of these
not-it : (p : Entry → Bool) (x y : Entry) → p x ≡ false → y ≡ x → p y ≡ true → ⊥
not-it p x y f e h = let k : p y ≡ p x = ap p e in let z : ⊥ = cc in z

fitting : (t : Litmus) (c : Candidate) (xs : List Entry) → Fits t c xs → (y : Entry) → IsIn xs y
    → (is_read y ≡ true → Returns t c y (c.source y)) × ((loc : ℕ) → writes_to loc y ≡ true → IsIn (c.coherence loc) y)
fitting t c _ fit-none y i = absurd (in-none y i)
fitting t c _ (fit-read x xs returns f rest) y i = elim (in-case x xs y i) [
  | inl e ↦ ((λ h. subst (λ z. Returns t c z (c.source z)) (sym e) returns), (λ loc h. absurd (not-it is_write x y f e (writes loc y h))))
  | inr j ↦ fitting t c xs rest y j
]
fitting t c _ (fit-write x xs f stands rest) y i = elim (in-case x xs y i) [
  | inl e ↦ (
    (λ h. absurd (not-it is_read x y f e h)),
    (λ loc h. subst (IsIn (c.coherence loc)) (sym e) (stands loc (subst (λ z. writes_to loc z ≡ true) e h))),
  )
  | inr j ↦ fitting t c xs rest y j
]
fitting t c _ (fit-fence x xs f g rest) y i = elim (in-case x xs y i) [
  | inl e ↦ ((λ h. absurd (not-it is_read x y f e h)), (λ loc h. absurd (not-it is_write x y g e (writes loc y h))))
  | inr j ↦ fitting t c xs rest y j
]

-- a write to x is none to y or to a third location, and a write to y none to x or to a third one
pub to-x : (xs ys : List Entry) (w : Entry) → IsIn xs w → (loc : ℕ) → (0 == loc) ≡ true → IsIn (of_x_and_y xs ys loc) w
to-x xs ys w i zero h = i
to-x xs ys w i (suc zero) h = no-read h
to-x xs ys w i (suc (suc n)) h = no-read (sym (not-first n) ∙ h)

to-y : (xs ys : List Entry) (w : Entry) → IsIn ys w → (loc : ℕ) → (1 == loc) ≡ true → IsIn (of_x_and_y xs ys loc) w
to-y xs ys w i zero h = no-read h
to-y xs ys w i (suc zero) h = i
to-y xs ys w i (suc (suc n)) h = no-read (sym (not-second n) ∙ h)

pub told : (t : Litmus) (c : Candidate) (xs ys : List Entry) → c.coherence ≡ of_x_and_y xs ys → Fits t c (events t c)
    → length xs ≡ length (filter (writes_to 0) (events t c)) → length ys ≡ length (filter (writes_to 1) (events t c))
    → ((n : ℕ) → Without (writes_to (suc (suc n))) (events t c)) → IsCandidate t c
told t c xs ys is fits at-x at-y none = record {
  reads = λ r i h. (fitting t c (events t c) fits r i).0 h;
  writes = λ loc w i h. (fitting t c (events t c) fits w i).1 loc h;
  count = λ loc. subst (λ f. length (f loc) ≡ length (filter (writes_to loc) (events t c))) (sym is) (count loc);
}
  where
    count : (loc : ℕ) → length (of_x_and_y xs ys loc) ≡ length (filter (writes_to loc) (events t c))
    count zero = at-x
    count (suc zero) = at-y
    count (suc (suc n)) = sym (ap length (filter-none (writes_to (suc (suc n))) (events t c) (none n)))

-- ---- fenced

fenced-never : IsAllowed fenced fenced_candidate → ⊥
fenced-never a =
    a.global (entry 0 0 W loc_x 1)
    (onward (entry 0 0 W loc_x 1) (entry 0 2 R loc_y 0) (entry 0 0 W loc_x 1) (0, refl)
    (mfence (entry 0 0 W loc_x 1) (fence 0 1) (entry 0 2 R loc_y 0) (1, refl) refl refl refl)
    (onward (entry 0 2 R loc_y 0) (entry 1 0 W loc_y 1) (entry 0 0 W loc_x 1) (2, refl)
    (fr (entry 0 2 R loc_y 0) (entry 1 0 W loc_y 1) (record { read = refl; overwritten = (0, refl) }))
    (onward (entry 1 0 W loc_y 1) (entry 1 2 R loc_x 0) (entry 0 0 W loc_x 1) (3, refl)
    (mfence (entry 1 0 W loc_y 1) (fence 1 1) (entry 1 2 R loc_x 0) (4, refl) refl refl refl)
    (at_once (entry 1 2 R loc_x 0) (entry 0 0 W loc_x 1) (5, refl) (0, refl)
    (fr (entry 1 2 R loc_x 0) (entry 0 0 W loc_x 1) (record { read = refl; overwritten = (0, refl) }))))))

pub fenced-is-forbidden : IsForbidden fenced fenced_candidate
fenced-is-forbidden = record {
  candidate =
      told fenced fenced_candidate xs ys refl fits refl refl (λ n. (not-first n, (refl, (refl, (not-second n, (refl, (refl, tt)))))));
  never = λ a. fenced-never a;
}
  where
    xs : List Entry
    xs = entry 0 0 W loc_x 1 ∷ []

    ys : List Entry
    ys = entry 1 0 W loc_y 1 ∷ []

    fits : Fits fenced fenced_candidate (events fenced fenced_candidate)
    fits =
        fit-write _ _ refl (λ loc h. to-x xs ys (entry 0 0 W loc_x 1) (0, refl) loc h)
        (fit-fence _ _ refl refl
        (fit-read _ _ refl refl
        (fit-write _ _ refl (λ loc h. to-y xs ys (entry 1 0 W loc_y 1) (0, refl) loc h)
        (fit-fence _ _ refl refl
        (fit-read _ _ refl refl fit-none)))))

-- ---- exchanged

exchanged-never : IsAllowed exchanged exchanged_candidate → ⊥
exchanged-never a =
    a.global (entry 0 0 LW loc_x 1)
    (onward (entry 0 0 LW loc_x 1) (entry 0 1 R loc_y 0) (entry 0 0 LW loc_x 1) (1, refl)
    (implied (entry 0 0 LW loc_x 1) (entry 0 1 R loc_y 0) refl refl refl refl)
    (onward (entry 0 1 R loc_y 0) (entry 1 0 LW loc_y 1) (entry 0 0 LW loc_x 1) (2, refl)
    (fr (entry 0 1 R loc_y 0) (entry 1 0 LW loc_y 1) (record { read = refl; overwritten = (0, refl) }))
    (onward (entry 1 0 LW loc_y 1) (entry 1 1 R loc_x 0) (entry 0 0 LW loc_x 1) (4, refl)
    (implied (entry 1 0 LW loc_y 1) (entry 1 1 R loc_x 0) refl refl refl refl)
    (at_once (entry 1 1 R loc_x 0) (entry 0 0 LW loc_x 1) (5, refl) (1, refl)
    (fr (entry 1 1 R loc_x 0) (entry 0 0 LW loc_x 1) (record { read = refl; overwritten = (0, refl) }))))))

pub exchanged-is-forbidden : IsForbidden exchanged exchanged_candidate
exchanged-is-forbidden = record {
  candidate =
      told exchanged exchanged_candidate xs ys refl fits refl refl
      (λ n. (refl, (not-first n, (refl, (refl, (not-second n, (refl, tt)))))));
  never = λ a. exchanged-never a;
}
  where
    xs : List Entry
    xs = entry 0 0 LW loc_x 1 ∷ []

    ys : List Entry
    ys = entry 1 0 LW loc_y 1 ∷ []

    fits : Fits exchanged exchanged_candidate (events exchanged exchanged_candidate)
    fits =
        fit-read _ _ refl refl
        (fit-write _ _ refl (λ loc h. to-x xs ys (entry 0 0 LW loc_x 1) (0, refl) loc h)
        (fit-read _ _ refl refl
        (fit-read _ _ refl refl
        (fit-write _ _ refl (λ loc h. to-y xs ys (entry 1 0 LW loc_y 1) (0, refl) loc h)
        (fit-read _ _ refl refl fit-none)))))

-- ---- passing

passing-never : IsAllowed passing passing_candidate → ⊥
passing-never a =
    a.global (entry 0 0 W loc_x 1)
    (onward (entry 0 0 W loc_x 1) (entry 0 1 W loc_y 1) (entry 0 0 W loc_x 1) (0, refl)
    (write_before_write (entry 0 0 W loc_x 1) (entry 0 1 W loc_y 1) refl refl refl)
    (onward (entry 0 1 W loc_y 1) (entry 1 0 R loc_y 1) (entry 0 0 W loc_x 1) (1, refl)
    (rfe (entry 0 1 W loc_y 1) (entry 1 0 R loc_y 1) (record { read = refl; source = refl }) (λ same. let z : ⊥ = cc in z))
    (onward (entry 1 0 R loc_y 1) (entry 1 1 R loc_x 0) (entry 0 0 W loc_x 1) (2, refl)
    (read_before_access (entry 1 0 R loc_y 1) (entry 1 1 R loc_x 0) refl refl refl)
    (at_once (entry 1 1 R loc_x 0) (entry 0 0 W loc_x 1) (3, refl) (0, refl)
    (fr (entry 1 1 R loc_x 0) (entry 0 0 W loc_x 1) (record { read = refl; overwritten = (0, refl) }))))))

pub passing-is-forbidden : IsForbidden passing passing_candidate
passing-is-forbidden = record {
  candidate = told passing passing_candidate xs ys refl fits refl refl (λ n. (not-first n, (not-second n, (refl, (refl, tt)))));
  never = λ a. passing-never a;
}
  where
    xs : List Entry
    xs = entry 0 0 W loc_x 1 ∷ []

    ys : List Entry
    ys = entry 0 1 W loc_y 1 ∷ []

    fits : Fits passing passing_candidate (events passing passing_candidate)
    fits =
        fit-write _ _ refl (λ loc h. to-x xs ys (entry 0 0 W loc_x 1) (0, refl) loc h)
        (fit-write _ _ refl (λ loc h. to-y xs ys (entry 0 1 W loc_y 1) (0, refl) loc h)
        (fit-read (entry 1 0 R loc_y 1) _ ((1, refl), refl, refl) refl
        (fit-read _ _ refl refl fit-none)))

-- ---- buffering

buffering-never : IsAllowed buffering buffering_candidate → ⊥
buffering-never a =
    a.global (entry 0 0 R loc_x 1)
    (onward (entry 0 0 R loc_x 1) (entry 0 1 W loc_y 1) (entry 0 0 R loc_x 1) (0, refl)
    (read_before_access (entry 0 0 R loc_x 1) (entry 0 1 W loc_y 1) refl refl refl)
    (onward (entry 0 1 W loc_y 1) (entry 1 0 R loc_y 1) (entry 0 0 R loc_x 1) (1, refl)
    (rfe (entry 0 1 W loc_y 1) (entry 1 0 R loc_y 1) (record { read = refl; source = refl }) (λ same. let z : ⊥ = cc in z))
    (onward (entry 1 0 R loc_y 1) (entry 1 1 W loc_x 1) (entry 0 0 R loc_x 1) (2, refl)
    (read_before_access (entry 1 0 R loc_y 1) (entry 1 1 W loc_x 1) refl refl refl)
    (at_once (entry 1 1 W loc_x 1) (entry 0 0 R loc_x 1) (3, refl) (0, refl)
    (rfe (entry 1 1 W loc_x 1) (entry 0 0 R loc_x 1) (record { read = refl; source = refl }) (λ same. let z : ⊥ = cc in z))))))

pub buffering-is-forbidden : IsForbidden buffering buffering_candidate
buffering-is-forbidden = record {
  candidate = told buffering buffering_candidate xs ys refl fits refl refl (λ n. (refl, (not-second n, (refl, (not-first n, tt)))));
  never = λ a. buffering-never a;
}
  where
    xs : List Entry
    xs = entry 1 1 W loc_x 1 ∷ []

    ys : List Entry
    ys = entry 0 1 W loc_y 1 ∷ []

    fits : Fits buffering buffering_candidate (events buffering buffering_candidate)
    fits =
        fit-read (entry 0 0 R loc_x 1) _ ((3, refl), refl, refl) refl
        (fit-write _ _ refl (λ loc h. to-y xs ys (entry 0 1 W loc_y 1) (0, refl) loc h)
        (fit-read (entry 1 0 R loc_y 1) _ ((1, refl), refl, refl) refl
        (fit-write _ _ refl (λ loc h. to-x xs ys (entry 1 1 W loc_x 1) (0, refl) loc h) fit-none)))

-- ---- independent

pub independent-is-forbidden : IsForbidden independent independent_candidate
independent-is-forbidden = record {
  candidate =
      told independent independent_candidate xs ys refl fits refl refl
      (λ n. (not-first n, (not-second n, (refl, (refl, (refl, (refl, tt)))))));
  never = λ a. no-opposite-registers independent_candidate a refl;
}
  where
    xs : List Entry
    xs = entry 0 0 W loc_x 1 ∷ []

    ys : List Entry
    ys = entry 1 0 W loc_y 1 ∷ []

    fits : Fits independent independent_candidate (events independent independent_candidate)
    fits =
        fit-write _ _ refl (λ loc h. to-x xs ys (entry 0 0 W loc_x 1) (0, refl) loc h)
        (fit-write _ _ refl (λ loc h. to-y xs ys (entry 1 0 W loc_y 1) (0, refl) loc h)
        (fit-read (entry 2 0 R loc_x 1) _ ((0, refl), refl, refl) refl
        (fit-read _ _ refl refl
        (fit-read (entry 3 0 R loc_y 1) _ ((1, refl), refl, refl) refl
        (fit-read _ _ refl refl fit-none)))))

-- ---- between

between-never : IsAllowed between between_candidate → ⊥
between-never a =
    a.atomic (entry 0 0 LR loc_x 0) (entry 1 0 W loc_x 1) (entry 0 0 LW loc_x 0) (0, refl) (2, refl) (1, refl)
    (record { read = refl; write = refl; core = refl; place = refl })
    (record { read = refl; overwritten = (0, refl) }) (λ same. let z : ⊥ = cc in z)
    (record { first = 0; second = 1; is_first = refl; is_second = refl; before = let z : 0 < 1 = omega arith in z })
    (λ same. let z : ⊥ = cc in z)

pub between-is-forbidden : IsForbidden between between_candidate
between-is-forbidden = record {
  candidate = told between between_candidate xs ys refl fits refl refl (λ n. (refl, (not-first n, (not-first n, tt))));
  never = λ a. between-never a;
}
  where
    xs : List Entry
    xs = entry 1 0 W loc_x 1 ∷ (entry 0 0 LW loc_x 0 ∷ [])

    ys : List Entry
    ys = []

    fits : Fits between between_candidate (events between between_candidate)
    fits =
        fit-read _ _ refl refl
        (fit-write _ _ refl (λ loc h. to-x xs ys (entry 0 0 LW loc_x 0) (1, refl) loc h)
        (fit-write _ _ refl (λ loc h. to-x xs ys (entry 1 0 W loc_x 1) (0, refl) loc h) fit-none))
