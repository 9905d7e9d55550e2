-- The lines of entries and of ends: what is printed is read, and what is read is printed so.
use Rattle.order_builder.proofs.Vocabulary.{is_ascii_digit, ◌≡◌, ℕ, ◌-◌, ◌^◌, ◌<◌, Bool, true, false, cond, eqb, inl, inr, List, [], ◌∷◌}
use Rattle.order_builder.proofs.Vocabulary.{◌++◌, length, take, drop, get_or, Option, Some, None, refl, sym, ap, subst, ◌∙◌, arith, codes}
use Rattle.order_builder.proofs.Vocabulary.{decimal, bytes_eq, take-append-drop, append_assoc, take_at, drop_at, All-append, All-cons}
use Rattle.order_builder.proofs.Vocabulary.{Litmus, IsTest, Entry, Kind, R, W, F, LR, LW, is_number, number_within, letters_of}
use Rattle.order_builder.proofs.Vocabulary.{printed_access, printed_entry, HasAccess, IsEntryFor, ◌>>=◌, split_once, without_prefix}
use Rattle.order_builder.proofs.Vocabulary.{kind_of, location_named, entry_at, place_in, access_in, action_in, entry_in, numeral, end_in}
use Rattle.order_builder.proofs.Choosing.{chosen, same_bytes, bytes_eq-same}
use Rattle.order_builder.proofs.LineLemmas.{Lacks, split_once-at, split_once-Some}
use Rattle.order_builder.proofs.NumberLaws.{number_again, number_found}
use Rattle.order_builder.proofs.NameLaws.{lacks_from_all, lacks-decimal, lacks-name, location_again, location_found}

-- ---- parts of an entry

-- what comes after a text at the front
after-again : (front rest : List ℕ) → without_prefix front (front ++ rest) ≡ Some rest
unfolding without_prefix
after-again front rest =
    let head : take (length front) (front ++ rest) ≡ front = take_at front rest (length front) refl in
    let tail : drop (length front) (front ++ rest) ≡ rest = drop_at front rest (length front) refl in
    rw (head, tail, bytes_eq-same front) refl

after-found : (front text rest : List ℕ) → without_prefix front text ≡ Some rest → text ≡ front ++ rest
unfolding without_prefix
after-found front text rest e =
    elim (chosen (bytes_eq (take (length front) text) front) (Some (drop (length front) text)) None (Some rest) e) [
      | inl hit ↦
          let head : take (length front) text ≡ front = same_bytes _ _ hit.0 in
          let tail : drop (length front) text ≡ rest = cc in
          sym (take-append-drop (length front) text) ∙ rw (head, tail) refl
      | inr miss ↦ absurd cc
    ]

-- a step that found something
bound : {A B : Type 0} (o : Option A) (f : A → Option B) (y : B) → (o >>= f) ≡ Some y → (x : A) × (o ≡ Some x) × (f x ≡ Some y)
bound (Some x) f y e = (x, refl, e)
bound None f y e = absurd cc

-- two halves and the byte between them, each half as it is otherwise known
rejoined : (byte : ℕ) (text xs ys xs' ys' : List ℕ) → text ≡ xs ++ byte ∷ ys → xs ≡ xs' → ys ≡ ys' → text ≡ xs' ++ byte ∷ ys'
rejoined byte text xs ys xs' ys' halves front back = halves ∙ rw (front, back) refl

no_space : ℕ → Bool
no_space b = cond (eqb b 32) false true

pub lacks-join : (byte b : ℕ) (xs ys : List ℕ) → eqb b byte ≡ false → Lacks byte xs → Lacks byte ys → Lacks byte (xs ++ b ∷ ys)
lacks-join byte b xs ys differs front back =
    All-append (λ c. eqb c byte ≡ false) xs (b ∷ ys) front (All-cons (λ c. eqb c byte ≡ false) b ys differs back)

-- ---- `Pc:p`

abbrev pub printed_place : ℕ → ℕ → List ℕ
printed_place core place = codes "P" ++ (decimal core ++ 58 ∷ decimal place)

pub lacks-place : (byte core place : ℕ)
    → is_ascii_digit byte ≡ false
    → eqb 80 byte ≡ false
    → eqb 58 byte ≡ false
    → core < 2 ^ 64
    → place < 2 ^ 64
    → Lacks byte (printed_place core place)
lacks-place byte core place misses letter colon c p =
    All-cons (λ b. eqb b byte ≡ false) 80 (decimal core ++ 58 ∷ decimal place) letter
    (lacks-join byte 58 (decimal core) (decimal place) colon (lacks-decimal byte core misses c) (lacks-decimal byte place misses p))

place_again : (core place : ℕ) → core < 256 → place < 256 → place_in (printed_place core place) ≡ Some (core, place)
unfolding place_in
place_again core place c p =
    let front : without_prefix (codes "P") (printed_place core place) ≡ Some (decimal core ++ 58 ∷ decimal place) =
    after-again (codes "P") (decimal core ++ 58 ∷ decimal place) in
    let cut : split_once 58 (decimal core ++ 58 ∷ decimal place) ≡ Some (decimal core, decimal place) =
    split_once-at 58 (decimal core) (decimal place) (lacks-decimal 58 core refl (omega arith)) in
    rw (front, cut, number_again 255 core (omega arith) (omega arith), number_again 255 place (omega arith) (omega arith)) refl

place_found : (text : List ℕ) (at : ℕ × ℕ) → place_in text ≡ Some at → (text ≡ printed_place at.0 at.1) × (at.0 < 256) × (at.1 < 256)
unfolding place_in
place_found text at e =
    let a =
    bound (without_prefix (codes "P") text)
    (λ numbers.
    split_once 58 numbers
    >>= λ halves. number_within 255 halves.0 >>= λ core. number_within 255 halves.1 >>= λ place. Some (core, place))
    at e in
    let b = bound (split_once 58 a.0) (λ halves. number_within 255 halves.0 >>= λ core. number_within 255 halves.1 >>= λ place. Some (core, place)) at a.2 in
    let c = bound (number_within 255 b.0.0) (λ core. number_within 255 b.0.1 >>= λ place. Some (core, place)) at b.2 in
    let d = bound (number_within 255 b.0.1) (λ place. Some (c.0, place)) at c.2 in
    let core = number_found 255 b.0.0 c.0 (omega arith) c.1 in
    let place = number_found 255 b.0.1 d.0 (omega arith) d.1 in
    let cut = split_once-Some 58 a.0 b.0.0 b.0.1 b.1 in
    let same : (c.0, d.0) ≡ at = cc in
    let text-is : text ≡ printed_place c.0 d.0 =
    after-found (codes "P") text a.0 a.1 ∙ ap (λ (l : List ℕ). codes "P" ++ l) (rejoined 58 a.0 b.0.0 b.0.1 (decimal c.0) (decimal d.0) cut.0 core.0 place.0) in
    subst (λ (q : ℕ × ℕ). (text ≡ printed_place q.0 q.1) × (q.0 < 256) × (q.1 < 256)) same (text-is, omega (arith, core.1), omega (arith, place.1))

-- ---- `x=v`

abbrev pub printed_word : Litmus → ℕ → ℕ → List ℕ
printed_word t loc value = get_or t.locations loc [] ++ 61 ∷ decimal value

access_again : (t : Litmus) (loc value : ℕ) → IsTest t → loc < length t.locations → value < 2 ^ 32 → access_in t (printed_word t loc value) ≡ Some (loc, value)
unfolding access_in
access_again t loc value test known small =
    let cut : split_once 61 (printed_word t loc value) ≡ Some (get_or t.locations loc [], decimal value) =
    split_once-at 61 (get_or t.locations loc []) (decimal value) (lacks-name 61 t loc refl test known) in
    rw (cut, location_again t loc test known, number_again (2 ^ 32 - 1) value (omega arith) (omega arith)) refl

access_found : (t : Litmus) (text : List ℕ) (access : ℕ × ℕ)
    → access_in t text ≡ Some access
    → (text ≡ printed_word t access.0 access.1) × (access.0 < length t.locations) × (access.1 < 2 ^ 32)
unfolding access_in
access_found t text access e =
    let a =
    bound (split_once 61 text)
    (λ halves.
    location_named t halves.0 >>= λ loc. number_within (2 ^ 32 - 1) halves.1 >>= λ value. Some (loc, value))
    access e in
    let b = bound (location_named t a.0.0) (λ loc. number_within (2 ^ 32 - 1) a.0.1 >>= λ value. Some (loc, value)) access a.2 in
    let c = bound (number_within (2 ^ 32 - 1) a.0.1) (λ value. Some (b.0, value)) access b.2 in
    let loc = location_found t a.0.0 b.0 b.1 in
    let value = number_found (2 ^ 32 - 1) a.0.1 c.0 (omega arith) c.1 in
    let cut = split_once-Some 61 text a.0.0 a.0.1 a.1 in
    let same : (b.0, c.0) ≡ access = cc in
    let text-is : text ≡ printed_word t b.0 c.0 =
    rejoined 61 text a.0.0 a.0.1 (get_or t.locations b.0 []) (decimal c.0) cut.0 loc.1 value.0 in
    subst (λ (q : ℕ × ℕ). (text ≡ printed_word t q.0 q.1) × (q.0 < length t.locations) × (q.1 < 2 ^ 32)) same (text-is, loc.0, omega (arith, value.1))

-- ---- `K x=v`, or `F`

-- the kinds that have a location
abbrev pub IsAccess : Kind → Type 0
IsAccess F = ⊥
IsAccess kind = Unit {0}

kind_again : (kind : Kind) → IsAccess kind → kind_of (letters_of kind) ≡ Some kind
unfolding kind_of
kind_again F is = absurd is
kind_again kind is = refl

kind_found : (text : List ℕ) (kind : Kind) → kind_of text ≡ Some kind → (text ≡ letters_of kind) × IsAccess kind
unfolding kind_of
kind_found text kind e =
    elim (chosen (bytes_eq text (codes "R")) (Some R)
    (cond (bytes_eq text (codes "W")) (Some W) (cond (bytes_eq text (codes "LR")) (Some LR) (cond (bytes_eq text (codes "LW")) (Some LW) None)))
    (Some kind) e) [
      | inl hit ↦ let same : R ≡ kind = cc in subst (λ (k : Kind). (text ≡ letters_of k) × IsAccess k) same (same_bytes _ _ hit.0, tt)
      | inr first ↦
          elim (chosen (bytes_eq text (codes "W")) (Some W)
          (cond (bytes_eq text (codes "LR")) (Some LR) (cond (bytes_eq text (codes "LW")) (Some LW) None)) (Some kind)
          first.1) [
            | inl hit ↦ let same : W ≡ kind = cc in subst (λ (k : Kind). (text ≡ letters_of k) × IsAccess k) same (same_bytes _ _ hit.0, tt)
            | inr second ↦ elim (chosen (bytes_eq text (codes "LR")) (Some LR) (cond (bytes_eq text (codes "LW")) (Some LW) None) (Some kind) second.1) [
              | inl hit ↦ let same : LR ≡ kind = cc in subst (λ (k : Kind). (text ≡ letters_of k) × IsAccess k) same (same_bytes _ _ hit.0, tt)
              | inr third ↦ elim (chosen (bytes_eq text (codes "LW")) (Some LW) None (Some kind) third.1) [
                | inl hit ↦ let same : LW ≡ kind = cc in subst (λ (k : Kind). (text ≡ letters_of k) × IsAccess k) same (same_bytes _ _ hit.0, tt)
                | inr fourth ↦ absurd cc
              ]
            ]
          ]
    ]

no_fence : (kind : Kind) (rest : List ℕ) → bytes_eq (letters_of kind ++ 32 ∷ rest) (codes "F") ≡ false
no_fence R rest = refl
no_fence kind rest = refl

lacks-letters : (kind : Kind) → Lacks 32 (letters_of kind)
unfolding no_space
lacks-letters R = lacks_from_all no_space 32 (codes "R") refl refl
lacks-letters W = lacks_from_all no_space 32 (codes "W") refl refl
lacks-letters F = lacks_from_all no_space 32 (codes "F") refl refl
lacks-letters LR = lacks_from_all no_space 32 (codes "LR") refl refl
lacks-letters LW = lacks_from_all no_space 32 (codes "LW") refl refl

word_again : (t : Litmus) (at : ℕ × ℕ) (kind : Kind) (loc value : ℕ) → IsAccess kind → IsTest t → loc < length t.locations → value < 2 ^ 32
    → action_in t at (letters_of kind ++ 32 ∷ printed_word t loc value) ≡ Some (entry_at at kind loc value)
unfolding action_in
word_again t at kind loc value is test known small =
    let cut : split_once 32 (letters_of kind ++ 32 ∷ printed_word t loc value)
    ≡ Some (letters_of kind, printed_word t loc value) =
    split_once-at 32 (letters_of kind) (printed_word t loc value) (lacks-letters kind) in
    rw (no_fence kind (printed_word t loc value), cut, kind_again kind is, access_again t loc value test known small) refl

action_again : (t : Litmus) (at : ℕ × ℕ) (kind : Kind) (loc value : ℕ) → IsTest t → HasAccess t kind loc value
    → action_in t at (letters_of kind ++ printed_access t kind loc value) ≡ Some (entry_at at kind loc value)
unfolding action_in
action_again t at F loc value test has = rw (has.0, has.1) refl
action_again t at kind loc value test has = word_again t at kind loc value tt test has.0 has.1

has_access : (t : Litmus) (kind : Kind) (loc value : ℕ) → IsAccess kind → loc < length t.locations → value < 2 ^ 32 → HasAccess t kind loc value
has_access t F loc value is known small = absurd is
has_access t kind loc value is known small = (known, small)

printed_word_is : (t : Litmus) (kind : Kind) (loc value : ℕ) → IsAccess kind → 32 ∷ printed_word t loc value ≡ printed_access t kind loc value
printed_word_is t F loc value is = absurd is
printed_word_is t kind loc value is = refl

-- an entry with this core and place, printed with what comes after them
record IsActionOf (t : Litmus) (at : ℕ × ℕ) (text : List ℕ) (e : Entry) : Type 0 where
  core : at.0 ≡ e.core.0
  place : at.1 ≡ e.place
  access : HasAccess t e.kind e.loc.0 e.value
  printed : text ≡ letters_of e.kind ++ printed_access t e.kind e.loc.0 e.value

action_found : (t : Litmus) (at : ℕ × ℕ) (text : List ℕ) (e : Entry) → action_in t at text ≡ Some e → IsActionOf t at text e
unfolding action_in
action_found t at text e read =
    elim (chosen (bytes_eq text (codes "F")) (Some (entry_at at F 0 0))
    (split_once 32 text
    >>= λ halves.
    kind_of halves.0 >>= λ kind. access_in t halves.1 >>= λ access. Some (entry_at at kind access.0 access.1))
    (Some e) read) [
      | inl hit ↦
          let same : entry_at at F 0 0 ≡ e = cc in
          subst (IsActionOf t at text) same (record { core = refl; place = refl; access = (refl, refl); printed = same_bytes _ _ hit.0 })
      | inr miss ↦
          let a =
          bound (split_once 32 text)
          (λ halves.
          kind_of halves.0 >>= λ kind. access_in t halves.1 >>= λ access. Some (entry_at at kind access.0 access.1))
          e miss.1 in
          let b = bound (kind_of a.0.0) (λ kind. access_in t a.0.1 >>= λ access. Some (entry_at at kind access.0 access.1)) e a.2 in
          let c = bound (access_in t a.0.1) (λ access. Some (entry_at at b.0 access.0 access.1)) e b.2 in
          let same : entry_at at b.0 c.0.0 c.0.1 ≡ e = cc in
          let cut = split_once-Some 32 text a.0.0 a.0.1 a.1 in
          let kind = kind_found a.0.0 b.0 b.1 in
          let access = access_found t a.0.1 c.0 c.1 in
          let text-is : text ≡ letters_of b.0 ++ 32 ∷ printed_word t c.0.0 c.0.1 =
          rejoined 32 text a.0.0 a.0.1 (letters_of b.0) (printed_word t c.0.0 c.0.1) cut.0 kind.0 access.0 in
          subst (IsActionOf t at text) same (record {
            core = refl;
            place = refl;
            access = has_access t b.0 c.0.0 c.0.1 kind.1 access.1 access.2;
            printed = text-is ∙ ap (λ (l : List ℕ). letters_of b.0 ++ l) (printed_word_is t b.0 c.0.0 c.0.1 kind.1);
          })
    ]

-- ---- a line

grouped : (t : Litmus) (e : Entry) → printed_entry t e ≡ printed_place e.core.0 e.place ++ 32 ∷ (letters_of e.kind ++ printed_access t e.kind e.loc.0 e.value)
grouped t e =
    ap (λ (l : List ℕ). 80 ∷ l)
    (sym (append_assoc (decimal e.core.0) (58 ∷ decimal e.place) (32 ∷ (letters_of e.kind ++ printed_access t e.kind e.loc.0 e.value))))

pub entry_again : (t : Litmus) (e : Entry) → IsTest t → IsEntryFor t e → entry_in t (printed_entry t e) ≡ Some e
unfolding entry_in
entry_again t e test is =
    let action = letters_of e.kind ++ printed_access t e.kind e.loc.0 e.value in
    let cut : split_once 32 (printed_place e.core.0 e.place ++ 32 ∷ action) ≡ Some (printed_place e.core.0 e.place, action) =
    split_once-at 32 (printed_place e.core.0 e.place) action
    (lacks-place 32 e.core.0 e.place refl refl refl (omega (arith, is.core)) (omega (arith, is.place))) in
    rw (grouped t e, cut, place_again e.core.0 e.place is.core is.place) (action_again t (e.core.0, e.place) e.kind e.loc.0 e.value test is.access)

pub entry_found : (t : Litmus) (line : List ℕ) (e : Entry) → entry_in t line ≡ Some e → IsEntryFor t e × (line ≡ printed_entry t e)
unfolding entry_in
entry_found t line e read =
    let a = bound (split_once 32 line) (λ halves. place_in halves.0 >>= λ at. action_in t at halves.1) e read in
    let b = bound (place_in a.0.0) (λ at. action_in t at a.0.1) e a.2 in
    let cut = split_once-Some 32 line a.0.0 a.0.1 a.1 in
    let place = place_found a.0.0 b.0 b.1 in
    let action = action_found t b.0 a.0.1 e b.2 in
    let front : a.0.0 ≡ printed_place e.core.0 e.place =
    place.0 ∙ ap (λ (c : ℕ). printed_place c b.0.1) action.core ∙ ap (λ (p : ℕ). printed_place e.core.0 p) action.place in (
      record { core = omega (arith, place.1, action.core); place = omega (arith, place.2, action.place); access = action.access },
      rejoined 32 line a.0.0 a.0.1 (printed_place e.core.0 e.place)
          (letters_of e.kind ++ printed_access t e.kind e.loc.0 e.value) cut.0 front action.printed
          ∙ sym (grouped t e),
    )

-- ---- the end

pub no_end_in_entry : (t : Litmus) (e : Entry) → end_in (printed_entry t e) ≡ None
unfolding end_in without_prefix
no_end_in_entry t e = refl

pub end_again : (digits : List ℕ) → is_number digits ≡ true → end_in (codes "Endorder " ++ digits) ≡ Some digits
unfolding end_in
end_again digits is =
    let front : without_prefix (codes "Endorder ") (codes "Endorder " ++ digits) ≡ Some digits = after-again (codes "Endorder ") digits in
    rw (front, is) refl

pub end_found : (line digits : List ℕ) → end_in line ≡ Some digits → (line ≡ codes "Endorder " ++ digits) × (is_number digits ≡ true)
unfolding end_in
end_found line digits e =
    let a = bound (without_prefix (codes "Endorder ") line) numeral digits e in
    elim (chosen (is_number a.0) (Some a.0) None (Some digits) a.2) [
      | inl hit ↦
          let same : a.0 ≡ digits = cc in (
            after-found (codes "Endorder ") line a.0 a.1 ∙ ap (λ (l : List ℕ). codes "Endorder " ++ l) same,
            subst (λ (l : List ℕ). is_number l ≡ true) same hit.0,
          )
      | inr miss ↦ absurd cc
    ]
