-- How texts begin: what is said of one holds of it with more before, and with less looked at.
use Rattle.std.proofs.Common.{get_or, ◌≡◌, ℕ, Bool, true, false, List, [], ◌∷◌, ◌++◌, refl, sym, ap, subst, ◌∙◌, zero, suc, inl, inr, ◌==◌}
use Rattle.std.proofs.Common.{◌&&◌, not, map, take, eq-eqb, eqb-true, ◌⊎◌, ⊎_elim}
use Rattle.std.specs.List.{list_all, list_any}
use Rattle.std.specs.Str.{bytes_eq}
use Rattle.std.specs.Char.{is_ascii_digit}
use Rattle.std.proofs.lemmas.Bool.{and_parts, and_from, or_cases, or_left, or_right, true≢false}
use Rattle.std.proofs.lemmas.Slice.Eq.{bytes_eq-Decides}
use Rattle.tso_terms.specs.Names.{continues_name}
use Rattle.formats.specs.Formats.{LocationName, AnyWord, is_in}
use Rattle.formats.specs.Beginnings.{first_word, behind_at, behind, First, End, Mark, Exactly, Numbered, Named, is_numbered, is_end}
use Rattle.formats.specs.Beginnings.{is_mark, has_word, stands_at, stands_first, past, begins_with, begins_so, are_other_numbers, differ}
use Rattle.formats.specs.Beginnings.{part, all_part, is_feed, is_stop, first_word_at, with_first_word, with_letter, with_first_byte}
use Rattle.formats.specs.Beginnings.{with_text, is_same, is_within, one_way, each_way_once, far, before, before_word}

pub clash : {A : Type 0} (b : Bool) → b ≡ true → b ≡ false → A
clash b is isnt = absurd (true≢false (sym is ∙ isnt))

not-so : (b : Bool) → not b ≡ true → b ≡ false
not-so true is = sym is
not-so false is = refl

-- ---- the first word

-- the text is at its end, or begins with a byte that is in no word
abbrev pub Stops : List ℕ → Type 0
Stops [] = Unit {0}
Stops (c ∷ cs) = continues_name c ≡ false

none-run : (rest : List ℕ) → Stops rest → first_word rest ≡ []
none-run [] stops = refl
none-run (c ∷ cs) stops = rw stops refl

none-behind : (rest : List ℕ) → Stops rest → behind rest ≡ rest
none-behind [] stops = refl
none-behind (c ∷ cs) stops = rw stops refl

pub run-of : (word rest : List ℕ) → list_all continues_name word ≡ true → Stops rest → first_word (word ++ rest) ≡ word
run-of [] rest all stops = none-run rest stops
run-of (c ∷ cs) rest all stops =
    let parts = and_parts (continues_name c) (list_all continues_name cs) all in
    rw (parts.0, run-of cs rest parts.1 stops) refl

pub behind-of : (word rest : List ℕ) → list_all continues_name word ≡ true → Stops rest → behind (word ++ rest) ≡ rest
behind-of [] rest all stops = none-behind rest stops
behind-of (c ∷ cs) rest all stops =
    let parts = and_parts (continues_name c) (list_all continues_name cs) all in
    rw (parts.0, behind-of cs rest parts.1 stops) refl

-- ---- what stands first

-- a word stands first, or a byte that is in none, or nothing
no-end : {A : Type 0} (p : First) (c : ℕ) (cs : List ℕ) → is_end p ≡ true → stands_first p (c ∷ cs) ≡ true → A
no-end End c cs end is = by (continues_name c) is
  where
    by : {A : Type 0} (b : Bool) → stands_at b End c cs ≡ true → A
    by true is = clash false is refl
    by false is = clash false is refl
no-end (Mark d) c cs end is = clash false end refl
no-end (Exactly w) c cs end is = clash false end refl
no-end (Numbered w) c cs end is = clash false end refl
no-end (Named class) c cs end is = clash false end refl

-- the text's first byte is this one, and is in no word
mark-first : (d c : ℕ) (cs : List ℕ) → stands_first (Mark d) (c ∷ cs) ≡ true → continues_name c ≡ false
mark-first d c cs is = by (continues_name c) refl is
  where
    by : (b : Bool) → continues_name c ≡ b → stands_at b (Mark d) c cs ≡ true → continues_name c ≡ false
    by true at is = clash false is refl
    by false at is = at

pub stops-first : (ps : List First) (rest : List ℕ) → is_stop ps ≡ true → begins_with ps rest ≡ true → Stops rest
stops-first [] rest stop is = clash false stop refl
stops-first (p ∷ ps) [] stop is = tt
stops-first (End ∷ ps) (c ∷ cs) stop is = no-end End c cs refl (and_parts (stands_first End (c ∷ cs)) (begins_with ps (past (c ∷ cs))) is).0
stops-first (Mark d ∷ ps) (c ∷ cs) stop is = mark-first d c cs (and_parts (stands_first (Mark d) (c ∷ cs)) (begins_with ps (past (c ∷ cs))) is).0
stops-first (Exactly w ∷ ps) (c ∷ cs) stop is = clash false stop refl
stops-first (Numbered w ∷ ps) (c ∷ cs) stop is = clash false stop refl
stops-first (Named class ∷ ps) (c ∷ cs) stop is = clash false stop refl

-- ---- with a word before

-- the bytes of a word
abbrev pub IsWhole : List ℕ → Type 0
IsWhole [] = ⊥
IsWhole (c ∷ cs) = list_all continues_name (c ∷ cs) ≡ true

word-stands : (p : First) (word rest : List ℕ) → IsWhole word → Stops rest → has_word p word ≡ true → stands_first p (word ++ rest) ≡ true
word-stands p [] rest whole stops is = absurd whole
word-stands p (c ∷ cs) rest whole stops is =
    let parts = and_parts (continues_name c) (list_all continues_name cs) whole in
    rw (parts.0, run-of cs rest parts.1 stops) is

word-past : (word rest : List ℕ) → IsWhole word → Stops rest → past (word ++ rest) ≡ rest
word-past [] rest whole stops = absurd whole
word-past (c ∷ cs) rest whole stops =
    let parts = and_parts (continues_name c) (list_all continues_name cs) whole in
    rw (parts.0, behind-of cs rest parts.1 stops) refl

word-before : (p : First) (ps : List First) (word rest : List ℕ)
    → IsWhole word
    → has_word p word ≡ true
    → begins_with ps rest ≡ true
    → begins_with (with_first_word p ps) (word ++ rest) ≡ true
word-before p ps word rest whole has is = by (is_stop ps) refl
  where
    by : (b : Bool) → is_stop ps ≡ b → begins_with (first_word_at b p ps) (word ++ rest) ≡ true
    by false stop = refl
    by true stop =
        let stops = stops-first ps rest stop is in
        and_from _ _ (word-stands p word rest whole stops has) (ap (begins_with ps) (word-past word rest whole stops) ∙ is)

-- ---- with a text before

-- one more byte of a word is before what another word stands first in
longer : (p q : First) (ps : List First) (c : ℕ) (rest : List ℕ) → continues_name c ≡ true → is_end p ≡ false → ((d : ℕ) → is_mark p d ≡ false)
    → ((word : List ℕ) → has_word p word ≡ true → has_word q (c ∷ word) ≡ true) → begins_with (p ∷ ps) rest ≡ true → begins_with (q ∷ ps) (c ∷ rest) ≡ true
longer p q ps c [] at end mark more is = clash (is_end p) (and_parts _ _ is).0 end
longer p q ps c (d ∷ ds) at end mark more is = by (continues_name d) refl is
  where
    by : (b : Bool)
        → continues_name d ≡ b
        → stands_at b p d ds && begins_with ps (behind_at b ds (behind ds)) ≡ true
        → begins_with (q ∷ ps) (c ∷ (d ∷ ds)) ≡ true
    by false in_word is = clash (is_mark p d) (and_parts _ _ is).0 (mark d)
    by true in_word is =
        let parts = and_parts (has_word p (d ∷ first_word ds)) (begins_with ps (behind ds)) is in
        rw (at, in_word) (and_from _ _ (more (d ∷ first_word ds) parts.0) parts.1)

same-bytes : (w v : List ℕ) → bytes_eq w v ≡ true → w ≡ v
same-bytes w v is = (bytes_eq-Decides w v).0 is

bytes-same : (w v : List ℕ) → w ≡ v → bytes_eq w v ≡ true
bytes-same w v e = (bytes_eq-Decides w v).1 e

-- one byte of a word is before what isn't one
alone : (p : First) (ps : List First) (c : ℕ) (rest : List ℕ) → continues_name c ≡ true → Stops rest → begins_with (p ∷ ps) rest ≡ true
    → begins_with (Exactly (c ∷ []) ∷ p ∷ ps) (c ∷ rest) ≡ true
alone p ps c rest at stops is =
    rw (at, none-run rest stops, none-behind rest stops) (and_from _ _ (bytes-same (c ∷ []) (c ∷ []) refl) is)

byte-joined : (ps : List First) (c : ℕ) (rest : List ℕ)
    → continues_name c ≡ true
    → begins_with ps rest ≡ true
    → begins_with (with_letter c ps) (c ∷ rest) ≡ true
byte-joined [] c rest at is = refl
byte-joined (End ∷ ps) c rest at is = alone End ps c rest at (stops-first (End ∷ ps) rest refl is) is
byte-joined (Mark d ∷ ps) c rest at is = alone (Mark d) ps c rest at (stops-first (Mark d ∷ ps) rest refl is) is
byte-joined (Exactly w ∷ ps) c rest at is =
    longer (Exactly w) (Exactly (c ∷ w)) ps c rest at refl (λ d. refl)
    (λ word has. bytes-same (c ∷ w) (c ∷ word) (ap (λ (l : List ℕ). c ∷ l) (same-bytes w word has))) is
byte-joined (Numbered front ∷ ps) c rest at is =
    longer (Numbered front) (Numbered (c ∷ front)) ps c rest at refl (λ d. refl) (λ word has. and_from (c == c) _ (eq-eqb c c refl) has) is
byte-joined (Named class ∷ ps) c rest at is = refl

byte-before : (ps : List First) (c : ℕ) (rest : List ℕ) → begins_with ps rest ≡ true → begins_with (with_first_byte (continues_name c) c ps) (c ∷ rest) ≡ true
byte-before ps c rest is = by (continues_name c) refl
  where
    by : (b : Bool) → continues_name c ≡ b → begins_with (with_first_byte b c ps) (c ∷ rest) ≡ true
    by true at = byte-joined ps c rest at is
    by false at = rw at (and_from (c == c) _ (eq-eqb c c refl) is)

pub text-before : (front : List ℕ) (ps : List First) (rest : List ℕ) → begins_with ps rest ≡ true → begins_with (with_text front ps) (front ++ rest) ≡ true
text-before [] ps rest is = is
text-before (c ∷ cs) ps rest is = byte-before (with_text cs ps) c (cs ++ rest) (text-before cs ps rest is)

-- ---- with less looked at

pub less-far : (n : ℕ) (ps : List First) (rest : List ℕ) → begins_with ps rest ≡ true → begins_with (take n ps) rest ≡ true
less-far zero ps rest is = refl
less-far (suc n) [] rest is = refl
less-far (suc n) (p ∷ ps) rest is =
    let parts = and_parts (stands_first p rest) (begins_with ps (past rest)) is in
    and_from _ _ parts.0 (less-far n ps (past rest) parts.1)

same-first : (p q : First) → is_same p q ≡ true → p ≡ q
same-first End End is = refl
same-first (Mark c) (Mark d) is = ap Mark (eqb-true c d is)
same-first (Exactly w) (Exactly v) is = ap Exactly (same-bytes w v is)
same-first (Numbered w) (Numbered v) is = ap Numbered (same-bytes w v is)
same-first (Named LocationName) (Named LocationName) is = refl
same-first (Named AnyWord) (Named AnyWord) is = refl
same-first _ _ is = clash false is refl

less-said : (ps qs : List First) (rest : List ℕ) → is_within ps qs ≡ true → begins_with qs rest ≡ true → begins_with ps rest ≡ true
less-said [] qs rest within is = refl
less-said (p ∷ ps) [] rest within is = clash false within refl
less-said (p ∷ ps) (q ∷ qs) rest within is =
    let same = and_parts (is_same p q) (is_within ps qs) within in
    let parts = and_parts (stands_first q rest) (begins_with qs (past rest)) is in
    and_from _ _ (ap (λ (f : First). stands_first f rest) (same-first p q same.0) ∙ parts.0) (less-said ps qs (past rest) same.1 parts.1)

-- ---- in one of these ways

pub so-left : (ways others : List (List First)) (rest : List ℕ) → begins_so ways rest ≡ true → begins_so (ways ++ others) rest ≡ true
so-left [] others rest is = clash false is refl
so-left (b ∷ ways) others rest is =
    ⊎_elim (λ at. or_left (begins_with b rest) (begins_so (ways ++ others) rest) at) (λ more. or_right (begins_with b rest) _ (so-left ways others rest more))
    (or_cases (begins_with b rest) (begins_so ways rest) is)

pub so-right : (ways others : List (List First)) (rest : List ℕ) → begins_so others rest ≡ true → begins_so (ways ++ others) rest ≡ true
so-right [] others rest is = is
so-right (b ∷ ways) others rest is = or_right _ _ (so-right ways others rest is)

so-map : (f : List First → List First) (ways : List (List First)) (rest text : List ℕ)
    → ((b : List First) → begins_with b rest ≡ true → begins_with (f b) text ≡ true)
    → begins_so ways rest ≡ true → begins_so (map f ways) text ≡ true
so-map f [] rest text each is = is
so-map f (b ∷ ways) rest text each is =
    ⊎_elim (λ at. or_left (begins_with (f b) text) (begins_so (map f ways) text) (each b at))
    (λ more. or_right (begins_with (f b) text) _ (so-map f ways rest text each more))
    (or_cases (begins_with b rest) (begins_so ways rest) is)

covered : (b : List First) (ways : List (List First)) (rest : List ℕ)
    → list_any (λ a. is_within a b) ways ≡ true
    → begins_with b rest ≡ true
    → begins_so ways rest ≡ true
covered b [] rest is at = clash false is refl
covered b (a ∷ ways) rest is at =
    ⊎_elim (λ within. or_left (begins_with a rest) (begins_so ways rest) (less-said a b rest within at))
    (λ more. or_right (begins_with a rest) _ (covered b ways rest more at))
    (or_cases (is_within a b) (list_any (λ a. is_within a b) ways) is)

pub so-once : (ways : List (List First)) (rest : List ℕ) → begins_so ways rest ≡ true → begins_so (each_way_once ways) rest ≡ true
so-once [] rest is = is
so-once (b ∷ ways) rest is =
    by (list_any (λ a. is_within a b) (each_way_once ways)) refl (or_cases (begins_with b rest) (begins_so ways rest) is) (so-once ways rest)
  where
    by : (within : Bool) → list_any (λ a. is_within a b) (each_way_once ways) ≡ within → (begins_with b rest ≡ true) ⊎ (begins_so ways rest ≡ true)
        → (begins_so ways rest ≡ true → begins_so (each_way_once ways) rest ≡ true) → begins_so (one_way within b (each_way_once ways)) rest ≡ true
    by true within (inl at) others = covered b (each_way_once ways) rest within at
    by true within (inr more) others = others more
    by false within (inl at) others = or_left _ _ at
    by false within (inr more) others = or_right _ _ (others more)

pub so-before : (front : List ℕ) (ways : List (List First)) (rest : List ℕ) → begins_so ways rest ≡ true → begins_so (before front ways) (front ++ rest) ≡ true
so-before front ways rest is =
    so-once (map (λ b. take far (with_text front b)) ways) (front ++ rest)
    (so-map (λ b. take far (with_text front b)) ways rest (front ++ rest)
    (λ b at. less-far far (with_text front b) (front ++ rest) (text-before front b rest at)) is)

pub so-before-word : (p : First) (ways : List (List First)) (word rest : List ℕ) → IsWhole word → has_word p word ≡ true → begins_so ways rest ≡ true
    → begins_so (before_word p ways) (word ++ rest) ≡ true
so-before-word p ways word rest whole has is =
    so-once (map (λ b. take far (with_first_word p b)) ways) (word ++ rest)
    (so-map (λ b. take far (with_first_word p b)) ways rest (word ++ rest)
    (λ b at. less-far far (with_first_word p b) (word ++ rest) (word-before p b word rest whole has at)) is)

pub so-stops : (ways : List (List First)) (rest : List ℕ) → list_all is_stop ways ≡ true → begins_so ways rest ≡ true → Stops rest
so-stops [] rest all is = clash false is refl
so-stops (b ∷ ways) rest all is =
    let parts = and_parts (is_stop b) (list_all is_stop ways) all in
    ⊎_elim (λ at. stops-first b rest parts.0 at) (λ more. so-stops ways rest parts.1 more) (or_cases (begins_with b rest) (begins_so ways rest) is)

feed-first : (ps : List First) (rest : List ℕ) → is_feed ps ≡ true → begins_with ps rest ≡ true → get_or rest 0 0 ≡ 10
feed-first [] rest feed is = clash false feed refl
feed-first (End ∷ ps) rest feed is = clash false feed refl
feed-first (Exactly w ∷ ps) rest feed is = clash false feed refl
feed-first (Numbered w ∷ ps) rest feed is = clash false feed refl
feed-first (Named class ∷ ps) rest feed is = clash false feed refl
feed-first (Mark d ∷ ps) [] feed is = clash false is refl
feed-first (Mark d ∷ ps) (c ∷ cs) feed is = by (continues_name c) (and_parts (stands_first (Mark d) (c ∷ cs)) (begins_with ps (past (c ∷ cs))) is).0
  where
    by : (b : Bool) → stands_at b (Mark d) c cs ≡ true → c ≡ 10
    by true at = clash false at refl
    by false at = sym (eqb-true d c at) ∙ eqb-true d 10 feed

pub so-feeds : (ways : List (List First)) (rest : List ℕ) → list_all is_feed ways ≡ true → begins_so ways rest ≡ true → get_or rest 0 0 ≡ 10
so-feeds [] rest all is = clash false is refl
so-feeds (b ∷ ways) rest all is =
    let parts = and_parts (is_feed b) (list_all is_feed ways) all in
    ⊎_elim (λ at. feed-first b rest parts.0 at) (λ more. so-feeds ways rest parts.1 more) (or_cases (begins_with b rest) (begins_so ways rest) is)

-- ---- no text begins in both ways

both-numbers : {A : Type 0} (w v word : List ℕ) → are_other_numbers w v ≡ true → is_numbered w word ≡ true → is_numbered v word ≡ true → A
both-numbers [] [] word other is at = clash false other refl
both-numbers w v [] other is at = empty w is
  where
    empty : {A : Type 0} (w : List ℕ) → is_numbered w [] ≡ true → A
    empty [] is = clash false is refl
    empty (c ∷ cs) is = clash false is refl
both-numbers [] (d ∷ ds) (x ∷ xs) other is at =
    clash (is_ascii_digit x) (and_parts (is_ascii_digit x) (list_all is_ascii_digit xs) is).0
    (subst (λ c. is_ascii_digit c ≡ false) (eqb-true d x (and_parts (d == x) _ at).0) (not-so (is_ascii_digit d) other))
both-numbers (c ∷ cs) [] (x ∷ xs) other is at =
    clash (is_ascii_digit x) (and_parts (is_ascii_digit x) (list_all is_ascii_digit xs) at).0
    (subst (λ c. is_ascii_digit c ≡ false) (eqb-true c x (and_parts (c == x) _ is).0) (not-so (is_ascii_digit c) other))
both-numbers (c ∷ cs) (d ∷ ds) (x ∷ xs) other is at =
    let one = and_parts (c == x) (is_numbered cs xs) is in
    let two = and_parts (d == x) (is_numbered ds xs) at in
    let same = eqb-true c x one.0 ∙ sym (eqb-true d x two.0) in
    ⊎_elim (λ unlike. clash (c == d) (eq-eqb c d same) (not-so (c == d) unlike)) (λ more. both-numbers cs ds xs more one.1 two.1)
    (or_cases (not (c == d)) (are_other_numbers cs ds) other)

-- of one word
other-word : {A : Type 0} (p q : First) (word : List ℕ) → differ p q ≡ true → has_word p word ≡ true → has_word q word ≡ true → A
other-word (Exactly w) (Exactly v) word differs is at =
    clash (bytes_eq w v) (bytes-same w v (same-bytes w word is ∙ sym (same-bytes v word at))) (not-so _ differs)
other-word (Exactly w) (Numbered v) word differs is at = clash (is_numbered v w) (ap (is_numbered v) (same-bytes w word is) ∙ at) (not-so _ differs)
other-word (Exactly w) (Named class) word differs is at = clash (is_in class w) (ap (is_in class) (same-bytes w word is) ∙ at) (not-so _ differs)
other-word (Numbered w) (Exactly v) word differs is at = clash (is_numbered w v) (ap (is_numbered w) (same-bytes v word at) ∙ is) (not-so _ differs)
other-word (Numbered w) (Numbered v) word differs is at = both-numbers w v word differs is at
other-word (Numbered w) (Named class) word differs is at = clash false differs refl
other-word (Named class) (Exactly v) word differs is at = clash (is_in class v) (ap (is_in class) (same-bytes v word at) ∙ is) (not-so _ differs)
other-word (Named class) (Numbered v) word differs is at = clash false differs refl
other-word (Named class) (Named other) word differs is at = clash false differs refl
other-word End q word differs is at = clash false is refl
other-word (Mark c) q word differs is at = clash false is refl
other-word (Exactly w) End word differs is at = clash false at refl
other-word (Exactly w) (Mark c) word differs is at = clash false at refl
other-word (Numbered w) End word differs is at = clash false at refl
other-word (Numbered w) (Mark c) word differs is at = clash false at refl
other-word (Named class) End word differs is at = clash false at refl
other-word (Named class) (Mark c) word differs is at = clash false at refl

other-mark : {A : Type 0} (p q : First) (byte : ℕ) → differ p q ≡ true → is_mark p byte ≡ true → is_mark q byte ≡ true → A
other-mark (Mark c) (Mark d) byte differs is at = clash (c == d) (eq-eqb c d (eqb-true c byte is ∙ sym (eqb-true d byte at))) (not-so _ differs)
other-mark (Mark c) End byte differs is at = clash false at refl
other-mark (Mark c) (Exactly w) byte differs is at = clash false at refl
other-mark (Mark c) (Numbered w) byte differs is at = clash false at refl
other-mark (Mark c) (Named class) byte differs is at = clash false at refl
other-mark End q byte differs is at = clash false is refl
other-mark (Exactly w) q byte differs is at = clash false is refl
other-mark (Numbered w) q byte differs is at = clash false is refl
other-mark (Named class) q byte differs is at = clash false is refl

other-end : {A : Type 0} (p q : First) → differ p q ≡ true → is_end p ≡ true → is_end q ≡ true → A
other-end End End differs is at = clash false differs refl
other-end End (Mark c) differs is at = clash false at refl
other-end End (Exactly w) differs is at = clash false at refl
other-end End (Numbered w) differs is at = clash false at refl
other-end End (Named class) differs is at = clash false at refl
other-end (Mark c) q differs is at = clash false is refl
other-end (Exactly w) q differs is at = clash false is refl
other-end (Numbered w) q differs is at = clash false is refl
other-end (Named class) q differs is at = clash false is refl

other-first : {A : Type 0} (p q : First) (rest : List ℕ) → differ p q ≡ true → stands_first p rest ≡ true → stands_first q rest ≡ true → A
other-first p q [] differs is at = other-end p q differs is at
other-first {A} p q (c ∷ cs) differs is at = by (continues_name c) is at
  where
    by : (b : Bool) → stands_at b p c cs ≡ true → stands_at b q c cs ≡ true → A
    by true is at = other-word p q (c ∷ first_word cs) differs is at
    by false is at = other-mark p q c differs is at

apart : {A : Type 0} (ps qs : List First) (rest : List ℕ) → part ps qs ≡ true → begins_with ps rest ≡ true → begins_with qs rest ≡ true → A
apart [] qs rest parts is at = clash false parts refl
apart (p ∷ ps) [] rest parts is at = clash false parts refl
apart (p ∷ ps) (q ∷ qs) rest parts is at =
    let one = and_parts (stands_first p rest) (begins_with ps (past rest)) is in
    let two = and_parts (stands_first q rest) (begins_with qs (past rest)) at in
    ⊎_elim (λ differs. other-first p q rest differs one.0 two.0) (λ more. apart ps qs (past rest) more one.1 two.1) (or_cases (differ p q) (part ps qs) parts)

one-apart : {A : Type 0} (b : List First) (others : List (List First)) (rest : List ℕ)
    → list_all (part b) others ≡ true
    → begins_with b rest ≡ true
    → begins_so others rest ≡ true
    → A
one-apart b [] rest parts is at = clash false at refl
one-apart b (a ∷ others) rest parts is at =
    let each = and_parts (part b a) (list_all (part b) others) parts in
    ⊎_elim (λ first. apart b a rest each.0 is first) (λ later. one-apart b others rest each.1 is later)
    (or_cases (begins_with a rest) (begins_so others rest) at)

pub all-apart : {A : Type 0} (ways others : List (List First)) (rest : List ℕ)
    → all_part ways others ≡ true
    → begins_so ways rest ≡ true
    → begins_so others rest ≡ true
    → A
all-apart [] others rest parts is at = clash false is refl
all-apart (b ∷ ways) others rest parts is at =
    let each = and_parts (list_all (part b) others) (all_part ways others) parts in
    ⊎_elim (λ first. one-apart b others rest each.0 first at) (λ later. all-apart ways others rest each.1 later at)
    (or_cases (begins_with b rest) (begins_so ways rest) is)
