-- How texts of a format may begin, as words and other bytes, a few of them ahead; and whether a format's texts can be told apart by that.
-- A word is a run of letters, digits and underscores that is as long as can be.
use Rattle.std.specs.Prelude.{ℕ, ◌==◌, ◌&&◌, ◌||◌, Bool, true, false, not, List, [], ◌∷◌, ◌++◌, map, take}
use Rattle.std.specs.List.{list_all, list_any}
use Rattle.std.specs.Str.{bytes_eq}
use Rattle.std.specs.Char.{is_ascii_digit}
use Rattle.tso_terms.specs.Names.{continues_name}
use Rattle.formats.specs.Formats.{Class, LocationName, AnyWord, is_in, Format, Nothing, Number, Word, Printable, Times, Lead, Trail, Both}
use Rattle.formats.specs.Formats.{Either, Many, Separated, Spelled, As}

-- ---- the first word of a text, or its first byte where that is in no word

abbrev pub run_at : Bool → ℕ → List ℕ → List ℕ
run_at true c word = c ∷ word
run_at false c word = []

abbrev pub first_word : List ℕ → List ℕ
first_word [] = []
first_word (c ∷ cs) = run_at (continues_name c) c (first_word cs)

abbrev pub behind_at : Bool → List ℕ → List ℕ → List ℕ
behind_at true text rest = rest
behind_at false text rest = text

abbrev pub behind : List ℕ → List ℕ
behind [] = []
behind (c ∷ cs) = behind_at (continues_name c) (c ∷ cs) (behind cs)

-- what stands first: the end, this byte, this word, these bytes with a number behind them, or a word of this class
pub data First : Type 0 where
  End : First
  Mark : (byte : ℕ) → First
  Exactly : (word : List ℕ) → First
  Numbered : (front : List ℕ) → First
  Named : Class → First

abbrev pub are_digits : List ℕ → Bool
are_digits [] = false
are_digits (d ∷ ds) = list_all is_ascii_digit (d ∷ ds)

abbrev pub is_numbered : List ℕ → List ℕ → Bool
is_numbered [] word = are_digits word
is_numbered (c ∷ cs) [] = false
is_numbered (c ∷ cs) (d ∷ ds) = (c == d) && is_numbered cs ds

abbrev pub is_end : First → Bool
is_end End = true
is_end _ = false

abbrev pub is_mark : First → ℕ → Bool
is_mark (Mark byte) c = byte == c
is_mark _ c = false

abbrev pub has_word : First → List ℕ → Bool
has_word (Exactly w) word = bytes_eq w word
has_word (Numbered front) word = is_numbered front word
has_word (Named class) word = is_in class word
has_word _ word = false

abbrev pub stands_at : Bool → First → ℕ → List ℕ → Bool
stands_at true p c cs = has_word p (c ∷ first_word cs)
stands_at false p c cs = is_mark p c

abbrev pub stands_first : First → List ℕ → Bool
stands_first p [] = is_end p
stands_first p (c ∷ cs) = stands_at (continues_name c) p c cs

abbrev pub past : List ℕ → List ℕ
past [] = []
past (c ∷ cs) = behind_at (continues_name c) cs (behind cs)

-- the text begins with these
abbrev pub begins_with : List First → List ℕ → Bool
begins_with [] text = true
begins_with (p ∷ ps) text = stands_first p text && begins_with ps (past text)

-- it begins in one of these ways
abbrev pub begins_so : List (List First) → List ℕ → Bool
begins_so ways text = list_any (λ b. begins_with b text) ways

-- ---- ways to begin that no text has both of

abbrev pub are_other_numbers : List ℕ → List ℕ → Bool
are_other_numbers [] [] = false
are_other_numbers [] (d ∷ ds) = not (is_ascii_digit d)
are_other_numbers (c ∷ cs) [] = not (is_ascii_digit c)
are_other_numbers (c ∷ cs) (d ∷ ds) = not (c == d) || are_other_numbers cs ds

abbrev pub differ : First → First → Bool
differ End End = false
differ (Mark c) (Mark d) = not (c == d)
differ (Exactly w) (Exactly v) = not (bytes_eq w v)
differ (Exactly w) (Numbered front) = not (is_numbered front w)
differ (Exactly w) (Named class) = not (is_in class w)
differ (Numbered front) (Exactly w) = not (is_numbered front w)
differ (Numbered front) (Numbered other) = are_other_numbers front other
differ (Numbered front) (Named class) = false
differ (Named class) (Exactly w) = not (is_in class w)
differ (Named class) (Numbered front) = false
differ (Named class) (Named other) = false
differ _ _ = true

abbrev pub part : List First → List First → Bool
part (p ∷ ps) (q ∷ qs) = differ p q || part ps qs
part _ _ = false

abbrev pub all_part : List (List First) → List (List First) → Bool
all_part ways others = list_all (λ b. list_all (part b) others) ways

-- ---- how texts of a format begin, with what may come after them

-- the text that so begins is at its end, or begins with a byte that is in no word
abbrev pub is_stop : List First → Bool
is_stop (End ∷ ps) = true
is_stop (Mark byte ∷ ps) = true
is_stop _ = false

-- it begins with a line feed
abbrev pub is_feed : List First → Bool
is_feed (Mark byte ∷ ps) = byte == 10
is_feed _ = false

abbrev pub first_word_at : Bool → First → List First → List First
first_word_at true p ps = p ∷ ps
first_word_at false p ps = []

abbrev pub with_first_word : First → List First → List First
with_first_word p ps = first_word_at (is_stop ps) p ps

-- with one more byte of a word before; with any byte
abbrev pub with_letter : ℕ → List First → List First
with_letter c (End ∷ ps) = Exactly (c ∷ []) ∷ End ∷ ps
with_letter c (Mark byte ∷ ps) = Exactly (c ∷ []) ∷ Mark byte ∷ ps
with_letter c (Exactly w ∷ ps) = Exactly (c ∷ w) ∷ ps
with_letter c (Numbered front ∷ ps) = Numbered (c ∷ front) ∷ ps
with_letter c _ = []

abbrev pub with_first_byte : Bool → ℕ → List First → List First
with_first_byte true c ps = with_letter c ps
with_first_byte false c ps = Mark c ∷ ps

abbrev pub with_text : List ℕ → List First → List First
with_text [] ps = ps
with_text (c ∷ cs) ps = with_first_byte (continues_name c) c (with_text cs ps)

-- each way once, and none that another one has in it
abbrev pub is_same : First → First → Bool
is_same End End = true
is_same (Mark c) (Mark d) = c == d
is_same (Exactly w) (Exactly v) = bytes_eq w v
is_same (Numbered front) (Numbered other) = bytes_eq front other
is_same (Named LocationName) (Named LocationName) = true
is_same (Named AnyWord) (Named AnyWord) = true
is_same _ _ = false

abbrev pub is_within : List First → List First → Bool
is_within [] qs = true
is_within (p ∷ ps) (q ∷ qs) = is_same p q && is_within ps qs
is_within _ _ = false

abbrev pub one_way : Bool → List First → List (List First) → List (List First)
one_way true b ways = ways
one_way false b ways = b ∷ ways

abbrev pub each_way_once : List (List First) → List (List First)
each_way_once [] = []
each_way_once (b ∷ ways) = let others = each_way_once ways in one_way (list_any (λ a. is_within a b) others) b others

-- so many words and bytes are looked at
abbrev pub far : ℕ
far = 4

abbrev pub before : List ℕ → List (List First) → List (List First)
before text ways = each_way_once (map (λ b. take far (with_text text b)) ways)

abbrev pub before_word : First → List (List First) → List (List First)
before_word p ways = each_way_once (map (λ b. take far (with_first_word p b)) ways)

-- these, or one more thing and then anything
abbrev pub in_turn : (List (List First) → List (List First)) → List (List First) → List (List First)
in_turn step ways = each_way_once (ways ++ step ([] ∷ []))

abbrev pub firsts : Format → List (List First) → List (List First)
firsts Nothing ways = ways
firsts Number ways = before_word (Numbered []) ways
firsts (Word class) ways = before_word (Named class) ways
firsts Printable ways = [] ∷ []
firsts (Times byte) ways = with_text (byte ∷ []) [] ∷ ways
firsts (Lead front f) ways = before front (firsts f ways)
firsts (Trail f back) ways = firsts f (before back ways)
firsts (Both f g) ways = firsts f (firsts g ways)
firsts (Either f g) ways = each_way_once (firsts f ways ++ firsts g ways)
firsts (Many f) ways = in_turn (firsts f) ways
firsts (Separated between f) ways = firsts f (in_turn (λ w. before between (firsts f w)) ways)
firsts (Spelled f) ways = firsts f ways
firsts (As manner f) ways = firsts f ways

-- ---- whether texts are told apart, with what may come after them

abbrev pub is_clear : Format → List (List First) → Bool
is_clear Nothing ways = true
is_clear Number ways = list_all is_stop ways
is_clear (Word class) ways = list_all is_stop ways
is_clear Printable ways = list_all is_feed ways
is_clear (Times byte) ways = all_part ways (with_text (byte ∷ []) [] ∷ [])
is_clear (Lead front f) ways = is_clear f ways
is_clear (Trail f back) ways = is_clear f (before back ways)
is_clear (Both f g) ways = is_clear f (firsts g ways) && is_clear g ways
is_clear (Either f g) ways = all_part (firsts f ways) (firsts g ways) && (is_clear f ways && is_clear g ways)
is_clear (Many f) ways = let more = in_turn (firsts f) ways in all_part ways (firsts f more) && is_clear f more
is_clear (Separated between f) ways =
    let more = in_turn (λ w. before between (firsts f w)) ways in
    is_clear f more && all_part ways (before between (firsts f more))
is_clear (Spelled f) ways = is_clear f ways
is_clear (As manner f) ways = is_clear f ways
