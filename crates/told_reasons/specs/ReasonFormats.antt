-- The lines that `why` prints of a refutation, as a format. Events, facts, places and what questions ask of are told as their texts.
use Rattle.std.specs.Prelude.{ℕ, List, codes}
use Rattle.formats.specs.Formats.{LocationName, AnyWord, Member, Tagged, Entry, Object, Chain, NoItem, Format, Nothing, Number, Word}
use Rattle.formats.specs.Formats.{Printable, Times, Lead, Trail, Both, Either, Many, Separated, Spelled, As, fixed, optional}

-- ---- events

abbrev pub location_format : Format
location_format = Word LocationName

abbrev pub kind_format : Format
kind_format = Either (fixed (codes "R")) (Either (fixed (codes "W")) (Either (fixed (codes "LR")) (fixed (codes "LW"))))

-- `R x=0`, or `W x` where the value isn't known; a fence has no location
abbrev pub access_format : Format
access_format = Either (fixed (codes "F")) (Both kind_format (Lead (codes " ") (Both location_format (optional (Lead (codes "=") Number)))))

-- `P0:1 R x=0`
abbrev pub event_format : Format
event_format = Lead (codes "P") (Both Number (Lead (codes ":") (Both Number (Lead (codes " ") access_format))))

-- ` po P0:1 W y=1`
abbrev pub hop_format : Format
hop_format = Lead (codes " ") (Both (Word AnyWord) (Lead (codes " ") (Spelled event_format)))

-- ---- facts

-- `0:EAX`, or `x`
abbrev pub key_format : Format
key_format = Either (Both Number (Lead (codes ":") (Word AnyWord))) location_format

abbrev pub atom_format : Format
atom_format = Either (Either (fixed (codes "true")) (fixed (codes "false"))) (Both key_format (Lead (codes "=") Number))

abbrev pub openers_format : Format
openers_format = Many (Either (fixed (codes "(")) (fixed (codes "~")))

-- an atom, with all that opens before it and closes behind it
abbrev pub unit_format : Format
unit_format = Both openers_format (Both atom_format (Times 41))

abbrev pub operator_format : Format
operator_format = Either (fixed (codes " /\\ ")) (fixed (codes " \\/ "))

abbrev pub joined_format : Format
joined_format = Both operator_format unit_format

abbrev pub claim_format : Format
claim_format = Both unit_format (Many joined_format)

-- `(x=1 /\ ~0:EAX=0)`, or `x not 1`
abbrev pub holds_format : Format
holds_format = Either claim_format (Both key_format (Lead (codes " not ") Number))

abbrev pub negated_format : Format
negated_format = optional (fixed (codes " not"))

-- nothing is said of an event whose value is told
abbrev pub said_format : Format
said_format =
    Either Nothing
    (Either (Both negated_format (Lead (codes " from ") (Either (fixed (codes "initial")) event_format)))
    (Either (Lead (codes " before ") event_format)
    (Either (Both negated_format (fixed (codes " last")))
    (Lead (codes " not ") Number))))

abbrev pub fact_format : Format
fact_format = Either (Both event_format said_format) holds_format

abbrev pub facts_format : Format
facts_format = Separated (codes ", ") (Spelled fact_format)

-- ---- why a branch is closed

-- ` P0:0 W x=1 po P0:1 W y=1 ..`
abbrev pub cycle_format : Format
cycle_format = As (Member (codes "cycle"))
    (Either (As NoItem Nothing) (As (Chain (codes "from") (codes "relation") (codes "to")) (Lead (codes " ") (Both (Spelled event_format) (Many hop_format)))))

-- `0`, or `1|2`, or nothing where no value is left
abbrev pub values_format : Format
values_format = Either (As NoItem Nothing) (Separated (codes "|") Number)

-- ` 1:EAX=0`, ` x=1|2`, or ` 2:EAX=`
abbrev pub place_format : Format
place_format = As Entry (Lead (codes " ") (Both (Spelled key_format) (Lead (codes "=") values_format)))

-- an event, a location, or its initial word
abbrev pub subject_format : Format
subject_format = Either event_format (Both location_format (optional (fixed (codes " initial"))))

abbrev pub in_step : List ℕ → Format → Format
in_step word f = As (Tagged (codes "step") word) f

abbrev pub as_member : List ℕ → Format → Format
as_member key_format f = As (Member key_format) f

abbrev pub amid_format : Format
amid_format =
    Both (as_member (codes "read") (Spelled event_format))
    (Lead (codes " ") (Both (as_member (codes "between") (Spelled event_format)) (Lead (codes " ") (as_member (codes "write") (Spelled event_format)))))

abbrev pub closing_format : Format
closing_format =
    Either (in_step (codes "uniproc") (Lead (codes "Uniproc") cycle_format))
    (Either (in_step (codes "cycle") (Lead (codes "Cycle") cycle_format))
    (Either (in_step (codes "between") (Lead (codes "Between ") amid_format))
    (Either (in_step (codes "false") (Lead (codes "False") (as_member (codes "places") (As Object (Many place_format)))))
    (Either (in_step (codes "none") (Lead (codes "No ")
    (Both (as_member (codes "question") (Word AnyWord)) (Lead (codes " ") (as_member (codes "of") (Spelled subject_format))))))
    (in_step (codes "lemma") (Lead (codes "By lemma ") (as_member (codes "lemma") Number)))))))

-- ---- lines

abbrev pub question_word_format : Format
question_word_format = Either (fixed (codes "reader")) (fixed (codes "part"))

-- the word of a question, if it has one
abbrev pub question_format : Format
question_format = Either (Spelled Nothing) (Trail (Spelled question_word_format) (codes " "))

-- what closes the answers of a line, if it does
abbrev pub closed_format : Format
closed_format = optional (Lead (codes ": ") closing_format)

-- `P0:1 R x=0 from initial`, `part 0:EAX=0 or x=1: By lemma 1`
abbrev pub answered_format : Format
answered_format =
    Both (as_member (codes "question") question_format)
    (Both (as_member (codes "answers") (Separated (codes " or ") facts_format)) (as_member (codes "closing") closed_format))

abbrev pub line_ended : Format → Format
line_ended f = Trail f (codes "\n")

abbrev pub line_format : Format
line_format =
    Either (in_step (codes "given") (Lead (codes "Given ") (line_ended (as_member (codes "facts") facts_format))))
    (Either (in_step (codes "never")
    (Lead (codes "Lemma ") (Both (as_member (codes "lemma") Number) (Lead (codes " ") (line_ended (as_member (codes "facts") facts_format))))))
    (Both (as_member (codes "depth") (Times 32))
    (Either (in_step (codes "case") (Lead (codes "Case ") (line_ended answered_format)))
    (Either (in_step (codes "so") (Lead (codes "So ") (line_ended answered_format)))
    (Either (in_step (codes "leaf") (line_ended (as_member (codes "closing") closing_format)))
    (in_step (codes "endcases") (fixed (codes "Endcases\n"))))))))

-- ---- a whole text

abbrev pub named_format : Format
named_format = Lead (codes "Test ") (line_ended Printable)

abbrev pub counted_format : Format
counted_format = Lead (codes "Never ") (Both (Word AnyWord) (Lead (codes " leaves=") (line_ended Number)))

abbrev pub quantifier_format : Format
quantifier_format = Either (fixed (codes "exists")) (Either (fixed (codes "~exists")) (fixed (codes "forall")))

abbrev pub asked_format : Format
asked_format = optional (Lead (codes "Asked ") (Both (Spelled quantifier_format) (Lead (codes " ") (line_ended (Word AnyWord)))))

abbrev pub verdict_format : Format
verdict_format = optional (Lead (codes "Verdict ") (line_ended (Word AnyWord)))

abbrev pub reason_format : Format
reason_format = Both named_format (Both counted_format (Both asked_format (Both (Many line_format) verdict_format)))
