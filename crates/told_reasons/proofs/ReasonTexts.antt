-- Each line's text is that of its value in the format of lines, and the value fits.
use Rattle.std.proofs.Common.{◌≡◌, ◌∙◌, ◌<◌, ℕ, zero, suc, Bool, true, false, List, [], ◌∷◌, ◌++◌, map, refl, sym, ap, Option, Some, None}
use Rattle.std.proofs.Common.{IfSome, length, get_or, append-nil, arith}
use Rattle.std.specs.Prelude.{codes, slice_index_or}
use Rattle.std.specs.Fmt.{decimal}
use Rattle.std.specs.List.{flat_map, list_all, AllByRecursion}
use Rattle.std.proofs.lemmas.Bool.{and_parts, true≢false}
use Rattle.std.proofs.lemmas.List.{append_assoc}
use Rattle.basic_laws.specs.Types.{Entry, Kind, R, W, F, LR, LW, Reg, Eax, Ebx, Ecx, Edx, Esi, Edi}
use Rattle.tso_terms.specs.Litmus.{IsTest, Litmus}
use Rattle.tso_terms.specs.Names.{is_location_name}
use Rattle.tso_terms.specs.ProgramOrder.{is_read}
use Rattle.tso_terms.specs.Registers.{name_of}
use Rattle.order_builder.specs.PrintedOrder.{IsLocationFor, letters_of, printed_access}
use Rattle.refutation_laws.specs.declared.model.Relation.{Relation}
use Rattle.refutation_laws.specs.declared.model.Relation.TheVariants.{Po, PoLoc, PoGhb, Mfence, Implied, Rf, Rfe, Co, Fr}
use Rattle.tso_report.specs.declared.named.Named.{Named}
use Rattle.tso_report.specs.declared.named.Named.TheVariants.{Register, Location}
use Rattle.search_report.specs.OutcomesJson.{key_of}
use Rattle.search_report.specs.declared.shown.Event.{Event}
use Rattle.search_report.specs.declared.shown.Edge.{Edge}
use Rattle.search_report.specs.Places.{Place}
use Rattle.search_report.specs.ReasonText.{blanks, cycle_text, entry_text, event_text, hop_text, location_text, place_text, relation_name}
use Rattle.search_report.specs.ReasonText.{relation_text, words_text}
use Rattle.search_report.specs.Shown.{ShownFact, From, Before, Last, Returns, Holds, Subject, OfEvent, OfInitial, OfLocation, Closing}
use Rattle.search_report.specs.Shown.{Uniproc, Cycle, Amid, False, NoAnswer, ByLemma}
use Rattle.search_report.specs.ShownText.{closing_text, fact_text, facts_text, not_text, subject_text}
use Rattle.search_report.specs.ShownText as report
use Rattle.search_report.specs.Lines.{Line, Given, Never, Case, So, Leaf, Endcases}
use Rattle.search_report.specs.LineText.{case_text, closed_text, line_text, question_text}
use Rattle.formats.specs.Formats.{AnyWord, This, That, is_in, separated, IsSome, text, FitsFormat, Spells}
use Rattle.told_reasons.specs.ReasonFormats.{access_format, answered_format, closed_format, closing_format, cycle_format, event_format}
use Rattle.told_reasons.specs.ReasonFormats.{fact_format, facts_format, hop_format, key_format, kind_format, line_format, negated_format}
use Rattle.told_reasons.specs.ReasonFormats.{place_format, question_format, subject_format, values_format}
use Rattle.told_reasons.proofs.ClaimTexts.{holds-spelled}
use Rattle.told_reasons.specs.ShownLines.{shown_cycle, shown_closing, shown_closed, shown_question, shown_case, shown_line, shown_place, values_told}
use Rattle.told_reasons.specs.ShownLines.{IsNumberOf64Bits, EventFits, FactFits, FactsFit, EdgeFits, IsKey, PlaceFits, SubjectFits}
use Rattle.told_reasons.specs.ShownLines.{ClosingFits, QuestionFits, CaseFits, LineFits}

-- ---- lists

module _ {X Y : Type 0} (f : Y → List ℕ) (g : X → Y) (h : X → List ℕ) (each : (x : X) → f (g x) ≡ h x) where
  pub each-text : (xs : List X) → flat_map f (map g xs) ≡ flat_map h xs
  each-text [] = refl
  each-text (x ∷ xs) = λ i. each x i ++ each-text xs i

-- with a text between them
separated-text : {X Y : Type 0} (between : List ℕ) (f : Y → List ℕ) (g : X → Y) (h : X → List ℕ) → ((x : X) → f (g x) ≡ h x) → (xs : List X)
    → separated between f (map g xs) ≡ report.separated between h xs
separated-text between f g h each [] = refl
separated-text between f g h each (x ∷ xs) =
    let more = each-text (λ y. between ++ f y) g (λ x. between ++ h x) (λ x. ap (λ (l : List ℕ). between ++ l) (each x)) xs in
    λ i. each x i ++ more i

pub all-mapped : {X Y : Type 0} (P : X → Type 0) (Q : Y → Type 0) (g : X → Y)
    → ((x : X) → P x → Q (g x))
    → (xs : List X) → AllByRecursion P xs
    → AllByRecursion Q (map g xs)
all-mapped P Q g each [] all = tt
all-mapped P Q g each (x ∷ xs) all = (each x all.0, all-mapped P Q g each xs all.1)

some-mapped : {X Y : Type 0} (g : X → Y) (xs : List X) → IsSome xs → IsSome (map g xs)
some-mapped g [] some = some
some-mapped g (x ∷ xs) some = tt

all-at : (p : List ℕ → Bool) (names : List (List ℕ)) (i : ℕ) → i < length names → list_all p names ≡ true → p (get_or names i []) ≡ true
all-at p [] i lt all = absurd (omega (arith, lt))
all-at p (x ∷ xs) zero lt all = (and_parts (p x) (list_all p xs) all).0
all-at p (x ∷ xs) (suc i) lt all = all-at p xs i (omega (arith, lt)) (and_parts (p x) (list_all p xs) all).1

register-word : (reg : Reg) → is_in AnyWord (name_of reg) ≡ true
register-word Eax = refl
register-word Ebx = refl
register-word Ecx = refl
register-word Edx = refl
register-word Esi = refl
register-word Edi = refl

relation-word : (r : Relation) → is_in AnyWord (relation_name r) ≡ true
relation-word Po = refl
relation-word PoLoc = refl
relation-word PoGhb = refl
relation-word Mfence = refl
relation-word Implied = refl
relation-word Rf = refl
relation-word Rfe = refl
relation-word Co = refl
relation-word Fr = refl

-- ---- texts

module _ (t : Litmus) where
  facts-text : (fs : List ShownFact) → text facts_format (map (fact_text t) fs) ≡ facts_text t fs
  facts-text fs = separated-text (codes ", ") (λ w. w) (fact_text t) (fact_text t) (λ f. refl) fs

  cycle-text : (es : List Edge) → text cycle_format (shown_cycle t es) ≡ cycle_text t es
  cycle-text [] = refl
  cycle-text (e ∷ es) =
      ap (λ (l : List ℕ). codes " " ++ (event_text t e.source ++ l))
      (each-text (text hop_format) (λ d. (relation_text d.relation, event_text t d.target)) (hop_text t) (λ d. refl) (e ∷ es))

  values-text : (vs : List ℕ) → text values_format (values_told vs) ≡ words_text vs
  values-text [] = refl
  values-text (v ∷ vs) = refl

  closing-told : (c : Closing) → text closing_format (shown_closing t c) ≡ closing_text t c
  closing-told (Uniproc es) = ap (λ (l : List ℕ). codes "Uniproc" ++ l) (cycle-text es)
  closing-told (Cycle es) = ap (λ (l : List ℕ). codes "Cycle" ++ l) (cycle-text es)
  closing-told (Amid r v w) = refl
  closing-told (False places) =
      ap (λ (l : List ℕ). codes "False" ++ l) (each-text (text place_format) (shown_place t) (place_text t)
      (λ p. ap (λ (l : List ℕ). codes " " ++ (key_of t p.named ++ (codes "=" ++ l))) (values-text p.values)) places)
  closing-told (NoAnswer kind subject) = refl
  closing-told (ByLemma number) = refl

  closed-told : (c : Option Closing) → text (closed_format) (shown_closed t c) ≡ closed_text t c
  closed-told None = refl
  closed-told (Some c) = ap (λ (l : List ℕ). codes ": " ++ l) (closing-told c)

  question-told : (question : List ℕ) → text question_format (shown_question question) ≡ question_text question
  question-told [] = refl
  question-told (c ∷ cs) = refl

  case-told : (question : List ℕ) (answers : List (List ShownFact)) (c : Option Closing)
      → text answered_format (shown_case t question answers c) ≡ case_text t question answers c
  case-told question answers c =
      let each = separated-text (codes " or ") (text facts_format) (map (fact_text t)) (facts_text t) facts-text answers in
      λ i. question-told question i ++ (each i ++ closed-told c i)

  pub line-told : (l : Line) → text line_format (shown_line t l) ≡ line_text t l
  line-told (Given fs) = λ i. codes "Given " ++ (facts-text fs i ++ codes "\n")
  line-told (Never n fs) = λ i. codes "Lemma " ++ (decimal n ++ (codes " " ++ (facts-text fs i ++ codes "\n")))
  line-told (Case depth question answers c) = λ i. blanks depth ++ (codes "Case " ++ (case-told question answers c i ++ codes "\n"))
  line-told (So depth question answers c) = λ i. blanks depth ++ (codes "So " ++ (case-told question answers c i ++ codes "\n"))
  line-told (Leaf depth c) = λ i. blanks depth ++ (closing-told c i ++ codes "\n")
  line-told (Endcases depth) = refl

module _ (t : Litmus) (test : IsTest t) where
  location-named : (loc : ℕ) → loc < length t.locations → is_location_name (slice_index_or t.locations loc []) ≡ true
  location-named loc known = all-at is_location_name t.locations loc known test.locations_spelled

  -- ---- events

  abbrev access_text : Kind → ℕ → Option ℕ → List ℕ
  access_text k loc None = location_text t k loc
  access_text k loc (Some v) = printed_access t k loc v

  abbrev at_text : ℕ → Option ℕ → List ℕ
  at_text loc None = codes " " ++ slice_index_or t.locations loc []
  at_text loc (Some v) = codes " " ++ (slice_index_or t.locations loc [] ++ (codes "=" ++ decimal v))

  of-kind : (letters : List ℕ) (loc : ℕ) (v : Option ℕ)
      → Spells kind_format letters
      → loc < length t.locations
      → IfSome v IsNumberOf64Bits
      → Spells access_format (letters ++ at_text loc v)
  of-kind letters loc None k known small =
      let name = slice_index_or t.locations loc [] in
      (That (k.0, (name, This tt)), (k.1, (location-named loc known, tt)), λ i. k.2 i ++ (codes " " ++ append-nil name i))
  of-kind letters loc (Some v) k known small =
      let name = slice_index_or t.locations loc [] in
      (That (k.0, (name, That v)), (k.1, (location-named loc known, small)), λ i. k.2 i ++ (codes " " ++ (name ++ (codes "=" ++ decimal v))))

  access-spelled : (k : Kind) (loc : ℕ) (v : Option ℕ)
      → IsLocationFor t k loc
      → IfSome v IsNumberOf64Bits
      → Spells access_format (letters_of k ++ access_text k loc v)
  access-spelled F loc None known small = (This tt, tt, refl)
  access-spelled F loc (Some v) known small = (This tt, tt, refl)
  access-spelled R loc None known small = of-kind (codes "R") loc None (This tt, tt, refl) known small
  access-spelled R loc (Some v) known small = of-kind (codes "R") loc (Some v) (This tt, tt, refl) known small
  access-spelled W loc None known small = of-kind (codes "W") loc None (That (This tt), tt, refl) known small
  access-spelled W loc (Some v) known small = of-kind (codes "W") loc (Some v) (That (This tt), tt, refl) known small
  access-spelled LR loc None known small = of-kind (codes "LR") loc None (That (That (This tt)), tt, refl) known small
  access-spelled LR loc (Some v) known small = of-kind (codes "LR") loc (Some v) (That (That (This tt)), tt, refl) known small
  access-spelled LW loc None known small = of-kind (codes "LW") loc None (That (That (That tt)), tt, refl) known small
  access-spelled LW loc (Some v) known small = of-kind (codes "LW") loc (Some v) (That (That (That tt)), tt, refl) known small

  entry-spelled : (e : Entry) (v : Option ℕ)
      → IsNumberOf64Bits e.core.0
      → IsNumberOf64Bits e.place
      → IsLocationFor t e.kind e.loc.0
      → IfSome v IsNumberOf64Bits
      → Spells event_format (entry_text t e v)
  entry-spelled e None core place known small =
      let a = access-spelled e.kind e.loc.0 None known small in
      ((e.core.0, (e.place, a.0)), (core, (place, a.1)), λ i. codes "P" ++ (decimal e.core.0 ++ (codes ":" ++ (decimal e.place ++ (codes " " ++ a.2 i)))))
  entry-spelled e (Some v) core place known small =
      let a = access-spelled e.kind e.loc.0 (Some v) known small in
      ((e.core.0, (e.place, a.0)), (core, (place, a.1)), λ i. codes "P" ++ (decimal e.core.0 ++ (codes ":" ++ (decimal e.place ++ (codes " " ++ a.2 i)))))

  event-spelled : (e : Event) → EventFits t e → Spells event_format (event_text t e)
  event-spelled e fits = entry-spelled e.entry e.value fits.0 fits.1 fits.2 fits.3

  key-spelled : (named : Named) → IsKey t named → Spells key_format (key_of t named)
  key-spelled (Register core reg) known = (This (core.0, name_of reg), (known, register-word reg), refl)
  key-spelled (Location loc) known = (That (slice_index_or t.locations loc.0 []), location-named loc.0 known, refl)

  -- ---- facts

  negated-spelled : (truth : Bool) → Spells negated_format (not_text truth)
  negated-spelled true = (This tt, tt, refl)
  negated-spelled false = (That tt, tt, refl)

  value-flat : (core place letters name value : List ℕ)
      → codes "P" ++ (core ++ (codes ":" ++ (place ++ (codes " " ++ (letters ++ (codes " " ++ (name ++ (codes "=" ++ value))))))))
      ≡ (codes "P" ++ (core ++ (codes ":" ++ (place ++ (codes " " ++ (letters ++ (codes " " ++ name))))))) ++ (codes "=" ++ value)
  value-flat core place letters name value = simp append_assoc

  -- a read with its value is as the read and then the value
  value-behind : (e : Entry) (v : ℕ) → is_read e ≡ true → entry_text t e (Some v) ≡ entry_text t e None ++ (codes "=" ++ decimal v)
  value-behind e v is = by e.kind is
    where
      by : (k : Kind)
          → is_read (record e { kind = k }) ≡ true
          → entry_text t (record e { kind = k }) (Some v)
          ≡ entry_text t (record e { kind = k }) None ++ (codes "=" ++ decimal v)
      by R is = value-flat (decimal e.core.0) (decimal e.place) (codes "R") (slice_index_or t.locations e.loc.0 []) (decimal v)
      by LR is = value-flat (decimal e.core.0) (decimal e.place) (codes "LR") (slice_index_or t.locations e.loc.0 []) (decimal v)
      by F is = absurd (true≢false (sym is))
      by W is = absurd (true≢false (sym is))
      by LW is = absurd (true≢false (sym is))

  fact-spelled : (f : ShownFact) → FactFits t f → Spells fact_format (fact_text t f)
  fact-spelled (From r None truth) fits =
      let e = event-spelled r fits.0 in
      let n = negated-spelled truth in
      (This (e.0, That (This (n.0, This tt))), (e.1, (n.1, tt)), λ i. e.2 i ++ (n.2 i ++ codes " from initial"))
  fact-spelled (From r (Some w) truth) fits =
      let e = event-spelled r fits.0 in
      let n = negated-spelled truth in
      let s = event-spelled w fits.1 in
      (This (e.0, That (This (n.0, That s.0))), (e.1, (n.1, s.1)), λ i. e.2 i ++ (n.2 i ++ (codes " from " ++ s.2 i)))
  fact-spelled (Before w v) fits =
      let e = event-spelled w fits.0 in
      let s = event-spelled v fits.1 in
      (This (e.0, That (That (This s.0))), (e.1, s.1), λ i. e.2 i ++ (codes " before " ++ s.2 i))
  fact-spelled (Last w truth) fits =
      let e = event-spelled w fits in
      let n = negated-spelled truth in
      (This (e.0, That (That (That (This (n.0, tt))))), (e.1, (n.1, tt)), λ i. e.2 i ++ (n.2 i ++ codes " last"))
  fact-spelled (Returns r value true) fits =
      let e = entry-spelled r.entry (Some value) fits.0.0 fits.0.1 fits.0.2 fits.3 in
      let bare : entry_text t r.entry None ++ (codes "=" ++ decimal value) ≡ event_text t r ++ (codes "=" ++ decimal value)
      = λ i. entry_text t r.entry (sym fits.1 i) ++ (codes "=" ++ decimal value) in
      (This (e.0, This tt), (e.1, tt), append-nil (text event_format e.0) ∙ (e.2 ∙ (value-behind r.entry value fits.2 ∙ bare)))
  fact-spelled (Returns r value false) fits =
      let e = event-spelled r fits.0 in
      (This (e.0, That (That (That (That value)))), (e.1, fits.3), λ i. e.2 i ++ (codes " not " ++ decimal value))
  fact-spelled (Holds shown) fits =
      let said = holds-spelled t (λ n known. key-spelled n known) fits.0 fits.1 fits.2 in
      (That said.0, said.1, said.2 ∙ sym fits.3)

  facts-fit : (fs : List ShownFact) → FactsFit t fs → FitsFormat facts_format (map (fact_text t) fs)
  facts-fit fs fits = (some-mapped (fact_text t) fs fits.0, all-mapped (FactFits t) (λ w. Spells fact_format w) (fact_text t) fact-spelled fs fits.1)

  -- ---- why a branch is closed

  hop-fits : (e : Edge) → EdgeFits t e → FitsFormat hop_format (relation_text e.relation, event_text t e.target)
  hop-fits e fits = (by e.relation fits.2, event-spelled e.target fits.1)
    where
      by : (r : Option Relation) → (r ≡ None → ⊥) → is_in AnyWord (relation_text r) ≡ true
      by None some = absurd (some refl)
      by (Some r) some = relation-word r

  cycle-fits : (es : List Edge) → AllByRecursion (EdgeFits t) es → FitsFormat cycle_format (shown_cycle t es)
  cycle-fits [] all = tt
  cycle-fits (e ∷ es) all = (
    event-spelled e.source all.0.0,
    all-mapped (EdgeFits t) (FitsFormat hop_format) (λ d. (relation_text d.relation, event_text t d.target)) hop-fits (e ∷ es) all,
  )

  values-fit : (vs : List ℕ) → AllByRecursion IsNumberOf64Bits vs → FitsFormat values_format (values_told vs)
  values-fit [] all = tt
  values-fit (v ∷ vs) all = (tt, all)

  place-fits : (p : Place) → PlaceFits t p → FitsFormat place_format (shown_place t p)
  place-fits p fits = (key-spelled p.named fits.0, values-fit p.values fits.1)

  subject-spelled : (s : Subject) → SubjectFits t s → Spells subject_format (subject_text t s)
  subject-spelled (OfEvent e) fits = let s = event-spelled e fits in (This s.0, s.1, s.2)
  subject-spelled (OfInitial loc) fits = (That (slice_index_or t.locations loc [], That tt), (location-named loc fits, tt), refl)
  subject-spelled (OfLocation loc) fits =
      (That (slice_index_or t.locations loc [], This tt), (location-named loc fits, tt), append-nil (slice_index_or t.locations loc []))

  closing-fits : (c : Closing) → ClosingFits t c → FitsFormat closing_format (shown_closing t c)
  closing-fits (Uniproc es) fits = cycle-fits es fits
  closing-fits (Cycle es) fits = cycle-fits es fits
  closing-fits (Amid r v w) fits = (event-spelled r fits.0, (event-spelled v fits.1, event-spelled w fits.2))
  closing-fits (False places) fits = all-mapped (PlaceFits t) (FitsFormat place_format) (shown_place t) place-fits places fits
  closing-fits (NoAnswer kind subject) fits = (fits.0, subject-spelled subject fits.1)
  closing-fits (ByLemma number) fits = fits

  -- ---- lines

  closed-fits : (c : Option Closing) → IfSome c (ClosingFits t) → FitsFormat closed_format (shown_closed t c)
  closed-fits None fits = tt
  closed-fits (Some c) fits = closing-fits c fits

  question-fits : (question : List ℕ) → QuestionFits question → FitsFormat question_format (shown_question question)
  question-fits [] fits = (tt, tt, refl)
  question-fits (c ∷ cs) fits = fits

  case-fits : (question : List ℕ) (answers : List (List ShownFact)) (c : Option Closing)
      → CaseFits t question answers c
      → FitsFormat answered_format (shown_case t question answers c)
  case-fits question answers c fits = (
    question-fits question fits.0,
    (
      (
        some-mapped (map (fact_text t)) answers fits.1,
        all-mapped (FactsFit t) (FitsFormat facts_format) (map (fact_text t)) facts-fit answers fits.2,
      ),
      closed-fits c fits.3,
    ),
  )

  pub line-fits : (l : Line) → LineFits t l → FitsFormat line_format (shown_line t l)
  line-fits (Given fs) fits = facts-fit fs fits
  line-fits (Never n fs) fits = (fits.0, facts-fit fs fits.1)
  line-fits (Case depth question answers c) fits = (tt, case-fits question answers c fits)
  line-fits (So depth question answers c) fits = (tt, case-fits question answers c fits)
  line-fits (Leaf depth c) fits = (tt, closing-fits c fits)
  line-fits (Endcases depth) fits = (tt, tt)
