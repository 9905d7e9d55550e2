-- The text of a proposition is one of atoms, with brackets and negations around them.
use Rattle.std.proofs.Common.{◌≡◌, ◌∙◌, ◌+◌, ℕ, Bool, true, false, List, [], ◌∷◌, ◌++◌, refl, sym, ap, replicate, append-nil}
use Rattle.std.specs.Prelude.{codes}
use Rattle.std.specs.Fmt.{decimal}
use Rattle.std.specs.List.{flat_map, AllByRecursion}
use Rattle.std.proofs.lemmas.List.{append_assoc, replicate_more}
use Rattle.std.proofs.lemmas.Grind.{flat_map-append}
use Rattle.tso_terms.specs.Litmus.{Litmus}
use Rattle.tso_terms.specs.Condition.{Claim, TruthClaim, RegClaim, LocClaim, NotClaim, AndClaim, OrClaim}
use Rattle.tso_report.specs.declared.named.Named.{Named}
use Rattle.tso_report.specs.Tally.{named_location, named_register}
use Rattle.search_report.specs.OutcomesJson.{key_of}
use Rattle.search_report.specs.ClaimText.{atom_text, claim_text, holds_text}
use Rattle.formats.specs.Formats.{OneOf, This, That, Value, text, FitsFormat, Spells}
use Rattle.told_reasons.specs.ReasonFormats.{atom_format, claim_format, holds_format, joined_format, key_format, openers_format, operator_format, unit_format}
use Rattle.told_reasons.specs.ShownLines.{IsKey, IsNumberOf64Bits, ClaimFits}

abbrev Unit_value : Type 0
Unit_value = Value unit_format

abbrev Joined : Type 0
Joined = OneOf (Unit {0}) (Unit {0}) × Value unit_format

-- ---- with one more bracket or negation before

abbrev opener_text : OneOf (Unit {0}) (Unit {0}) → List ℕ
opener_text (This x) = codes "("
opener_text (That x) = codes "~"

open-flat : (o openers atom closers rest : List ℕ) → ((o ++ openers) ++ (atom ++ closers)) ++ rest ≡ o ++ ((openers ++ (atom ++ closers)) ++ rest)
open-flat o openers atom closers rest = simp append_assoc

opened : (o : OneOf (Unit {0}) (Unit {0})) (w : List ℕ) → Spells claim_format w → Spells claim_format (opener_text o ++ w)
opened (This x) w s =
    let v = s.0 in (
      ((This x ∷ v.0.0, v.0.1), v.1),
      (((tt, s.1.0.0), s.1.0.1), s.1.1),
      open-flat (codes "(") _ (text atom_format v.0.1.0) (replicate v.0.1.1 41) _ ∙ ap (λ (l : List ℕ). codes "(" ++ l) s.2,
    )
opened (That x) w s =
    let v = s.0 in (
      ((That x ∷ v.0.0, v.0.1), v.1),
      (((tt, s.1.0.0), s.1.0.1), s.1.1),
      open-flat (codes "~") _ (text atom_format v.0.1.0) (replicate v.0.1.1 41) _ ∙ ap (λ (l : List ℕ). codes "~" ++ l) s.2,
    )

-- ---- with one more bracket behind

abbrev closed_unit : Unit_value → Unit_value
closed_unit u = (u.0, (u.1.0, u.1.1 + 1))

close-flat : (openers atom closers : List ℕ) → openers ++ (atom ++ (closers ++ codes ")")) ≡ (openers ++ (atom ++ closers)) ++ codes ")"
close-flat openers atom closers = simp append_assoc

unit-closed : (u : Unit_value) → text unit_format (closed_unit u) ≡ text unit_format u ++ codes ")"
unit-closed u =
    ap (λ (l : List ℕ). text (openers_format) u.0 ++ (text atom_format u.1.0 ++ l)) (sym (replicate_more u.1.1 41))
    ∙ close-flat (text (openers_format) u.0) (text atom_format u.1.0) (replicate u.1.1 41)

-- the last of these has one more
abbrev closed_last : Unit_value → List Joined → Value claim_format
closed_last u [] = (closed_unit u, [])
closed_last u (j ∷ js) = let more = closed_last j.1 js in (u, (j.0, more.0) ∷ more.1)

later-flat : (unit op text rest : List ℕ) → unit ++ ((op ++ text) ++ rest) ≡ unit ++ (op ++ (text ++ rest))
later-flat unit op text rest = simp append_assoc

behind-flat : (unit op text rest : List ℕ) → unit ++ (op ++ ((text ++ rest) ++ codes ")")) ≡ (unit ++ ((op ++ text) ++ rest)) ++ codes ")"
behind-flat unit op text rest = simp append_assoc

last-closed : (u : Unit_value) (js : List Joined) → text claim_format (closed_last u js) ≡ text claim_format (u, js) ++ codes ")"
last-closed u [] = append-nil (text unit_format (closed_unit u)) ∙ (unit-closed u ∙ ap (λ (l : List ℕ). l ++ codes ")") (sym (append-nil (text unit_format u))))
last-closed u (j ∷ js) =
    let more = closed_last j.1 js in
    later-flat (text unit_format u) (text operator_format j.0) (text unit_format more.0) (flat_map (text joined_format) more.1)
    ∙ (ap (λ (l : List ℕ). text unit_format u ++ (text operator_format j.0 ++ l)) (last-closed j.1 js)
    ∙ behind-flat (text unit_format u) (text operator_format j.0) (text unit_format j.1) (flat_map (text joined_format) js))

last-fits : (u : Unit_value) (js : List Joined) → FitsFormat claim_format (u, js) → FitsFormat claim_format (closed_last u js)
last-fits u [] fits = ((fits.0.0, fits.0.1), tt)
last-fits u (j ∷ js) fits =
    let more = last-fits j.1 js (fits.1.0.1, fits.1.1) in
    (fits.0, ((fits.1.0.0, more.0), more.1))

closed : (w : List ℕ) → Spells claim_format w → Spells claim_format (w ++ codes ")")
closed w s = (closed_last s.0.0 s.0.1, last-fits s.0.0 s.0.1 s.1, last-closed s.0.0 s.0.1 ∙ ap (λ (l : List ℕ). l ++ codes ")") s.2)

-- ---- two of them

join-flat : (unit joined op other rest : List ℕ) → unit ++ (joined ++ ((op ++ other) ++ rest)) ≡ (unit ++ joined) ++ (op ++ (other ++ rest))
join-flat unit joined op other rest = simp append_assoc

all-append : (xs ys : List Joined)
    → AllByRecursion (FitsFormat joined_format) xs
    → AllByRecursion (FitsFormat joined_format) ys
    → AllByRecursion (FitsFormat joined_format) (xs ++ ys)
all-append [] ys p q = q
all-append (x ∷ xs) ys p q = (p.0, all-append xs ys p.1 q)

joined : (op : OneOf (Unit {0}) (Unit {0})) (w v : List ℕ) → FitsFormat operator_format op → Spells claim_format w → Spells claim_format v
    → Spells claim_format (w ++ (text operator_format op ++ v))
joined op w v fits s r = (
  (s.0.0, s.0.1 ++ ((op, r.0.0) ∷ r.0.1)),
  (s.1.0, all-append s.0.1 ((op, r.0.0) ∷ r.0.1) s.1.1 ((fits, r.1.0), r.1.1)),
  ap (λ (l : List ℕ). text unit_format s.0.0 ++ l) (flat_map-append (text joined_format) s.0.1 ((op, r.0.0) ∷ r.0.1))
      ∙ (join-flat (text unit_format s.0.0) (flat_map (text joined_format) s.0.1) (text operator_format op)
      (text unit_format r.0.0) (flat_map (text joined_format) r.0.1)
      ∙ λ i. s.2 i ++ (text operator_format op ++ r.2 i)),
)

-- ---- propositions

nil-flat : (w : List ℕ) → (w ++ []) ++ [] ≡ w
nil-flat w = append-nil (w ++ []) ∙ append-nil w

-- an atom by itself
alone : (w : List ℕ) → Spells atom_format w → Spells claim_format w
alone w s = ((([], (s.0, 0)), []), ((tt, (s.1, tt)), tt), nil-flat (text atom_format s.0) ∙ s.2)

module _ (t : Litmus) (key : (named : Named) → IsKey t named → Spells key_format (key_of t named)) where
  valued : (named : Named) (value : ℕ) → IsKey t named → IsNumberOf64Bits value → Spells claim_format (atom_text t named value true)
  valued named value known small =
      let k = key named known in
      alone (atom_text t named value true) (That (k.0, value), (k.1, small), λ i. k.2 i ++ (codes "=" ++ decimal value))

  claim-spelled : (c : Claim) → ClaimFits t c → Spells claim_format (claim_text t c)
  claim-spelled (TruthClaim true) fits = alone (codes "true") (This (This tt), tt, refl)
  claim-spelled (TruthClaim false) fits = alone (codes "false") (This (That tt), tt, refl)
  claim-spelled (RegClaim core reg value) fits = valued (named_register core reg) value fits.0 fits.1
  claim-spelled (LocClaim loc value) fits = valued (named_location loc) value fits.0 fits.1
  claim-spelled (NotClaim inner) fits = opened (That tt) (claim_text t inner) (claim-spelled inner fits)
  claim-spelled (AndClaim left right) fits =
      opened (This tt) _
      (joined (This tt) (claim_text t left) (claim_text t right ++ codes ")") tt (claim-spelled left fits.0)
      (closed (claim_text t right) (claim-spelled right fits.1)))
  claim-spelled (OrClaim left right) fits =
      opened (This tt) _
      (joined (That tt) (claim_text t left) (claim_text t right ++ codes ")") tt (claim-spelled left fits.0)
      (closed (claim_text t right) (claim-spelled right fits.1)))

  by-claim : (w : List ℕ) → Spells claim_format w → Spells holds_format w
  by-claim w s = (This s.0, s.1, s.2)

  not-valued : (named : Named) (value : ℕ) → IsKey t named → IsNumberOf64Bits value → Spells holds_format (atom_text t named value false)
  not-valued named value known small =
      let k = key named known in
      (That (k.0, value), (k.1, small), λ i. k.2 i ++ (codes " not " ++ decimal value))

  pub holds-spelled : (c : Claim) (truth : Bool) → ClaimFits t c → Spells holds_format (holds_text t c truth)
  holds-spelled (RegClaim core reg value) true fits = by-claim _ (claim-spelled (RegClaim core reg value) fits)
  holds-spelled (RegClaim core reg value) false fits = not-valued (named_register core reg) value fits.0 fits.1
  holds-spelled (LocClaim loc value) true fits = by-claim _ (claim-spelled (LocClaim loc value) fits)
  holds-spelled (LocClaim loc value) false fits = not-valued (named_location loc) value fits.0 fits.1
  holds-spelled (TruthClaim b) true fits = by-claim _ (claim-spelled (TruthClaim b) fits)
  holds-spelled (TruthClaim b) false fits = by-claim _ (opened (That tt) (claim_text t (TruthClaim b)) (claim-spelled (TruthClaim b) fits))
  holds-spelled (NotClaim inner) true fits = by-claim _ (claim-spelled (NotClaim inner) fits)
  holds-spelled (NotClaim inner) false fits = by-claim _ (opened (That tt) (claim_text t (NotClaim inner)) (claim-spelled (NotClaim inner) fits))
  holds-spelled (AndClaim left right) true fits = by-claim _ (claim-spelled (AndClaim left right) fits)
  holds-spelled (AndClaim left right) false fits = by-claim _ (opened (That tt) (claim_text t (AndClaim left right)) (claim-spelled (AndClaim left right) fits))
  holds-spelled (OrClaim left right) true fits = by-claim _ (claim-spelled (OrClaim left right) fits)
  holds-spelled (OrClaim left right) false fits = by-claim _ (opened (That tt) (claim_text t (OrClaim left right)) (claim-spelled (OrClaim left right) fits))
