-- What is counted of runs: that it is what the headline of `counts` says, that there is one answer, and that the headline leaves one text.
use Rattle.tso_cli.proofs.Vocabulary.{◌≡◌, ◌∙◌, ◌≤◌, ◌<◌, ◌+◌, ◌⊎◌, inl, inr, ℕ, zero, suc, Bool, true, false, List, [], ◌∷◌, length}
use Rattle.tso_cli.proofs.Vocabulary.{Option, Some, None, IfSome, slice_get, refl, sym, ap, subst, arith, Litmus, Choice}
use Rattle.tso_cli.proofs.Vocabulary.{IsDecidedAsChoices, IsExecution, ProtocolKind, Configuration, Plan, SpellsChoices, choices_refusal}
use Rattle.tso_cli.proofs.Vocabulary.{run_under, AnswersFit, Status}
use Rattle.scheduler.specs.Refusals.{IsRefusedAsChoices}
use Rattle.scheduler.specs.declared.fault.ChoiceFault.{ChoiceFault}
use Rattle.cache_counts.specs.Counted.{Counted, choices_of, counted_by, counted_once}
use Rattle.cache_counts.specs.Laws.{TellsNumbers, TellsRuns}
use Rattle.cache_counts.proofs.Told.{counts-tell}
use Rattle.cache_counts.specs.declared.spread.Spread.{Spread}
use Rattle.counts_report.proofs.NoNumbers.{no-numbers}
use Rattle.tso_cli.specs.Counts.{told_counts, counts_status, IsCountsAnswer, IsCountOfGiven, ran, refused}
use Rattle.tso_cli.specs.CountsHeadline.{HeadlineOfCounts, PrintsCounts}

-- ---- what is printed

-- an order of each run that ends is an execution
abbrev AreExecutions : Litmus → ProtocolKind → Configuration → Type 0
AreExecutions t kind c =
    (choices : List Choice) → AnswersFit t kind c choices
    → (run_under t kind c choices).ended ≡ true
    → IsExecution t (run_under t kind c choices)

pub counts-mean : (t : Litmus) (kind : ProtocolKind) (c : Configuration) (plan : Option Plan) (json : Bool) (text out : List ℕ) (status : Status)
    → IsDecidedAsChoices (length t.programs) text
    → AreExecutions t kind c
    → IsCountsAnswer t kind c plan json text out status
    → HeadlineOfCounts t kind c plan json text out
counts-mean t kind c (Some plan) json text out status decided law is = record {
  counted = counted_by t kind c plan;
  printed = is.text;
  tells = counts-tell.plans t kind c plan;
  executions = λ i l ended. (law (choices_of t plan.length (plan.from + i)) (is.answers i l) ended).order;
}
counts-mean t kind c None json text _ _ decided law (refused fault h) = record {
  every_list = λ choices spelled. absurd (decided.never_both choices fault spelled h);
  every_other = λ none. (fault, h, refl);
}
counts-mean t kind c None json text _ _ decided law (ran made spelled fit) = record {
  every_list = λ choices read.
      subst (λ cs.
      PrintsCounts t kind c None json (λ i. cs) 1 (told_counts json t kind c None (counted_once t kind c made)))
      (decided.one_list made choices spelled read)
      (record {
        counted = counted_once t kind c made;
        printed = refl;
        tells = counts-tell.once t kind c made;
        executions = λ i l ended. (law made fit ended).order;
      });
  every_other = λ none. absurd (none made spelled);
}

-- ---- one answer

one-of-given : (t : Litmus) (kind : ProtocolKind) (c : Configuration) (json : Bool) (text out other : List ℕ)
    (status again : Status)
    → IsDecidedAsChoices (length t.programs) text
    → IsCountOfGiven t kind c json text out status → IsCountOfGiven t kind c json text other again → (out ≡ other) × (status ≡ again)
one-of-given t kind c json text _ _ _ _ law (refused f h) (refused g k) = (ap choices_refusal (law.one_refusal f g h k), refl)
one-of-given t kind c json text _ _ _ _ law (refused f h) (ran choices spelled fit) = absurd (law.never_both choices f spelled h)
one-of-given t kind c json text _ _ _ _ law (ran choices spelled fit) (refused f h) = absurd (law.never_both choices f spelled h)
one-of-given t kind c json text _ _ _ _ law (ran choices spelled fit) (ran others again too) =
    let same = law.one_list choices others spelled again in
    (ap (λ cs. told_counts json t kind c None (counted_once t kind c cs)) same, ap (λ cs. counts_status (counted_once t kind c cs)) same)

pub one-counts-answer : (t : Litmus) (kind : ProtocolKind) (c : Configuration) (plan : Option Plan) (json : Bool)
    (text out other : List ℕ) (status again : Status)
    → IsDecidedAsChoices (length t.programs) text
    → IsCountsAnswer t kind c plan json text out status
    → IsCountsAnswer t kind c plan json text other again
    → (out ≡ other) × (status ≡ again)
one-counts-answer t kind c (Some plan) json text out other status again law is too = (is.text ∙ sym too.text, is.status_is ∙ sym too.status_is)
one-counts-answer t kind c None json text out other status again law is too = one-of-given t kind c json text out other status again law is too

-- ---- one text

-- no two numbers are both a least one
no-less : (a b : ℕ) → a ≤ b → b ≤ a → a ≡ b
no-less a b h k = omega arith

from-some : {A : Type 0} (P : A → Type 0) (o : Option A) (x : A) → o ≡ Some x → IfSome o P → P x
from-some P None x is h = absurd (let no : ⊥ = cc in no)
from-some P (Some y) x is h = subst P (let same : y ≡ x = cc in same) h

same-spread : (a b : Spread) → a.sum ≡ b.sum → a.least ≡ b.least → a.greatest ≡ b.greatest → a ≡ b
same-spread a b sum least greatest = λ i. record { sum = sum i; least = least i; greatest = greatest i }

-- one number of these runs is told in one way
one-number : (number : ℕ → Option ℕ) (n : ℕ) (a b : Spread) → TellsNumbers number n a → TellsNumbers number n b → a ≡ b
one-number number n a b p q =
    let first = from-some (λ x. (b.least ≤ x) × (x ≤ b.greatest)) (number p.least.0) a.least p.least.2 (q.within p.least.0 p.least.1) in
    let second = from-some (λ x. (a.least ≤ x) × (x ≤ a.greatest)) (number q.least.0) b.least q.least.2 (p.within q.least.0 q.least.1) in
    let third = from-some (λ x. (b.least ≤ x) × (x ≤ b.greatest)) (number p.greatest.0) a.greatest p.greatest.2 (q.within p.greatest.0 p.greatest.1) in
    let fourth = from-some (λ x. (a.least ≤ x) × (x ≤ a.greatest)) (number q.greatest.0) b.greatest q.greatest.2 (p.within q.greatest.0 q.greatest.1) in
    same-spread a b (p.sum ∙ sym q.sum) (no-less a.least b.least second.0 first.0) (no-less a.greatest b.greatest third.1 fourth.1)

one-list : (ss ts : List Spread)
    → length ss ≡ length ts
    → ((place : ℕ) (a b : Spread) → slice_get ss place ≡ Some a → slice_get ts place ≡ Some b → a ≡ b)
    → ss ≡ ts
one-list [] [] size same = refl
one-list [] (b ∷ ts) size same = absurd (omega arith)
one-list (a ∷ ss) [] size same = absurd (omega arith)
one-list (a ∷ ss) (b ∷ ts) size same =
    ap (λ s. s ∷ ss) (same zero a b refl refl) ∙ ap (λ l. b ∷ l) (one-list ss ts (omega arith) (λ place x y. same (suc place) x y))

-- what is counted, but for the numbers where no run ended
abbrev AreOneCount : Counted → Counted → Type 0
AreOneCount k l = (k.ended ≡ l.ended) × (k.unfinished ≡ l.unfinished) × ((k.ended ≡ 0) ⊎ (k.spreads ≡ l.spreads))

none-or-some : (n : ℕ) → (n ≡ 0) ⊎ (0 < n)
none-or-some zero = inl refl
none-or-some (suc n) = inr (omega arith)

one-count : (runs : ℕ → Option (List ℕ)) (size n : ℕ) (k l : Counted) → TellsRuns runs size n k → TellsRuns runs size n l → AreOneCount k l
one-count runs size n k l p q =
    let ended : k.ended ≡ l.ended = p.ended ∙ sym q.ended in
    let all = p.all in
    let all_too = q.all in (
      ended,
      omega arith,
      elim (none-or-some k.ended) [
        | inl none ↦ inl none
        | inr some ↦ inr (one-list k.spreads l.spreads (p.size some ∙ sym (q.size (subst (λ (m : ℕ). 0 < m) ended some)))
            (λ place a b there too. one-number _ n a b (p.numbers place a there) (q.numbers place b too)))
      ],
    )

module _ (t : Litmus) (kind : ProtocolKind) (c : Configuration) (plan : Option Plan) where
  abbrev with_numbers : ℕ → ℕ → List Spread → Counted
  with_numbers ended unfinished spreads = record { ended = ended; unfinished = unfinished; spreads = spreads }

  -- where no run ended the numbers aren't told
  untold : (json : Bool) (unfinished : ℕ) (ss ts : List Spread)
      → told_counts json t kind c plan (with_numbers 0 unfinished ss) ≡ told_counts json t kind c plan (with_numbers 0 unfinished ts)
  untold false unfinished ss ts = refl
  untold true unfinished ss ts = no-numbers t kind c plan unfinished ss ts

  same-text : (json : Bool) (k l : Counted) → AreOneCount k l → told_counts json t kind c plan k ≡ told_counts json t kind c plan l
  same-text json k l is = elim is.2 [
    | inl none ↦ ap (λ (n : ℕ). told_counts json t kind c plan (with_numbers n k.unfinished k.spreads)) none
        ∙ untold json k.unfinished k.spreads l.spreads
        ∙ ap (λ (n : ℕ). told_counts json t kind c plan (with_numbers n k.unfinished l.spreads)) (sym none ∙ is.0)
        ∙ ap (λ (n : ℕ). told_counts json t kind c plan (with_numbers l.ended n l.spreads)) is.1
    | inr same ↦ ap (λ (n : ℕ). told_counts json t kind c plan (with_numbers n k.unfinished k.spreads)) is.0
        ∙ ap (λ (n : ℕ). told_counts json t kind c plan (with_numbers l.ended n k.spreads)) is.1
        ∙ ap (λ (ss : List Spread). told_counts json t kind c plan (with_numbers l.ended l.unfinished ss)) same
  ]

  one-text : (json : Bool) (choices_in : ℕ → List Choice) (runs : ℕ) (out other : List ℕ) → PrintsCounts t kind c plan json choices_in runs out
      → PrintsCounts t kind c plan json choices_in runs other → out ≡ other
  one-text json choices_in runs out other p q =
      p.printed ∙ same-text json p.counted q.counted (one-count _ _ runs p.counted q.counted p.tells q.tells) ∙ sym q.printed

pub one-counts-text : (t : Litmus) (kind : ProtocolKind) (c : Configuration) (plan : Option Plan) (json : Bool)
    (text out other : List ℕ)
    → IsDecidedAsChoices (length t.programs) text
    → HeadlineOfCounts t kind c plan json text out → HeadlineOfCounts t kind c plan json text other → out ≡ other
one-counts-text t kind c (Some plan) json text out other decided p q =
    one-text t kind c (Some plan) json (λ i. choices_of t plan.length (plan.from + i)) plan.seeds out other p q
one-counts-text t kind c None json text out other decided p q = by_text decided.always
  where
    by_text : ((choices : List Choice) × SpellsChoices (length t.programs) text choices)
        ⊎ ((fault : ChoiceFault) × IsRefusedAsChoices (length t.programs) text fault)
        → out ≡ other
    by_text (inl spells) = one-text t kind c None json (λ i. spells.0) 1 out other (p.every_list spells.0 spells.1) (q.every_list spells.0 spells.1)
    by_text (inr faulty) =
        let none : (choices : List Choice) → ¬ (SpellsChoices (length t.programs) text choices) =
        λ choices spelled. decided.never_both choices faulty.0 spelled faulty.1 in
        let first = p.every_other none in
        let second = q.every_other none in
        first.2 ∙ ap choices_refusal (decided.one_refusal first.0 second.0 first.1 second.1) ∙ sym second.2
