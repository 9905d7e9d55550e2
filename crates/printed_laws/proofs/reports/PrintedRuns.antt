-- What is printed of runs tells them apart.
use Rattle.printed_laws.proofs.Vocabulary.{◌≡◌, ℕ, ◌+◌, ◌≤◌, Bool, true, false, cond, List, length, get_or, refl, sym, ap, ◌∙◌, arith}
use Rattle.printed_laws.proofs.Vocabulary.{escape_byte, Litmus, IsTest, Run, ProtocolKind, Configuration, IsConfigurationWithinLimits}
use Rattle.printed_laws.proofs.Vocabulary.{ShownRun, RunFitsTest, shown_under, EndedRunsFit, ChoicesAreCounted, report_in, unfinished_in}
use Rattle.printed_laws.proofs.Vocabulary.{run_under, PrintedRunsAreTold, ReportsTellTheirRuns, UnfinishedRunsAreTold}

-- ---- a report is no text of a run that didn't end

no-report : (json : Bool) (t : Litmus) (kind : ProtocolKind) (c : Configuration) (s : ShownRun) (used stalled : ℕ)
    → report_in json t kind c s ≡ unfinished_in json used stalled
    → ⊥
unfolding escape_byte
no-report false t kind c s used stalled same = let first : 84 ≡ 85 = ap (λ (l : List ℕ). get_or l 0 0) same in absurd (omega (arith, first))
no-report true t kind c s used stalled same = let third : 99 ≡ 117 = ap (λ (l : List ℕ). get_or l 2 0) same in absurd (omega (arith, third))

clash : (b : Bool) → b ≡ true → b ≡ false → ⊥
clash b is isnt = cc

-- ---- runs

-- of so many choices each was used or is left over, and no more stalled than were used
abbrev AreFew : ℕ → Run → Type 0
AreFew n r = (r.used + r.unused ≡ n) × (r.stalled ≤ r.used)

-- what two runs leave, where each ended or not
record AreAlike (r o : Run) (s u : ShownRun) : Type 0 where
  ended : r.ended ≡ o.ended
  shown : r.ended ≡ true → s ≡ u
  used : r.ended ≡ false → r.used ≡ o.used
  stalled : r.ended ≡ false → r.stalled ≡ o.stalled

alike : (t : Litmus) (kind : ProtocolKind) (c : Configuration) (json : Bool) (r o : Run) (s u : ShownRun) (m n : ℕ)
    → ((json : Bool) → ReportsTellTheirRuns json) → ((json : Bool) → UnfinishedRunsAreTold json) → IsTest t → IsConfigurationWithinLimits c
    → (r.ended ≡ true → RunFitsTest t s) → (o.ended ≡ true → RunFitsTest t u) → AreFew m r → AreFew n o → m ≤ 100000 → n ≤ 100000
    → (b d : Bool) → r.ended ≡ b
    → o.ended ≡ d
    → cond b (report_in json t kind c s) (unfinished_in json r.used r.stalled)
    ≡ cond d (report_in json t kind c u) (unfinished_in json o.used o.stalled)
    → AreAlike r o s u
alike t kind c json r o s u m n reports lines test within p q few few' small small' true true e d same = record {
  ended = e ∙ sym d;
  shown = λ is. reports json t kind c s u test within (p e) (q d) same;
  used = λ isnt. absurd (clash r.ended e isnt);
  stalled = λ isnt. absurd (clash r.ended e isnt);
}
alike t kind c json r o s u m n reports lines test within p q few few' small small' true false e d same =
    absurd (no-report json t kind c s o.used o.stalled same)
alike t kind c json r o s u m n reports lines test within p q few few' small small' false true e d same =
    absurd (no-report json t kind c u r.used r.stalled (sym same))
alike t kind c json r o s u m n reports lines test within p q few few' small small' false false e d same =
    let all = few.0 in
    let all' = few'.0 in
    let stalls = few.1 in
    let stalls' = few'.1 in
    let told =
    lines json r.used r.stalled o.used o.stalled (omega (arith, all, small)) (omega (arith, all, small, stalls))
    (omega (arith, all', small')) (omega (arith, all', small', stalls')) same in
    record {
      ended = e ∙ sym d;
      shown = λ is. absurd (clash r.ended is e);
      used = λ isnt. told.0;
      stalled = λ isnt. told.1;
    }

pub runs-told : ((json : Bool) → ReportsTellTheirRuns json)
    → ((json : Bool) → UnfinishedRunsAreTold json)
    → EndedRunsFit
    → ChoicesAreCounted
    → PrintedRunsAreTold
runs-told reports lines fits counted t kind c json choices other test within few few' fit fit' same =
    let r = run_under t kind c choices in
    let o = run_under t kind c other in
    let a = alike t kind c json r o (shown_under t kind c choices) (shown_under t kind c other) (length choices) (length other) reports lines test within
    (fits t kind c choices test few fit) (fits t kind c other test few' fit') (counted t kind c choices)
    (counted t kind c other) few few' r.ended o.ended refl refl same in
    record { ended = a.ended; shown = a.shown; used = a.used; stalled = a.stalled }
