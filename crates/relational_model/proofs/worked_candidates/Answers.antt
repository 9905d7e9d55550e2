use Rattle.relational_model.proofs.Vocabulary.{◌≡◌, ℕ, zero, suc, true, false, [], refl, sym, ◌∙◌, filter, writes_to, sb, sb_order, n6}
use Rattle.relational_model.proofs.Vocabulary.{n6_order, IsCandidateOf, sb_candidate, n6_candidate, independent}
use Rattle.relational_model.proofs.Allowed.{Whole, is-allowed}
use Rattle.relational_model.proofs.Found.{has-candidate}
use Rattle.relational_model.proofs.Left.{leave-the-same}
use Rattle.relational_model.proofs.Independent.{no-opposite-registers}
use Rattle.relational_model.proofs.Forbidden.{fenced-is-forbidden, exchanged-is-forbidden, passing-is-forbidden, buffering-is-forbidden}
use Rattle.relational_model.proofs.Forbidden.{independent-is-forbidden, between-is-forbidden}
use Rattle.relational_model.proofs.Unseen.{unseen-is-forbidden, unseen-by-uniproc}
use Rattle.relational_model.proofs.Worked.{sources-from, filter-none, not-first, not-second}
use Rattle.relational_model.proofs.worked_candidates.Goals as goal

no-read : {A : Type 0} → false ≡ true → A
no-read h = let z : ⊥ = cc in absurd z

sb-is-of : IsCandidateOf sb sb_order sb_candidate
sb-is-of = record {
  events = refl;
  sources =
      λ front r back is read. sources-from sb_candidate [] sb_order front r back
      ((λ h. refl), ((λ h. refl), ((λ h. no-read h), ((λ h. no-read h), tt)))) is read;
  coherence = λ loc. coherence loc;
}
  where
    coherence : (loc : ℕ) → sb_candidate.coherence loc ≡ filter (writes_to loc) sb_order
    coherence zero = refl
    coherence (suc zero) = refl
    coherence (suc (suc n)) = sym (filter-none (writes_to (suc (suc n))) sb_order (refl, (refl, (not-first n, (not-second n, tt)))))

n6-is-of : IsCandidateOf n6 n6_order n6_candidate
n6-is-of = record {
  events = refl;
  sources =
      λ front r back is read. sources-from n6_candidate [] n6_order front r back
      ((λ h. refl), ((λ h. refl), ((λ h. no-read h), ((λ h. no-read h), ((λ h. no-read h), tt))))) is read;
  coherence = λ loc. coherence loc;
}
  where
    coherence : (loc : ℕ) → n6_candidate.coherence loc ≡ filter (writes_to loc) n6_order
    coherence zero = refl
    coherence (suc zero) = refl
    coherence (suc (suc n)) =
        sym (filter-none (writes_to (suc (suc n))) n6_order (refl, (refl, (not-second n, (not-first n, (not-first n, tt))))))

pub returns-clause-sb_is_of_its_order : goal.returns-clause-sb_is_of_its_order
returns-clause-sb_is_of_its_order c = sb-is-of

pub returns-clause-sb_is_allowed : goal.returns-clause-sb_is_allowed
returns-clause-sb_is_allowed c =
    let k = c.whole_orders_have_each_entry_once.ensures in
    let tso = c.worked_orders.ensures.sb_is_allowed in
    is-allowed sb sb_order sb_candidate
    (record {
      made = λ e i. k.made_by_the_programs sb sb_order e tso.whole i;
      once = λ i j e p q. k.once sb sb_order i j e tso.whole p q;
    }) tso sb-is-of

pub returns-clause-n6_is_of_its_order : goal.returns-clause-n6_is_of_its_order
returns-clause-n6_is_of_its_order c = n6-is-of

pub returns-clause-n6_is_allowed : goal.returns-clause-n6_is_allowed
returns-clause-n6_is_allowed c =
    let k = c.whole_orders_have_each_entry_once.ensures in
    let tso = c.worked_orders.ensures.n6_is_allowed in
    is-allowed n6 n6_order n6_candidate
    (record {
      made = λ e i. k.made_by_the_programs n6 n6_order e tso.whole i;
      once = λ i j e p q. k.once n6 n6_order i j e tso.whole p q;
    }) tso n6-is-of

pub returns-clause-fenced_is_forbidden : goal.returns-clause-fenced_is_forbidden
returns-clause-fenced_is_forbidden c = fenced-is-forbidden

pub returns-clause-exchanged_is_forbidden : goal.returns-clause-exchanged_is_forbidden
returns-clause-exchanged_is_forbidden c = exchanged-is-forbidden

pub returns-clause-passing_is_forbidden : goal.returns-clause-passing_is_forbidden
returns-clause-passing_is_forbidden c = passing-is-forbidden

pub returns-clause-buffering_is_forbidden : goal.returns-clause-buffering_is_forbidden
returns-clause-buffering_is_forbidden c = buffering-is-forbidden

pub returns-clause-independent_is_forbidden : goal.returns-clause-independent_is_forbidden
returns-clause-independent_is_forbidden c = independent-is-forbidden

pub returns-clause-between_is_forbidden : goal.returns-clause-between_is_forbidden
returns-clause-between_is_forbidden c = between-is-forbidden

pub returns-clause-unseen_is_forbidden : goal.returns-clause-unseen_is_forbidden
returns-clause-unseen_is_forbidden c = unseen-is-forbidden

pub returns-clause-unseen_is_forbidden_by_uniproc : goal.returns-clause-unseen_is_forbidden_by_uniproc
returns-clause-unseen_is_forbidden_by_uniproc c = unseen-by-uniproc

pub returns-clause-independent_is_no_execution : goal.returns-clause-independent_is_no_execution
returns-clause-independent_is_no_execution c = λ order tso h.
    let k = c.whole_orders_have_each_entry_once.ensures in
    let whole : Whole independent order =
    record {
      made = λ e i. k.made_by_the_programs independent order e tso.whole i;
      once = λ i j e p q. k.once independent order i j e tso.whole p q;
    } in
    let d = has-candidate independent order whole in
    no-opposite-registers d.0 (is-allowed independent order d.0 whole tso d.1) ((leave-the-same independent order d.0 d.1).registers ∙ h)
