use Rattle.search_report.proofs.Vocabulary.{◌≡◌, ◌∙◌, false, Some, slice_get, slice_index_or, length, inl, inr, ap, sym, subst, refl, arith}
use Rattle.search_report.proofs.Vocabulary.{index_of, none_hidden, names_shown, IsHidden, IsNotHidden}
use Rattle.search_report.proofs.Hiding.{core-known, whole, get-or, get-within, lt-or, not-shown}
use Rattle.search_report.proofs.Staying.{six-hidden, got, unnamed}
use Rattle.search_report.proofs.hidden.hidden_registers.Goals as goal

pub reveal-requires : goal.reveal-requires
reveal-requires c = λ core reg is.
    let k = core-known _ _ _ _ c.loop-named.named-index _ core reg c.in_ok-names.ensures.known c.deref-named-items.ensures.value c.loop-named-test.true is in
    let a = ap length c.deref_mut.ensures.value in
    let b = c.loop-named.invariant.count in
    omega (arith, k, a, b)

pub loop-named-init : goal.loop-named-init
loop-named-init c =
    let n = c.from.ensures ∙ c.cores.ensures.value in
    record {
      count = let a = c.in_ok-resize.ensures.len in let b = c.resize.new.self.ok.0 in omega (arith, n, a, b);
      shown = λ j n l. absurd (let z : ⊥ = omega (arith, l) in z);
      unnamed = λ core reg l none.
          ap (λ row. slice_index_or row (index_of reg) false) (c.in_ok-resize.ensures.by_index.1 core none_hidden refl (omega arith) (omega (arith, n, l)))
          ∙ six-hidden reg;
    }

pub loop-named-preserved : goal.loop-named-preserved
loop-named-preserved c =
    let count = c.reveal.ensures.count ∙ ap length c.deref_mut.ensures.value in
    let same = whole c.reveal.new.hidden c.loop-named.hidden.items c.loop-named.hidden.len count c.loop-named.hidden.ok.0 in
    record {
      count = ap length same ∙ count ∙ c.loop-named.invariant.count;
      shown = λ j n l at. subst (λ z. IsNotHidden z n) (sym same) (elim (lt-or c.loop-named.named-index j) [
        | inl m ↦ c.reveal.ensures.others n (subst (λ z. IsNotHidden z n) (sym c.deref_mut.ensures.value) (c.loop-named.invariant.shown j n m at))
        | inr m ↦
            let q : j ≡ c.loop-named.named-index = omega (arith, l, m) in
            subst (IsNotHidden c.reveal.new.hidden)
            (get-or c.deref-named-items.result.now c.loop-named.named-index _ n
            (subst (λ z. slice_get c.deref-named-items.result.now z ≡ Some n) q at))
            c.reveal.ensures.shown
      ]);
      unnamed = λ core reg l none.
          subst (λ z. IsHidden z core reg) (sym same)
          (c.reveal.ensures.hidden (record { 0 = core }) reg
          (λ is. none c.loop-named.named-index _ (got _ c.loop-named.named-index _ c.loop-named-test.true) is)
          (subst (λ z. IsHidden z core reg) (sym c.deref_mut.ensures.value) (c.loop-named.invariant.unnamed core reg l none)));
    }

pub returns-clause-not_shown : goal.returns-clause-not_shown
returns-clause-not_shown c =
    not-shown (names_shown c.args.show c.args.test.now) c.loop-named.hidden.items c.in_ok-names.names.items c.in_ok-names.ensures.list (λ j n at.
    let l = get-within c.in_ok-names.names.items j n at in
    let m = c.loop-named-test.false in
    let a = ap length c.deref-named-items.ensures.value in
    c.loop-named.invariant.shown j n (omega (arith, l, m, a)) (subst (λ z. slice_get z j ≡ Some n) (sym c.deref-named-items.ensures.value) at))

pub returns-clause-all : goal.returns-clause-all
returns-clause-all c = λ core reg l not_shown.
    c.loop-named.invariant.unnamed core reg l
    (unnamed c.args.show c.args.test.now _ core reg (c.deref-named-items.ensures.value ∙ c.in_ok-names.ensures.list) not_shown)
