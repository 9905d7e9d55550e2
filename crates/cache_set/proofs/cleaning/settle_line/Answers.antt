use Rattle.cache_set.proofs.Vocabulary.{◌≡◌, true, false, Some, None, refl, sym, ap, ◌∙◌, S, copy_with, copy_in, line_in, is_dirty, words_if_dirty}
use Rattle.cache_set.proofs.SettleSteps.{changed, unchanged, written}
use Rattle.cache_set.proofs.SettleTags.{clean_dirty, clean_same, line_absent, line_clean, line_dirty}
use Rattle.cache_set.proofs.cleaning.settle_line.Goals as goal

pub returns : goal.returns
returns g c =
    let copy = c.in-Some.copy in
    let line = c.args.line in
    let found : copy_in c.args.cache.now line ≡ Some copy = sym c.look.ensures.found ∙ sym c.in-Some.ensures in
    let dirty : is_dirty copy.state ≡ true =
    sym (g.met.P.Protocol.writes_back_dirty c.args.protocol.now copy.state)
    ∙ sym c.evicts_dirty.ensures
    ∙ c.if-not-evicts_dirty.false in
    let cleans = clean_dirty copy.state dirty in
    record {
      tags = line_dirty c.args.cache.now c.set_state.new.self line copy S c.look.ensures.home c.look.ensures.valid found cleans c.set_state.ensures.exact;
      copies = λ k. c.set_state.ensures.copies k ∙ changed line k _ _ _ (λ is. rw (is, found) (ap (λ s. Some (copy_with s copy.words)) cleans));
      memory = λ k.
          rw c.from.ensures (written c.args.memory.now line k copy.words
          (words_if_dirty (copy_in c.args.cache.now k) (line_in c.args.memory.now k)) c.requires
          (λ is. rw (is, found, dirty) refl));
      ways = c.set_state.ensures.ways;
    }

pub returns-then-not-evicts_dirty : goal.returns-then-not-evicts_dirty
returns-then-not-evicts_dirty g c =
    let copy = c.in-Some.copy in
    let line = c.args.line in
    let found : copy_in c.args.cache.now line ≡ Some copy = sym c.look.ensures.found ∙ sym c.in-Some.ensures in
    let fresh : is_dirty copy.state ≡ false =
    sym (g.met.P.Protocol.writes_back_dirty c.args.protocol.now copy.state)
    ∙ sym c.evicts_dirty.ensures
    ∙ c.if-not-evicts_dirty.true in
    let stays = clean_same copy.state fresh in
    record {
      tags = line_clean c.args.cache.now line copy c.look.ensures.home c.look.ensures.valid found stays;
      copies = λ k. unchanged line k _ _ (λ is. rw (is, found) (ap (λ s. Some (copy_with s copy.words)) (sym stays)));
      memory = λ k. unchanged line k _ _ (λ is. rw (is, found, fresh) refl);
      ways = refl;
    }

pub returns-in_default : goal.returns-in_default
returns-in_default g c =
    let absent : copy_in c.args.cache.now c.args.line ≡ None = sym c.look.ensures.found ∙ sym c.in_default.ensures in
    record {
      tags = line_absent c.args.cache.now c.args.line c.look.ensures.home absent;
      copies = λ k. unchanged c.args.line k _ _ (λ is. rw (is, absent) refl);
      memory = λ k. unchanged c.args.line k _ _ (λ is. rw (is, absent) refl);
      ways = refl;
    }
