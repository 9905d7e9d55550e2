use Rattle.explorer.proofs.Vocabulary.{◌∷◌, [], ◌++◌, take_more, map-append, take, map, ◌+◌, ◌∙◌, subst, sym, ap, core_of_processor, Packs}
use Rattle.explorer.proofs.Vocabulary.{core_bytes, all_bytes, number_bytes, list_bytes, entry_bytes, read_core, read_all, read_word}
use Rattle.explorer.proofs.Vocabulary.{read_list, read_entry, read_registers, length, ◌≡◌, rules}
use Rattle.explorer.proofs.ReadBack.{packs-core, packs-more, packs-none, cores-packed}
use Rattle.explorer.proofs.packing.push_cores.Goals as goal

pub loop-core-preserved : goal.loop-core-preserved
unfolding read_registers
loop-core-preserved c =
    let six : length c.core-item.result.registers ≡ 6 = search rules in
    subst (λ z. Packs (all_bytes core_bytes) (read_all read_core (c.loop-core.core-index + 1)) z c.push_number.new.bytes.items c.push_pending.new.bytes.items)
    (sym (ap (map core_of_processor) (take_more c.args.cores.now c.loop-core.core-index c.core-item.result c.loop-core-test.true)
    ∙ map-append core_of_processor (take c.loop-core.core-index c.args.cores.now) _
    ∙ ap (λ z. map core_of_processor (take c.loop-core.core-index c.args.cores.now) ++ core_of_processor z ∷ []) (sym c.core-item.is)))
    (packs-more core_bytes read_core c.loop-core.core-index _ _ _ _ _ c.loop-core.invariant
    (packs-core (core_of_processor c.core-item.result) _ _ _ _ c.in_ok-push.ensures.items
    (subst (λ n.
    Packs (all_bytes number_bytes) (read_all read_word n) c.core-item.result.registers c.push.new.self.items c.push_words.new.bytes.items)
    six c.in_ok-push_words.ensures)
    (subst (λ z.
    Packs (list_bytes entry_bytes) (read_list read_entry) z c.push_words.new.bytes.items c.push_pending.new.bytes.items)
    c.deref.ensures.value c.in_ok-push_pending.ensures)))

pub loop-core-init : goal.loop-core-init
loop-core-init c = packs-none core_bytes read_core c.push_number.new.bytes.items

pub returns : goal.returns
returns c =
    cores-packed c.args.cores.now c.loop-core.core-index _ _ _ c.loop-core-test.false c.loop-core.auto.core-index-end
    c.in_ok-push_number.ensures c.loop-core.invariant
