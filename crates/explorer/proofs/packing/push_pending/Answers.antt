use Rattle.explorer.proofs.Vocabulary.{take_more, ◌+◌, subst, sym, Packs, entry_bytes, all_bytes, read_entry, read_all}
use Rattle.explorer.proofs.ReadBack.{packs-next-entry, packs-none, packs-list, all-packed}
use Rattle.explorer.proofs.packing.push_pending.Goals as goal

pub loop-entry-preserved : goal.loop-entry-preserved
loop-entry-preserved c =
    packs-next-entry c.args.pending.now c.loop-entry.entry-index _ c.byte_of_kind-kind.result _ _ _ _
    c.loop-entry-test.true c.loop-entry.invariant c.byte_of_kind-kind.ensures c.in_ok-extend_from_slice.ensures.items
    c.in_ok-push_word.ensures

pub loop-entry-init : goal.loop-entry-init
loop-entry-init c = packs-none entry_bytes read_entry c.push_number.new.bytes.items

pub returns : goal.returns
returns c =
    packs-list entry_bytes read_entry c.args.pending.now _ _ _ c.in_ok-push_number.ensures
    (all-packed entry_bytes read_entry c.args.pending.now c.loop-entry.entry-index _ _ c.loop-entry-test.false
    c.loop-entry.auto.entry-index-end c.loop-entry.invariant)
