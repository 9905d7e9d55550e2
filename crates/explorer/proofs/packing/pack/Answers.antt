use Rattle.explorer.proofs.Vocabulary.{length, ◌∙◌, map, subst, on-ok, core_of_processor, state_of_snapshot, Packs, number_bytes}
use Rattle.explorer.proofs.Vocabulary.{core_bytes, list_bytes, all_bytes, read_all, read_number, read_word, read_core, read_list}
use Rattle.explorer.proofs.ReadBack.{packs-state, packs-list}
use Rattle.explorer.proofs.packing.pack.Goals as goal

pub returns-clause-bytes : goal.returns-clause-bytes
returns-clause-bytes c =
    on-ok c.push_cores.result (λ h.
    (packs-state (state_of_snapshot c.args.state.now) _ _ _ c.clear.ensures.items
    (packs-list number_bytes read_word c.args.state.now.memory.items _ _ _
    (subst (λ z. Packs number_bytes read_number z c.clear.new.self.items c.push_number.new.bytes.items)
    (c.len.ensures ∙ c.args.state.now.memory.ok.0) c.in_ok-push_number.ensures)
    (subst (λ z.
    Packs (all_bytes number_bytes) (read_all read_word (length z)) z c.push_number.new.bytes.items c.push_words.new.bytes.items)
    c.deref.ensures.value c.in_ok-push_words.ensures))
    (subst (λ z.
    Packs (list_bytes core_bytes) (read_list read_core) (map core_of_processor z) c.push_words.new.bytes.items c.push_cores.new.bytes.items)
    c.deref-2.ensures.value h)).0)
    c.push_cores.ensures

pub returns-clause-state : goal.returns-clause-state
returns-clause-state c =
    on-ok c.push_cores.result (λ h.
    (packs-state (state_of_snapshot c.args.state.now) _ _ _ c.clear.ensures.items
    (packs-list number_bytes read_word c.args.state.now.memory.items _ _ _
    (subst (λ z. Packs number_bytes read_number z c.clear.new.self.items c.push_number.new.bytes.items)
    (c.len.ensures ∙ c.args.state.now.memory.ok.0) c.in_ok-push_number.ensures)
    (subst (λ z.
    Packs (all_bytes number_bytes) (read_all read_word (length z)) z c.push_number.new.bytes.items c.push_words.new.bytes.items)
    c.deref.ensures.value c.in_ok-push_words.ensures))
    (subst (λ z.
    Packs (list_bytes core_bytes) (read_list read_core) (map core_of_processor z) c.push_words.new.bytes.items c.push_cores.new.bytes.items)
    c.deref-2.ensures.value h)).1)
    c.push_cores.ensures
