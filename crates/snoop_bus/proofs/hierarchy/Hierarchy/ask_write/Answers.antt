use Rattle.snoop_bus.proofs.Vocabulary.{supplier_in, moved_in, ◌≡◌, Some, None, [], sym, ap, refl, ◌∙◌, get_or_default, transient_of, GetM}
use Rattle.snoop_bus.proofs.Vocabulary.{Sets, Transaction, line_in, asked_for, state_of_copy, copy_in, copy_at, tags_of, current_words}
use Rattle.snoop_bus.proofs.Vocabulary.{option_copied}
use Rattle.snoop_bus.proofs.AcquireCalls.{own_found, own_absent}
use Rattle.snoop_bus.proofs.AskLemmas.{write_ask-transaction, write_ask-words}
use Rattle.snoop_bus.proofs.LoadLemmas.{found_words}
use Rattle.snoop_bus.proofs.UpgradeAsk.{asked_by-copy, write_ask-awaits, unasked-placed}
use Rattle.snoop_bus.proofs.hierarchy.Hierarchy.ask_write.Goals as goal
use Rattle.snoop_bus.proofs.hierarchy.Hierarchy.ask_write.Goals.{in-None, in-Some}

pub returns-clause-transaction : goal.returns-clause-transaction
returns-clause-transaction g c =
    let own = copy_at c.args.self.now.caches.items c.args.core c.args.line in
    let state_is : c.match-copied.state ≡ state_of_copy own =
    elim c.match-copied.branch [
      | in-None w ↦
          w.state-is
          ∙ sym (ap state_of_copy (own_absent c.args.self.now.caches.items c.args.core c.args.line c.index.result.now
          (option_copied c.look.result) c.requires.ready.core_in c.index.ensures c.look.ensures.found
          (sym w.in-None.is ∙ c.copied.ensures)))
      | in-Some w ↦
          w.state-is
          ∙ sym (ap state_of_copy (own_found c.args.self.now.caches.items c.args.core c.args.line c.index.result.now
          (option_copied c.look.result) c.requires.ready.core_in c.index.ensures c.look.ensures.found w.in-Some.copy
          (sym w.in-Some.is ∙ c.copied.ensures)))
    ] in
    let asked : asked_for GetM c.args.core c.args.line (tags_of c.args.self.now.caches.items) ≡ Some c.in_ok-transient.transient =
    asked_by-copy c.args.self.now.caches.items c.args.core c.args.line
    ∙ ap (λ s. transient_of s GetM) (sym state_is)
    ∙ sym c.transient.ensures
    ∙ c.in_ok-transient.was in
    let t = g.P.Protocol.table c.args.protocol.now in
    let p = c.args.protocol.now in
    let line =
    (rw c.from.ensures at c.index-2.ensures)
    ∙ get_or_default c.args.self.now.memory.items c.args.line c.index-2.result.now [] c.requires.ready.line_in in
    let words : c.unwrap_or-words.result ≡ current_words c.args.self.now.caches.items c.args.self.now.memory.items c.args.line =
    found_words t.on_get_m (g.met.P.Protocol.supplies_to_writers p) c.args.self.now.caches.items c.args.line
    (line_in c.args.self.now.memory.items c.args.line) c.unwrap_or-words.result
    (current_words c.args.self.now.caches.items c.args.self.now.memory.items c.args.line)
    (rw (c.unwrap_or-words.ensures, line)
    (rw c.deref.ensures.value at (c.find-found.ensures.words (line_in c.args.self.now.memory.items c.args.line))))
    (c.requires.ready.coherent.each c.args.line c.requires.ready.line_in) in
    ap (λ (x : Transaction). Some x)
    (write_ask-transaction t (g.met.P.Protocol.gives_up p) c.args.self.now.caches.items
    c.snoop_others.new.self.caches.items c.args.self.now.memory.items c.args.core c.args.line
    c.unwrap_or-words.result
    (record {
      coherent = c.requires.ready.coherent;
      core_in = c.requires.ready.core_in;
      some_set = c.requires.some_set;
      within = c.requires.ready.line_in;
      words = words;
      left = c.snoop_others.ensures.copies;
      ways = c.snoop_others.ensures.ways;
    }) c.in_ok-transient.transient c.moved_in-supplier.result c.find-found.result.states
    (c.moved_in-supplier.ensures
    ∙ ap (moved_in c.in_ok-transient.transient)
    (c.supplier_in.ensures ∙ ap supplier_in (rw c.deref.ensures.value at c.find-found.ensures.supplier)))
    (rw c.deref.ensures.value at c.find-found.ensures.told))
    ∙ rw asked refl

pub returns-clause-tags : goal.returns-clause-tags
returns-clause-tags g c =
    let own = copy_at c.args.self.now.caches.items c.args.core c.args.line in
    let state_is : c.match-copied.state ≡ state_of_copy own =
    elim c.match-copied.branch [
      | in-None w ↦
          w.state-is
          ∙ sym (ap state_of_copy (own_absent c.args.self.now.caches.items c.args.core c.args.line c.index.result.now
          (option_copied c.look.result) c.requires.ready.core_in c.index.ensures c.look.ensures.found
          (sym w.in-None.is ∙ c.copied.ensures)))
      | in-Some w ↦
          w.state-is
          ∙ sym (ap state_of_copy (own_found c.args.self.now.caches.items c.args.core c.args.line c.index.result.now
          (option_copied c.look.result) c.requires.ready.core_in c.index.ensures c.look.ensures.found w.in-Some.copy
          (sym w.in-Some.is ∙ c.copied.ensures)))
    ] in
    let asked : asked_for GetM c.args.core c.args.line (tags_of c.args.self.now.caches.items) ≡ Some c.in_ok-transient.transient =
    asked_by-copy c.args.self.now.caches.items c.args.core c.args.line
    ∙ ap (λ s. transient_of s GetM) (sym state_is)
    ∙ sym c.transient.ensures
    ∙ c.in_ok-transient.was in
    rw asked c.snoop_others.ensures.tags

pub returns-clause-awaits : goal.returns-clause-awaits
returns-clause-awaits g c =
    let own = copy_at c.args.self.now.caches.items c.args.core c.args.line in
    let state_is : c.match-copied.state ≡ state_of_copy own =
    elim c.match-copied.branch [
      | in-None w ↦
          w.state-is
          ∙ sym (ap state_of_copy (own_absent c.args.self.now.caches.items c.args.core c.args.line c.index.result.now
          (option_copied c.look.result) c.requires.ready.core_in c.index.ensures c.look.ensures.found
          (sym w.in-None.is ∙ c.copied.ensures)))
      | in-Some w ↦
          w.state-is
          ∙ sym (ap state_of_copy (own_found c.args.self.now.caches.items c.args.core c.args.line c.index.result.now
          (option_copied c.look.result) c.requires.ready.core_in c.index.ensures c.look.ensures.found w.in-Some.copy
          (sym w.in-Some.is ∙ c.copied.ensures)))
    ] in
    let asked : asked_for GetM c.args.core c.args.line (tags_of c.args.self.now.caches.items) ≡ Some c.in_ok-transient.transient =
    asked_by-copy c.args.self.now.caches.items c.args.core c.args.line
    ∙ ap (λ s. transient_of s GetM) (sym state_is)
    ∙ sym c.transient.ensures
    ∙ c.in_ok-transient.was in
    let t = g.P.Protocol.table c.args.protocol.now in
    let p = c.args.protocol.now in
    let line =
    (rw c.from.ensures at c.index-2.ensures)
    ∙ get_or_default c.args.self.now.memory.items c.args.line c.index-2.result.now [] c.requires.ready.line_in in
    let words : c.unwrap_or-words.result ≡ current_words c.args.self.now.caches.items c.args.self.now.memory.items c.args.line =
    found_words t.on_get_m (g.met.P.Protocol.supplies_to_writers p) c.args.self.now.caches.items c.args.line
    (line_in c.args.self.now.memory.items c.args.line) c.unwrap_or-words.result
    (current_words c.args.self.now.caches.items c.args.self.now.memory.items c.args.line)
    (rw (c.unwrap_or-words.ensures, line)
    (rw c.deref.ensures.value at (c.find-found.ensures.words (line_in c.args.self.now.memory.items c.args.line))))
    (c.requires.ready.coherent.each c.args.line c.requires.ready.line_in) in
    let here = c.index.ensures ∙ get_or_default c.args.self.now.caches.items c.args.core c.index.result.now [] c.requires.ready.core_in in
    rw (ap (λ (sets : Sets). copy_in sets c.args.line) c.snoop_others.ensures.own)
    (write_ask-awaits own c.in_ok-transient.transient c.unwrap_or-words.result
    (record {
      request = GetM;
      line = c.args.line;
      supplier = c.moved_in-supplier.result;
      flushed = None;
      states = c.find-found.result.states;
    })
    (ap (λ s. transient_of s GetM) (sym state_is) ∙ sym c.transient.ensures ∙ c.in_ok-transient.was)
    (rw here at c.look.ensures.not_invalid)
    (λ copy is. (c.requires.ready.coherent.each c.args.line c.requires.ready.line_in).same c.args.core copy is ∙ sym words))

pub returns-clause-words : goal.returns-clause-words
returns-clause-words g c =
    let t = g.P.Protocol.table c.args.protocol.now in
    let p = c.args.protocol.now in
    let line =
    (rw c.from.ensures at c.index-2.ensures)
    ∙ get_or_default c.args.self.now.memory.items c.args.line c.index-2.result.now [] c.requires.ready.line_in in
    let words : c.unwrap_or-words.result ≡ current_words c.args.self.now.caches.items c.args.self.now.memory.items c.args.line =
    found_words t.on_get_m (g.met.P.Protocol.supplies_to_writers p) c.args.self.now.caches.items c.args.line
    (line_in c.args.self.now.memory.items c.args.line) c.unwrap_or-words.result
    (current_words c.args.self.now.caches.items c.args.self.now.memory.items c.args.line)
    (rw (c.unwrap_or-words.ensures, line)
    (rw c.deref.ensures.value at (c.find-found.ensures.words (line_in c.args.self.now.memory.items c.args.line))))
    (c.requires.ready.coherent.each c.args.line c.requires.ready.line_in) in
    write_ask-words t (g.met.P.Protocol.gives_up p) c.args.self.now.caches.items c.snoop_others.new.self.caches.items
    c.args.self.now.memory.items c.args.core c.args.line c.unwrap_or-words.result
    (record {
      coherent = c.requires.ready.coherent;
      core_in = c.requires.ready.core_in;
      some_set = c.requires.some_set;
      within = c.requires.ready.line_in;
      words = words;
      left = c.snoop_others.ensures.copies;
      ways = c.snoop_others.ensures.ways;
    })

pub returns-in_err-transient-clause-transaction : goal.returns-in_err-transient-clause-transaction
returns-in_err-transient-clause-transaction g c =
    let own = copy_at c.args.self.now.caches.items c.args.core c.args.line in
    let state_is : c.match-copied.state ≡ state_of_copy own =
    elim c.match-copied.branch [
      | in-None w ↦
          w.state-is
          ∙ sym (ap state_of_copy (own_absent c.args.self.now.caches.items c.args.core c.args.line c.index.result.now
          (option_copied c.look.result) c.requires.ready.core_in c.index.ensures c.look.ensures.found
          (sym w.in-None.is ∙ c.copied.ensures)))
      | in-Some w ↦
          w.state-is
          ∙ sym (ap state_of_copy (own_found c.args.self.now.caches.items c.args.core c.args.line c.index.result.now
          (option_copied c.look.result) c.requires.ready.core_in c.index.ensures c.look.ensures.found w.in-Some.copy
          (sym w.in-Some.is ∙ c.copied.ensures)))
    ] in
    let asked : asked_for GetM c.args.core c.args.line (tags_of c.args.self.now.caches.items) ≡ None =
    asked_by-copy c.args.self.now.caches.items c.args.core c.args.line
    ∙ ap (λ s. transient_of s GetM) (sym state_is)
    ∙ sym c.transient.ensures
    ∙ c.in_err-transient.was in
    rw (asked, c.from_residual.ensures) refl

pub returns-in_err-transient-clause-tags : goal.returns-in_err-transient-clause-tags
returns-in_err-transient-clause-tags g c =
    let own = copy_at c.args.self.now.caches.items c.args.core c.args.line in
    let state_is : c.match-copied.state ≡ state_of_copy own =
    elim c.match-copied.branch [
      | in-None w ↦
          w.state-is
          ∙ sym (ap state_of_copy (own_absent c.args.self.now.caches.items c.args.core c.args.line c.index.result.now
          (option_copied c.look.result) c.requires.ready.core_in c.index.ensures c.look.ensures.found
          (sym w.in-None.is ∙ c.copied.ensures)))
      | in-Some w ↦
          w.state-is
          ∙ sym (ap state_of_copy (own_found c.args.self.now.caches.items c.args.core c.args.line c.index.result.now
          (option_copied c.look.result) c.requires.ready.core_in c.index.ensures c.look.ensures.found w.in-Some.copy
          (sym w.in-Some.is ∙ c.copied.ensures)))
    ] in
    let asked : asked_for GetM c.args.core c.args.line (tags_of c.args.self.now.caches.items) ≡ None =
    asked_by-copy c.args.self.now.caches.items c.args.core c.args.line
    ∙ ap (λ s. transient_of s GetM) (sym state_is)
    ∙ sym c.transient.ensures
    ∙ c.in_err-transient.was in
    rw asked refl

pub returns-in_err-transient-clause-awaits : goal.returns-in_err-transient-clause-awaits
returns-in_err-transient-clause-awaits g c =
    let own = copy_at c.args.self.now.caches.items c.args.core c.args.line in
    let state_is : c.match-copied.state ≡ state_of_copy own =
    elim c.match-copied.branch [
      | in-None w ↦
          w.state-is
          ∙ sym (ap state_of_copy (own_absent c.args.self.now.caches.items c.args.core c.args.line c.index.result.now
          (option_copied c.look.result) c.requires.ready.core_in c.index.ensures c.look.ensures.found
          (sym w.in-None.is ∙ c.copied.ensures)))
      | in-Some w ↦
          w.state-is
          ∙ sym (ap state_of_copy (own_found c.args.self.now.caches.items c.args.core c.args.line c.index.result.now
          (option_copied c.look.result) c.requires.ready.core_in c.index.ensures c.look.ensures.found w.in-Some.copy
          (sym w.in-Some.is ∙ c.copied.ensures)))
    ] in
    rw (c.from_residual.ensures, ← state_is) (unasked-placed c.match-copied.state (sym c.transient.ensures ∙ c.in_err-transient.was))
