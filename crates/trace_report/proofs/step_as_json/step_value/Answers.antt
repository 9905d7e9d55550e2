use Rattle.trace_report.proofs.Vocabulary.{◌≡◌, All, sym, subst, map, option_map, codes, IfOk, Data, no_members, boolean, object, put}
use Rattle.trace_report.proofs.Vocabulary.{string, view, HasLocation, IsLine, shown_step, access_name, stall_name, line_name, order_value}
use Rattle.trace_report.proofs.Vocabulary.{printed_change, printed_choice, printed_core, printed_move, printed_request, outcome_word}
use Rattle.trace_report.proofs.Vocabulary.{stall_in, supplier_text, text_or_null, array_of_texts, rules, the_lemmas}
use Rattle.trace_report.proofs.step_as_json.step_value.Goals as goal

pub order_value-requires : goal.order_value-requires
order_value-requires c = subst (All (HasLocation c.args.test.now)) (sym c.deref.ensures.value) c.requires.known.entries

pub changes_value-requires : goal.changes_value-requires
changes_value-requires c = subst (All (λ x. IsLine c.args.test.now c.args.words x.line)) (sym c.deref-2.ensures.value) c.requires.known.changes

pub returns : goal.returns
returns c d made =
    let t = c.args.test.now in
    let words = c.args.words in
    let s = shown_step c.args.step.now in
    let entries : c.deref.result.now ≡ s.entries = c.deref.ensures.value in
    let changes : c.deref-2.result.now ≡ s.changes = c.deref-2.ensures.value in
    let outcome : c.outcome_word.result.now ≡ outcome_word s.outcome = c.outcome_word.ensures in
    subst (λ (d : Data). IfOk c.value.result (λ value. view value ≡ d))
    (λ i.
    object (put (codes "write_back") (text_or_null (option_map (line_name t words) s.wrote_back))
    (put (codes "transaction") (text_or_null (option_map (printed_request t words) s.request))
    (put (codes "supplied") (text_or_null (option_map supplier_text c.args.step.now.supplied))
    (put (codes "states") (array_of_texts (map (printed_change t words) (changes i)))
    (put (codes "stall") (text_or_null (option_map stall_name (stall_in s.outcome)))
    (put (codes "outcome") (string (outcome i)) (put (codes "moved") (text_or_null (option_map printed_move s.moved))
    (put (codes "forwarded") (boolean s.forwarded)
    (put (codes "flush") (text_or_null (option_map printed_core s.flushed)) (put (codes "entries") (order_value t (entries i))
    (put (codes "choice") (string (printed_choice s.choice))
    (put (codes "after") d (put (codes "access") (text_or_null (option_map access_name s.access)) no_members))))))))))))))
    (c.value.ensures _ (c.member-13.ensures _ _ (c.member-12.ensures _ _
    (c.member-11.ensures _ _ (c.member-10.ensures _ _ (c.member-9.ensures _ _ (c.member-8.ensures _ _ (c.member-7.ensures _ _
    (c.member-6.ensures _ (boolean s.forwarded)
    (c.member-5.ensures _ _
    (c.member-4.ensures _ _ (c.member-3.ensures _ _ (c.member-2.ensures _ d (c.member.ensures _ _ c.new.ensures c.access_value.ensures) made)
    c.choice_value.ensures) c.order_value.ensures) c.flush_value.ensures) (search (
      rules,
      the_lemmas,
    ))) c.move_value.ensures) c.word_value.ensures)
    c.stall_value.ensures)
    c.changes_value.ensures)
    c.source_value.ensures)
    c.request_value.ensures)
    c.write_back_value.ensures))
