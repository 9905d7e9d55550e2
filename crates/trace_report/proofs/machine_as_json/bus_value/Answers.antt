use Rattle.trace_report.proofs.Vocabulary.{◌≡◌, ◌∙◌, ◌/◌, ap, sym, subst, codes, option_map, Some, Configuration, Data, no_members, object}
use Rattle.trace_report.proofs.Vocabulary.{put, string, view, IfOk, bus_holder_of, chosen, count, printed_choice, line_name, transient_name}
use Rattle.trace_report.proofs.Vocabulary.{text_or_null, array_of_numbers, words_per_line, holder_json, bus_json}
use Rattle.trace_report.proofs.machine_as_json.bus_value.Goals as goal

pub returns : goal.returns
returns g c =
    let m = c.args.moment.now.machine.now in
    let h = c.in-Some.holder in
    let line = h.loc.0 / c.words-words.result in
    let test : c.args.moment.now.test.now ≡ m.test = sym c.requires.shown.test in
    let words : c.words-words.result ≡ words_per_line m =
    c.words-words.ensures.value ∙ sym (ap (λ (x : Configuration). x.shape.words) c.requires.shown.config) in
    let held : Some h ≡ bus_holder_of m = sym c.in-Some.is ∙ c.bus_holder.ensures in
    subst (λ (d : Data). IfOk c.value.result (λ value. view value ≡ d))
    ((λ i.
    object (put (codes "words") (array_of_numbers (c.words_on_bus-kept.ensures i))
    (put (codes "state") (text_or_null (option_map transient_name h.transient))
    (put (codes "line") (string (line_name c.args.moment.now.test.now c.words-words.result line))
    (put (codes "core") (count (chosen h.choice)) (put (codes "choice") (string (printed_choice h.choice)) no_members))))))
    ∙ ((λ i. holder_json (test i) (words i) (c.requires.seen i) h) ∙ ap (bus_json m) held))
    (c.value.ensures _ (c.member-5.ensures _ _ (c.member-4.ensures _ _
    (c.member-3.ensures _ _ (c.member-2.ensures _ (count (chosen h.choice)) (c.member.ensures _ _ c.new.ensures c.choice_value.ensures)
    (c.from-core.ensures ∙ ap count c.core_of.ensures)) c.line_value.ensures) c.transient_value.ensures) c.numbers_value.ensures))
