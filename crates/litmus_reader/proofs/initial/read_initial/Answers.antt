use Rattle.litmus_reader.proofs.Vocabulary.{◌∙◌, sym, arith, length-map, err_from_is_err_and, piece_of, pieces, texts, section, in_initial, tokens_in, stop_of}
use Rattle.litmus_reader.specs.inner.Returned.{so_far}
use Rattle.litmus_reader.proofs.ItemSteps.{items_start, item_some, items_done, items_further, items_fail, initial_is, never_opened}
use Rattle.litmus_reader.proofs.initial.read_initial.Goals as goal

pub items-init : goal.items-init
items-init c = record {
  items =
      rw (c.requires.words, c.requires.registers)
      (items_start c.in_ok-remaining.remaining (stop_of c.args.set c.args.text.now) (texts c.args.names.now.items)
      (tokens_in c.args.set c.in_ok-remaining.rest.now));
  knows = c.requires.knows;
  stop_kept = c.in_ok-remaining.ensures.stop;
}

pub returns-in_err-remaining-clause-value : goal.returns-in_err-remaining-clause-value
returns-in_err-remaining-clause-value c =
    let p = err_from_is_err_and c.from_residual.result c.from_residual.ensures.1 in
    rw (p.1, p.2)
    (never_opened c.in_err-remaining.field-0.0 (stop_of c.args.set c.args.text.now) (texts c.args.names.now.items)
    (tokens_in c.args.set c.args.text.now) c.in_err-remaining.ensures.value)

pub returns-in_err-is_last-clause-value : goal.returns-in_err-is_last-clause-value
returns-in_err-is_last-clause-value c =
    let p = err_from_is_err_and c.from_residual-in_err-is_last.result c.from_residual-in_err-is_last.ensures.1 in
    let all =
    initial_is (stop_of c.args.set c.args.text.now) c.in_ok-remaining.remaining (texts c.args.names.now.items)
    (tokens_in c.args.set c.args.text.now) (tokens_in c.args.set c.in_ok-remaining.rest.now)
    c.in_ok-remaining.ensures.place c.in_ok-remaining.ensures.value in
    rw (p.1, p.2, all)
    (items_fail c.in_err-is_last.field-0.0 c.in_ok-remaining.remaining (stop_of c.args.set c.args.text.now)
    (so_far c.items.names.items c.items.state) (tokens_in c.args.set c.items.rest.now)
    (section (pieces c.read_item_tokens.new.tokens.items) c.in_ok-onward.onward.stop (tokens_in c.args.set c.in_ok-onward.onward.rest.now))
    _
    (rw c.items.invariant.stop_kept at c.in_ok-onward.ensures.value.is)
    (rw c.as_slice.ensures.value at c.in_err-is_last.ensures.value) c.items.invariant.items)

pub returns-then-is_last-clause-value : goal.returns-then-is_last-clause-value
returns-then-is_last-clause-value c =
    initial_is (stop_of c.args.set c.args.text.now) c.in_ok-remaining.remaining (texts c.args.names.now.items)
    (tokens_in c.args.set c.args.text.now) (tokens_in c.args.set c.in_ok-remaining.rest.now)
    c.in_ok-remaining.ensures.place c.in_ok-remaining.ensures.value
    ∙ items_done c.in_ok-remaining.remaining (stop_of c.args.set c.args.text.now)
    (so_far c.items.names.items c.items.state) (so_far c.read_item.new.names.items c.read_item.new.state)
    (tokens_in c.args.set c.items.rest.now)
    (section (pieces c.read_item_tokens.new.tokens.items) c.in_ok-onward.onward.stop (tokens_in c.args.set c.in_ok-onward.onward.rest.now))
    _
    (rw c.items.invariant.stop_kept at c.in_ok-onward.ensures.value.is)
    (rw (c.as_slice.ensures.value, c.if-is_last.true) at c.in_ok-is_last.ensures.value) c.items.invariant.items

pub items-smaller : goal.items-smaller
items-smaller c =
    c.in_ok-onward.ensures.shorter
    (omega (
      arith,
      length-map c.read_item_tokens.new.tokens.items piece_of,
      item_some
          (in_initial c.in_ok-remaining.remaining c.in_ok-onward.onward.stop) (so_far c.items.names.items c.items.state)
          (pieces c.read_item_tokens.new.tokens.items) _
          (rw c.as_slice.ensures.value at c.in_ok-is_last.ensures.value),
    ))

pub items-preserved : goal.items-preserved
items-preserved c = record {
  items =
      items_further c.in_ok-remaining.remaining (stop_of c.args.set c.args.text.now)
      (so_far c.items.names.items c.items.state) (so_far c.read_item.new.names.items c.read_item.new.state)
      (tokens_in c.args.set c.items.rest.now)
      (section (pieces c.read_item_tokens.new.tokens.items) c.in_ok-onward.onward.stop (tokens_in c.args.set c.in_ok-onward.onward.rest.now))
      _
      (rw c.items.invariant.stop_kept at c.in_ok-onward.ensures.value.is)
      (rw (c.as_slice.ensures.value, c.if-is_last.false) at c.in_ok-is_last.ensures.value) c.items.invariant.items;
  knows = c.in_ok-is_last.ensures.knows;
  stop_kept = sym c.in_ok-onward.ensures.value.stop_kept ∙ c.items.invariant.stop_kept;
}
