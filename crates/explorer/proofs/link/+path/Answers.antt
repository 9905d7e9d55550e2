use Rattle.explorer.proofs.Vocabulary.{◌≡◌, ◌+◌, List, slice_index_or, drop, drop-end, arith, ap, sym, ◌∙◌, Choice, Link, Turn, played}
use Rattle.explorer.proofs.Mapping.{turn-played}
use Rattle.explorer.proofs.Linking.{earlier, path-first, path-on}
use Rattle.explorer.proofs.link.+path.Goals as goal
use Rattle.explorer.proofs.link.+path.Goals.{then-at-gt0+in_ok-choices, else-at-gt0, in-Made+in_ok-push-in-Made, in-Exchanged}

pub path-requires : goal.path-requires
path-requires t c =
    let e = earlier c.args.links.now c.args.at c.index-links-at.result c.requires.back c.if-at-gt0.true c.requires.at in
    let l = c.requires.at in
    let m = c.decreases in
    (omega (arith, e, m), (omega (arith, e, l), c.requires.back))

pub loop-turn-preserved : goal.loop-turn-preserved
loop-turn-preserved t c =
    let turns : List Turn = c.deref-turn-items.result.now in
    let later = played (drop (c.loop-turn.turn-index + 1) turns) in
    elim c.match-turn.branch [
      | in-Made+in_ok-push-in-Made w ↦
          c.loop-turn.invariant ∙ (turn-played turns c.loop-turn.turn-index _ _ c.loop-turn.choices.items c.loop-turn-test.true w.in-Made.is
          ∙ ap later (sym (ap (λ z. z.items) w.choices-is ∙ w.in_ok-push-in-Made.ensures.items)))
      | in-Exchanged w ↦
          c.loop-turn.invariant ∙ (turn-played turns c.loop-turn.turn-index _ _ c.loop-turn.choices.items c.loop-turn-test.true w.in-Exchanged.is
          ∙ ap later (sym (ap (λ z. z.items) w.choices-is ∙ w.exchange_choices.ensures)))
    ]

pub returns : goal.returns
returns t c =
    let links : List Link = c.args.links.now in
    let link : Link = c.index-links-at-2.result in
    let was : List Choice = c.if-at-gt0.choices.items in
    let turns : List Turn = c.deref-turn-items.result.now in
    let l = c.loop-turn-test.false in
    let m = c.loop-turn.auto.turn-index-end in
    let items : c.loop-turn.choices.items ≡ played (slice_index_or links c.args.at link).turns.items was =
    ap (λ ts. played ts c.loop-turn.choices.items) (sym (drop-end turns c.loop-turn.turn-index (omega (arith, l, m)))) ∙ sym c.loop-turn.invariant
    ∙ ap (λ z. played z was) c.deref-turn-items.ensures.value in
    elim c.if-at-gt0.branch [
      | then-at-gt0+in_ok-choices w ↦
          path-on c.dead_registers_change_nothing.ensures c.alike_cores_are_exchangeable.ensures links c.args.at
          w.index-links-at.result link c.loop-turn.choices.items was w.in_ok-choices.choices.items
          w.if-at-gt0.true c.requires.at w.in_ok-choices.ensures items (ap (λ z. z.items) w.choices-is)
      | else-at-gt0 w ↦
          path-first c.alike_cores_are_exchangeable.ensures links c.args.at link c.loop-turn.choices.items was
          w.if-at-gt0.false c.requires.at items
          (ap (λ z. z.items) w.choices-is ∙ c.new-choices.ensures.items)
    ]
