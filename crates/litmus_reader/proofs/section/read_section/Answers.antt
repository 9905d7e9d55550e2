use Rattle.litmus_reader.proofs.Vocabulary.{◌≡◌, ◌++◌, ◌∷◌, [], sym, ◌∙◌, arith, map_push, length-map, piece_of, pieces}
use Rattle.litmus_reader.proofs.SectionSteps.{so_far_start, so_far_more, section_ends, section_stops}
use Rattle.litmus_reader.proofs.section.read_section.Goals as goal

pub tokens-init : goal.tokens-init
tokens-init c = rw c.clear.ensures.items (so_far_start c.args.set c.args.ends.now c.args.text.now)

pub returns-then-is_one_of-clause-value : goal.returns-then-is_one_of-clause-value
returns-then-is_one_of-clause-value c =
    let all : pieces c.push.new.self.items ≡ pieces c.tokens.tokens.items ++ piece_of c.in-Ok.token ∷ [] =
    rw c.in_ok-push-in-Ok.ensures.items (map_push piece_of c.tokens.tokens.items c.in-Ok.token) in
    rw all (section_ends c.args.set c.args.ends.now c.args.text.now c.tokens.rest.now c.in-Ok.after.now
    (pieces c.tokens.tokens.items) (piece_of c.in-Ok.token) c.in-Ok.ensures.value
    (sym c.is_one_of.ensures ∙ c.if-is_one_of.true) c.tokens.invariant)

pub returns-then-is_one_of-clause-shorter : goal.returns-then-is_one_of-clause-shorter
returns-then-is_one_of-clause-shorter c some = omega (arith, c.in-Ok.ensures.shorter, c.tokens.invariant.within)

pub tokens-smaller : goal.tokens-smaller
tokens-smaller c = c.in-Ok.ensures.shorter

pub tokens-preserved : goal.tokens-preserved
tokens-preserved c =
    let all : pieces c.push.new.self.items ≡ pieces c.tokens.tokens.items ++ piece_of c.in-Ok.token ∷ [] =
    rw c.in_ok-push-in-Ok.ensures.items (map_push piece_of c.tokens.tokens.items c.in-Ok.token) in
    rw all (so_far_more c.args.set c.args.ends.now c.args.text.now c.tokens.rest.now c.in-Ok.after.now
    (pieces c.tokens.tokens.items) (piece_of c.in-Ok.token) c.in-Ok.ensures.value c.in-Ok.ensures.shorter
    (sym c.is_one_of.ensures ∙ c.if-is_one_of.false) c.tokens.invariant)

pub returns-in-Err-clause-value : goal.returns-in-Err-clause-value
returns-in-Err-clause-value c =
    section_stops c.args.set c.args.ends.now c.args.text.now c.tokens.rest.now (pieces c.tokens.tokens.items)
    c.in-Err.stop c.in-Err.ensures.value c.tokens.invariant

pub returns-in-Err-clause-shorter : goal.returns-in-Err-clause-shorter
returns-in-Err-clause-shorter c some = omega (arith, some, length-map c.tokens.tokens.items piece_of, c.tokens.invariant.within)
