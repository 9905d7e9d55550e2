use Rattle.std.proofs.Common.{◌≡◌, ◌++◌, ◌∷◌, [], map}
use Rattle.std.proofs.lemmas.List.{map_push}
use Rattle.litmus_tokens.specs.Pieces.{pieces_of}
use Rattle.litmus_tokens.specs.inner.Pieces.{piece_of}
use Rattle.litmus_tokens.proofs.Pieces.{goes_on_start, goes_on_step, goes_on_to_stop}
use Rattle.litmus_tokens.proofs.lexing.tokens_of.Goals as goal

pub loop-token-init : goal.loop-token-init
loop-token-init c = rw c.new-items.ensures.items (goes_on_start c.args.set c.args.bytes.now)

pub loop-token-preserved : goal.loop-token-preserved
loop-token-preserved c =
    let e : map piece_of c.push.new.self.items ≡ map piece_of c.loop-token.items.items ++ piece_of c.in-Ok.token ∷ [] =
    rw c.in_ok-push-in-Ok.ensures.items (map_push _ c.loop-token.items.items c.in-Ok.token) in
    rw e (goes_on_step c.args.set (map piece_of c.loop-token.items.items) c.loop-token.rest.now c.in-Ok.after.now
    (piece_of c.in-Ok.token) (pieces_of c.args.set c.args.bytes.now) c.in-Ok.ensures.value c.in-Ok.ensures.shorter
    c.loop-token.invariant)

pub returns-in-Err : goal.returns-in-Err
returns-in-Err c =
    goes_on_to_stop c.args.set (map piece_of c.loop-token.items.items) c.loop-token.rest.now c.in-Err.stop
    (pieces_of c.args.set c.args.bytes.now) c.in-Err.ensures.value c.loop-token.invariant
