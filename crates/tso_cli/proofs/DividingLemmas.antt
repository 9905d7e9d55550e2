-- The second part of an input is no longer than the input.
use Rattle.tso_cli.proofs.Vocabulary.{◌==◌, ◌≤◌, ℕ, Bool, true, false, cond, nat_eq, codes, List, [], ◌∷◌, length, drop, Option, Some, None}
use Rattle.tso_cli.proofs.Vocabulary.{IfSome, length-drop, arith, starts_with, after_feed, after_end, after_divider, Parts, parts_at}
use Rattle.tso_cli.proofs.Vocabulary.{with_byte, parts_from, parts_of}

abbrev IsWithin : ℕ → Option (List ℕ) → Type 0
IsWithin n o = IfSome o (λ rest. length rest ≤ n)

weaker : (m n : ℕ) (o : Option (List ℕ)) → m ≤ n → IsWithin m o → IsWithin n o
weaker m n None le h = tt
weaker m n (Some rest) le h = omega arith

either : (n : ℕ) (b : Bool) (o p : Option (List ℕ)) → IsWithin n o → IsWithin n p → IsWithin n (cond b o p)
either n true o p h k = h
either n false o p h k = k

feed_within : (cs : List ℕ) → IsWithin (length cs) (after_feed cs)
feed_within [] = omega arith
feed_within (c ∷ cs) = either (length (c ∷ cs)) (c == 10) (Some cs) None (omega arith) tt

end_within : (cs : List ℕ) → IsWithin (length cs) (after_end cs)
end_within [] = omega arith
end_within (c ∷ cs) =
    either (length (c ∷ cs)) (c == 13) (after_feed cs) (after_feed (c ∷ cs))
    (weaker (length cs) (length (c ∷ cs)) (after_feed cs) (omega arith) (feed_within cs)) (feed_within (c ∷ cs))

divider_within : (text : List ℕ) → IsWithin (length text) (after_divider text)
divider_within text =
    either (length text) (starts_with nat_eq text (codes "====")) (after_end (drop 4 text)) None
    (weaker (length (drop 4 text)) (length text) (after_end (drop 4 text)) (omega (arith, length-drop 4 text)) (end_within (drop 4 text))) tt

parts_at_within : (n : ℕ) (o : Option (List ℕ)) (later : Parts) → IsWithin n o → length later.rest ≤ n → length (parts_at o later).rest ≤ n
parts_at_within n None later h k = k
parts_at_within n (Some rest) later h k = h

from_within : (at_line : Bool) (text : List ℕ) → length (parts_from at_line text).rest ≤ length text
from_within at_line [] = omega arith
from_within at_line (c ∷ cs) =
    let further = from_within (c == 10) cs in
    parts_at_within (length (c ∷ cs)) _ (with_byte c (parts_from (c == 10) cs))
    (either (length (c ∷ cs)) at_line (after_divider (c ∷ cs)) None (divider_within (c ∷ cs)) tt) (omega arith)

pub rest_within : (input : List ℕ) → length (parts_of input).rest ≤ length input
rest_within input = from_within true input
