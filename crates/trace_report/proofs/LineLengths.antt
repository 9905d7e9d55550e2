-- How many locations a line has, and that a line past the last location has none.
use Rattle.trace_report.proofs.Vocabulary.{◌≡◌, ℕ, ◌+◌, ◌-◌, ◌*◌, ◌≤◌, List, [], length, take, min, ap, sym, arith, drop_all, length-drop}
use Rattle.trace_report.proofs.Vocabulary.{length-take, Litmus, names_in_line, joined_by_plus, line_name}

-- a line past the last location has no name
pub unnamed : (t : Litmus) (words line : ℕ) → length t.locations ≤ line * words → [] ≡ line_name t words line
unnamed t words line past =
    let all = take (line * words + words) t.locations in
    let few : length all ≤ line * words = omega (arith, length-take (line * words + words) t.locations) in
    sym (ap joined_by_plus (drop_all (line * words) all few))

-- as many locations as words, but for the last line
pub named : (names : List (List ℕ)) (words line : ℕ) → min (length names - line * words) words ≡ length (names_in_line names words line)
named names words line =
    let all = take (line * words + words) names in
    omega (arith, length-take (line * words + words) names, length-drop (line * words) all)
