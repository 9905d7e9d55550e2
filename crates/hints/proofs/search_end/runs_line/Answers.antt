use Rattle.std.proofs.Common.{◌≤◌, ◌++◌, ◌∷◌, [], ◌∙◌, ap, arith, codes, inr, length, string_bytes}
use Rattle.std.proofs.lemmas.List.{length-append}
use Rattle.hints.proofs.search_end.runs_line.Goals as goal

pub returns : goal.returns
returns c =
    let said = string_bytes c.in_ok-choices.choices in
    let fits : length said ≤ 2030 = let n = c.len.ensures in let l = c.if-len.false in omega (arith, n, l) in
    inr (record {
      choices = c.deref.result.now;
      is = c.in_ok-format.ensures.ok ∙ ap (λ z. codes "hint: run these: " ++ z ++ (10 ∷ [])) c.in_ok-choices.ensures;
      short = rw (c.in_ok-format.ensures.ok, length-append (codes "hint: run these: ") (said ++ (10 ∷ [])), length-append said (10 ∷ [])) (omega (arith, fits));
    })
