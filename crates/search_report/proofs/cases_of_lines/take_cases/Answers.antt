use Rattle.search_report.proofs.Vocabulary.{◌∙◌, ◌+◌, ◌-◌, ◌∷◌, ◌++◌, [], Vec, Global, append_assoc, ap, sym, subst, map, take}
use Rattle.search_report.specs.Lines as spec
use Rattle.search_report.specs.inner.LineParts.{HaveTheirTexts, closed_of, open_of, stacked_parts}
use Rattle.search_report.specs.declared.cases_of_lines.Part.TheVariants as part
use Rattle.search_report.specs.declared.cases_of_lines.Closed.{Closed}
use Rattle.search_report.specs.declared.cases_of_lines.Open.{Open}
use Rattle.search_report.proofs.Lining.{map-last}
use Rattle.search_report.proofs.Sharing.{dropped-part, none-dropped, none-taken, none-there, taken-part}
use Rattle.search_report.proofs.cases_of_lines.take_cases.Goals as goal
use Rattle.search_report.proofs.cases_of_lines.take_cases.Goals.{in-None, in-Some-Closed+in_ok-add_closed-in-Some-Closed, in-Some-Open+in_ok-push-in-Some-Open}

pub loop-branch-preserved : goal.loop-branch-preserved
loop-branch-preserved c =
    let t = c.args.test.now in
    let n = c.args.count in
    let b = c.loop-branch._branch in
    let old = c.loop-branch.parts in
    let new = c.pop.new.self in
    let closed = map closed_of c.loop-branch.closed.items in
    let left = c.loop-branch.left.items in
    let rest = take (n - (b + 1)) (stacked_parts new.items) in
    let inv = c.loop-branch.invariant in
    elim c.match-pop.branch [
      | in-None w ↦
          let before = none-there old.items _ old.ok.0 w.in-None.ensures.cases.0 in
          let after = none-there new.items _ new.ok.0 w.in-None.ensures.cases.1 in
          let same = none-taken new.items after (n - (b + 1)) ∙ sym (none-taken old.items before (n - b)) in
          record {
            told = subst (λ (v : Vec Closed Global). HaveTheirTexts t v.items) (sym w.closed-is) inv.told;
            closed = (λ i. spec.closed_among t (map closed_of ((w.closed-is) i).items) (same i)) ∙ inv.closed;
            left = (λ i. map open_of ((w.left-is) i).items ++ spec.open_among (same i)) ∙ inv.left;
            rest = (none-dropped new.items after (n - (b + 1)) ∙ sym (none-dropped old.items before (n - b))) ∙ inv.rest;
          }
      | in-Some-Closed+in_ok-add_closed-in-Some-Closed w ↦
          let p = part.Closed w.in-Some-Closed.answer w.in-Some-Closed.closing in
          let last = w.in-Some-Closed.ensures.items ∙ ap (λ q. new.items ++ (q ∷ [])) w.in-Some-Closed.field-0-is in
          let taken = taken-part old.items new.items p last n b c.loop-branch-test.true in
          record {
            told = subst (λ (v : Vec Closed Global). HaveTheirTexts t v.items) (sym w.closed-is) w.in_ok-add_closed-in-Some-Closed.ensures.told;
            closed = ap (λ (v : Vec Closed Global). spec.closed_among t (map closed_of v.items) rest) w.closed-is
                ∙ (ap (λ cs. spec.closed_among t cs rest) w.in_ok-add_closed-in-Some-Closed.ensures.closed
                ∙ (sym (ap (spec.closed_among t closed) taken) ∙ inv.closed));
            left = ap (λ (v : Vec Open Global). map open_of v.items ++ spec.open_among rest) w.left-is
                ∙ (sym (ap (λ ps. map open_of left ++ spec.open_among ps) taken) ∙ inv.left);
            rest = sym (dropped-part old.items new.items p last n b c.loop-branch-test.true) ∙ inv.rest;
          }
      | in-Some-Open+in_ok-push-in-Some-Open w ↦
          let o = w.in-Some-Open.part in
          let last = w.in-Some-Open.ensures.items ∙ ap (λ q. new.items ++ (q ∷ [])) w.in-Some-Open.field-0-is in
          let taken = taken-part old.items new.items (part.Open o) last n b c.loop-branch-test.true in
          record {
            told = subst (λ (v : Vec Closed Global). HaveTheirTexts t v.items) (sym w.closed-is) inv.told;
            closed =
                ap (λ (v : Vec Closed Global). spec.closed_among t (map closed_of v.items) rest) w.closed-is
                ∙ (sym (ap (spec.closed_among t closed) taken) ∙ inv.closed);
            left = ap (λ (v : Vec Open Global). map open_of v.items ++ spec.open_among rest) w.left-is
                ∙ (ap (λ os. map open_of os ++ spec.open_among rest) w.in_ok-push-in-Some-Open.ensures.items
                ∙ (ap (λ os. os ++ spec.open_among rest) (map-last open_of left o)
                ∙ (append_assoc (map open_of left) (open_of o ∷ []) (spec.open_among rest)
                ∙ (sym (ap (λ ps. map open_of left ++ spec.open_among ps) taken) ∙ inv.left))));
            rest = sym (dropped-part old.items new.items (part.Open o) last n b c.loop-branch-test.true) ∙ inv.rest;
          }
    ]
