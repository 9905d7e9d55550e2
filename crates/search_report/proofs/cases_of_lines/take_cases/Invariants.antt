use Rattle.search_report.proofs.Vocabulary.{◌≡◌, ◌++◌, ◌-◌, [], drop, map, take}
use Rattle.search_report.specs.Lines as spec
use Rattle.search_report.specs.inner.LineParts.{HaveTheirTexts, closed_of, open_of, stacked_parts}
use Rattle.search_report.proofs.cases_of_lines.take_cases.Given as goal

abbrev pub invariant-loop-branch : goal.invariant-loop-branch
invariant-loop-branch l = record {
  told : HaveTheirTexts l.test l.closed.items;
  closed : spec.closed_among l.test (map closed_of l.closed.items) (take (l.count - l._branch) (stacked_parts l.parts.items))
      ≡ spec.closed_among l.test [] (take l.count (stacked_parts l.fn.parts.items));
  left : map open_of l.left.items ++ spec.open_among (take (l.count - l._branch) (stacked_parts l.parts.items))
      ≡ spec.open_among (take l.count (stacked_parts l.fn.parts.items));
  rest : drop (l.count - l._branch) (stacked_parts l.parts.items) ≡ drop l.count (stacked_parts l.fn.parts.items);
}
