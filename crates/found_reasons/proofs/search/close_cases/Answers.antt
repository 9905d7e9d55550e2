use Rattle.found_reasons.proofs.Vocabulary.{◌≡◌, ◌<◌, ◌≤◌, ◌/◌, ◌+◌, ◌∙◌, true, arith, refl, ap, length, map, sym, subst, counted_as, events_of}
use Rattle.found_reasons.proofs.Vocabulary.{nil_from_length, Vec, node_of, facts_of, branches_of, asked_claim, refutes, IsCaseStep}
use Rattle.found_reasons.proofs.Vocabulary.{AreOpenAfter}
use Rattle.refutation_checker.specs.Trees.{lemma_of}
use Rattle.refutation_checker.specs.declared.tree.Node.{Node}
use Rattle.found_reasons.proofs.Searching.{IsSearch, first-case, its-branch, one-too-many, lighter-by-leaf, lighter-by-question, after-leaf}
use Rattle.found_reasons.proofs.Searching.{after-question, all-done}
use Rattle.found_reasons.proofs.search.close_cases.Goals as goal
use Rattle.found_reasons.proofs.search.close_cases.Goals.{in-Leaf+in_ok-told_node-in-Leaf+in_ok-push-in-Leaf}
use Rattle.found_reasons.proofs.search.close_cases.Goals.{in-Question+in_ok-told_node-in-Question+in_ok-push-in-Question}

pub loop-facts-init : goal.loop-facts-init
loop-facts-init c =
    subst (λ ns. IsSearch c.args.model c.args.problem.now.test.now (branches_of c.add_branch.new.branches.items) (map node_of ns))
    (sym c.new-nodes.ensures.items)
    (first-case c.args.model c.args.problem.now.test.now c.new-branches.result.items c.add_branch.new.branches.items c.args.given.items
    c.new-branches.ensures.items c.in_ok-add_branch.ensures c.requires.given)

pub take_step-requires-clause-branch : goal.take_step-requires-clause-branch
take_step-requires-clause-branch c =
    its-branch c.args.model c.args.problem.now.test.now c.loop-facts.branches.items c.pop.new.self.items c.in-Some.facts c.in-Some.ensures.items
    c.deref.result.now c.deref.ensures.value
    (map node_of c.loop-facts.nodes.items) c.loop-facts.invariant

pub returns-then-saturating_add-most : goal.returns-then-saturating_add-most
returns-then-saturating_add-most c =
    let t = c.args.problem.now.test.now in
    let events : c.len.result ≡ length (events_of t) =
    (let counted =
    c.len.ensures in
    let size = c.args.problem.now.events.ok.0 in
    let same = ap length c.requires.problem.events in
    omega (arith, counted, size, same)) in
    let cost : c.counted_as.result ≡ counted_as (length (events_of t)) = c.counted_as.ensures.counted ∙ ap counted_as events in
    let late : c.args.limit / c.counted_as.result ≤ length c.loop-facts.nodes.items + length c.pop.new.self.items =
    (let reached = c.if-saturating_add-most.true in
    let added = c.saturating_add.ensures in
    let counted = c.len-in-Some.ensures in
    let open-ones = c.len-in-Some-2.ensures in
    let size = c.loop-facts.nodes.ok.0 in
    let size-2 = c.pop.new.self.ok.0 in
    omega (arith, reached, added, counted, open-ones, size, size-2)) in
    one-too-many c.args.model t c.loop-facts.branches.items c.pop.new.self.items c.in-Some.facts c.in-Some.ensures.items c.in-Some.facts.items refl
    c.loop-facts.nodes.items c.args.limit c.loop-facts.invariant (subst (λ n. 0 < n) cost c.counted_as.ensures.some)
    (subst (λ n. c.args.limit / n ≤ length c.loop-facts.nodes.items + length c.pop.new.self.items) cost late)

pub loop-facts-smaller : goal.loop-facts-smaller
loop-facts-smaller c =
    elim c.match-branch-3.branch [
      | in-Leaf+in_ok-told_node-in-Leaf+in_ok-push-in-Leaf w ↦
          lighter-by-leaf c.args.model c.args.problem.now.test.now c.loop-facts.branches.items c.pop.new.self.items c.in-Some.facts c.in-Some.ensures.items
          c.deref.result.now c.deref.ensures.value
          w.in-Leaf.leaf c.take_step.new.branches.items
          (subst
          (AreOpenAfter c.args.problem.now.test.now (facts_of c.deref.result.now) (branches_of c.pop.new.self.items)
          (branches_of c.take_step.new.branches.items))
          w.in-Leaf.is
          c.in_ok-leaf.ensures.added)
      | in-Question+in_ok-told_node-in-Question+in_ok-push-in-Question w ↦
          lighter-by-question c.args.model c.args.problem.now.test.now c.loop-facts.branches.items c.pop.new.self.items c.in-Some.facts c.in-Some.ensures.items
          c.deref.result.now c.deref.ensures.value
          w.in-Question.question c.take_step.new.branches.items
          (subst (IsCaseStep c.args.model c.args.problem.now.test.now (facts_of c.deref.result.now)) w.in-Question.is c.in_ok-leaf.ensures.step)
          (subst
          (AreOpenAfter c.args.problem.now.test.now (facts_of c.deref.result.now) (branches_of c.pop.new.self.items)
          (branches_of c.take_step.new.branches.items))
          w.in-Question.is
          c.in_ok-leaf.ensures.added)
    ]

pub loop-facts-preserved : goal.loop-facts-preserved
loop-facts-preserved c =
    elim c.match-branch-3.branch [
      | in-Leaf+in_ok-told_node-in-Leaf+in_ok-push-in-Leaf w ↦
          subst (λ (v : Vec Node).
          IsSearch c.args.model c.args.problem.now.test.now (branches_of c.take_step.new.branches.items) (map node_of v.items))
          (sym w.nodes-is)
          (after-leaf c.args.model c.args.problem.now.test.now c.loop-facts.branches.items c.pop.new.self.items c.in-Some.facts c.in-Some.ensures.items
          c.deref.result.now c.deref.ensures.value
          w.in-Leaf.leaf w.in_ok-told_node-in-Leaf.field-0 w.in_ok-told_node-in-Leaf.ensures c.loop-facts.nodes.items w.push.new.self.items
          w.in_ok-push-in-Leaf.ensures.items c.loop-facts.invariant c.take_step.new.branches.items
          (subst (IsCaseStep c.args.model c.args.problem.now.test.now (facts_of c.deref.result.now)) w.in-Leaf.is c.in_ok-leaf.ensures.step)
          (subst
          (AreOpenAfter c.args.problem.now.test.now (facts_of c.deref.result.now) (branches_of c.pop.new.self.items)
          (branches_of c.take_step.new.branches.items))
          w.in-Leaf.is
          c.in_ok-leaf.ensures.added))
      | in-Question+in_ok-told_node-in-Question+in_ok-push-in-Question w ↦
          subst (λ (v : Vec Node).
          IsSearch c.args.model c.args.problem.now.test.now (branches_of c.take_step.new.branches.items) (map node_of v.items))
          (sym w.nodes-is)
          (after-question c.args.model c.args.problem.now.test.now c.loop-facts.branches.items c.pop.new.self.items c.in-Some.facts c.in-Some.ensures.items
          c.deref.result.now c.deref.ensures.value
          w.in-Question.question w.in_ok-told_node-in-Question.field-0 w.in_ok-told_node-in-Question.ensures
          c.loop-facts.nodes.items w.push-in-Question.new.self.items
          w.in_ok-push-in-Question.ensures.items c.loop-facts.invariant c.take_step.new.branches.items
          (subst (IsCaseStep c.args.model c.args.problem.now.test.now (facts_of c.deref.result.now)) w.in-Question.is c.in_ok-leaf.ensures.step)
          (subst
          (AreOpenAfter c.args.problem.now.test.now (facts_of c.deref.result.now) (branches_of c.pop.new.self.items)
          (branches_of c.take_step.new.branches.items))
          w.in-Question.is
          c.in_ok-leaf.ensures.added))
    ]

pub returns : goal.returns
returns c =
    let none = c.in_default.ensures.cases in
    let size = c.loop-facts.branches.ok.0 in
    subst (λ ls. refutes c.args.model c.args.problem.now.test.now (asked_claim c.args.problem.now.test.now.condition) (map lemma_of ls)
    (map node_of c.loop-facts.nodes.items) ≡ true) (sym c.new.ensures.items)
    (all-done c.args.model c.args.problem.now.test.now c.loop-facts.branches.items (map node_of c.loop-facts.nodes.items)
    (nil_from_length c.loop-facts.branches.items (omega (arith, none, size))) c.loop-facts.invariant)
