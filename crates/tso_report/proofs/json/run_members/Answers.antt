use Rattle.tso_report.proofs.Vocabulary.{◌≡◌, subst, codes, IfOk, string, Members, no_members, put, members_view, shown_run, cache_value}
use Rattle.tso_report.proofs.Vocabulary.{choices_value, condition_value, machine_value, memory_value, order_value, cores_value}
use Rattle.tso_report.proofs.json.run_members.Goals as goal

pub returns : goal.returns
returns c =
    let t = c.args.test.now in
    let s = shown_run c.args.run.now in
    let counts : c.deref.result.now ≡ s.counts = c.deref.ensures.value in
    let memory : c.deref-2.result.now ≡ s.memory = c.deref-2.ensures.value in
    let order : c.deref-3.result.now ≡ s.order = c.deref-3.ensures.value in
    let registers : c.deref-4.result.now ≡ s.registers = c.deref-4.ensures.value in
    let name : c.name.result.now ≡ t.name = c.name.ensures in
    subst (λ (ms : Members). IfOk c.members.result (λ m. members_view m.entries ≡ ms))
    (λ i.
    put (codes "test") (string (name i))
    (put (codes "registers") (cores_value (registers i))
    (put (codes "order") (order_value t (order i)) (put (codes "memory") (memory_value t (memory i))
    (put (codes "machine") (machine_value c.args.protocol c.args.config)
    (put (codes "condition") (condition_value t.condition s.holds) (put (codes "choices") (choices_value s.used s.stalled s.unused)
    (put (codes "cache") (cache_value (counts i)) no_members))))))))
    (c.members.ensures _ (c.member-8.ensures _ _ (c.member-7.ensures _ _ (c.member-6.ensures _ _ (c.member-5.ensures _ _
    (c.member-4.ensures _ _ (c.member-3.ensures _ _ (c.member-2.ensures _ _ (c.member.ensures _ _ c.new.ensures c.cache_value.ensures)
    c.object_of.ensures) c.condition_value.ensures) c.machine_value.ensures) c.memory_value.ensures) c.order_value.ensures) c.cores_value.ensures)
    c.word_value.ensures))
