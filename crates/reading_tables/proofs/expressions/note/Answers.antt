use Rattle.reading_tables.proofs.Vocabulary.{List, sym, subst, length, map}
use Rattle.reading_tables.specs.declared.expressions.Written.{Written}
use Rattle.reading_tables.specs.inner.Told.{HaveBeenMade}
use Rattle.reading_tables.proofs.Makings.{written-more}
use Rattle.reading_tables.proofs.expressions.note.Goals as goal

pub returns-clause-walk : goal.returns-clause-walk
returns-clause-walk c =
    let n = length c.args.walk.now.makings.items in
    let old = c.args.walk.now.written.items in
    record {
      registers = c.requires.walk.registers;
      written = subst (λ (ws : List Written). HaveBeenMade n (map (λ (x : Written). x.value) ws)) (sym c.in_ok-push.ensures.items)
          (written-more n old (record { write = c.args.write; value = c.args.value }) c.requires.walk.written c.requires.value);
    }
