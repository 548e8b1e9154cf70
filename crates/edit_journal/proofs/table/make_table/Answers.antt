use Rattle.std.proofs.Common.{◌≡◌, sym, ap, ◌∙◌, arith}
use Rattle.sqlite_trees.specs.View.{IsClean}
use Rattle.sqlite_trees.specs.Objects.{is_frozen}
use Rattle.sqlite_trees.specs.declared.store.Shape.TheVariants.{Table, Absent}
use Rattle.edit_journal.proofs.TableLemmas.{makes_table}
use Rattle.edit_journal.proofs.table.make_table.Goals as goal

pub create-requires : goal.create-requires
create-requires g c clean =
    let is : c.edit_table.result.shape ≡ Table = c.edit_table.ensures.is.0 in
    let none = c.shape.ensures in
    let absent = c.in-Absent.is in
    record {
      numbered = c.requires.numbered clean;
      low = omega arith;
      unused = cc;
      shaped = λ e. let h : Table ≡ Absent = sym is ∙ e in cc;
      thawed = ap is_frozen is;
      unnamed = rw (c.requires.empty clean) tt;
    }

pub returns-clause-makes : goal.returns-clause-makes
returns-clause-makes g c clean =
    let old = c.args.store.now in
    let mid = c.create.new.self in
    let later : IsClean (g.S.Store.view mid) = omega (arith, c.commit.ensures.clean, clean) in
    let early : IsClean (g.S.Store.view old) = omega (arith, c.create.ensures.quiet.clean, later) in
    makes_table (g.S.Store.view old) (g.S.Store.view mid) (g.S.Store.view c.commit.new.self) c.edit_table.result c.edit_table.ensures.listed (c.requires.empty early) (c.in_ok-create.ensures.ok later)
    (c.in_ok-commit.ensures.ok clean)
