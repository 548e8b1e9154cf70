use Rattle.std.proofs.Common.{◌≡◌, length, arith, rules}
use Rattle.sqlite_trees.specs.View.{IsClean}
use Rattle.edit_journal.proofs.OverLemmas.{over_stands, over_found, over_open}
use Rattle.edit_journal.proofs.journal.Journal.over.Goals as goal

pub returns-clause-read : goal.returns-clause-read
returns-clause-read g c clean =
    let back = g.S.Store.view c.rollback.new.self in
    let found = g.S.Store.view c.find_table.new.store in
    let third : IsClean found = omega (arith, c.read_lines.ensures.quiet.clean, clean) in
    let second : IsClean back = omega (arith, c.find_table.ensures.clean, third) in
    let count : c.in-Ok.rows ≡ length c.in_ok-lines.lines.items = search rules in
    over_stands (g.S.Store.view c.args.store) back found (g.S.Store.view c.read_lines.new.store) c.in_ok-lines.lines.items second c.rollback.ensures.undone (c.in_ok-find_table.ensures.finds third)
    (g.met.S.Store.broken_if_shut c.find_table.new.store) (c.in_ok-lines.ensures.seeks clean) (c.in_ok-lines.ensures.read clean) c.in-Ok.rows count

pub returns-clause-found : goal.returns-clause-found
returns-clause-found g c clean =
    let back = g.S.Store.view c.rollback.new.self in
    let found = g.S.Store.view c.find_table.new.store in
    let third : IsClean found = omega (arith, c.read_lines.ensures.quiet.clean, clean) in
    let second : IsClean back = omega (arith, c.find_table.ensures.clean, third) in
    over_found (g.S.Store.view c.args.store) back found (g.S.Store.view c.read_lines.new.store) c.in_ok-lines.lines.items second c.rollback.ensures.undone (c.in_ok-find_table.ensures.finds third)
    (g.met.S.Store.broken_if_shut c.find_table.new.store) (c.in_ok-lines.ensures.seeks clean) (c.in_ok-lines.ensures.read clean)

pub returns-clause-open : goal.returns-clause-open
returns-clause-open g c clean =
    let back = g.S.Store.view c.rollback.new.self in
    let found = g.S.Store.view c.find_table.new.store in
    let third : IsClean found = omega (arith, c.read_lines.ensures.quiet.clean, clean) in
    let second : IsClean back = omega (arith, c.find_table.ensures.clean, third) in
    over_open (g.S.Store.view c.args.store) back found (g.S.Store.view c.read_lines.new.store) c.in_ok-lines.lines.items second c.rollback.ensures.undone (c.in_ok-find_table.ensures.finds third)
    (g.met.S.Store.broken_if_shut c.find_table.new.store) (c.in_ok-lines.ensures.seeks clean) (c.in_ok-lines.ensures.read clean)
