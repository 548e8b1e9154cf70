use Rattle.std.proofs.Common.{arith}
use Rattle.sqlite_trees.specs.View.{IsClean}
use Rattle.sqlite_store.specs.FileStore.{view}
use Rattle.edit_journal.proofs.OpenLemmas.{if_ok_all, held_before}
use Rattle.edit_journal.proofs.opening.open.Goals as goal

pub returns-in-Ok-clause-found : goal.returns-in-Ok-clause-found
returns-in-Ok-clause-found g c =
    let conn = c.in-Ok.conn.store in
    let given = c.into_store.result in
    if_ok_all c.over.result _ _ _ _
    (λ made found is_open certain clean db lines holds journal.
    let given_clean : IsClean (view given) = omega (arith, certain, clean) in
    let conn_clean : IsClean (view conn) = omega (arith, c.into_store.ensures.quiet.clean, given_clean) in
    found clean lines (held_before (view conn) (view given) db lines given_clean c.into_store.ensures.undone (is_open clean) ((c.in-Ok.ensures.found conn_clean).holds db holds) journal))
    c.over.ensures.found c.over.ensures.open c.over.ensures.clean
