-- The table, made or found.
use Rattle.std.proofs.Common.{◌≡◌, List, [], ◌∷◌, map, take, refl, sym, ap, ◌∙◌}
use Rattle.sqlite_value.specs.Order.{Row}
use Rattle.sqlite_trees.specs.Tree.{put_row}
use Rattle.sqlite_trees.specs.View.{View, Commits}
use Rattle.sqlite_trees.specs.Objects.{catalog_tree, object_row, Creates}
use Rattle.sqlite_trees.specs.declared.schema.Object.{Object}
use Rattle.edit_journal.specs.Lines.{edit_tree}
use Rattle.edit_journal.specs.Tables.{Makes, listed}

pub makes_table : (old mid new : View) (o : Object) → take 5 (object_row edit_tree o) ≡ listed → old.trees catalog_tree ≡ [] → Creates old mid edit_tree o → Commits mid new → Makes old new
makes_table old mid new o is empty creates commits =
    let catalog : new.trees catalog_tree ≡ put_row (object_row edit_tree o) (old.trees catalog_tree) = ap (λ (v : View). v.trees catalog_tree) commits.is ∙ ap (λ (v : View). v.trees catalog_tree) creates.is in
    record {
      lists = ap (map (take 5)) (catalog ∙ ap (put_row (object_row edit_tree o)) empty) ∙ ap (λ row. row ∷ []) is;
      committed = ap (λ (v : View). v.trees) commits.is ∙ sym (ap (λ (v : View). v.committed) commits.is);
      was_open = λ is_open. sym (ap (λ (v : View). v.is_open) commits.is ∙ ap (λ (v : View). v.is_open) creates.is) ∙ is_open;
    }

pub none_mapped : (rows : List Row) → [] ≡ map (take 5) rows → rows ≡ []
none_mapped [] is = refl
none_mapped (row ∷ rows) is = absurd (cc)
