use Rattle.std.proofs.Common.{◌≡◌, sym, ap, ◌∙◌}
use Rattle.sqlite_value.specs.declared.value.Value.TheVariants.{Text, Blob}
use Rattle.sqlite_value.specs.Order.{column}
use Rattle.edit_journal.specs.Lines.{name_of}
use Rattle.edit_journal.proofs.RowLemmas.{seven}
use Rattle.edit_journal.proofs.rows.line_of.Goals as goal

pub returns : goal.returns
returns c = record {
  known =
      let row = c.args.row.now in
      let numbers = c.in-Some.ensures in
      let kind : column row 3 ≡ Text (name_of c.in-Some-of_name.kind) = sym c.in-Text-Blob.ensures ∙ ap Text c.in-Some-of_name.ensures.known in
      let text : column row 6 ≡ Blob c.in_ok-copy_from_slice.field-0 = sym c.in-Text-Blob.ensures' ∙ ap Blob (sym c.in_ok-copy_from_slice.ensures) in
      seven row _ _ _ _ _ _ _ (sym c.len.ensures ∙ c.if-len-ne-COLUMNS.false) numbers.own numbers.entry.0 numbers.entry.1 kind numbers.ids.0 numbers.ids.1 text;
}
