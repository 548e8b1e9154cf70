-- What a journal over a store begins with.
use Rattle.std.proofs.Common.{◌≡◌, ℕ, List, length, false, IsTrue, sym, ap, subst, ◌∙◌, inl, inr}
use Rattle.sqlite_trees.specs.Tree.{Trees}
use Rattle.sqlite_trees.specs.View.{View, IsClean, IsRolledBack}
use Rattle.edit_journal.specs.declared.line.Line.{Line}
use Rattle.edit_journal.specs.Lines.{Keeps, edit_tree}
use Rattle.edit_journal.specs.Journals.{OnlySeeks, Stands}
use Rattle.edit_journal.specs.Tables.{Finds, IsJournal, Lists}
use Rattle.edit_journal.proofs.RowLemmas.{rows_are}
use Rattle.edit_journal.proofs.CommitLemmas.{open_if_sound}

was_open : (a b : View) → Finds a b → IsTrue b.is_open → IsTrue a.is_open
was_open a b (inl found) is_open = subst (λ (v : View). IsTrue v.is_open) found.1 is_open
was_open a b (inr made) is_open = made.1.was_open is_open

module _ (given back found read : View) (lines : List Line) (clean : IsClean back) (rolled : IsRolledBack given back) (finds : Finds back found) (shut : found.is_open ≡ false → IsTrue found.is_broken)
    (seeks : OnlySeeks found read) (keeps : Keeps found.trees lines) where
  back_open : IsTrue back.is_open
  back_open = was_open back found finds (open_if_sound found shut seeks.sound)

  -- the store was open
  pub over_open : IsTrue given.is_open
  over_open = (rolled.kept clean).was_open back_open

  all_committed : Finds back found → found.trees ≡ found.committed
  all_committed (inl same) = subst (λ (v : View). v.trees ≡ v.committed) (sym same.1) ((rolled.undone back_open).0 ∙ sym ((rolled.kept clean).committed back_open))
  all_committed (inr made) = made.1.committed

  -- what is read is committed
  pub over_stands : (rows : ℕ) → rows ≡ length lines → Stands read rows lines
  over_stands rows count = record {
    shows = record { now = ap (λ (v : View). v.trees edit_tree) seeks.is ∙ keeps; count = count };
    committed = ap (λ (v : View). v.committed edit_tree) seeks.is ∙ ap (λ (t : Trees). t edit_tree) (sym (all_committed finds)) ∙ keeps;
  }

  finds_lines : (others : List Line) → IsJournal given.committed others → Finds back found → lines ≡ others
  finds_lines others journal (inl same) =
      rows_are 1 lines others (sym keeps ∙ ap (λ (v : View). v.trees edit_tree) same.1 ∙ ap (λ (t : Trees). t edit_tree) (rolled.undone back_open).0 ∙ journal.keeps)
  finds_lines others journal (inr made) = absurd (made.0 (subst Lists (sym (rolled.undone back_open).0) journal.lists))

  -- the lines of a journal are those that are read
  pub over_found : (others : List Line) → IsJournal given.committed others → lines ≡ others
  over_found others journal = finds_lines others journal finds
