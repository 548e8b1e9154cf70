-- What calls of a store come to together.
use Rattle.std.proofs.Common.{◌≡◌, ℕ, ◌+◌, ◌≤◌, List, [], ◌∷◌, ◌++◌, length, take, drop, ℤ, pos, Some, None, Result, Ok, Err, IfOk, OnErr, false, refl, sym, ap, subst, ◌∙◌, inl, inr, append_assoc, length-append, arith}
use Rattle.std.proofs.lemmas.List.{append-nil, length-take, drop-drop, drop_all}
use Rattle.sqlite_value.specs.Order.{Row}
use Rattle.sqlite_trees.specs.Tree.{Trees, with_tree, sought, order_of, put_row, without_rowid}
use Rattle.sqlite_trees.specs.declared.store.Direction.TheVariants.{Forward}
use Rattle.sqlite_trees.specs.View.{View, IsQuiet, OnlyWrites, SetsTree, with_cursor}
use Rattle.sqlite_trees.specs.declared.store.Store.{Ghosts}
use Rattle.edit_journal.specs.declared.line.Line.{Line}
use Rattle.edit_journal.specs.declared.line.RowStep.{RowStep}
use Rattle.edit_journal.specs.Lines.{Keeps, row_of, rows_from, lines_of, edit_tree}
use Rattle.edit_journal.specs.Journals.{Takes, OnlySeeks, PutsRow, KeepsCommit, edit_cursor}
use Rattle.edit_journal.proofs.RowLemmas.{put_last, without_next, rows_split, rows_then, lines_then, length-lines_from, from_no_key}

module _ {S : Type 0} (g : Ghosts S) where
  abbrev pub Quiet : S → S → Type 0
  Quiet = IsQuiet g.view g.faults g.recovers g.is_shielded

  pub quiet_same : (a : S) → Quiet a a
  quiet_same a = record { shield = λ h. h; clean = omega arith; counts = omega arith; closes = λ _ h. inl h; outcomes = λ _ h. h }

  pub quiet_then : (a b c : S) → Quiet a b → Quiet b c → Quiet a c
  quiet_then a b c s t = record {
    counts = omega (arith, s.counts, t.counts);
    clean = omega (arith, s.clean, t.clean);
    shield = λ h. t.shield (s.shield h);
    closes = λ none h. elim (s.closes (omega (arith, t.clean)) h)
        [ inl still ↦ elim (t.closes none still) [ inl open_now ↦ inl open_now | inr fault ↦ inr (omega (arith, s.counts)) ] | inr fault ↦ inr (omega (arith, t.counts)) ];
    outcomes = λ db may. s.outcomes db (t.outcomes db may);
  }

-- ---- reading

-- the lines are read, and the cursor has the rows behind them
pub record Reads (old now : View) (lines : List Line) : Type 0 where
  pub left : List Row
  pub stands : now.cursors edit_cursor ≡ Some left
  pub rows : old.trees edit_tree ≡ rows_from 1 lines ++ left
  pub seeks : OnlySeeks old now

pub reads_begin : (old now : View) (key : Row) → old.is_broken ≡ false → now ≡ with_cursor old edit_cursor (sought (order_of (old.shape edit_tree)) Forward key (old.trees edit_tree)) → key ≡ []
    → Reads old now []
reads_begin old now key sound given none =
    let is : now ≡ with_cursor old edit_cursor (sought (order_of (old.shape edit_tree)) Forward [] (old.trees edit_tree)) =
    subst (λ (k : Row). now ≡ with_cursor old edit_cursor (sought (order_of (old.shape edit_tree)) Forward k (old.trees edit_tree))) none given in record {
      left = old.trees edit_tree;
      stands = ap (λ (v : View). v.cursors edit_cursor) is ∙ ap Some (from_no_key (order_of (old.shape edit_tree)) (old.trees edit_tree));
      rows = refl;
      seeks = record { sound = sound; is = subst (λ (v : View). v ≡ record old { cursors = v.cursors }) (sym is) refl };
    }

seeks_then : (old now new : View) → OnlySeeks old now → new ≡ record now { cursors = new.cursors } → OnlySeeks old new
seeks_then old now new first is = record { sound = first.sound; is = subst (λ (v : View). new ≡ record v { cursors = new.cursors }) first.is is }

pub reads_more : (old now new : View) (lines : List Line) (line : Line) (number : ℕ) → number ≡ 1 + length lines → Reads old now lines → Takes now new number (Some line) → Reads old new (lines ++ line ∷ [])
reads_more old now new lines line number is reads takes =
    let left : reads.left ≡ row_of number line ∷ takes.0 = let both = sym reads.stands ∙ takes.1 in cc in
    record {
      left = takes.0;
      stands = ap (λ (v : View). v.cursors edit_cursor) takes.2;
      rows = reads.rows ∙ ap (λ rows. rows_from 1 lines ++ rows) left ∙ rows_then 1 lines line takes.0 number is;
      seeks = seeks_then old now new reads.seeks (subst (λ (v : View). v ≡ record now { cursors = v.cursors }) (sym takes.2) refl);
    }

pub reads_all : (old now new : View) (lines : List Line) (number : ℕ) → Reads old now lines → Takes now new number None → Keeps old.trees lines × OnlySeeks old new
reads_all old now new lines number reads takes =
    let left : reads.left ≡ [] = let both = sym reads.stands ∙ takes.0 in cc in
    (reads.rows ∙ rw left (append-nil (rows_from 1 lines)), subst (OnlySeeks old) (sym takes.1) reads.seeks)

-- ---- writing

pub writes_nothing : (v : View) → OnlyWrites v v
writes_nothing v = refl

pub writes_then : (old now new : View) (edit : List Row → List Row) → OnlyWrites old now → SetsTree now new edit_tree edit → OnlyWrites old new
writes_then old now new edit first set =
    let t = with_tree now.trees edit_tree (edit (now.trees edit_tree)) in
    let whole : new ≡ record old { trees = t; cursors = new.cursors } = subst (λ (v : View). new ≡ record v { trees = t; cursors = new.cursors }) first set.is in
    subst (λ (trees : Trees). new ≡ record old { trees = trees; cursors = new.cursors }) (sym (ap (λ (v : View). v.trees) whole)) whole

pub set_rows : (now new : View) (edit : List Row → List Row) → SetsTree now new edit_tree edit → new.trees edit_tree ≡ edit (now.trees edit_tree)
set_rows now new edit set = ap (λ (v : View). v.trees edit_tree) set.is

-- what is written but not committed leaves the last commit
pub writes_keep : (old now new : View) → OnlyWrites old now → KeepsCommit now new → KeepsCommit old new
writes_keep old now new writes keeps = record {
  was_open = λ is_open. sym (ap (λ (v : View). v.is_open) writes) ∙ keeps.was_open is_open;
  committed = λ is_open. keeps.committed is_open ∙ ap (λ (v : View). v.committed) writes;
}

pub written_keeps : (old now : View) → OnlyWrites old now → KeepsCommit old now
written_keeps old now writes = writes_keep old now now writes (record { was_open = λ h. h; committed = λ _. refl })

pub if_ok : {T E : Type 0} (r : Result T E) (P Q : T → Type 0) → ((x : T) → P x → Q x) → IfOk r P → IfOk r Q
if_ok (Ok x) P Q then p = then x p
if_ok (Err e) P Q then p = tt

pub on_err_then : {T E : Type 0} (r : Result T E) (P Q : Type 0) → (P → Q) → OnErr r P → OnErr r Q
on_err_then (Ok x) P Q then p = tt
on_err_then (Err e) P Q then p = then p

pub on_err : {T E : Type 0} (r : Result T E) (P : Type 0) → P → OnErr r P
on_err (Ok x) P p = tt
on_err (Err e) P p = p

-- the rows of these steps stand behind those that were there
pub record Puts (old now : View) (rows entry : ℕ) (steps : List RowStep) : Type 0 where
  pub writes : OnlyWrites old now
  pub keeps : (lines : List Line) → Keeps old.trees lines → rows ≡ length lines → Keeps now.trees (lines ++ lines_of entry steps)

pub puts_nothing : (v : View) (rows entry : ℕ) → Puts v v rows entry []
puts_nothing v rows entry = record { writes = refl; keeps = λ lines keeps _. keeps ∙ ap (rows_from 1) (sym (append-nil lines)) }

pub puts_more : (old now new : View) (rows entry : ℕ) (steps : List RowStep) (step : RowStep) (number place : ℕ) → place ≡ length steps → number ≡ rows + length steps + 1 → Puts old now rows entry steps
    → PutsRow now new (row_of number (record { entry = entry; place = place; step = step })) → Puts old new rows entry (steps ++ step ∷ [])
puts_more old now new rows entry steps step number place at_place at puts row =
    let line : Line = record { entry = entry; place = place; step = step } in
    record {
      writes = writes_then old now new (put_row (row_of number line)) puts.writes row;
      keeps = λ lines keeps count.
          let before = puts.keeps lines keeps count in
          let long : number ≡ 1 + length (lines ++ lines_of entry steps) = omega (arith, length-append lines (lines_of entry steps), length-lines_from entry 0 steps) in
          set_rows now new (put_row (row_of number line)) row ∙ ap (put_row (row_of number line)) before ∙ put_last 1 (lines ++ lines_of entry steps) line number long
          ∙ ap (rows_from 1) (append_assoc lines (lines_of entry steps) (line ∷ []) ∙ ap (λ more. lines ++ more) (sym (lines_then entry 0 steps step place (omega arith))));
    }

-- of the rows behind the first `left`, those up to this number are deleted
pub record Deletes (old now : View) (rows left deleted : ℕ) : Type 0 where
  pub writes : OnlyWrites old now
  pub keeps : (lines : List Line) → Keeps old.trees lines → rows ≡ length lines → now.trees edit_tree ≡ rows_from 1 (take left lines) ++ rows_from (deleted + 1) (drop deleted lines)

pub deletes_nothing : (v : View) (rows left : ℕ) → Deletes v v rows left left
deletes_nothing v rows left = record { writes = refl; keeps = λ lines keeps count. keeps ∙ rows_split 1 left lines (left + 1) (omega arith) }

pub deletes_more : (old now new : View) (rows left deleted : ℕ) (id : ℤ) → left ≤ deleted → Deletes old now rows left deleted → SetsTree now new edit_tree (without_rowid id) → id ≡ pos (deleted + 1)
    → Deletes old new rows left (deleted + 1)
deletes_more old now new rows left deleted id less first given is =
    let set = subst (λ (n : ℤ). SetsTree now new edit_tree (without_rowid n)) is given in record {
      writes = writes_then old now new (without_rowid (pos (deleted + 1))) first.writes set;
      keeps = λ lines keeps count.
          let short : 1 + length (take left lines) ≤ deleted + 1 = omega (arith, length-take left lines) in
          set_rows now new (without_rowid (pos (deleted + 1))) set ∙ ap (without_rowid (pos (deleted + 1))) (first.keeps lines keeps count)
          ∙ without_next 1 (take left lines) (deleted + 1) (drop deleted lines) short
          ∙ ap (λ (more : List Line). rows_from 1 (take left lines) ++ rows_from (deleted + 1 + 1) more) (drop-drop 1 deleted lines);
    }

pub deletes_all : (old now : View) (rows left deleted : ℕ) → rows ≤ deleted → Deletes old now rows left deleted → (lines : List Line) → Keeps old.trees lines → rows ≡ length lines
    → Keeps now.trees (take left lines)
deletes_all old now rows left deleted past deletes lines keeps count =
    deletes.keeps lines keeps count ∙ ap (λ (more : List Line). rows_from 1 (take left lines) ++ rows_from (deleted + 1) more) (drop_all deleted lines (omega arith)) ∙ append-nil (rows_from 1 (take left lines))
