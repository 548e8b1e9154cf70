-- What a journal that is opened begins with.
use Rattle.std.proofs.Common.{◌≡◌, ℕ, List, [], ◌∷◌, ◌++◌, length, None, IsTrue, sym, ap, subst, ◌∙◌, length-append, arith}
use Rattle.std.specs.List.{AllByRecursion}
use Rattle.sqlite_trees.specs.Tree.{Trees}
use Rattle.sqlite_trees.specs.View.{IsClean}
use Rattle.sqlite_trees.specs.declared.store.Store.{Ghosts}
use Rattle.stream_edits.specs.declared.edits.Edit.{Edit}
use Rattle.edit_journal.specs.declared.journal.Journal.{Journal}
use Rattle.edit_journal.specs.declared.line.Line.{Line}
use Rattle.edit_journal.specs.Journals.{Stands}
use Rattle.edit_journal.specs.Lines.{edit_tree}
use Rattle.session_journal.specs.declared.steps.step.RecordedStep.{RecordedStep}
use Rattle.session_journal.specs.declared.steps.step.RecordedStep.TheVariants.{Edits, Load}
use Rattle.session_journal.specs.RecordRows.{IsStep, given_after_edits}
use Rattle.session_journal.specs.Records.{given_by_steps, lines_of_steps}
use Rattle.session_journal.proofs.LineLemmas.{given_then}
use Rattle.session_journal.specs.declared.session_journal.SessionJournal.{SessionJournal}
use Rattle.session_journal.specs.Standing.{HasSteps, IsEnd, Standing}
use Rattle.session_journal.proofs.CountLemmas.{all_last, length-rows_of_edits}

-- a list has one last item
pub last_is : {X : Type 0} (xs ys : List X) (x y : X) → xs ++ x ∷ [] ≡ ys ++ y ∷ [] → x ≡ y
last_is [] [] x y is = cc
last_is [] (b ∷ ys) x y is =
    let long : length (x ∷ []) ≡ length (b ∷ (ys ++ y ∷ [])) = ap length is in absurd (omega (arith, long, length-append ys (y ∷ [])))
last_is (a ∷ xs) [] x y is =
    let long : length (a ∷ (xs ++ x ∷ [])) ≡ length (y ∷ []) = ap length is in absurd (omega (arith, long, length-append xs (x ∷ [])))
last_is (a ∷ xs) (b ∷ ys) x y is = let tail : xs ++ x ∷ [] ≡ ys ++ y ∷ [] = cc in last_is xs ys x y tail

pub edits_are : (a b : List Edit) → Edits a ≡ Edits b → a ≡ b
edits_are a b is = cc

pub not_edits : (a b : List Edit) → Load a ≡ Edits b → ⊥
not_edits a b is = cc

module _ {S : Type 0} (g : Ghosts S) where
  -- the lines that were read are those of the steps
  pub opened_has : (journal : Journal S) (lines : List Line) (steps : List RecordedStep) → lines ≡ lines_of_steps 0 1 steps → journal.entries ≡ length steps
      → (IsClean (g.view journal.store) → Stands (g.view journal.store) journal.rows lines)
      → ((db : Trees) → IsTrue (g.view journal.store).is_open → g.recovers journal.store db → db ≡ (g.view journal.store).committed) → HasSteps g journal steps
  opened_has journal lines steps is entries given settled = record {
    entries = entries;
    lasts = λ clean is_open.
        let stands = subst (Stands (g.view journal.store) journal.rows) is (given clean) in
        record { stands = stands; leaves = λ db may. ap (λ (t : Trees). t edit_tree) (settled db is_open may) ∙ stands.committed };
  }

  -- and a last step of edits is known
  pub opened_end : (it : SessionJournal S) (steps front : List RecordedStep) (edits : List Edit) → steps ≡ front ++ Edits edits ∷ [] → Standing g it steps → AllByRecursion IsStep steps
      → it.last.rows ≡ length edits → ((before : ℕ) → it.given ≡ given_after_edits before edits → it.last.before ≡ before) → it.last.load ≡ None → IsEnd g it front (Edits edits)
  opened_end it steps front edits is stands are rows before load =
      let step = all_last IsStep front (Edits edits) (subst (AllByRecursion IsStep) is are) in
      record {
        stands = subst (Standing g it) is stands;
        before = before (given_by_steps 0 front) (stands.given ∙ ap (given_by_steps 0) is ∙ given_then 0 front (Edits edits));
        rows = rows ∙ sym (length-rows_of_edits it.last.before edits);
        some = omega (arith, rows, step);
        load = load;
      }
