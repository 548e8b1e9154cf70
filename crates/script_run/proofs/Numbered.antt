-- A seat keeps its number, and a desk's only seat has the one that it was opened with.
use Rattle.std.proofs.Common.{◌≡◌, ◌∙◌, ℕ, ◌+◌, ◌<◌, ◌≤◌, ◌==◌, Bool, cond, List, [], ◌∷◌, length, refl, ap, subst, sym, inl, inr, arith}
use Rattle.std.specs.Prelude.{All, Err, Ok, Result, slice_index_or}
use Rattle.console_io.specs.Inputs.{Files}
use Rattle.edit_script.specs.declared.seat_commands.SeatCommand.{SeatCommand}
use Rattle.edit_script.specs.declared.seat_commands.SeatCommand.TheVariants as seat
use Rattle.stream_edits.specs.declared.edits.Edit.{Edit}
use Rattle.stream_edits.specs.declared.group_refused.GroupRefused.{GroupRefused}
use Rattle.stream_edits.specs.declared.receipts.GroupReceipt.{GroupReceipt}
use Rattle.stream_edits.specs.declared.receipts.Receipt.{Receipt}
use Rattle.stream_edits.specs.declared.refusals.EditRefused.{EditRefused}
use Rattle.decode_pool.specs.Finishing.{AreNumbered, seats_of}
use Rattle.decode_pool.specs.Seats.{EditsGroupOne, EditsOne}
use Rattle.decode_pool.specs.declared.seat.Seat.{Seat}
use Rattle.script_run.specs.SharedRunning.{Answers, InsertsAll, InsertsLast, Runs}

-- an edit
edit-keeps : (old : Seat) (edit : Edit) (answer : Result Receipt EditRefused) (new : Seat)
    → EditsOne old edit answer new → new.number ≡ old.number
edit-keeps old edit (Ok receipt) new edits = edits.4.0
edit-keeps old edit (Err refused) new edits = edits.4.0

-- a group of edits
group-keeps : (old : Seat) (edits : List Edit) (answer : Result GroupReceipt GroupRefused) (new : Seat)
    → EditsGroupOne old edits answer new → new.number ≡ old.number
group-keeps old edits (Ok receipt) new makes = makes.4.0
group-keeps old edits (Err refused) new makes = makes.4.0

-- the insertion of a unit
insertion-keeps : (old : Seat) (part : List (List ℕ)) (answer : Result Receipt EditRefused) (new : Seat)
    → InsertsLast old part answer new → new.number ≡ old.number
insertion-keeps old part answer new (inl edits) = edit-keeps old _ answer new edits.2
insertion-keeps old part answer new (inr none) = ap (λ (s : Seat). s.number) none.1

-- the insertion of units
insertions-keep : (count : ℕ) (old : Seat) (parts : List (List (List ℕ))) (lines : List ℕ) (new : Seat)
    → InsertsAll count old parts lines new → new.number ≡ old.number
insertions-keep count old [] lines new done = ap (λ (s : Seat). s.number) done.1
insertions-keep count old (part ∷ parts) lines new (inl more) =
    insertions-keep count more.1 parts lines new more.3 ∙ insertion-keeps old part (Ok more.0) more.1 more.2
insertions-keep count old (part ∷ parts) lines new (inr last) = insertion-keeps old part (Err last.0) new last.1

module _ (files : Files) (hex : Bool) where
  -- the answer to a command
  answer-keeps : (old : Seat) (it : SeatCommand) (lines : List ℕ) (new : Seat)
      → Answers files hex old it lines new → new.number ≡ old.number
  answer-keeps old (seat.Edit edit) lines new answers = edit-keeps old edit answers.0 new answers.1
  answer-keeps old (seat.Group edits) lines new answers = group-keeps old edits.items answers.0 new answers.1
  answer-keeps old (seat.Load path) lines new answers =
      elim answers.2.2 [
        | inl loaded ↦ insertions-keep _ old loaded.0 lines new loaded.3
        | inr refused ↦ ap (λ (s : Seat). s.number) refused.3
      ]
  answer-keeps old seat.Settle lines new answers = ap (λ (s : Seat). s.number) answers.1
  answer-keeps old (seat.SettleFor number) lines new answers = ap (λ (s : Seat). s.number) answers.1
  answer-keeps old (seat.Show number) lines new answers = answers.1.3.0
  answer-keeps old (seat.Drop number) lines new answers = answers.1.4.0
  answer-keeps old seat.Clear lines new answers = ap (λ (s : Seat). s.number) answers.1
  answer-keeps old (seat.Want ids) lines new answers = ap (λ (s : Seat). s.number) answers.1
  answer-keeps old (seat.Rest rest) lines new answers = ap (λ (s : Seat). s.number) answers.1

  -- a run
  pub run-keeps : (from : Seat) (commands : List SeatCommand) (lines : List ℕ) (to : Seat)
      → Runs files hex from commands lines to → to.number ≡ from.number
  run-keeps from [] lines to ran = ap (λ (s : Seat). s.number) ran.1
  run-keeps from (it ∷ commands) lines to ran =
      run-keeps ran.2 commands ran.1 to ran.4 ∙ answer-keeps from it ran.0 ran.2 ran.3

-- the one seat has the one number
pub one-numbered : (it : Seat) → it.number ≡ 1 → AreNumbered 1 (it ∷ [])
one-numbered it is = record {
  within = λ k d below.
      let first : k ≡ 0 = omega (arith, below) in
      subst (λ (n : ℕ). let found = slice_index_or (it ∷ []) n d in (0 < found.number) × (found.number ≤ 1)) (sym first)
      (omega (arith, is), omega (arith, is));
  once = λ n above below.
      let same : n ≡ 1 = omega (arith, above, below) in
      subst (λ (m : ℕ). seats_of (it ∷ []) m ≡ 1) (sym same)
      (ap (λ (m : ℕ). 0 + cond (m == 1) 1 0) is);
}
