-- What is said of a desk with one seat that isn't finished.
use Rattle.std.proofs.Common.{◌≡◌, ℕ, ◌+◌, List, [], ◌∷◌, length, Option, Some, None, refl, inl, inr}
use Rattle.stream_edits.specs.declared.edits.Edit.{Edit}
use Rattle.decode_pool.specs.Finishing.{HasFault, IsFault, LacksBook}
use Rattle.decode_pool.specs.declared.faults.FinishFault.{FinishFault}
use Rattle.decode_pool.specs.declared.faults.FinishFault.TheVariants as faults
use Rattle.decode_pool.specs.declared.seat.Seat.{Seat}
use Rattle.script_run.specs.Verdicts.{IsDisagreed}
use Rattle.script_run.proofs.Numbered.{one-numbered}

module _ (it : Seat) (opened : ℕ) (seats : List Seat) (cause : FinishFault) (one : opened ≡ 1) (only : seats ≡ it ∷ []) where
  -- a receipt that disagrees is told
  pub disagreed : (journal : Option (List (List Edit))) (of number : ℕ) → cause ≡ faults.SeatDisagrees of number
      → IsFault opened seats cause journal → IsDisagreed it of number
  disagreed None of number is fault =
      let none : ⊥ = rw (one, only, is) at fault in absurd none
  disagreed (Some journal) of number is fault =
      let first : HasFault 1 (it ∷ []) journal of number = rw (one, only, is) at fault in (journal, inl first)

  -- the seat isn't missing, so an edit stands in no book
  pub lacking : (journal : Option (List (List Edit))) (number : ℕ) → it.number ≡ 1 → cause ≡ faults.SeatMissing
      → IsFault opened seats cause journal → number ≡ length it.book.receipts.items + 1 → IsDisagreed it 1 number
  lacking None number first is fault after =
      let missing = rw (one, only, is) at fault in absurd (missing (one-numbered it first))
  lacking (Some journal) number first is fault after =
      let lacks : LacksBook 1 (it ∷ []) journal = rw (one, only, is) at fault in (journal, inr (lacks, refl, after))
