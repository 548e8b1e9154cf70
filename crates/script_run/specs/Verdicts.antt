-- What the audit of a seat's book comes to (docs/OUTPUT.md).
use Rattle.std.specs.Prelude.{◌≡◌, ◌⊎◌, ℕ, ◌+◌, ◌++◌, Bool, true, false, List, [], ◌∷◌, length, codes, count_by, decimal}
use Rattle.stream_edits.specs.declared.edits.Edit.{Edit}
use Rattle.seat_books.specs.declared.receipts.SeatReceipt.{SeatReceipt}
use Rattle.seat_books.specs.declared.receipts.SeatReceipt.TheVariants as receipts
use Rattle.decode_pool.specs.Finishing.{HasFault, IsFinished, LacksBook, is_edit}
use Rattle.decode_pool.specs.declared.seat.Seat.{Seat}
use Rattle.script_run.specs.declared.shared.audit.Verdict.{Verdict}
use Rattle.script_run.specs.declared.shared.audit.Verdict.TheVariants.{Agreed, Disagrees}

-- the line that says what an audit comes to
abbrev pub verdict_line : Verdict → List ℕ
verdict_line (Agreed edits shows) =
    codes "agreed " ++ (decimal edits ++ (codes " edits " ++ (decimal shows ++ codes " shows\n")))
verdict_line (Disagrees seat number) =
    codes "disagrees seat " ++ (decimal seat ++ (codes " receipt " ++ (decimal number ++ codes "\n")))

-- whether the receipt is of a unit that was shown
abbrev pub is_show : SeatReceipt → Bool
is_show (receipts.Show id answer n) = true
is_show receipt = false

-- a session's journal bears out the book of its desk's one seat, which has so many edits, a group
-- counting as one, and so many shows
pub record IsAgreed (seat : Seat) (edits shows : ℕ) : Type 0 where
  pub journal : List (List Edit)
  pub finished : IsFinished 1 (seat ∷ []) journal
  pub edited : edits ≡ count_by is_edit seat.book.receipts.items
  pub shown : shows ≡ count_by is_show seat.book.receipts.items

-- the journal doesn't: a receipt is the first that doesn't agree with it; or all do, and one of its
-- entries has none, of which the receipt after the last is told
abbrev pub IsDisagreed : Seat → ℕ → ℕ → Type 0
IsDisagreed seat of number = (journal : List (List Edit))
    × (HasFault 1 (seat ∷ []) journal of number
    ⊎ (LacksBook 1 (seat ∷ []) journal × (of ≡ 1) × (number ≡ length seat.book.receipts.items + 1)))

-- what the audit of a seat's book comes to
abbrev pub IsVerdict : Seat → Verdict → Type 0
IsVerdict seat (Agreed edits shows) = IsAgreed seat edits shows
IsVerdict seat (Disagrees of number) = IsDisagreed seat of number
