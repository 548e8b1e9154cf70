use Rattle.std.proofs.Common.{◌≡◌, ap, arith, length, option_map, List, [], ◌∷◌, ◌++◌, ◌+◌, ◌∙◌}
use Rattle.std.proofs.lemmas.Grind.{common_steps}
use Rattle.decode_pool.specs.declared.seat.Seat.{Seat}
use Rattle.script_run.proofs.Judged.{disagreed, lacking}
use Rattle.script_run.proofs.shared.ending.end.Goals as goal

pub returns-in-SeatDisagrees : goal.returns-in-SeatDisagrees
returns-in-SeatDisagrees c =
    let only = c.in_ok-push.ensures.items ∙ ap (λ (xs : List Seat). xs ++ c.args.seat ∷ []) c.new-seats.ensures.items in
    disagreed c.args.seat c.args.desk.seats _ c.in-Err.unfinished.cause c.requires.opened only
    (option_map (λ copy. copy.items) c.in-Err.unfinished.journal) _ _ c.in-SeatDisagrees.is c.in-Err.ensures.err

pub returns-in-SeatMissing : goal.returns-in-SeatMissing
returns-in-SeatMissing c =
    let after : c.next_number-after.result ≡ length c.args.seat.book.receipts.items + 1 =
    grind (arith, common_steps, c.next_number-after.ensures, c.book-3.ensures) in
    lacking c.args.seat c.args.desk.seats _ c.in-Err.unfinished.cause c.requires.opened (c.in_ok-push.ensures.items ∙ ap (λ (xs : List Seat). xs ++ c.args.seat ∷ []) c.new-seats.ensures.items)
    (option_map (λ copy. copy.items) c.in-Err.unfinished.journal) c.next_number-after.result c.requires.number c.in-SeatMissing.is c.in-Err.ensures.err
    after
