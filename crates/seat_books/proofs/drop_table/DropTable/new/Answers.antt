use Rattle.std.proofs.Common.{◌≡◌, ℕ, List, [], ◌∷◌, length, length-append, ap, sym, subst, arith}
use Rattle.std.specs.Prelude.{option_map, slice_get, unwrap_or, Vec}
use Rattle.std.specs.Global.{Global}
use Rattle.seat_books.specs.declared.drop_table.SeatDrop.{SeatDrop}
use Rattle.seat_books.proofs.Tabled.{none_more}
use Rattle.seat_books.proofs.drop_table.DropTable.new.Goals as goal

pub loop-at-preserved : goal.loop-at-preserved
loop-at-preserved c =
    let items = c.in_ok-push-2.ensures.items in
    let longer = length-append c.loop-at.by_length.items (c.new-in-loop-at.result ∷ []) in
    record {
      size = omega (arith, ap length items, longer, c.loop-at.invariant.size);
      none =
          subst (λ (lists : List (Vec SeatDrop Global)). (n : ℕ) → unwrap_or (option_map (λ drops. drops.items) (slice_get lists n)) [] ≡ [])
          (sym items)
          (none_more c.loop-at.by_length.items c.new-in-loop-at.result c.new-in-loop-at.ensures.items c.loop-at.invariant.none);
    }

pub returns-clause-size : goal.returns-clause-size
returns-clause-size c = omega (arith, c.loop-at.invariant.size, c.loop-at-test.false, c.loop-at.auto._at-end)
