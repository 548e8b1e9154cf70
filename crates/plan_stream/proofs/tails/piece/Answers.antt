use Rattle.std.proofs.Common.{◌∙◌, ◌-◌, ℕ, get_or, take, drop, arith, sym, ap}
use Rattle.plan_stream.proofs.Pieces.{piece_at, piece_within}
use Rattle.plan_stream.proofs.tails.piece.Goals as goal

pub split_at-requires : goal.split_at-requires
split_at-requires c =
    let within = piece_within 0 c.args.ends.now c.args.text.now c.args.place c.requires.ends c.requires.within in
    omega (arith, within.0, within.1, c.start_of-start.ensures)

pub overflow_sub-end : goal.overflow_sub-end
overflow_sub-end c =
    let within = piece_within 0 c.args.ends.now c.args.text.now c.args.place c.requires.ends c.requires.within in
    omega (arith, within.0, c.start_of-start.ensures)

pub split_at-requires-2 : goal.split_at-requires-2
split_at-requires-2 c =
    let within = piece_within 0 c.args.ends.now c.args.text.now c.args.place c.requires.ends c.requires.within in
    omega (arith, within.0, within.1, c.split_at.ensures.back_len)

pub returns : goal.returns
returns c =
    let ends = c.args.ends.now in
    let text = c.args.text.now in
    let place = c.args.place in
    c.split_at-2.ensures.front ∙ ap (take (get_or ends place 0 - c.start_of-start.result)) c.split_at.ensures.back
    ∙ ap (λ (start : ℕ). take (get_or ends place 0 - start) (drop start text)) c.start_of-start.ensures
    ∙ sym (piece_at 0 ends text place c.requires.within)
