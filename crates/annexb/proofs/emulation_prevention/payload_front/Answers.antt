-- Piece by piece the prefix of the payload is written, and what stands after it stays.
use Rattle.std.proofs.Common.{◌+◌, ◌-◌, ◌++◌, length, take, ⊎_elim, inl, inr, append_assoc, ap, sym, ◌∙◌, arith}
use Rattle.annexb.specs.EmulationPrevention.{payload_of}
use Rattle.annexb.proofs.Fronts.{front_more, front_whole, front_kept}
use Rattle.annexb.proofs.emulation_prevention.payload_front.Goals as goal

pub returns-then-written-limit-clause-written : goal.returns-then-written-limit-clause-written
returns-then-written-limit-clause-written c =
    let loop = c.loop-written in
    let piece = c.plain_len-len in
    let room = piece.ensures.below in
    front_more loop.front loop.rest.now c.copy_from_slice.new.self loop.written piece.result _ (omega arith) piece.ensures.in_range c.copy_from_slice.ensures.after
    ∙ front_whole loop.front loop.rest.now (payload_of c.args.nal.now) loop.written piece.result (length c.args.front.now) piece.ensures (sym loop.auto.front) (omega arith) loop.invariant.so_far (⊎_elim (λ full. inl full) (λ other. inr other.1) c.then-written-limit.either)

pub returns-then-written-limit-clause-rest : goal.returns-then-written-limit-clause-rest
returns-then-written-limit-clause-rest c =
    let loop = c.loop-written in
    let piece = c.plain_len-len in
    let room = piece.ensures.below in
    front_kept loop.front c.args.front.now loop.rest.now c.copy_from_slice.new.self loop.written piece.result _ (omega arith) (omega arith) piece.ensures.in_range c.copy_from_slice.ensures.after loop.invariant.kept

pub loop-written-preserved : goal.loop-written-preserved
loop-written-preserved c =
    let loop = c.loop-written in
    let piece = c.plain_len-len in
    let room = piece.ensures.below in
    let inside = piece.ensures.in_range in
    let more = front_more loop.front loop.rest.now c.copy_from_slice.new.self loop.written piece.result (loop.written + piece.result - loop.written) (omega arith) inside c.copy_from_slice.ensures.after in
    let left_out = piece.ensures.left_out (omega arith) (omega arith) in
    record {
      in_range = omega arith;
      so_far = rw (more, c.split_at.ensures.back) (append_assoc (take loop.written loop.front) (take piece.result loop.rest.now) _ ∙ ap (λ l. take loop.written loop.front ++ l) (sym left_out) ∙ loop.invariant.so_far);
      kept = front_kept loop.front c.args.front.now loop.rest.now c.copy_from_slice.new.self loop.written piece.result (loop.written + piece.result - loop.written) (omega arith) (omega arith) inside c.copy_from_slice.ensures.after loop.invariant.kept;
    }
