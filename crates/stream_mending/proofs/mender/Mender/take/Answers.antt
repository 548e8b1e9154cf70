use Rattle.std.proofs.Common.{◌++◌, append_assoc, ap, sym, ◌∙◌}
use Rattle.annexb.specs.ByteStream.{start_code}
use Rattle.stream_mending.proofs.mender.Mender.take.Goals as goal

pub loop-piece-preserved : goal.loop-piece-preserved
loop-piece-preserved c =
    let piece = c.in-Some.piece in
    let before = piece.bytes.now ++ start_code in
    let taken = c.loop-piece.invariant.suffix.0 in
    record {
      so_far = λ text written more said h.
          c.in_ok-take_piece.ensures text written (c.loop-piece.rest.now ++ more) (piece.rest.now ++ more) said (c.in-Some.ensures.cut more)
          (c.loop-piece.invariant.so_far text written more said h);
      suffix = (
        taken ++ before,
        c.loop-piece.invariant.suffix.1
            ∙ ap (λ l. taken ++ l) (c.in-Some.ensures.whole ∙ sym (append_assoc piece.bytes.now start_code piece.rest.now))
            ∙ sym (append_assoc taken before piece.rest.now),
      );
    }
