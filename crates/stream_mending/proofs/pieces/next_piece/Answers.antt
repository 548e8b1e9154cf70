use Rattle.stream_mending.proofs.Cuts.{found_cut_more, found_whole, none_cut}
use Rattle.stream_mending.proofs.pieces.next_piece.Goals as goal

pub returns-in-Some : goal.returns-in-Some
returns-in-Some c = record {
  whole = rw (c.split_at.ensures.front, c.split_at-in-Some.ensures.back)
      (found_whole c.args.bytes.now c.in-Some.len c.in-Some.ensures.1);
  cut = λ more. rw (c.split_at.ensures.front, c.split_at-in-Some.ensures.back)
      (found_cut_more c.args.bytes.now c.in-Some.len more c.in-Some.ensures);
}

pub returns-in-None : goal.returns-in-None
returns-in-None c = none_cut c.args.bytes.now c.in-None.ensures
