use Rattle.std.proofs.Common.{◌<◌, length, arith, sym}
use Rattle.std.proofs.lemmas.List.{length-map}
use Rattle.std.proofs.lemmas.Option.{slice_get_within}
use Rattle.stream_edits.specs.Streams.{ids_of}
use Rattle.stream_session.proofs.Placed.{found}
use Rattle.script_run.proofs.run.doubt_of.Goals as goal

pub doubts-requires : goal.doubts-requires
doubts-requires c =
    let stream = c.args.session.now.register.stream in
    let ids = ids_of stream in
    let at = c.in-Some.at in
    let within : at < length ids = slice_get_within ids at c.args.id (found ids c.args.id at (sym c.in-Some.ensures)) in
    let long = length-map stream (λ unit. unit.0) in
    omega (arith, within, long)
