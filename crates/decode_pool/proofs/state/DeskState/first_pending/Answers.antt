use Rattle.std.proofs.Common.{◌<◌, List, ℕ, length, get_or, ap, arith}
use Rattle.std.proofs.lemmas.Option.{slice_get_within, slice_get-get_or}
use Rattle.stream_edits.specs.Streams.{ids_of}
use Rattle.decode_pool.proofs.Pending.{settled_past}
use Rattle.decode_pool.proofs.state.DeskState.first_pending.Goals as goal

pub returns-in-Pending-clause-place : goal.returns-in-Pending-clause-place
returns-in-Pending-clause-place g c =
    let ids : List ℕ = ids_of c.args.self.now.session.register.stream in
    let within : c.loop-at.at < length ids = omega (arith, c.loop-at-test.true, ap length c.ids-units.ensures) in
    let stands = slice_get-get_or ids c.loop-at.at 0 within in
    (get_or ids c.loop-at.at 0, stands, c.in-Pending.ensures (get_or ids c.loop-at.at 0) stands)

pub loop-at-preserved : goal.loop-at-preserved
loop-at-preserved g c =
    settled_past g.P.Decoded.IsOf c.args.self.now.session c.args.from c.loop-at.at c.show_at.result c.show_at.ensures
    c.in_default.not-Pending c.loop-at.invariant

pub returns-clause-place : goal.returns-clause-place
returns-clause-place g c = λ at id from is.
    let ids : List ℕ = ids_of c.args.self.now.session.register.stream in
    let within : at < length ids = slice_get_within ids at id is in
    let past : at < c.loop-at.at = omega (arith, within, c.loop-at-test.false, ap length c.ids-units.ensures) in
    c.loop-at.invariant at id from past is
