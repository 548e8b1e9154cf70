-- The slices of an access unit have no more bytes than its text.
use Rattle.std.proofs.Common.{ap, length, arith}
use Rattle.annexb.specs.ByteStream.{joined}
use Rattle.picture_keys.proofs.Slices.{slice_bytes-within}
use Rattle.picture_keys.proofs.hashed_unit.UnitHash.of.Goals as goal

pub of-digest-requires : goal.of-digest-requires
of-digest-requires c =
    omega (
      arith,
      c.nals.ensures.accepted.short,
      slice_bytes-within c.args.unit.now,
      ap (λ slices. length (joined slices)) c.slices.ensures,
      c.new-hashed.ensures,
    )
