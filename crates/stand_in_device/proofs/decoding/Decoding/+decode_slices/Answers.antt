use Rattle.std.proofs.Common.{rules, ℕ, List, inr, subst}
use Rattle.std.proofs.lemmas.List.{append-nil}
use Rattle.sha2.specs.Hashers.{Holds256}
use Rattle.stand_in_device.specs.Pictures.{record_of}
use Rattle.stand_in_device.proofs.Slices.{last_is, more_are, ok_map, records}
use Rattle.stand_in_device.proofs.decoding.Decoding.+decode_slices.Goals as goal

pub decode_slices-requires : goal.decode_slices-requires
decode_slices-requires t c =
    let goes = more_are c.args.timestamp c.args.slices.now c.slice-item.result c.in-len1-up.len_at_least c.slice-item.is c.requires.one c.requires.holds in
    let held = rw (goes.hold, goes.time_is) at c.in_ok-decoding-in-len1-up.ensures.captures in
    (search rules, (inr held, (goes.one, goes.holds)))

pub returns-in-len1-clause-digest : goal.returns-in-len1-clause-digest
returns-in-len1-clause-digest t c =
    let last = last_is c.args.timestamp c.args.slices.now c.last-item.result c.in-len1.len_at_least c.in-len1.len_below c.last-item.is c.requires.one c.requires.holds in
    rw (last.whole, append-nil) (rw last.time_is at c.decode_slice.ensures.digest)

pub returns-in_ok-decoding-in-len1-up-clause-digest :
    goal.returns-in_ok-decoding-in-len1-up-clause-digest
returns-in_ok-decoding-in-len1-up-clause-digest t c =
    let goes = more_are c.args.timestamp c.args.slices.now c.slice-item.result c.in-len1-up.len_at_least c.slice-item.is c.requires.one c.requires.holds in
    let held = rw (goes.hold, goes.time_is) at c.in_ok-decoding-in-len1-up.ensures.captures in
    let frames = c.in_ok-decoding-in-len1-up.ensures.frames in
    ok_map c.decode_slices.result _ _ c.decode_slices.ensures.digest (λ after law m was.
    let first = rw goes.time_is at c.in_ok-decoding-in-len1-up.ensures.digest in
    let all = rw frames at (law _ (inr (held, first m was))) in
    subst (λ (n : List ℕ). Holds256 c.decode_slices.new.slice_digest.hasher n) (records (record_of c.args.slice_digest.now.frames.items) c.args.slices.now c.slice-item.result m goes.whole) all)
