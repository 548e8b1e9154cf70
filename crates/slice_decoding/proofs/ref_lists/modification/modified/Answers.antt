use Rattle.std.proofs.Common.{rules, ◌≡◌, ◌<◌, ◌∙◌, length, take, get_or, arith, refl, sym, to_z, SFits, w64}
use Rattle.std.proofs.lemmas.Int.{to_z-of_z}
use Rattle.std.proofs.lemmas.List.{take_min, get_or_default, length-take}
use Rattle.h264_types.specs.declared.slice_headers.ref_pic_list_modification.RefPicListModification.TheVariants.{Subtract}
use Rattle.slice_decoding.proofs.Modifications.{outcome_from-None, IsModifiedTo-more}
use Rattle.slice_decoding.proofs.ref_lists.modification.modified.Goals as goal

pub returns-in_default : goal.returns-in_default
returns-in_default c =
    let loop = c.loop-index in
    let list = c.args.list in
    let commands = take (length list) c.args.commands.now in
    let taken : take c.min-count.result c.args.commands.now ≡ commands = rw (c.min-count.ensures, c.entries.ensures.value) (take_min (length list) c.args.commands.now) in
    let command = get_or commands loop.index (Subtract 0) in
    let below = rw taken at c.loop-index-test.true in
    let read = get_or_default commands loop.index (Subtract 0) command below in
    let fits : SFits w64 c.no_wrap-number.result = search rules in
    let next = rw taken at c.no_wrap-number.ensures.value in
    let named = rw (taken, to_z-of_z w64 c.no_wrap-number.result fits, next) at c.named-named.ensures in
    let none = sym (rw named at c.place_in.ensures) ∙ c.in_default.is in
    rw (outcome_from-None c.args.sps.now c.args.frame_num c.args.frames.now commands list loop.index (to_z w64 loop.number-bits) loop.list loop.invariant command below read none) refl

pub loop-index-preserved : goal.loop-index-preserved
loop-index-preserved c =
    let loop = c.loop-index in
    let list = c.args.list in
    let commands = take (length list) c.args.commands.now in
    let taken : take c.min-count.result c.args.commands.now ≡ commands = rw (c.min-count.ensures, c.entries.ensures.value) (take_min (length list) c.args.commands.now) in
    let command = get_or commands loop.index (Subtract 0) in
    let below = rw taken at c.loop-index-test.true in
    let read = get_or_default commands loop.index (Subtract 0) command below in
    let fits : SFits w64 c.no_wrap-number.result = search rules in
    let next = rw taken at c.no_wrap-number.ensures.value in
    let named = rw (taken, to_z-of_z w64 c.no_wrap-number.result fits, next) at c.named-named.ensures in
    let found = sym (rw named at c.place_in.ensures) ∙ c.in-Some.is in
    let inside : loop.index < length list = omega (arith, length-take (length list) c.args.commands.now, below) in
    rw (to_z-of_z w64 c.no_wrap-number.result fits, c.put.ensures, next)
    (IsModifiedTo-more c.args.sps.now c.args.frame_num c.args.frames.now commands list loop.index (to_z w64 loop.number-bits) loop.list loop.invariant command below read
    c.in-Some.place found inside (rw next at c.no_wrap-number.ensures.low) (rw next at c.no_wrap-number.ensures.high))
