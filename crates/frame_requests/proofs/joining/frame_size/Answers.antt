use Rattle.std.proofs.Common.{◌≡◌, ◌∙◌, ◌+◌, ◌<◌, ◌≤◌, ℕ, ap, length, arith}
use Rattle.std.proofs.lemmas.List.{take_all}
use Rattle.std.proofs.lemmas.List.Folds.{length-flat_map-take}
use Rattle.frame_requests.specs.FrameBytes.{bytes_of, frame_size}
use Rattle.frame_requests.proofs.joining.frame_size.Goals as goal

too-many : (size next before item total limit : ℕ) → size ≡ before → next ≡ item → before + item ≤ total
    → (size + next < limit → ⊥) → total < limit → ⊥
too-many size next before item total limit is next_is more large fits = large (omega arith)

-- the bytes of the slices so far and of the next one are too many, and so are those of all
pub returns-in_default : goal.returns-in_default
returns-in_default c =
    let slices = c.args.slices.now in
    let place = c.loop-slice.slice-index in
    let item = c.slice-item.result in
    let next = c.len.ensures.value ∙ (ap length c.bytes.ensures ∙ ap (λ slice. length (bytes_of slice)) c.slice-item.is) in
    too-many c.loop-slice.size c.len.result _ _ _ _ c.loop-slice.invariant.so_far next
    (length-flat_map-take bytes_of slices place item c.loop-slice-test.true) (λ fits. c.in_default.ensures {u = tt} fits)

pub returns : goal.returns
returns c =
    let all : c.loop-slice.size ≡ frame_size c.args.slices.now =
    c.loop-slice.invariant.so_far ∙ ap frame_size (take_all c.loop-slice.slice-index c.args.slices.now c.loop-slice-test.false) in
    (rw (← all) c.loop-slice.invariant.fits, all)
