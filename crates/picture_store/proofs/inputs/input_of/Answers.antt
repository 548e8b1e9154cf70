use Rattle.std.proofs.Common.{◌≡◌, ap, ◌∙◌, ℕ, List, map}
use Rattle.h264_controls.specs.References.{timestamp}
use Rattle.decode_jobs.specs.Keys.{named_by_all}
use Rattle.picture_store.specs.Referenced.{frames_named, frames_of}
use Rattle.picture_store.proofs.Among.{shown_among}
use Rattle.picture_store.proofs.Prepared.{enough, units_covered, is_input}
use Rattle.picture_store.proofs.inputs.input_of.Goals as goal

pub references_of-requires-clause-covered : goal.references_of-requires-clause-covered
references_of-requires-clause-covered g c =
    let plan = c.in-Plan-Some.plan in
    let units_are : c.deref-2.result.now ≡ named_by_all plan.requests =
    c.deref-2.ensures.value ∙ (c.in_ok-units.ensures ∙ ap named_by_all c.as_slice-requests.ensures) in
    units_covered c.args.keys.now c.args.key c.in-Plan-Some.node.now c.in-Plan-Some.ensures c.args.outcome.now plan
    c.in-Plan-Some.is-0 c.requires.known.0 c.requires.known.1 c.deref-2.result.now c.entries.result.now units_are
    c.entries.ensures c.args.key_slots.now c.requires.right c.requires.ready

pub references_of-requires-clause-least : goal.references_of-requires-clause-least
references_of-requires-clause-least g c =
    let plan = c.in-Plan-Some.plan in
    let units_are : c.deref-2.result.now ≡ named_by_all plan.requests =
    c.deref-2.ensures.value ∙ (c.in_ok-units.ensures ∙ ap named_by_all c.as_slice-requests.ensures) in
    enough c.args.keys.now c.args.key c.in-Plan-Some.node.now c.in-Plan-Some.ensures c.args.outcome.now plan
    c.in-Plan-Some.is-0 c.requires.known.0 c.requires.known.1 c.deref-2.result.now c.entries.result.now units_are
    c.entries.ensures

pub returns-clause-known : goal.returns-clause-known
returns-clause-known g c = λ known has.
    let plan = c.in-Plan-Some.plan in
    let units_are : c.deref-2.result.now ≡ named_by_all plan.requests =
    c.deref-2.ensures.value ∙ (c.in_ok-units.ensures ∙ ap named_by_all c.as_slice-requests.ensures) in
    let frames_are : c.deref.result.now ≡ frames_of plan.requests =
    c.deref.ensures.value ∙ (c.in_ok-frames.ensures ∙ ap frames_of c.as_slice-requests.ensures) in
    is_input c.args.keys.now c.args.key c.in-Plan-Some.node.now c.in-Plan-Some.ensures c.args.outcome.now plan
    c.in-Plan-Some.is-0 known has c.deref-2.result.now c.entries.result.now units_are c.entries.ensures c.args.key_slots.now
    c.requires.right c.requires.ready c.in_ok-references.references.items c.in_ok-copies.field-0.items c.new.result
    c.in_ok-references.ensures.shown
    (c.in_ok-references.ensures.times
    ∙ ap (λ (frames : List ℕ). map timestamp (frames_named frames c.deref-2.result.now)) frames_are)
    (c.in_ok-copies.ensures ∙ c.as_slice-requests.ensures) c.new.ensures

pub returns-clause-held : goal.returns-clause-held
returns-clause-held g c =
    rw (c.new.ensures)
    (shown_among c.args.key_slots.now c.deref-2.result.now c.entries.result.now c.in_ok-references.references.items
    c.in_ok-references.ensures.shown)
