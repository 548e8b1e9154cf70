use Rattle.std.proofs.Common.{◌≡◌, ◌+◌, ◌<◌, List, ℕ, Some, arith, subst}
use Rattle.stream_edits.specs.Edits.{most_ids}
use Rattle.picture_keys.specs.Units.{AreDifferent}
use Rattle.stream_edits.specs.Streams.{start_among}
use Rattle.edit_history.proofs.Led.{IsStream-differ, Leads-inserted}
use Rattle.edit_history.proofs.draft.TextDraft.insert.Goals as goal

pub returns-clause-makes : goal.returns-clause-makes
returns-clause-makes c = λ old before after is more.
    let ids = c.args.self.now.ids.items in
    let given = c.args.self.now.ids_given in
    let place = c.place_at.result in
    let number_is : c.in-Some.number ≡ given + 1 = grind (arith, c.in-Some.ensures) in
    let left : given < most_ids = grind (arith, c.in-Some.ensures) in
    let stands : start_among ids place ≡ Some c.args.at =
    subst (λ (ids : List ℕ). AreDifferent ids → start_among ids place ≡ Some c.args.at) c.deref.ensures.value c.place_at.ensures
    (IsStream-differ old before ids given is) in
    rw (c.in_ok-clone.ensures.cases, c.in_ok-insert.ensures.items, c.new.ensures, number_is)
    (Leads-inserted old before after ids given c.args.at c.args.text.now place is more stands left)
