use Rattle.std.proofs.Common.{◌≡◌, ◌∙◌, ◌≤◌, ◌+◌, List, [], ◌∷◌, ◌++◌, ℕ, length, take, ap, sym, arith, rules, length-append}
use Rattle.std.specs.Prelude.{zip}
use Rattle.std.proofs.lemmas.List.{take_all}
use Rattle.std.proofs.lemmas.Slice.Zip.{length-zip, zip_end, zip_turn}
use Rattle.stream_edits.specs.Snapshots.{SnapshotValue}
use Rattle.edit_history.proofs.Snapshots.{of-kept, pairs-more}
use Rattle.edit_history.proofs.undo_redo.unit_texts.UnitTexts.snapshot.Goals as goal

pub loop-id-preserved : goal.loop-id-preserved
loop-id-preserved c =
    let ids = c.args.self.now.ids.items in
    let texts = c.args.self.now.texts.items in
    let yielded = c.loop-id.yielded in
    let id = c.in-Some.id.now in
    let text = c.in-Some.text.now in
    let turn = zip_turn ids texts yielded c.into_iter-id-iterator.result c.loop-id.id-iterator c.next.new.self c.next.result (search rules) (search rules) c.loop-id.yielded_by (c.in-Some.id, c.in-Some.text) c.in-Some.is c.next.ensures.steps in
    let long : length (yielded ++ (c.in-Some.id, c.in-Some.text) ∷ []) ≡ length yielded + 1 = length-append yielded ((c.in-Some.id, c.in-Some.text) ∷ []) in
    c.in_ok-push.ensures.items
    ∙ (ap (λ (units : List (ℕ × List ℕ)). units ++ (id, c.in_ok-clone.field-0) ∷ []) c.loop-id.invariant
    ∙ (ap (λ (share : List ℕ). take (length yielded) (zip ids texts) ++ (id, share) ∷ []) c.in_ok-clone.ensures.cases
    ∙ (pairs-more ids texts (length yielded) id text turn.0 turn.1 (turn.2 id) (turn.3 text)
    ∙ ap (λ (n : ℕ). take n (zip ids texts)) (sym long))))

pub returns-clause-units : goal.returns-clause-units
returns-clause-units c =
    let ids = c.args.self.now.ids.items in
    let texts = c.args.self.now.texts.items in
    let yielded = c.loop-id.yielded in
    let end = zip_end ids texts yielded c.into_iter-id-iterator.result c.loop-id.id-iterator c.next.new.self c.next.result (search rules) (search rules) c.loop-id.yielded_by c.in-None.is c.next.ensures.steps in
    let all : length (zip ids texts) ≤ length yielded = omega (arith, end ∙ sym (length-zip ids texts)) in
    ap (λ (snapshot : SnapshotValue). snapshot.units) c.new.ensures ∙ (c.loop-id.invariant ∙ take_all (length yielded) (zip ids texts) all)

pub returns-clause-is_of : goal.returns-clause-is_of
returns-clause-is_of c = λ register kept.
    of-kept c.new.result c.args.self.now register (returns-clause-units c) (ap (λ (snapshot : SnapshotValue). snapshot.ids_given) c.new.ensures) kept
