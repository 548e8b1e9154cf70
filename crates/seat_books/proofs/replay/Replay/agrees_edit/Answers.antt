use Rattle.std.proofs.Common.{◌≡◌, ◌<◌, ◌≤◌, ◌+◌, ◌-◌, ℕ, List, true, false, length, take, Some, ap, sym, ◌∙◌, subst, refl, arith, rules}
use Rattle.std.specs.Prelude.{slice_get}
use Rattle.std.specs.Bool.{Decides}
use Rattle.std.proofs.lemmas.Bool.Decides.{Decides-eqb}
use Rattle.std.proofs.lemmas.Option.{slice_get_read}
use Rattle.std.proofs.lemmas.Slice.Eq.{slice_eq-Decides}
use Rattle.stream_edits.specs.declared.edits.Edit.{Edit}
use Rattle.seat_books.specs.Books.{is_noted}
use Rattle.seat_books.specs.Following.{reach}
use Rattle.seat_books.proofs.Checked.{checked_edit, not_false}
use Rattle.seat_books.proofs.replay.Replay.agrees_edit.Goals as goal

pub returns : goal.returns
returns c = λ books seat earlier receipt noted tabled of up.
    let low : reach c.args.self.now < c.args.length = omega (arith, c.reach.ensures, c.if-length-reach.false) in
    let long : c.args.length ≤ length c.args.journal.now = omega (arith, c.if-length-journal.false) in
    let own : is_noted (take seat books) c.args.length ≡ false = sym (noted c.args.length) ∙ (sym c.has.ensures ∙ c.if-has.false) in
    let yes : c.same_edits.result ≡ true = search (rules, not_false) in
    let same : c.args.edits.now ≡ c.index-journal-at.result = c.same_edits.ensures.0 yes ∙ c.edits.ensures in
    let to : reach c.args.self.now ≤ c.args.length - 1 = omega (arith, low) in
    let mid = c.in_ok-go_on.ensures books seat earlier tabled up.replayed to in
    let counted : c.args.length ≡ reach c.go_on.new.self + 1 = omega (arith, low, mid.1) in
    let read : slice_get c.args.journal.now (c.args.length - 1) ≡ Some c.index-journal-at.result =
    slice_get_read c.args.journal.now (length c.args.journal.now) (c.args.length - 1) c.index-journal-at.result refl (omega (arith, low, long)) c.index-journal-at.is in
    let stands : slice_get c.args.journal.now (reach c.go_on.new.self) ≡ Some c.args.edits.now =
    subst (λ (n : ℕ). slice_get c.args.journal.now n ≡ Some c.args.edits.now) (sym mid.1)
    (read ∙ ap (λ (edits : List Edit). Some edits) (sym same)) in
    let alike : Decides c.eq.result (c.as_slice.result.now ≡ c.args.ids.now) =
    slice_eq-Decides Decides-eqb c.as_slice.result.now c.args.ids.now c.eq.result c.eq.ensures in
    checked_edit c.args.journal.now books seat earlier c.args.self.now c.go_on.new.self c.make.new.self receipt c.args.edits.now
    c.args.ids.now c.args.length c.in_ok-given.given.items c.eq.result of up low own stands counted mid.0 c.in_ok-given.ensures.makes
    (c.in_ok-given.ensures.follows c.args.journal.now books seat earlier tabled mid.0 stands)
    (λ agrees. sym c.as_slice.ensures.value ∙ alike.0 agrees) (λ is. alike.1 (c.as_slice.ensures.value ∙ is))
