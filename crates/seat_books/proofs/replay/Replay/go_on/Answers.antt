use Rattle.std.proofs.Common.{◌≡◌, ℕ, ◌+◌, ◌<◌, List, length, Some, ap, sym, ◌∙◌, subst, refl, arith}
use Rattle.std.specs.Prelude.{slice_get}
use Rattle.std.proofs.lemmas.Option.{slice_get_read}
use Rattle.stream_edits.specs.declared.edits.Edit.{Edit}
use Rattle.seat_books.specs.Following.{reach}
use Rattle.seat_books.proofs.Fronts.{length_next}
use Rattle.seat_books.proofs.replay.Replay.go_on.Goals as goal

pub loop-at-preserved : goal.loop-at-preserved
loop-at-preserved c = λ books seat earlier tabled replayed.
    let now = c.loop-at.invariant books seat earlier tabled replayed in
    let within : c.loop-at.at < length c.args.journal.now = omega (arith, c.requires, c.loop-at-test.true) in
    let read : slice_get c.args.journal.now c.loop-at.at ≡ Some c.index-journal-at.result =
    slice_get_read c.args.journal.now (length c.args.journal.now) c.loop-at.at c.index-journal-at.result refl within c.index-journal-at.is in
    let stands : slice_get c.args.journal.now (reach c.loop-at.self) ≡ Some c.edits.result.now =
    subst (λ (n : ℕ). slice_get c.args.journal.now n ≡ Some c.edits.result.now) (sym now.1)
    (read ∙ ap (λ (edits : List Edit). Some edits) (sym c.edits.ensures)) in (
      c.in_ok-make.ensures.follows c.args.journal.now books seat earlier tabled now.0 stands,
      length_next c.loop-at.self.session.journal c.make.new.self.session.journal c.edits.result.now c.in_ok-make.ensures.makes.journaled
          ∙ ap (λ (n : ℕ). n + 1) now.1,
    )

pub returns : goal.returns
returns c = λ books seat earlier tabled replayed low.
    let now = c.loop-at.invariant books seat earlier tabled replayed in
    (now.0, omega (arith, now.1, c.loop-at-test.false, c.loop-at.auto, low, ap length c.journal-at.ensures.value))
