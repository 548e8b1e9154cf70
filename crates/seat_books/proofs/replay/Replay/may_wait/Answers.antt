use Rattle.std.proofs.Common.{◌≡◌, Bool, ap, sym, ◌∙◌, subst}
use Rattle.std.specs.Prelude.{◌&&◌, not}
use Rattle.stream_session.specs.declared.showing.Shown.TheVariants.{Pending}
use Rattle.seat_books.specs.Following.{Sees}
use Rattle.seat_books.specs.Sets.{has}
use Rattle.seat_books.proofs.Checked.{Sees-pending}
use Rattle.seat_books.proofs.Numbers.{number_of_unit}
use Rattle.seat_books.proofs.replay.Replay.may_wait.Goals as goal
use Rattle.seat_books.proofs.replay.Replay.may_wait.Goals.{then-is_held, else-is_held}

pub returns-after-is_held : goal.returns-after-is_held
returns-after-is_held c = λ journal books seat earlier replayed.
    let value = rw c.in-Ok-Some.field-0-is at c.in-Ok-Some.ensures.value in
    let noted : Bool = has c.args.self.now.ready c.in-Ok-Some.key in
    let same : (c.is_held.result && noted) ≡ c.if-is_held.result =
    elim c.if-is_held.branch [
      | then-is_held w ↦
          ap (λ (held : Bool). held && noted) w.if-is_held.true
          ∙ (ap (has c.args.self.now.ready) (sym w.number.ensures) ∙ (sym w.has.ensures ∙ sym w.result-is))
      | else-is_held w ↦ ap (λ (held : Bool). held && noted) w.if-is_held.false ∙ (sym w.if-is_held.false ∙ sym w.result-is)
    ] in
    subst (λ (possible : Bool). Sees journal books seat earlier c.args.self.now c.args.id Pending (not possible) c.args.self.now) same
    (Sees-pending journal books seat earlier c.args.self.now c.args.id c.in-Ok-Some.key value.0 c.is_held.result replayed value.1
    (number_of_unit c.args.self.now.session c.args.id value.0 c.in-Ok-Some.key value.1 value) (c.is_held.ensures value.0 value.1))
