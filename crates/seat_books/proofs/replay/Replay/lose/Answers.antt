use Rattle.std.proofs.Common.{◌≡◌, ℕ, true, false, cond, subst, eqb}
use Rattle.seat_books.specs.Sets.{has}
use Rattle.seat_books.proofs.Lost.{LosesOne-key, LosesOne-nothing}
use Rattle.seat_books.proofs.Numbers.{has_number, has_place}
use Rattle.seat_books.proofs.replay.Replay.lose.Goals as goal

pub returns-in_ok-add-in-Ok-Some-clause-lost : goal.returns-in_ok-add-in-Ok-Some-clause-lost
returns-in_ok-add-in-Ok-Some-clause-lost c =
    let value = rw c.in-Ok-Some.field-0-is at c.in-Ok-Some.ensures.value in
    LosesOne-key c.args.self.now _ c.args.id c.in-Ok-Some.key value c.in-Ok-Some.ensures.one
    (subst (λ (k : ℕ). (other : ℕ) → has c.add.new.self other ≡ cond (eqb k other) true (has c.args.self.now.gone other))
    c.number.ensures c.in_ok-add-in-Ok-Some.ensures)
    (subst (λ (k : ℕ). (other : ℕ) → has c.remove.new.self other ≡ cond (eqb k other) false (has c.args.self.now.ready other))
    c.number-in-Ok-Some.ensures c.remove.ensures)

pub returns-in-Ok-None-clause-lost : goal.returns-in-Ok-None-clause-lost
returns-in-Ok-None-clause-lost c =
    let value = rw c.in-Ok-None.field-0-is at c.in-Ok-None.ensures.value in
    LosesOne-nothing c.args.self.now c.args.id (λ key has_key. has_number c.args.self.now.session c.args.id key has_key value)

pub returns-in-Err-clause-lost : goal.returns-in-Err-clause-lost
returns-in-Err-clause-lost c =
    LosesOne-nothing c.args.self.now c.args.id
    (λ key has_key. has_place c.args.self.now.session.register.stream c.args.id key has_key c.in-Err.ensures.value)
