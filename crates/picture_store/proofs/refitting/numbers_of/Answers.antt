use Rattle.std.proofs.Common.{[], refl}
use Rattle.picture_keys.specs.Following.{Follow}
use Rattle.picture_store.proofs.refitting.numbers_of.Goals as goal

pub returns-clause-ok : goal.returns-clause-ok
returns-clause-ok g c =
    let start : Follow c.args.keys.now [] [] c.after-units.result =
    record { numbered = rw (c.after-units.ensures, c.new.ensures) (λ id. refl); stand = rw (c.after-units.ensures) tt } in
    rw (c.into_found.ensures) (c.in_ok-go_over.ensures.ok [] [] start).stand
