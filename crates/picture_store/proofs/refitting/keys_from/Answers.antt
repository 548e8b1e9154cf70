use Rattle.std.proofs.Common.{[], take, arith, sym}
use Rattle.std.specs.List.{zip}
use Rattle.picture_keys.specs.Known.{Known, known_after, keys_of}
use Rattle.picture_keys.specs.Following.{Follow}
use Rattle.picture_keys.proofs.Following.{all_extended}
use Rattle.picture_store.proofs.Fronts.{stand_length}
use Rattle.picture_store.proofs.Needed.{numbered_front, anew_stand}
use Rattle.picture_store.proofs.refitting.keys_from.Goals as goal

pub numbers_up_to-requires-clause-numbers : goal.numbers_up_to-requires-clause-numbers
numbers_up_to-requires-clause-numbers g c =
    omega (
      arith,
      c.requires.splice.ordered,
      c.requires.splice.within,
      stand_length c.args.keys.now [] c.args.numbers.now c.args.ids.now c.args.outcomes.now c.requires.stand c.requires.same,
    )

pub go_on-requires-clause-numbers : goal.go_on-requires-clause-numbers
go_on-requires-clause-numbers g c =
    sym (stand_length c.args.keys.now [] c.args.numbers.now c.args.ids.now c.args.outcomes.now c.requires.stand c.requires.same)

pub go_over-requires-clause-some : goal.go_over-requires-clause-some
go_over-requires-clause-some g c = (
  known_after [] (zip (take c.args.splice.now.from c.args.ids.now) (take c.args.splice.now.from c.args.outcomes.now)),
  rw (c.after-after.ensures, c.numbers_up_to.ensures)
      (numbered_front c.args.keys.now c.args.ids.now c.args.outcomes.now c.args.numbers.now c.requires.same c.requires.stand
      c.args.states.now.states c.requires.told c.args.splice.now.from),
)

pub returns-clause-stand : goal.returns-clause-stand
returns-clause-stand g c =
    let ids = c.args.ids.now in
    let outcomes = c.args.outcomes.now in
    let numbers = c.args.numbers.now in
    let states = c.args.states.now.states in
    let from = c.args.splice.now.from in
    let known : Known = known_after [] (zip (take from ids) (take from outcomes)) in
    let start : Follow c.args.keys.now known [] c.after-after.result = record {
      numbered =
          rw (c.after-after.ensures, c.numbers_up_to.ensures)
          (numbered_front c.args.keys.now ids outcomes numbers c.requires.same c.requires.stand states c.requires.told from);
      stand = rw (c.after-after.ensures) tt;
    } in
    let first = rw (c.deref.ensures.value, c.deref-2.ensures.value) at c.in_ok-go_over.ensures.ok known [] start in
    let follow =
    c.in_ok-past.ensures.ok known (zip c.args.splice.now.ids.items c.args.splice.now.outcomes.items) first in
    let stand =
    all_extended c.args.keys.now c.go_on.new.keys
    (λ number tree is. c.in_ok-past.ensures.stay number tree (c.in_ok-go_over.ensures.stay number tree is)) numbers
    (keys_of (zip ids outcomes)) c.requires.stand in
    rw (c.into_found.ensures)
    (anew_stand c.go_on.new.keys ids outcomes numbers c.requires.same stand states c.requires.told c.in_ok-past.past known
    (zip c.args.splice.now.ids.items c.args.splice.now.outcomes.items) c.args.splice.now.to c.go_on.new.after
    c.in_ok-past.ensures.behind.0 follow c.in_ok-past.ensures.agree)
