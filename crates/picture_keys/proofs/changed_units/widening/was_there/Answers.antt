use Rattle.std.proofs.Common.{sym, ◌∙◌, get_or, arith}
use Rattle.std.proofs.lemmas.Option.{MatchOption-at_none, MatchOption-at_some, same_Some, slice_get-get_or, slice_get_within}
use Rattle.picture_keys.specs.Units.{units_in}
use Rattle.picture_keys.proofs.Alike.{id_read, was_at}
use Rattle.picture_keys.proofs.Rows.{length-compared}
use Rattle.picture_keys.proofs.Lists.{place_of}
use Rattle.picture_keys.proofs.changed_units.widening.was_there.Goals as goal

pub is_same-requires-clause-place : goal.is_same-requires-clause-place
is_same-requires-clause-place c =
    let ids = c.args.after.now.ids.now in
    let there = c.requires.place (get_or ids c.args.index 0) (slice_get-get_or ids c.args.index 0 c.requires.index) in
    slice_get_within c.args.before.now.ids.now c.in-Some.place (get_or ids c.args.index 0)
    (MatchOption-at_some _ _ c.in-Some.place c.in-Some.is there)

pub returns-in-Some : goal.returns-in-Some
returns-in-Some c = λ unit is.
    let before = c.args.before.now in
    let place = c.in-Some.place in
    let there =
    MatchOption-at_some _ _ place c.in-Some.is (c.requires.place unit.id (id_read c.args.after.now c.requires.after c.args.index unit is)) in
    let within = slice_get_within before.ids.now place unit.id there in
    let count = length-compared before.ids.now before.outcomes.now before.numbers.now c.requires.before.0 c.requires.before.1 in
    let here = slice_get-get_or (units_in before) place unit (omega (arith, count, within)) in
    let same = same_Some (get_or (units_in before) place unit).id unit.id (sym (id_read before c.requires.before place _ here) ∙ there) in
    was_at before c.args.after.now c.requires.before c.requires.after c.requires.different c.is_same.result place unit
    (get_or (units_in before) place unit) here same (c.is_same.ensures _ unit here is same)

pub returns-in-None : goal.returns-in-None
returns-in-None c = λ unit is. (
  λ no. absurd cc,
  λ contains.
      let found = place_of (units_in c.args.before.now) unit contains in
      absurd
      (MatchOption-at_none _ _ c.in-None.is (c.requires.place unit.id (id_read c.args.after.now c.requires.after c.args.index unit is))
      found.0 (id_read c.args.before.now c.requires.before found.0 unit found.1)),
)
