use Rattle.std.proofs.Common.{◌≡◌, sym, ap, ◌∙◌, ℕ, Some, inl, inr}
use Rattle.std.proofs.lemmas.Option.{same_Some}
use Rattle.std.proofs.lemmas.Result.{on_ok_weaker}
use Rattle.unit_outcomes.specs.declared.outcome.Outcome.{Outcome}
use Rattle.unit_outcomes.specs.declared.outcome.Outcome.TheVariants.{Plan as Planned}
use Rattle.picture_keys.specs.Known.{key_of_outcome}
use Rattle.held_pictures.proofs.Standing.{known_there, named_key, named_waits, own_key}
use Rattle.held_pictures.proofs.Wanting.{unit_read}
use Rattle.held_pictures.proofs.key_slots.scan.find.Goals as goal

pub returns-clause-only : goal.returns-clause-only
returns-clause-only g c =
    let units = c.args.units.now in
    let outcome_is = (c.deref-2.ensures ∙ c.deref.ensures) ∙ sym c.index-units-at.is in
    let unit = unit_read units.ids.now units.outcomes.now c.args.at c.index-units-at.result c.requires.columns.outcomes_many
    c.requires.within c.index-units-at.is in
    on_ok_weaker c.want_named.result
    (λ only id is. elim (only id is) [
      | inl was ↦ inl was
      | inr named ↦
          inr (
            unit.0,
            named.0,
            unit.1 ∙ ap (λ (outcome : Outcome). Some (unit.0, outcome)) (sym outcome_is ∙ named.1),
            named.2,
          )
    ])
    c.want_named.ensures.only

pub returns-clause-all : goal.returns-clause-all
returns-clause-all g c =
    let units = c.args.units.now in
    let columns = c.requires.columns in
    let outcome_is = (c.deref-2.ensures ∙ c.deref.ensures) ∙ sym c.index-units-at.is in
    let unit = unit_read units.ids.now units.outcomes.now c.args.at c.index-units-at.result columns.outcomes_many
    c.requires.within c.index-units-at.is in
    on_ok_weaker c.want_named.result
    (λ all other names waits.
    let named = names.listed in
    let became : c.deref-2.result.now ≡ Planned named.1 =
    outcome_is ∙ ap (λ (u : ℕ × Outcome). u.1) (same_Some (unit.0, c.index-units-at.result) (named.0, Planned named.1) (sym unit.1 ∙ named.2)) in
    let key = named_key units.keys.now units.ids.now units.outcomes.now units.numbers.now columns.stand columns.one units.key_slots.now
    c.args.at c.args.key c.requires.key other names waits in
    all (known_there units.keys.now units.ids.now units.outcomes.now units.numbers.now columns.stand columns.one units.key_slots.now
    c.args.at c.args.key c.requires.key other names waits) named.1 names.id key.0
    (own_key units.keys.now units.ids.now units.outcomes.now units.numbers.now columns.stand columns.one units.key_slots.now c.args.at
    c.args.key c.requires.key other names waits named.0 named.1 named.2 ∙ sym (ap (key_of_outcome (known_there units.keys.now units.ids.now units.outcomes.now units.numbers.now columns.stand columns.one units.key_slots.now
    c.args.at c.args.key c.requires.key other names waits)) became))
    became named.3 key.1
    (named_waits units.keys.now units.ids.now units.outcomes.now units.numbers.now columns.stand columns.one units.key_slots.now c.args.at
    c.args.key c.requires.key other names waits))
    c.want_named.ensures.all
