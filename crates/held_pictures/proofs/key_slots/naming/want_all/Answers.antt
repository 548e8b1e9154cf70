use Rattle.std.proofs.Common.{◌≡◌, subst, Some, Contains, slice_get, below_more, inl, inr, arith}
use Rattle.std.proofs.lemmas.Option.{slice_get_within}
use Rattle.held_pictures.proofs.Entered.{read_is, read_among}
use Rattle.held_pictures.proofs.key_slots.naming.want_all.Goals as goal

pub loop-at-preserved : goal.loop-at-preserved
loop-at-preserved g c =
    let units = c.args.units.now in
    let entries = c.args.entries.now in
    let was = c.loop-at.invariant in
    let adds = c.in_ok-want_entry.ensures in
    record {
      stay = λ id is. adds.stay id (was.stay id is);
      only = λ id is. elim (adds.only id is) [
        | inl there ↦ was.only id there
        | inr new ↦ inr (subst (Contains units) new
            (read_among units c.loop-at.at c.index-units-at.result (omega arith) c.index-units-at.is))
      ];
      all = λ i id number below unit_is entry_is waits.
          below_more (λ k. slice_get units k ≡ Some (Some id) → slice_get entries k ≡ Some (Some number)
          → Contains c.want_entry.new.wanted.items id) c.loop-at.at
          (λ k k_below unit entry. adds.stay id (was.all k id number k_below unit entry waits))
          (λ unit entry.
          adds.all id number (read_is units c.loop-at.at (Some id) c.index-units-at.result unit c.index-units-at.is)
          (read_is entries c.loop-at.at (Some number) c.index-entries-at.result entry c.index-entries-at.is) waits)
          i below unit_is entry_is;
    }

pub returns-clause-all : goal.returns-clause-all
returns-clause-all g c = λ i id number unit_is entry_is waits.
    let in_units = slice_get_within c.args.units.now i (Some id) unit_is in
    let in_entries = slice_get_within c.args.entries.now i (Some number) entry_is in
    c.loop-at.invariant.all i id number (omega (arith, in_units, in_entries)) unit_is entry_is waits
