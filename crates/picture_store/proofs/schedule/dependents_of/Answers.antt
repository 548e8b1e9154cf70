use Rattle.std.proofs.Common.{sym, subst, Contains, inl, inr, rules}
use Rattle.std.proofs.lemmas.List.{take_all}
use Rattle.std.proofs.lemmas.List.Elements.{Contains-get_or}
use Rattle.std.proofs.lemmas.List.Sorted.{Contains-permutation, IsNonDecreasingBy-from_sort_by_key, IsPermutation-sym}
use Rattle.picture_store.specs.declared.schedule.Dependent.{Dependent}
use Rattle.picture_store.specs.Schedules.{RefersTo, WaitsFor}
use Rattle.picture_store.proofs.Loops.{in_more}
use Rattle.picture_store.proofs.schedule.dependents_of.Goals as goal

pub loop-at-preserved : goal.loop-at-preserved
loop-at-preserved g c =
    let units = c.args.units.now in
    let needed = c.args.needed.now in
    let index = c.loop-at.at-index in
    let was = c.loop-at.invariant in
    let adds = c.in_ok-add_unit.ensures in
    let after = c.add_unit.new.dependents.items in
    record {
      listed = λ at entry among refers not. elim (in_more needed index 0 at c.loop-at-test.true among) [
        | inl earlier ↦ adds.stay at entry (was.listed at entry earlier refers not)
        | inr here ↦
            subst (λ n. WaitsFor after n entry) here
            (adds.all entry (subst (λ n. RefersTo units.keys.now units.numbers.now n entry) (sym here) refers) not)
      ];
      those = λ at entry is. elim (adds.only at entry is) [
        | inl there ↦ was.those at entry there
        | inr here ↦ subst (Contains needed) here (Contains-get_or needed index 0 c.loop-at-test.true)
      ];
    }

pub returns-clause-by_entry : goal.returns-clause-by_entry
returns-clause-by_entry g c =
    IsNonDecreasingBy-from_sort_by_key (λ (d : Dependent). d.entry) c.sort_unstable_by_key.new.self.items
    c.sort_unstable_by_key.ensures.sorted (λ a r q k. search rules)

pub returns-clause-listed : goal.returns-clause-listed
returns-clause-listed g c = λ at entry among refers not.
    Contains-permutation c.loop-at.dependents.items c.sort_unstable_by_key.new.self.items (record { entry = entry; at = at })
    c.sort_unstable_by_key.ensures.permutation
    (c.loop-at.invariant.listed at entry
    (subst (λ xs. Contains xs at) (sym (take_all c.loop-at.at-index c.args.needed.now c.loop-at-test.false)) among) refers not)

pub returns-clause-those : goal.returns-clause-those
returns-clause-those g c = λ at entry is.
    c.loop-at.invariant.those at entry
    (Contains-permutation c.sort_unstable_by_key.new.self.items c.loop-at.dependents.items (record { entry = entry; at = at })
    (IsPermutation-sym c.loop-at.dependents.items c.sort_unstable_by_key.new.self.items c.sort_unstable_by_key.ensures.permutation)
    is)
