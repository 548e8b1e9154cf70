use Rattle.std.proofs.Common.{sym, ◌∙◌, subst, Contains, Some, inl, inr}
use Rattle.std.specs.Prelude.{IfSome}
use Rattle.std.proofs.lemmas.List.{take_all}
use Rattle.held_pictures.specs.Held.{IsHeld}
use Rattle.picture_store.specs.Schedules.{WaitsFor}
use Rattle.picture_store.proofs.Loops.{in_more}
use Rattle.picture_store.proofs.schedule.add_entries.Goals as goal

pub loop-entry-preserved : goal.loop-entry-preserved
loop-entry-preserved g c =
    let entries = c.args.entries.now in
    let item = c.entry-item.result in
    let was = c.loop-entry.invariant in
    let adds = c.in_ok-add_entry.ensures in
    let after = c.add_entry.new.dependents.items in
    record {
      stay = λ place entry is. adds.stay place entry (was.stay place entry is);
      only = λ place entry is. elim (adds.only place entry is) [
        | inl there ↦ was.only place entry there
        | inr new ↦ inr new
      ];
      all = λ entry among not. elim (in_more entries c.loop-entry.entry-index item (Some entry) c.loop-entry-test.true among) [
        | inl earlier ↦ adds.stay c.args.at entry (was.all entry earlier not)
        | inr here ↦
            subst (λ o. IfSome o (λ number. (IsHeld c.args.key_slots.now number → ⊥) → WaitsFor after c.args.at number))
            (c.entry-item.is ∙ here) adds.all not
      ];
    }

pub returns-clause-all : goal.returns-clause-all
returns-clause-all g c = λ entry among not.
    c.loop-entry.invariant.all entry
    (subst (λ xs. Contains xs (Some entry))
    (sym (take_all c.loop-entry.entry-index c.args.entries.now c.loop-entry-test.false)) among) not
