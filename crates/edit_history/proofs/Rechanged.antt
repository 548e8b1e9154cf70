-- Texts after a change.
use Rattle.std.proofs.Common.{◌≡◌, ℕ, ◌+◌, ◌<◌, ◌≤◌, List, length, drop, get_or, set, sym, ◌∙◌, subst, arith}
use Rattle.std.specs.Prelude.{insert, remove}
use Rattle.std.proofs.Math.ListN.{drop_of_length-le}
use Rattle.std.proofs.lemmas.List.Edits.{length-insert}
use Rattle.edit_history.specs.declared.changes.UnitChange.{UnitChange}
use Rattle.edit_history.specs.declared.changes.UnitChange.TheVariants.{Inserted, Deleted, Replaced}
use Rattle.edit_history.specs.Changes.{Changes, ChangesAll}
use Rattle.edit_history.specs.Texts.{Texts}
use Rattle.edit_history.proofs.Changed.{from_change}
use Rattle.edit_history.proofs.Lists.{remove-inserted, set-inserted}

pub after-inserted : (old : Texts) (at : ℕ) (text : List ℕ) (to : Texts) → Changes old (Inserted at text) to → insert old at text ≡ to
after-inserted old at text to changes = sym changes.more_is

pub after-deleted : (old : Texts) (at : ℕ) (text : List ℕ) (to : Texts) → Changes old (Deleted at text) to → remove old at ≡ to
after-deleted old at text to changes =
    subst (λ (texts : Texts). remove texts at ≡ to) (sym changes.more_is) (remove-inserted to at text changes.within)

pub after-replaced : (old : Texts) (at : ℕ) (former text : List ℕ) (to : Texts) → Changes old (Replaced at former text) to → set old at text ≡ to
after-replaced old at former text to changes =
    let others = changes.0 in
    let before = changes.1 in
    let inside : at < length (insert others at former) = omega (arith, before.within, length-insert others at former before.within) in
    subst (λ (texts : Texts). set texts at text ≡ to) (sym before.more_is)
    (set-inserted others at former text before.within inside ∙ sym changes.2.more_is)

-- the next one is made
pub rest-changed : (texts : Texts) (changes : List UnitChange) (index : ℕ) (change : UnitChange) (made to : Texts) → index < length changes
    → change ≡ get_or changes index change → ((to : Texts) → Changes texts change to → made ≡ to) → ChangesAll texts (drop index changes) to
    → ChangesAll made (drop (index + 1) changes) to
rest-changed texts changes index change made to inside item makes left =
    let next = from_change texts changes index change to inside item left in
    subst (λ (texts : Texts). ChangesAll texts (drop (index + 1) changes) to) (sym (makes next.0 next.1)) next.2

-- all are made
pub all-changed : (texts : Texts) (changes : List UnitChange) (index : ℕ) (to : Texts) → length changes ≤ index → ChangesAll texts (drop index changes) to
    → texts ≡ to
all-changed texts changes index to late left =
    subst (λ (rest : List UnitChange). ChangesAll texts rest to) (drop_of_length-le changes late) left
