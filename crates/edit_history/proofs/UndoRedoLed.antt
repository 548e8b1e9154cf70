-- Texts that follow edits which are made one after the other.
use Rattle.std.proofs.Common.{◌≡◌, ℕ, ◌+◌, ◌<◌, ◌≤◌, List, [], ◌∷◌, ◌++◌, length, drop, get_or, ap, sym, ◌∙◌, subst, arith, refl}
use Rattle.std.proofs.Math.ListN.{drop_of_length-le}
use Rattle.std.proofs.lemmas.List.{drop_more}
use Rattle.access_unit.specs.StreamUnits.{most_units}
use Rattle.stream_edits.specs.declared.edits.Edit.{Edit}
use Rattle.stream_edits.specs.Edits.{Register, no_units}
use Rattle.stream_edits.specs.Groups.{MakesAll}
use Rattle.stream_edits.proofs.GivenIds.{HasIds-journal}
use Rattle.edit_history.specs.declared.changes.UnitChange.{UnitChange}
use Rattle.edit_history.specs.declared.changes.UnitChange.TheVariants.{Inserted, Deleted, Replaced}
use Rattle.edit_history.specs.Changes.{Changes, ChangesAll}
use Rattle.edit_history.specs.Texts.{Texts, IsStream}
use Rattle.edit_history.proofs.Changed.{ChangesAll-push, more-length}
use Rattle.edit_history.specs.declared.undo_redo.prepared.PreparedEdit.{PreparedEdit}
use Rattle.edit_history.specs.declared.undo_redo.unit_texts.UnitTexts.{UnitTexts}
use Rattle.edit_history.specs.Following.{Follows, IsLed, IsRefusedOf, LeadsTo, ids_after, texts_after}
use Rattle.edit_history.specs.KeptTexts.{AreSame, IsKept}

-- texts and ids that are the same are those of the same streams
pub kept-as : (units : UnitTexts) (texts : Texts) (ids : List ℕ) (given : ℕ) (register : Register) → IsStream register texts ids given → length texts ≤ most_units
    → units.texts.items ≡ texts → units.ids.items ≡ ids → units.ids_given ≡ given → IsKept units register
kept-as units texts ids given register is bounded texts_are ids_are given_is = record {
  is =
      subst (λ (texts : Texts). IsStream register texts units.ids.items units.ids_given) (sym texts_are)
      (subst (λ (ids : List ℕ). IsStream register texts ids units.ids_given) (sym ids_are)
      (subst (λ (n : ℕ). IsStream register texts ids n) (sym given_is) is));
  bounded = subst (λ (texts : Texts). length texts ≤ most_units) (sym texts_are) bounded;
}

-- those of no unit, before an id is given
pub kept-none : (units : UnitTexts) → units.ids.items ≡ [] → units.texts.items ≡ [] → units.ids_given ≡ 0 → IsKept units no_units
kept-none units ids_are texts_are given_is =
    kept-as units [] [] 0 no_units
    (record { differ = HasIds-journal [] no_units refl; carries = tt; ids_are = refl; given_is = refl }) (omega arith) texts_are ids_are given_is

-- of the same texts and ids
pub kept-same : (one other : UnitTexts) (register : Register) → AreSame one other → IsKept one register → IsKept other register
kept-same one other register same kept =
    kept-as other one.texts.items one.ids.items one.ids_given register kept.is kept.bounded same.texts same.ids same.given

pub same-back : (one other : UnitTexts) → AreSame one other → AreSame other one
same-back one other same = record { ids = sym same.ids; texts = sym same.texts; given = sym same.given }

-- once what is prepared is taken in
pub record IsTakenIn (units : UnitTexts) (prepared : PreparedEdit) (new : UnitTexts) : Type 0 where
  pub ids_are : new.ids.items ≡ ids_after units prepared
  pub texts_are : new.texts.items ≡ texts_after units prepared
  pub given_is : new.ids_given ≡ prepared.ids_given

pub kept-taken : (units : UnitTexts) (prepared : PreparedEdit) (new : UnitTexts) (register : Register) → LeadsTo units prepared register
    → IsTakenIn units prepared new → IsKept new register
kept-taken units prepared new register leads taken =
    kept-as new (texts_after units prepared) (ids_after units prepared) prepared.ids_given register leads.is leads.bounded taken.texts_are taken.ids_are
    taken.given_is

pub changes-taken : (units : UnitTexts) (prepared : PreparedEdit) (new : UnitTexts) (register : Register) (before : Texts) (changes : List UnitChange)
    → LeadsTo units prepared register → IsTakenIn units prepared new → ChangesAll before changes units.texts.items
    → ChangesAll before (changes ++ prepared.change ∷ []) new.texts.items
changes-taken units prepared new register before changes leads taken all =
    ChangesAll-push before changes units.texts.items prepared.change new.texts.items all
    (subst (λ (texts : Texts). Changes units.texts.items prepared.change texts) (sym taken.texts_are) leads.changes)

-- so many edits are followed, and the others are left
pub record IsPartlyLed (texts : Texts) (changes : List UnitChange) (edits : List Edit) (index : ℕ) (new : Register) (units : UnitTexts) : Type 0 where
  pub between : Register
  pub led : IsLed texts changes between units
  pub rest : List ℕ
  pub left : MakesAll between (drop index edits) rest new

-- none is followed
pub partly-none : (old : Register) (edits : List Edit) (ids : List ℕ) (new : Register) (units : UnitTexts) → IsKept units old
    → MakesAll old edits ids new → IsPartlyLed units.texts.items [] edits 0 new units
partly-none old edits ids new units kept makes = record {
  between = old;
  led = record { kept = kept; changes = refl };
  rest = ids;
  left = makes;
}

-- the edits from a place on begin with the one at it
from_edit : (between : Register) (edits : List Edit) (index : ℕ) (edit : Edit) (rest : List ℕ) (new : Register) → index < length edits
    → edit ≡ get_or edits index edit → MakesAll between (drop index edits) rest new → MakesAll between (edit ∷ drop (index + 1) edits) rest new
from_edit between edits index edit rest new inside item all =
    subst (λ (left : List Edit). MakesAll between left rest new)
    (drop_more edits index edit inside ∙ ap (λ (first : Edit). first ∷ drop (index + 1) edits) (sym item)) all

-- the next one is followed
pub partly-more : (texts : Texts) (changes : List UnitChange) (edits : List Edit) (index : ℕ) (edit : Edit) (new : Register) (units between : UnitTexts)
    (prepared : PreparedEdit) (made : UnitTexts) → index < length edits → edit ≡ get_or edits index edit → AreSame units between
    → Follows between edit prepared → IsTakenIn between prepared made → IsPartlyLed texts changes edits index new units
    → IsPartlyLed texts (changes ++ prepared.change ∷ []) edits (index + 1) new made
partly-more texts changes edits index edit new units between prepared made inside item same follows taken is =
    go is.rest (from_edit is.between edits index edit is.rest new inside item is.left)
  where
    go : (rest : List ℕ) → MakesAll is.between (edit ∷ drop (index + 1) edits) rest new
        → IsPartlyLed texts (changes ++ prepared.change ∷ []) edits (index + 1) new made
    go [] left = absurd left
    go (id ∷ rest) left =
        let leads = follows is.between id left.0 (kept-same units between is.between same is.led.kept) left.1 in
        record {
          between = left.0;
          led = record {
            kept = kept-taken between prepared made left.0 leads taken;
            changes =
                changes-taken between prepared made left.0 texts changes leads taken
                (subst (λ (now : Texts). ChangesAll texts changes now) (sym same.texts) is.led.changes);
          };
          rest = rest;
          left = left.2;
        }

-- the next one is refused
pub partly-refused : (texts : Texts) (changes : List UnitChange) (edits : List Edit) (index : ℕ) (edit : Edit) (new : Register) (units between : UnitTexts)
    → index < length edits → edit ≡ get_or edits index edit → AreSame units between → IsRefusedOf between edit
    → IsPartlyLed texts changes edits index new units → ⊥
partly-refused texts changes edits index edit new units between inside item same refused is =
    go is.rest (from_edit is.between edits index edit is.rest new inside item is.left)
  where
    go : (rest : List ℕ) → MakesAll is.between (edit ∷ drop (index + 1) edits) rest new → ⊥
    go [] left = left
    go (id ∷ rest) left = refused is.between id left.0 (kept-same units between is.between same is.led.kept) left.1

-- all are followed
pub partly-whole : (texts : Texts) (changes : List UnitChange) (edits : List Edit) (index : ℕ) (new : Register) (units : UnitTexts) → length edits ≤ index
    → IsPartlyLed texts changes edits index new units → IsLed texts changes new units
partly-whole texts changes edits index new units late is =
    go is.rest (subst (λ (left : List Edit). MakesAll is.between left is.rest new) (drop_of_length-le edits late) is.left)
  where
    go : (rest : List ℕ) → MakesAll is.between [] rest new → IsLed texts changes new units
    go [] left = record {
      kept = subst (λ (register : Register). IsKept units register) left is.led.kept;
      changes = is.led.changes;
    }
    go (id ∷ rest) left = absurd left

-- changes leave as many units at most as a stream may have
pub bounded-changed : (old : Texts) (changes : List UnitChange) (new : Texts) → ChangesAll old changes new → length old ≤ most_units → length new ≤ most_units
bounded-changed old [] new all bounded = subst (λ (texts : Texts). length texts ≤ most_units) all bounded
bounded-changed old (Inserted at text ∷ changes) new all bounded =
    bounded-changed all.0 changes new all.2 (omega (arith, more-length old at text all.0 all.1, all.1.fits))
bounded-changed old (Deleted at text ∷ changes) new all bounded =
    bounded-changed all.0 changes new all.2 (omega (arith, all.1.fits))
bounded-changed old (Replaced at former text ∷ changes) new all bounded =
    bounded-changed all.0 changes new all.2
    (omega (arith, more-length all.1.0 at text all.0 all.1.2, all.1.2.fits))
