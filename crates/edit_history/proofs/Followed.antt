-- Texts that follow an edit which is accepted.
use Rattle.std.proofs.Common.{◌≡◌, ℕ, zero, suc, ◌+◌, ◌<◌, ◌≤◌, List, [], ◌∷◌, ◌++◌, length, take, drop, get_or, Some, append_assoc, refl, sym, ◌∙◌, subst, arith, eqb}
use Rattle.std.specs.Prelude.{insert, remove}
use Rattle.std.proofs.lemmas.Bool.{eqb-true}
use Rattle.std.proofs.lemmas.List.{set_split}
use Rattle.std.proofs.lemmas.List.Edits.{length-insert, length-remove}
use Rattle.std.proofs.lemmas.List.Quantifiers.{position-Some}
use Rattle.access_unit.specs.StreamUnits.{most_units}
use Rattle.picture_keys.specs.Units.{AreDifferent}
use Rattle.stream_edits.specs.declared.edits.Edit.{Edit}
use Rattle.stream_edits.specs.declared.edits.Edit.TheVariants.{Insert, Delete, Replace}
use Rattle.stream_edits.specs.declared.edits.InsertionPoint.{InsertionPoint}
use Rattle.stream_edits.specs.Edits.{Register, Makes}
use Rattle.stream_edits.specs.Refusals.{IsUnit}
use Rattle.stream_edits.specs.Streams.{Stream, place_among, start_among}
use Rattle.edit_history.specs.declared.changes.UnitChange.{UnitChange}
use Rattle.edit_history.specs.declared.changes.UnitChange.TheVariants.{Inserted, Deleted, Replaced}
use Rattle.edit_history.specs.Changes.{Changes, IsMore}
use Rattle.edit_history.specs.Groups.{Leads}
use Rattle.edit_history.specs.Texts.{Texts, Carries, IsStream}
use Rattle.edit_history.proofs.Carried.{Carries-length}
use Rattle.edit_history.proofs.Led.{IsStream-differ, Leads-inserted, Leads-deleted, Leads-replaced}
use Rattle.edit_history.specs.declared.undo_redo.prepared.PreparedEdit.{PreparedEdit}
use Rattle.edit_history.specs.declared.undo_redo.unit_texts.UnitTexts.{UnitTexts}
use Rattle.edit_history.specs.Following.{Follows, LeadsTo, ids_after, texts_after}
use Rattle.edit_history.proofs.Lists.{insert-removed, insert-removed_same, put-same}
use Rattle.stream_edits.proofs.OneEdit.{one_edit}

-- the text at a place is that of a unit
unit-at : (units : Stream) (texts : Texts) (at : ℕ) (d : List ℕ) → Carries units texts → at < length texts → IsUnit (get_or texts at d)
unit-at [] [] at d is within = absurd (omega (arith, within))
unit-at [] (text ∷ texts) at d is within = absurd is
unit-at (unit ∷ units) [] at d is within = absurd is
unit-at (unit ∷ units) (text ∷ texts) zero d is within = (unit.1, is.0)
unit-at (unit ∷ units) (text ∷ texts) (suc at) d is within = unit-at units texts at d is.1 (omega (arith, within))

-- at the place of an id the id stands
pub id-at : (ids : List ℕ) (id at : ℕ) → Some at ≡ place_among ids id → (at < length ids) × (id ≡ get_or ids at id)
unfolding place_among
id-at ids id at found =
    let stands = position-Some (λ other. eqb other id) ids at id (sym found) in
    (stands.0, sym (eqb-true (get_or ids at id) id stands.1))

-- an edit that is accepted leads to the stream that it leads to
led : (old : Register) (edit : Edit) (id : ℕ) (new : Register) (texts : Texts) (ids : List ℕ) (given : ℕ) → Leads old edit texts ids given
    → Makes old edit id new → IsStream new texts ids given
led old edit id new texts ids given leads makes =
    subst (λ (register : Register). IsStream register texts ids given)
    (one_edit old edit leads.id id leads.new new leads.makes makes).registers leads.is

-- what is prepared, where it comes to these texts and ids
leads_to : (units : UnitTexts) (prepared : PreparedEdit) (new : Register) (texts : Texts) (ids : List ℕ) → texts_after units prepared ≡ texts
    → ids_after units prepared ≡ ids → IsStream new texts ids prepared.ids_given → length texts ≤ most_units
    → Changes units.texts.items prepared.change texts → LeadsTo units prepared new
leads_to units prepared new texts ids texts_are ids_are is bounded changes = record {
  is =
      subst (λ (texts : Texts). IsStream new texts (ids_after units prepared) prepared.ids_given) (sym texts_are)
      (subst (λ (ids : List ℕ). IsStream new texts ids prepared.ids_given) (sym ids_are) is);
  bounded = subst (λ (texts : Texts). length texts ≤ most_units) (sym texts_are) bounded;
  changes = subst (λ (texts : Texts). Changes units.texts.items prepared.change texts) (sym texts_are) changes;
}

-- a list of which a range is replaced by one item, and by none
module _ {X : Type 0} (xs : List X) (at rest : ℕ) (made : List X) where
  brings : (x : X) → rest ≡ at → made ≡ x ∷ [] → take at xs ++ made ++ drop rest xs ≡ insert xs at x
  brings x rest_is made_is =
      subst (λ (n : ℕ). take at xs ++ made ++ drop n xs ≡ insert xs at x) (sym rest_is)
      (subst (λ (items : List X). take at xs ++ items ++ drop at xs ≡ insert xs at x) (sym made_is)
      (append_assoc (take at xs) (x ∷ []) (drop at xs)))

  takes : rest ≡ at + 1 → made ≡ [] → take at xs ++ made ++ drop rest xs ≡ remove xs at
  takes rest_is made_is =
      let next : rest ≡ suc at = omega (arith, rest_is) in
      subst (λ (n : ℕ). take at xs ++ made ++ drop n xs ≡ remove xs at) (sym next)
      (subst (λ (items : List X). take at xs ++ items ++ drop (suc at) xs ≡ remove xs at) (sym made_is)
      (append_assoc (take at xs) [] (drop (suc at) xs)))

  puts : (x : X) → rest ≡ at + 1 → made ≡ x ∷ [] → take at xs ++ made ++ drop rest xs ≡ take at xs ++ x ∷ drop (suc at) xs
  puts x rest_is made_is =
      let next : rest ≡ suc at = omega (arith, rest_is) in
      subst (λ (n : ℕ). take at xs ++ made ++ drop n xs ≡ take at xs ++ x ∷ drop (suc at) xs) (sym next)
      (subst (λ (items : List X). take at xs ++ items ++ drop (suc at) xs ≡ take at xs ++ x ∷ drop (suc at) xs) (sym made_is)
      (append_assoc (take at xs) (x ∷ []) (drop (suc at) xs)))

-- an insertion
pub follows-inserted : (units : UnitTexts) (prepared : PreparedEdit) (place : InsertionPoint) (text : List ℕ)
    → (AreDifferent units.ids.items → Some prepared.at ≡ start_among units.ids.items place) → prepared.at ≤ length units.texts.items
    → prepared.rest ≡ prepared.at → prepared.ids.items ≡ (units.ids_given + 1) ∷ [] → prepared.texts.items ≡ text ∷ []
    → prepared.ids_given ≡ units.ids_given + 1 → prepared.change ≡ Inserted prepared.at text → Follows units (Insert place text) prepared
follows-inserted units prepared place text stands within rest_is ids_are texts_are given_is change_is old id new kept makes =
    let texts = units.texts.items in
    let ids = units.ids.items in
    let given = units.ids_given in
    let at = prepared.at in
    let is = kept.is in
    let there = sym (stands (IsStream-differ old texts ids given is)) in
    let more : IsMore texts at text (insert texts at text) = record {
      unit = (makes.unit, makes.accepted);
      within = within;
      fits = omega (arith, Carries-length old.stream texts is.carries, makes.fits);
      more_is = refl;
    } in
    let leads = Leads-inserted old texts (insert texts at text) ids given at text place is more there (omega (arith, is.given_is, makes.is_left)) in
    leads_to units prepared new (insert texts at text) (insert ids at (given + 1))
    (brings texts at prepared.rest prepared.texts.items text rest_is texts_are)
    (brings ids at prepared.rest prepared.ids.items (given + 1) rest_is ids_are)
    (subst (λ (n : ℕ). IsStream new (insert texts at text) (insert ids at (given + 1)) n) (sym given_is)
    (led old (Insert place text) id new (insert texts at text) (insert ids at (given + 1)) (given + 1) leads makes))
    (omega (arith, length-insert texts at text within, more.fits))
    (subst (λ (change : UnitChange). Changes texts change (insert texts at text)) (sym change_is) more)

-- a deletion
pub follows-deleted : (units : UnitTexts) (prepared : PreparedEdit) (id : ℕ) (former : List ℕ)
    → (AreDifferent units.ids.items → Some prepared.at ≡ place_among units.ids.items id) → prepared.at < length units.texts.items
    → former ≡ get_or units.texts.items prepared.at former
    → prepared.rest ≡ prepared.at + 1 → prepared.ids.items ≡ [] → prepared.texts.items ≡ []
    → prepared.ids_given ≡ units.ids_given → prepared.change ≡ Deleted prepared.at former → Follows units (Delete id) prepared
follows-deleted units prepared id former stands within former_is rest_is ids_are texts_are given_is change_is old about new kept makes =
    let texts = units.texts.items in
    let ids = units.ids.items in
    let given = units.ids_given in
    let at = prepared.at in
    let is = kept.is in
    let fewer = length-remove texts at within in
    let there = id-at ids id at (stands (IsStream-differ old texts ids given is)) in
    let more : IsMore (remove texts at) at former texts = record {
      unit = subst IsUnit (sym former_is) (unit-at old.stream texts at former is.carries within);
      within = omega (arith, fewer, within);
      fits = omega (arith, fewer, kept.bounded);
      more_is = subst (λ (text : List ℕ). texts ≡ insert (remove texts at) at text) (sym former_is) (sym (insert-removed_same texts at former within));
    } in
    let leads = Leads-deleted old texts (remove texts at) ids given at id former is more there.0 there.1 in
    leads_to units prepared new (remove texts at) (remove ids at) (takes texts at prepared.rest prepared.texts.items rest_is texts_are)
    (takes ids at prepared.rest prepared.ids.items rest_is ids_are)
    (subst (λ (n : ℕ). IsStream new (remove texts at) (remove ids at) n) (sym given_is)
    (led old (Delete id) about new (remove texts at) (remove ids at) given leads makes))
    (omega (arith, fewer, kept.bounded))
    (subst (λ (change : UnitChange). Changes texts change (remove texts at)) (sym change_is) more)

-- a replacement
pub follows-replaced : (units : UnitTexts) (prepared : PreparedEdit) (id : ℕ) (former text : List ℕ)
    → (AreDifferent units.ids.items → Some prepared.at ≡ place_among units.ids.items id) → prepared.at < length units.texts.items
    → former ≡ get_or units.texts.items prepared.at former
    → prepared.rest ≡ prepared.at + 1 → prepared.ids.items ≡ id ∷ [] → prepared.texts.items ≡ text ∷ []
    → prepared.ids_given ≡ units.ids_given → prepared.change ≡ Replaced prepared.at former text → Follows units (Replace id text) prepared
follows-replaced units prepared id former text stands within former_is rest_is ids_are texts_are given_is change_is old about new kept makes =
    let texts = units.texts.items in
    let ids = units.ids.items in
    let given = units.ids_given in
    let at = prepared.at in
    let is = kept.is in
    let others = remove texts at in
    let fewer = length-remove texts at within in
    let there = id-at ids id at (stands (IsStream-differ old texts ids given is)) in
    let before : IsMore others at former texts = record {
      unit = subst IsUnit (sym former_is) (unit-at old.stream texts at former is.carries within);
      within = omega (arith, fewer, within);
      fits = omega (arith, fewer, kept.bounded);
      more_is = subst (λ (text : List ℕ). texts ≡ insert others at text) (sym former_is) (sym (insert-removed_same texts at former within));
    } in
    let after : IsMore others at text (insert others at text) = record {
      unit = (makes.1.unit, makes.1.accepted);
      within = before.within;
      fits = before.fits;
      more_is = refl;
    } in
    let leads = Leads-replaced old texts (insert others at text) others ids given at id former text is before after there.0 there.1 in
    leads_to units prepared new (insert others at text) ids
    (puts texts at prepared.rest prepared.texts.items text rest_is texts_are
    ∙ (sym (set_split texts at text within) ∙ sym (insert-removed texts at text within)))
    (puts ids at prepared.rest prepared.ids.items id rest_is ids_are ∙ put-same ids at id there.0 there.1)
    (subst (λ (n : ℕ). IsStream new (insert others at text) ids n) (sym given_is)
    (led old (Replace id text) about new (insert others at text) ids given leads makes))
    (omega (arith, length-insert others at text before.within, fewer, kept.bounded))
    (subst (λ (change : UnitChange). Changes texts change (insert others at text)) (sym change_is) (others, before, after))
