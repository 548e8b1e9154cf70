-- Changes, one after the other, and the edits that make them.
use Rattle.std.proofs.Common.{◌≡◌, ℕ, ◌+◌, ◌-◌, ◌≤◌, ◌<◌, List, [], ◌∷◌, ◌++◌, length, drop, get_or, refl, ap, sym, ◌∙◌, subst, arith}
use Rattle.std.proofs.Math.ListN.{drop_of_length-le}
use Rattle.std.proofs.lemmas.List.{drop_more}
use Rattle.std.proofs.lemmas.List.Edits.{length-insert}
use Rattle.stream_edits.specs.declared.edits.Edit.{Edit}
use Rattle.stream_edits.specs.Edits.{Register}
use Rattle.stream_edits.proofs.Grouped.{MakesAll-push}
use Rattle.edit_history.specs.declared.changes.UnitChange.{UnitChange}
use Rattle.edit_history.specs.declared.changes.UnitChange.TheVariants.{Inserted, Deleted, Replaced}
use Rattle.edit_history.specs.declared.refusals.NotUndone.{NotUndone}
use Rattle.edit_history.specs.declared.refusals.NotUndone.TheVariants.{Nothing, IdsSpent, Unfit, Memory}
use Rattle.edit_history.specs.Changes.{Changes, ChangesAll, IsMore, IsWithin}
use Rattle.edit_history.specs.Groups.{Leads, LeadsAll}
use Rattle.edit_history.specs.Refusals.{IsRefusedFor}
use Rattle.edit_history.specs.Texts.{Texts, IsStream}
use Rattle.edit_history.proofs.Led.{IsStream-length}

-- one change more
pub ChangesAll-push : (old : Texts) (changes : List UnitChange) (between : Texts) (change : UnitChange) (new : Texts) → ChangesAll old changes between
    → Changes between change new → ChangesAll old (changes ++ change ∷ []) new
ChangesAll-push old [] between change new is changes =
    (new, subst (λ (texts : Texts). Changes texts change new) (sym is) changes, refl)
ChangesAll-push old (first ∷ changes) between change new all next =
    (all.0, all.1, ChangesAll-push all.0 changes between change new all.2 next)

-- there is one more where one is more
pub more-length : (fewer : Texts) (at : ℕ) (text : List ℕ) (more : Texts) → IsMore fewer at text more → length more ≡ length fewer + 1
more-length fewer at text more is = ap length is.more_is ∙ length-insert fewer at text is.within

-- the place of a change is there
pub within-change : (before : Texts) (change : UnitChange) (after : Texts) (units : ℕ) → units ≡ length before → Changes before change after → IsWithin units change
within-change before (Inserted at text) after units are is = omega (arith, are, is.within)
within-change before (Deleted at text) after units are is = omega (arith, are, is.within, more-length after at text before is)
within-change before (Replaced at former text) after units are is =
    omega (arith, are, is.1.within, more-length is.0 at former before is.1)

-- among the ids of a stream
pub within-stream : (old : Register) (before : Texts) (ids : List ℕ) (given : ℕ) (change : UnitChange) (after : Texts) → IsStream old before ids given
    → Changes before change after → IsWithin (length ids) change
within-stream old before ids given change after is changes =
    within-change before change after (length ids) (IsStream-length old before ids given is) changes

-- one edit more is made
pub LeadsAll-push : (old : Register) (edits : List Edit) (before : Texts) (ids : List ℕ) (given : ℕ) (edit : Edit) (after : Texts) (more : List ℕ) (more_given : ℕ)
    → (all : LeadsAll old edits before ids given) → Leads all.new edit after more more_given → LeadsAll old (edits ++ edit ∷ []) after more more_given
LeadsAll-push old edits before ids given edit after more more_given all leads = record {
  about = all.about ++ leads.id ∷ [];
  new = leads.new;
  makes = MakesAll-push old edits all.about all.new edit leads.id leads.new all.makes leads.makes;
  is = leads.is;
}

-- before the first edit
pub LeadsAll-none : (old : Register) (before : Texts) (ids same : List ℕ) (given as_many : ℕ) → IsStream old before ids given → same ≡ ids
    → as_many ≡ given → LeadsAll old [] before same as_many
LeadsAll-none old before ids same given as_many is ids_are given_is = record {
  about = [];
  new = old;
  makes = refl;
  is = record {
    differ = is.differ;
    carries = is.carries;
    ids_are = ids_are ∙ is.ids_are;
    given_is = given_is ∙ is.given_is;
  };
}

-- so many changes are made by as many edits, and the others are left
pub record IsPartly (old : Register) (edits : List Edit) (changes : List UnitChange) (index : ℕ) (ids : List ℕ) (given : ℕ) (after : Texts) : Type 0 where
  pub between : Texts
  pub made : LeadsAll old edits between ids given
  pub left : ChangesAll between (drop index changes) after

-- the changes from a place on begin with the one at it
pub from_change : (before : Texts) (changes : List UnitChange) (index : ℕ) (change : UnitChange) (after : Texts) → index < length changes
    → change ≡ get_or changes index change → ChangesAll before (drop index changes) after
    → ChangesAll before (change ∷ drop (index + 1) changes) after
from_change before changes index change after inside item all =
    subst (λ (rest : List UnitChange). ChangesAll before rest after)
    (drop_more changes index change inside ∙ ap (λ (first : UnitChange). first ∷ drop (index + 1) changes) (sym item)) all

pub IsPartly-more : (old : Register) (edits : List Edit) (changes : List UnitChange) (index : ℕ) (change : UnitChange) (edit : Edit) (ids : List ℕ) (given : ℕ)
    (more : List ℕ) (more_given : ℕ) (after : Texts) → index < length changes → change ≡ get_or changes index change
    → ((old : Register) (before after : Texts) → IsStream old before ids given → Changes before change after → Leads old edit after more more_given)
    → IsPartly old edits changes index ids given after → IsPartly old (edits ++ edit ∷ []) changes (index + 1) more more_given after
IsPartly-more old edits changes index change edit ids given more more_given after inside item leads is =
    let left = from_change is.between changes index change after inside item is.left in
    record {
      between = left.0;
      made =
          LeadsAll-push old edits is.between ids given edit left.0 more more_given is.made
          (leads is.made.new is.between left.0 is.made.is left.1);
      left = left.2;
    }

-- all are made
pub IsPartly-whole : (old : Register) (edits : List Edit) (changes : List UnitChange) (index : ℕ) (ids : List ℕ) (given : ℕ) (after : Texts)
    → length changes ≤ index → IsPartly old edits changes index ids given after → LeadsAll old edits after ids given
IsPartly-whole old edits changes index ids given after late is =
    let same : is.between ≡ after =
    subst (λ (rest : List UnitChange). ChangesAll is.between rest after) (drop_of_length-le changes late) is.left in
    subst (λ (texts : Texts). LeadsAll old edits texts ids given) same is.made

-- the next one fits
pub IsPartly-fits : (old : Register) (edits : List Edit) (changes : List UnitChange) (index : ℕ) (change : UnitChange) (ids : List ℕ) (given : ℕ) (after : Texts)
    → index < length changes → change ≡ get_or changes index change → IsPartly old edits changes index ids given after → IsWithin (length ids) change
IsPartly-fits old edits changes index change ids given after inside item is =
    let left = from_change is.between changes index change after inside item is.left in
    within-stream is.made.new is.between ids given change left.0 is.made.is left.1

-- so many of the last changes are taken back
abbrev pub IsBack : List UnitChange → ℕ → List UnitChange → Type 0
IsBack changes index inverse = (old new : Texts) → ChangesAll old (drop (length changes - index) changes) new → ChangesAll new inverse old

pub IsBack-none : (changes : List UnitChange) → IsBack changes 0 []
IsBack-none changes old new all =
    sym (subst (λ (rest : List UnitChange). ChangesAll old rest new) (drop_of_length-le changes (omega arith)) all)

pub IsBack-more : (changes : List UnitChange) (index at : ℕ) (last back : UnitChange) (inverse : List UnitChange) → at + index + 1 ≡ length changes
    → last ≡ get_or changes at last → ((old new : Texts) → Changes old last new → Changes new back old)
    → IsBack changes index inverse → IsBack changes (index + 1) (inverse ++ back ∷ [])
IsBack-more changes index at last back inverse place item one is old new all =
    let here : length changes - (index + 1) ≡ at = omega (arith, place) in
    let behind : at + 1 ≡ length changes - index = omega (arith, place) in
    let left =
    from_change old changes at last new (omega (arith, place)) item
    (subst (λ (n : ℕ). ChangesAll old (drop n changes) new) here all) in
    ChangesAll-push new inverse left.0 back old
    (is left.0 new (subst (λ (n : ℕ). ChangesAll left.0 (drop n changes) new) behind left.2))
    (one old left.0 left.1)

pub IsBack-whole : (changes inverse : List UnitChange) (index : ℕ) (old new : Texts) → index ≡ length changes → IsBack changes index inverse
    → ChangesAll old changes new → ChangesAll new inverse old
IsBack-whole changes inverse index old new whole is all =
    let none : 0 ≡ length changes - index = omega (arith, whole) in
    is old new (subst (λ (n : ℕ). ChangesAll old (drop n changes) new) none all)

-- a refusal for so many ids is one for more
pub refused_for-more : (ids more : ℕ) (why : NotUndone) → ids ≤ more → IsRefusedFor ids why → IsRefusedFor more why
refused_for-more ids more Nothing fewer is = absurd is
refused_for-more ids more IdsSpent fewer is = omega (arith, fewer, is)
refused_for-more ids more Unfit fewer is = tt
refused_for-more ids more Memory fewer is = tt
