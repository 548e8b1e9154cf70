-- Edits that make changes.
use Rattle.std.proofs.Common.{◌≡◌, ℕ, suc, ◌+◌, ◌<◌, List, ◌∷◌, length, take, drop, set, get_or, Some, refl, ap, sym, ◌∙◌, subst, arith}
use Rattle.std.specs.Prelude.{insert, remove}
use Rattle.std.proofs.Math.Seq.{map-set_same}
use Rattle.std.proofs.lemmas.List.{map-append, take-map, drop-map, length-map, get_or-map}
use Rattle.stream_edits.specs.declared.edits.Edit.TheVariants.{Insert, Delete, Replace}
use Rattle.stream_edits.specs.declared.edits.InsertionPoint.{InsertionPoint}
use Rattle.stream_edits.specs.Edits.{Register, Inserts, Deletes, Replaces, most_ids}
use Rattle.picture_keys.specs.Units.{AreDifferent}
use Rattle.stream_edits.specs.Streams.{Stream, ids_of, place_among, start_among}
use Rattle.stream_edits.proofs.GivenIds.{AreDifferent-ids, HasIds-made}
use Rattle.stream_edits.proofs.LastId.{found_at}
use Rattle.edit_history.specs.Changes.{IsMore}
use Rattle.edit_history.specs.Groups.{Leads}
use Rattle.edit_history.specs.Texts.{Texts, Carries, IsStream}
use Rattle.edit_history.proofs.Carried.{Carries-insert, Carries-length, Carries-remove, Carries-set}

-- the ids of a stream with a unit more, and with one fewer
pub ids-insert : (units : Stream) (at id : ℕ) (unit : List (List ℕ)) → insert (ids_of units) at id ≡ ids_of (insert units at (id, unit))
ids-insert units at id unit =
    let number : ℕ × List (List ℕ) → ℕ = λ unit. unit.0 in
    rw (map-append number (take at units) ((id, unit) ∷ drop at units), take-map number at units, drop-map number at units) refl

pub ids-remove : (units : Stream) (at : ℕ) → remove (ids_of units) at ≡ ids_of (remove units at)
ids-remove units at =
    let number : ℕ × List (List ℕ) → ℕ = λ unit. unit.0 in
    rw (map-append number (take at units) (drop (suc at) units), take-map number at units, drop-map number (suc at) units) refl

-- ids of a stream differ
pub IsStream-differ : (old : Register) (texts : Texts) (ids : List ℕ) (given : ℕ) → IsStream old texts ids given → AreDifferent ids
IsStream-differ old texts ids given is = subst AreDifferent (sym is.ids_are) (AreDifferent-ids old is.differ)

-- and are as many as its texts
pub IsStream-length : (old : Register) (texts : Texts) (ids : List ℕ) (given : ℕ) → IsStream old texts ids given → length ids ≡ length texts
IsStream-length old texts ids given is =
    ap length is.ids_are ∙ (length-map old.stream (λ (unit : ℕ × List (List ℕ)). unit.0) ∙ Carries-length old.stream texts is.carries)

-- an insertion
pub Leads-inserted : (old : Register) (before after : Texts) (ids : List ℕ) (given at : ℕ) (text : List ℕ) (place : InsertionPoint)
    → IsStream old before ids given → IsMore before at text after → start_among ids place ≡ Some at → given < most_ids
    → Leads old (Insert place text) after (insert ids at (given + 1)) (given + 1)
Leads-inserted old before after ids given at text place is more stands left =
    let new : Register = record { ids_given = given + 1; stream = insert old.stream at (given + 1, more.unit.0) } in
    let makes : Inserts old place text (given + 1) new = record {
      at = at;
      unit = more.unit.0;
      accepted = more.unit.1;
      stands = subst (λ (ids : List ℕ). start_among ids place ≡ Some at) is.ids_are stands;
      fits = omega (arith, Carries-length old.stream before is.carries, more.fits);
      is_left = omega (arith, is.given_is, left);
      id_is = ap (λ (n : ℕ). n + 1) is.given_is;
      given_is = refl;
      stream_is = refl;
    } in
    record {
      id = given + 1;
      new = new;
      makes = makes;
      is = record {
        differ = HasIds-made old (Insert place text) (given + 1) new is.differ makes;
        carries =
            subst (λ (texts : Texts). Carries new.stream texts) (sym more.more_is)
            (Carries-insert old.stream before at (given + 1) more.unit.0 text is.carries more.unit.1);
        ids_are = ap (λ (ids : List ℕ). insert ids at (given + 1)) is.ids_are ∙ ids-insert old.stream at (given + 1) more.unit.0;
        given_is = refl;
      };
    }

-- the id at a place is found there
placed : (old : Register) (texts : Texts) (ids : List ℕ) (given at id : ℕ) → IsStream old texts ids given → at < length ids → id ≡ get_or ids at id
    → place_among (ids_of old.stream) id ≡ Some at
placed old texts ids given at id is within found =
    subst (λ (ids : List ℕ). place_among ids id ≡ Some at) is.ids_are
    (ap (place_among ids) found ∙ sym (found_at ids at id within (IsStream-differ old texts ids given is)))

-- a deletion
pub Leads-deleted : (old : Register) (before after : Texts) (ids : List ℕ) (given at id : ℕ) (text : List ℕ)
    → IsStream old before ids given → IsMore after at text before → at < length ids → id ≡ get_or ids at id
    → Leads old (Delete id) after (remove ids at) given
Leads-deleted old before after ids given at id text is more within found =
    let new : Register = record { ids_given = old.ids_given; stream = remove old.stream at } in
    let makes : Deletes old id new = record { at = at; stands = placed old before ids given at id is within found; given_is = refl; stream_is = refl } in
    record {
      id = id;
      new = new;
      makes = (refl, makes);
      is = record {
        differ = HasIds-made old (Delete id) id new is.differ (refl, makes);
        carries =
            Carries-remove old.stream after at text more.within
            (subst (λ (texts : Texts). Carries old.stream texts) more.more_is is.carries);
        ids_are = ap (λ (ids : List ℕ). remove ids at) is.ids_are ∙ ids-remove old.stream at;
        given_is = is.given_is;
      };
    }

-- a replacement
pub Leads-replaced : (old : Register) (before after others : Texts) (ids : List ℕ) (given at id : ℕ) (former text : List ℕ)
    → IsStream old before ids given → IsMore others at former before → IsMore others at text after → at < length ids → id ≡ get_or ids at id
    → Leads old (Replace id text) after ids given
Leads-replaced old before after others ids given at id former text is fewer more within found =
    let unit : List (List ℕ) = more.unit.0 in
    let inside : at < length old.stream = omega (
      arith,
      within,
      IsStream-length old before ids given is,
      Carries-length old.stream before is.carries,
    ) in
    let new : Register = record { ids_given = old.ids_given; stream = set old.stream at (id, unit) } in
    let makes : Replaces old id text new = record {
      at = at;
      unit = unit;
      accepted = more.unit.1;
      stands = placed old before ids given at id is within found;
      given_is = refl;
      stream_is = refl;
    } in
    let number : ℕ × List (List ℕ) → ℕ = λ unit. unit.0 in
    let here : id ≡ number (get_or old.stream at (id, unit)) =
    found ∙ (ap (λ (ids : List ℕ). get_or ids at id) is.ids_are ∙ get_or-map number old.stream at (id, unit) id inside) in
    record {
      id = id;
      new = new;
      makes = (refl, makes);
      is = record {
        differ = HasIds-made old (Replace id text) id new is.differ (refl, makes);
        carries =
            subst (λ (texts : Texts). Carries new.stream texts) (sym more.more_is)
            (Carries-set old.stream others at id unit former text more.within inside
            (subst (λ (texts : Texts). Carries old.stream texts) fewer.more_is is.carries) more.unit.1);
        ids_are = is.ids_are ∙ sym (map-set_same number old.stream at (id, unit) (id, unit) here);
        given_is = is.given_is;
      };
    }
