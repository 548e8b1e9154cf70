-- What follows from an edit that is accepted or refused.
use Rattle.std.proofs.Common.{◌≡◌, ℕ, suc, ◌≤◌, List, [], ◌∷◌, ◌++◌, length, take, drop, length-set, length-append, length-drop, ⊎_elim, refl, ap, sym, arith, ◌⊎◌}
use Rattle.std.proofs.lemmas.List.{take-append-drop, length-take}
use Rattle.access_unit.specs.declared.refused.Refused.{Refused}
use Rattle.access_unit.specs.declared.refused.Refused.TheVariants as texts
use Rattle.access_unit.specs.Answers.{IsRefused as IsTextRefused}
use Rattle.access_unit.specs.StreamUnits.{most_units}
use Rattle.stream_edits.specs.declared.accepting.AcceptedEdit.{AcceptedEdit}
use Rattle.stream_edits.specs.declared.edits.Edit.{Edit}
use Rattle.stream_edits.specs.declared.edits.Edit.TheVariants.{Insert, Delete, Replace}
use Rattle.stream_edits.specs.declared.edits.InsertionPoint.{InsertionPoint}
use Rattle.stream_edits.specs.declared.refusals.EditRefused.{EditRefused}
use Rattle.stream_edits.specs.declared.refusals.EditRefused.TheVariants as refusals
use Rattle.stream_edits.specs.Numbers.{refusal_of_text}
use Rattle.stream_edits.specs.Edits.{Register, Makes, Replays}
use Rattle.stream_edits.specs.Refusals.{IsRefused, IsRefusedText, IsSplittable, TakesMemory}
use Rattle.stream_edits.specs.Changes.{IsFor}

-- an accepted edit after others
pub Replays-push : (from : Register) (edits : List Edit) (between : Register) (edit : Edit) (id : ℕ) (to : Register)
    → Replays from edits between → Makes between edit id to → Replays from (edits ++ edit ∷ []) to
Replays-push from [] between edit id to is makes =
    let same = sym is in
    (id, to, rw same at makes, refl)
Replays-push from (first ∷ edits) between edit id to replays makes =
    (replays.0, replays.1, replays.2, Replays-push replays.1 edits between edit id to replays.3 makes)

-- an accepted edit keeps a stream within the most units
pub length-made : (old : Register) (edit : Edit) (id : ℕ) (new : Register) → Makes old edit id new
    → length old.stream ≤ most_units → length new.stream ≤ most_units
length-made old (Insert place text) id new makes short =
    let whole = length-append (take makes.at old.stream) ((id, makes.unit) ∷ drop makes.at old.stream) in
    let fits = makes.fits in
    let parts = ap length (take-append-drop makes.at old.stream) in
    let both = length-append (take makes.at old.stream) (drop makes.at old.stream) in
    rw makes.stream_is (omega (arith, whole, both, parts, fits))
length-made old (Delete deleted) id new makes short =
    rw makes.1.stream_is (omega (
      arith,
      length-append (take makes.1.at old.stream) (drop (suc makes.1.at) old.stream),
      length-take makes.1.at old.stream,
      length-drop (suc makes.1.at) old.stream,
      short,
    ))
length-made old (Replace replaced text) id new makes short =
    rw makes.1.stream_is (omega (arith, length-set old.stream makes.1.at (replaced, makes.1.unit), short))

-- an edit that is accepted may run out of memory
pub TakesMemory-for : (old : Register) (edit : Edit) (accepted : AcceptedEdit) → IsFor old edit accepted → TakesMemory old.stream edit
TakesMemory-for old (Insert place text) accepted is = (is.makes.accepted.short, is.makes.unit, is.makes.accepted.has)
TakesMemory-for old (Delete id) accepted is = (is.makes.1.at, is.makes.1.stands)
TakesMemory-for old (Replace id text) accepted is = (is.makes.1.accepted.short, is.makes.1.unit, is.makes.1.accepted.has)

-- a text is refused as it is read
pub refused_text : (text : List ℕ) (refused : Refused) → (refused ≡ texts.Memory → IsSplittable text)
    → (refused ≡ texts.Memory) ⊎ IsTextRefused text refused → IsRefusedText text (refusal_of_text refused)
refused_text text texts.Memory memory is = memory refl
refused_text text refused memory is = ⊎_elim (λ (wants : refused ≡ texts.Memory). absurd (cc)) (λ so. so) is

-- an insertion is refused as its text is
pub Insert-refused : (old : Register) (place : InsertionPoint) (text : List ℕ) (refused : EditRefused) → IsRefusedText text refused
    → IsRefused old (Insert place text) refused
Insert-refused old place text (refusals.Unit refused) is = is
Insert-refused old place text refusals.NoSuchUnit is = absurd is
Insert-refused old place text refusals.StreamFull is = absurd is
Insert-refused old place text refusals.IdsSpent is = absurd is
Insert-refused old place text refusals.Memory is = is

-- and so is a replacement
pub Replace-refused : (old : Register) (id : ℕ) (text : List ℕ) (refused : EditRefused) → IsRefusedText text refused
    → IsRefused old (Replace id text) refused
Replace-refused old id text (refusals.Unit refused) is = is
Replace-refused old id text refusals.NoSuchUnit is = absurd is
Replace-refused old id text refusals.StreamFull is = absurd is
Replace-refused old id text refusals.IdsSpent is = absurd is
Replace-refused old id text refusals.Memory is = is

-- a text that is refused for another reason than memory refuses the edit so
pub refusal_of_text-other : (refused : Refused) → (refused ≡ texts.Memory → ⊥) → refusals.Unit refused ≡ refusal_of_text refused
refusal_of_text-other texts.Memory other = absurd (other refl)
refusal_of_text-other refused other = refl
