-- Edits that are made together.
use Rattle.std.proofs.Common.{◌≡◌, ℕ, ◌≤◌, List, [], ◌∷◌, ◌++◌, length, take, drop, Option, None, Some, refl, ap, sym, ◌∙◌, subst, arith, append_assoc, length-append}
use Rattle.std.proofs.Math.ListN.{get_or-append}
use Rattle.std.proofs.lemmas.List.{take-append-drop, take-append-le}
use Rattle.std.proofs.lemmas.Option.{slice_get_within, slice_get-get_or, get_or_from_slice_get}
use Rattle.access_unit.specs.StreamUnits.{most_units}
use Rattle.stream_edits.specs.declared.edits.Edit.{Edit}
use Rattle.stream_edits.specs.declared.refusals.EditRefused.{EditRefused}
use Rattle.stream_edits.specs.declared.refusals.EditRefused.TheVariants as refusals
use Rattle.stream_edits.specs.declared.group_refused.GroupRefused.{GroupRefused}
use Rattle.stream_edits.specs.declared.group_refused.GroupRefused.TheVariants as groups
use Rattle.stream_edits.specs.Edits.{Register, Makes, Replays}
use Rattle.stream_edits.specs.GroupReading.{IsReadGroup}
use Rattle.stream_edits.specs.GroupRefusals.{IsGroupRefused, IsRefusedAmong, IsRefusedAt, refusal_at}
use Rattle.stream_edits.specs.Groups.{IsSized, MakesAll}
use Rattle.stream_edits.specs.Ids.{HasIds}
use Rattle.stream_edits.specs.Journals.{edits_of}
use Rattle.stream_edits.proofs.Accepted.{AreAccepted, accepted-made}
use Rattle.stream_edits.proofs.Edited.{length-made}
use Rattle.stream_edits.proofs.GivenIds.{HasIds-made}

-- one edit by itself
pub MakesAll-one : (from : Register) (edit : Edit) (id : ℕ) (to : Register) → Makes from edit id to → MakesAll from (edit ∷ []) (id ∷ []) to
MakesAll-one from edit id to makes = (to, makes, refl)

-- one edit more
pub MakesAll-push : (from : Register) (edits : List Edit) (ids : List ℕ) (between : Register) (edit : Edit) (id : ℕ) (to : Register)
    → MakesAll from edits ids between → Makes between edit id to → MakesAll from (edits ++ edit ∷ []) (ids ++ id ∷ []) to
MakesAll-push from [] [] between edit id to is makes =
    let same = sym is in
    (to, rw same at makes, refl)
MakesAll-push from [] (other ∷ ids) between edit id to is makes = absurd is
MakesAll-push from (first ∷ edits) [] between edit id to is makes = absurd is
MakesAll-push from (first ∷ edits) (other ∷ ids) between edit id to all makes =
    (all.0, all.1, MakesAll-push all.0 edits ids between edit id to all.2 makes)

-- the first edit that is refused
pub refused_among : (old : Register) (edits : List Edit) (index : ℕ) (why : EditRefused) → IsRefusedAt old edits index why
    → IsRefusedAmong old edits (refusal_at index why)
refused_among old edits index refusals.Memory is = tt
refused_among old edits index (refusals.Unit refused) is = (λ same. absurd cc, is)
refused_among old edits index refusals.NoSuchUnit is = (λ same. absurd cc, is)
refused_among old edits index refusals.StreamFull is = (λ same. absurd cc, is)
refused_among old edits index refusals.IdsSpent is = (λ same. absurd cc, is)

refused_of : (old : Register) (edits : List Edit) (why : GroupRefused) → IsSized edits → IsRefusedAmong old edits why → IsGroupRefused old edits why
refused_of old edits groups.Empty sized is = absurd is
refused_of old edits groups.TooLarge sized is = absurd is
refused_of old edits (groups.Edit index why) sized is = (sized, is.0, is.1)
refused_of old edits groups.Memory sized is = sized

-- one of the first edits is one of all
refused_before : (old : Register) (first more : List Edit) (index : ℕ) (why : EditRefused) → IsRefusedAt old first index why
    → IsRefusedAt old (first ++ more) index why
refused_before old first more index why is =
    let within = slice_get_within first index is.edit is.stands in
    record {
      edit = is.edit;
      stands =
          slice_get-get_or (first ++ more) index is.edit (omega (arith, within, length-append first more))
          ∙ ap (λ edit. Some edit) (get_or-append first more is.edit index within ∙ get_or_from_slice_get first index is.edit is.edit is.stands);
      ids = is.ids;
      before = is.before;
      accepted = rw (take-append-le index first more (omega (arith, within))) is.accepted;
      refused = is.refused;
    }

among_before : (old : Register) (first more : List Edit) (why : GroupRefused) → IsRefusedAmong old first why
    → IsRefusedAmong old (first ++ more) why
among_before old first more groups.Empty is = is
among_before old first more groups.TooLarge is = is
among_before old first more (groups.Edit index why) is = (is.0, refused_before old first more index why is.1)
among_before old first more groups.Memory is = tt

-- a group is refused where one of the edits that are read is
pub refused_group : (old : Register) (edits read : List Edit) (next : Option EditRefused) (why : GroupRefused) → IsReadGroup edits read next
    → IsRefusedAmong old read why → IsGroupRefused old edits why
refused_group old edits read None why group is =
    refused_of old edits why group.sized (subst (λ edits. IsRefusedAmong old edits why) group.up_to is)
refused_group old edits read (Some next) why group is =
    refused_of old edits why group.sized
    (subst (λ edits. IsRefusedAmong old edits why) (take-append-drop (length read) edits)
    (among_before old (take (length read) edits) (drop (length read) edits) why
    (subst (λ edits. IsRefusedAmong old edits why) group.up_to.0 is)))

-- and where the text of the next one is, once those are made
pub refused_next : (old : Register) (edits read : List Edit) (why : EditRefused) (ids : List ℕ) (before : Register)
    → IsReadGroup edits read (Some why) → MakesAll old read ids before → IsGroupRefused old edits (refusal_at (length read) why)
refused_next old edits read why ids before group makes =
    refused_of old edits (refusal_at (length read) why) group.sized
    (refused_among old edits (length read) why
    (record {
      edit = group.up_to.1;
      stands = group.up_to.2;
      ids = ids;
      before = before;
      accepted = subst (λ edits. MakesAll old edits ids before) group.up_to.0 makes;
      refused = group.up_to.3 before;
    }))

-- what they keep
pub HasIds-all : (from : Register) (edits : List Edit) (ids : List ℕ) (to : Register) → HasIds from → MakesAll from edits ids to → HasIds to
HasIds-all from [] [] to has is = subst HasIds is has
HasIds-all from [] (id ∷ ids) to has is = absurd is
HasIds-all from (edit ∷ edits) [] to has is = absurd is
HasIds-all from (edit ∷ edits) (id ∷ ids) to has all = HasIds-all all.0 edits ids to (HasIds-made from edit id all.0 has all.1) all.2

pub length-all : (from : Register) (edits : List Edit) (ids : List ℕ) (to : Register) → MakesAll from edits ids to
    → length from.stream ≤ most_units → length to.stream ≤ most_units
length-all from [] [] to is short = subst (λ (register : Register). length register.stream ≤ most_units) is short
length-all from [] (id ∷ ids) to is short = absurd is
length-all from (edit ∷ edits) [] to is short = absurd is
length-all from (edit ∷ edits) (id ∷ ids) to all short = length-all all.0 edits ids to all.2 (length-made from edit id all.0 all.1 short)

pub accepted-all : (from : Register) (edits : List Edit) (ids : List ℕ) (to : Register) → AreAccepted from.stream → MakesAll from edits ids to
    → AreAccepted to.stream
accepted-all from [] [] to are is = subst (λ (register : Register). AreAccepted register.stream) is are
accepted-all from [] (id ∷ ids) to are is = absurd is
accepted-all from (edit ∷ edits) [] to are is = absurd is
accepted-all from (edit ∷ edits) (id ∷ ids) to are all =
    accepted-all all.0 edits ids to (accepted-made from edit id all.0 are all.1) all.2

-- they are edits like any others
Replays-all : (from : Register) (edits : List Edit) (ids : List ℕ) (to : Register) → MakesAll from edits ids to → Replays from edits to
Replays-all from [] [] to is = is
Replays-all from [] (id ∷ ids) to is = absurd is
Replays-all from (edit ∷ edits) [] to is = absurd is
Replays-all from (edit ∷ edits) (id ∷ ids) to all = (id, all.0, all.1, Replays-all all.0 edits ids to all.2)

Replays-append : (from : Register) (edits : List Edit) (between : Register) (more : List Edit) (to : Register)
    → Replays from edits between → Replays between more to → Replays from (edits ++ more) to
Replays-append from [] between more to is replays = subst (λ (register : Register). Replays register more to) (sym is) replays
Replays-append from (edit ∷ edits) between more to first replays =
    (first.0, first.1, first.2, Replays-append first.1 edits between more to first.3 replays)

edits_of-push : (journal : List (List Edit)) (entry : List Edit) → edits_of (journal ++ entry ∷ []) ≡ edits_of journal ++ entry
edits_of-push [] entry = append-nil entry
  where
    append-nil : (edits : List Edit) → edits ++ [] ≡ edits
    append-nil [] = refl
    append-nil (edit ∷ edits) = ap (λ (rest : List Edit). edit ∷ rest) (append-nil edits)
edits_of-push (first ∷ journal) entry =
    ap (λ (edits : List Edit). first ++ edits) (edits_of-push journal entry) ∙ sym (append_assoc first (edits_of journal) entry)

-- an entry more in the journal
pub Replays-entry : (start : Register) (journal : List (List Edit)) (from : Register) (entry : List Edit) (ids : List ℕ) (to : Register)
    → Replays start (edits_of journal) from → MakesAll from entry ids to → Replays start (edits_of (journal ++ entry ∷ [])) to
Replays-entry start journal from entry ids to replays all =
    subst (λ (edits : List Edit). Replays start edits to) (sym (edits_of-push journal entry))
    (Replays-append start (edits_of journal) from entry to replays (Replays-all from entry ids to all))
