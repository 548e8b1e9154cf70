-- The access units of a text, each joined to a text of its own.
use Rattle.std.proofs.Common.{◌≡◌, ◌≢◌, ⊎_elim, ℕ, ◌-◌, ◌<◌, ◌≤◌, List, [], ◌∷◌, ◌++◌, length, map, take, drop, get_or, slice_range, All, Option, None, Some, Result, Ok, Err, IfOk, refl, ap, sym, ◌∙◌, arith}
use Rattle.std.specs.List.{AllZip}
use Rattle.std.specs.Result.{IsOkUnless}
use Rattle.std.specs.Global.{Vec}
use Rattle.std.specs.declared.ops.Range.{Range}
use Rattle.std.proofs.lemmas.List.{length-take, length-drop}
use Rattle.std.proofs.lemmas.List.Elements.{All-nil, All-cons, All-head, All-tail, All-map, All-take, All-drop, All-get_or}
use Rattle.annexb.specs.NalUnit.{IsUnit}
use Rattle.annexb.specs.ByteStream.{HasUnits, joined}
use Rattle.annexb.specs.AccessUnits.{IsCut, parts_at}
use Rattle.annexb.proofs.Readings.{same_reading, HasUnits-joined}
use Rattle.annexb.proofs.Cuts.{cut_from, same_cut}
use Rattle.access_unit.specs.declared.refused.Refused.{Refused}
use Rattle.access_unit.specs.declared.refused.Refused.TheVariants as refusals
use Rattle.access_unit.specs.declared.stream.StreamRefused.{StreamRefused}
use Rattle.access_unit.specs.declared.stream.StreamRefused.TheVariants as stream
use Rattle.access_unit.specs.Answers.{IsSplit, IsAccepted, IsRefused, IsReadAs}
use Rattle.access_unit.specs.Stored.{units_in}
use Rattle.access_unit.specs.Gathered.{HasUnitsAt, IsGathered}
use Rattle.access_unit.specs.Streams.{HasAccessUnits, AreAccepted, IsFirstRefused, IsStreamReadAs}
use Rattle.access_unit.proofs.Pieces.{all_units}
use Rattle.access_unit.proofs.Texts.{never_refused}

-- some of the NAL units of a text are those of their own text
pub HasUnits-part : (text : List ℕ) (units : List (List ℕ)) (start end : ℕ) → HasUnits text units → start < end → end ≤ length units
    → HasUnits (joined (slice_range units start end)) (slice_range units start end)
HasUnits-part text units start end has some within =
    HasUnits-joined (slice_range units start end)
    (omega (arith, length-take {A = List ℕ} (end - start) (drop start units), length-drop {A = List ℕ} start units))
    (All-take IsUnit (end - start) (drop start units) (All-drop IsUnit start units (all_units has.rest units has.rest_is)))

-- a text that isn't split has no NAL units
pub unsplit : (text : List ℕ) (found : Option (Vec (List ℕ))) → ((nals : Vec (List ℕ)) → found ≡ Some nals → ⊥) → IsSplit text (units_in found)
    → (units : List (List ℕ)) → ¬ HasUnits text units
unsplit text None none h = h
unsplit text (Some nals) none h = absurd (none nals refl)

-- two readings of a text have the same access units
same_parts : (text : List ℕ) (parts others : List (List (List ℕ))) → HasAccessUnits text parts → HasAccessUnits text others → parts ≡ others
same_parts text parts others h h' =
    let units = same_reading text h.units h'.units h.has h'.has in
    sym (same_cut h.units parts h.cut) ∙ ap (cut_from []) units ∙ same_cut h'.units others h'.cut

-- a stream of access units has one answer, but for lack of memory
pub only_stream : (text : List ℕ) (parts : List (List (List ℕ))) → HasAccessUnits text parts → AreAccepted parts
    → (result : Result (Vec (List (List ℕ))) StreamRefused) → IsStreamReadAs text result
    → IfOk result (λ units. units.items ≡ parts) × IsOkUnless result stream.Memory
only_stream text parts has accepted (Ok units) read = (same_parts text units.items parts read.0 has, tt)
only_stream text parts has accepted (Err stream.Split) read = absurd (read has.units has.has)
only_stream text parts has accepted (Err stream.Memory) read = (tt, refl)
only_stream text parts has accepted (Err (stream.Unit index refused)) (others, has', first) =
    let same = same_parts text others parts has' has in
    let here : index < length parts = rw same at first.in_range in
    let is_refused : IsRefused (joined (get_or parts index [])) refused = rw same at first.is_refused in
    absurd (never_refused _ _ refused (All-get_or (λ part. IsAccepted (joined part) part) parts index [] here accepted) is_refused)

-- each range of a cut has NAL units of the text
pub HasUnitsAt-ranges : (text : List ℕ) (units : List (List ℕ)) (ranges : List (Range ℕ)) → HasUnits text units
    → All (λ range. (range.start < range.end) × (range.end ≤ length units)) ranges → All (HasUnitsAt units) ranges
HasUnitsAt-ranges text units ranges has in_range = λ k d here.
    let within = in_range k d here in
    record { ordered = omega arith; within = within.1; has = HasUnits-part text units _ _ has within.0 within.1 }

-- what an access unit's own text is read as
abbrev pub IsReading : List (List ℕ) → Result (List (List ℕ)) Refused → Type 0
IsReading part answer = IsReadAs (joined part) answer

-- joined, each is a text of its NAL units
abbrev AreOwn : List (List (List ℕ)) → Type 0
AreOwn parts = All (λ part. HasUnits (joined part) part) parts

-- an access unit that is read is itself
accepted_part : (part unit : List (List ℕ)) → HasUnits (joined part) part → IsAccepted (joined part) unit
    → (unit ≡ part) × IsAccepted (joined part) part
accepted_part part unit has accepted =
    let same : unit ≡ part = same_reading (joined part) unit part accepted.has has in
    (same, rw same at accepted)

all_accepted : (parts units : List (List (List ℕ))) → AreOwn parts → AllZip IsReading parts (map Ok units)
    → (units ≡ parts) × AreAccepted parts
all_accepted [] [] own read = (refl, All-nil (λ part. IsAccepted (joined part) part))
all_accepted [] (unit ∷ units) own read = absurd read
all_accepted (part ∷ parts) [] own read = absurd read
all_accepted (part ∷ parts) (unit ∷ units) own read =
    let first = accepted_part part unit (All-head (λ part. HasUnits (joined part) part) part parts own) read.0 in
    let rest = all_accepted parts units (All-tail (λ part. HasUnits (joined part) part) part parts own) read.1 in
    (rw (first.0, rest.0) refl, All-cons (λ part. IsAccepted (joined part) part) part parts first.1 rest.1)

first_refused : (parts units : List (List (List ℕ))) (refused : Refused) (others : List (Result (List (List ℕ)) Refused)) → refused ≢ refusals.Memory
    → AreOwn parts → AllZip IsReading parts (map Ok units ++ Err refused ∷ others) → IsFirstRefused parts (length units) refused
first_refused [] [] refused others other own read = absurd read
first_refused [] (unit ∷ units) refused others other own read = absurd read
first_refused (part ∷ parts) [] refused others other own read = record {
  in_range = omega arith;
  is_refused = ⊎_elim (λ memory. absurd (other memory)) (λ is_refused. is_refused) read.0;
  before = All-nil (λ part. IsAccepted (joined part) part);
}
first_refused (part ∷ parts) (unit ∷ units) refused others other own read =
    let first = accepted_part part unit (All-head (λ part. HasUnits (joined part) part) part parts own) read.0 in
    let rest = first_refused parts units refused others other (All-tail (λ part. HasUnits (joined part) part) part parts own) read.1 in
    record {
      in_range = omega (arith, rest.in_range);
      is_refused = rest.is_refused;
      before = All-cons (λ part. IsAccepted (joined part) part) part (take (length units) parts) first.1 rest.before;
    }

-- what the access units of a text are read as answers for the stream
module _ (text : List ℕ) (units : List (List ℕ)) (ranges : List (Range ℕ)) (has : HasUnits text units) (own : All (HasUnitsAt units) ranges)
    (cut : IsCut units (parts_at units ranges)) (answers : List (Result (List (List ℕ)) Refused)) (read : AllZip IsReading (parts_at units ranges) answers) where
  abbrev parts : List (List (List ℕ))
  parts = parts_at units ranges

  own_parts : AreOwn parts
  own_parts = All-map (λ part. HasUnits (joined part) part) (λ (range : Range ℕ). slice_range units range.start range.end) ranges (λ k d here. (own k d here).has)

  pub IsStreamReadAs-gathered : (result : Result (Vec (List (List ℕ))) StreamRefused) → IsGathered answers result → IsStreamReadAs text result
  IsStreamReadAs-gathered (Ok got) gathered =
      let all = all_accepted parts got.items own_parts (rw gathered at read) in
      (record { units = units; has = has; cut = rw all.0 cut }, rw all.0 all.1)
  IsStreamReadAs-gathered (Err stream.Split) gathered = absurd gathered
  IsStreamReadAs-gathered (Err stream.Memory) gathered = tt
  IsStreamReadAs-gathered (Err (stream.Unit index refused)) gathered =
      let first = first_refused parts gathered.units refused gathered.others gathered.not_memory own_parts (rw gathered.answers_are at read) in
      (parts, record { units = units; has = has; cut = cut }, rw gathered.index_is first)
