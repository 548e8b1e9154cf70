-- How many bytes reading edits hashes.
use Rattle.std.proofs.Common.{◌≡◌, ℕ, ◌+◌, ◌≤◌, List, [], ◌∷◌, ◌++◌, refl, arith}
use Rattle.std.specs.Prelude.{None, Some}
use Rattle.access_unit.specs.Answers.{IsAccepted}
use Rattle.access_unit.proofs.Lengths.{length_joined}
use Rattle.picture_keys.specs.Digests.{slice_bytes}
use Rattle.picture_keys.proofs.Slices.{slice_bytes-within}
use Rattle.stream_edits.specs.declared.edits.Edit.{Edit}
use Rattle.stream_edits.specs.declared.edits.Edit.TheVariants.{Insert, Delete, Replace}
use Rattle.stream_edits.specs.Reading.{AreHashedFor, IsHashedFor, IsHashedText, IsUnitOf}

-- those of the slices of a text's unit
hashed_text : (text : List ℕ) (unit : List (List ℕ)) (hashed : ℕ) → IsAccepted text unit → hashed ≡ slice_bytes unit → IsHashedText text hashed
hashed_text text unit hashed accepted is = record {
  unit = unit;
  accepted = accepted;
  hashed_is = is;
  within = omega (arith, is, slice_bytes-within unit, length_joined text unit accepted.has);
}

pub hashed_some : (edit : Edit) (unit : List (List ℕ)) (hashed : ℕ) → IsUnitOf edit (Some unit) → hashed ≡ slice_bytes unit → IsHashedFor edit hashed
hashed_some (Insert place text) unit hashed of is = hashed_text text unit hashed of is
hashed_some (Delete id) unit hashed of is = absurd of
hashed_some (Replace id text) unit hashed of is = hashed_text text unit hashed of is

pub hashed_none : (edit : Edit) → IsUnitOf edit None → IsHashedFor edit 0
hashed_none (Insert place text) of = absurd of
hashed_none (Delete id) of = refl
hashed_none (Replace id text) of = absurd of

-- no more than a text of an access unit has
pub hashed_few : (edit : Edit) (hashed : ℕ) → IsHashedFor edit hashed → hashed ≤ 4194304
hashed_few (Insert place text) hashed is = omega (arith, is.within, is.accepted.short)
hashed_few (Delete id) hashed is = omega (arith, is)
hashed_few (Replace id text) hashed is = omega (arith, is.within, is.accepted.short)

-- one edit more
pub hashed_more : (edits : List Edit) (edit : Edit) (hashed more : ℕ) → AreHashedFor edits hashed → IsHashedFor edit more
    → AreHashedFor (edits ++ edit ∷ []) (hashed + more)
hashed_more [] edit hashed more are is = (more, 0, is, refl, omega (arith, are))
hashed_more (first ∷ edits) edit hashed more are is =
    let left = are.4 in
    (are.0, are.1 + more, are.2, hashed_more edits edit are.1 more are.3 is, omega (arith, left))
