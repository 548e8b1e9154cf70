-- What units are read as, and the register that a snapshot is of.
use Rattle.std.proofs.Common.{◌≡◌, ◌↔◌, ℕ, Bool, true, false, suc, zero, ◌<◌, ◌≤◌, cond, eqb, List, [], ◌∷◌, ◌++◌, length, get_or, refl, ap, sym, ◌∙◌, arith}
use Rattle.std.proofs.lemmas.Bool.{false≢true}
use Rattle.std.proofs.lemmas.List.Sums.{sum_by-cons}
use Rattle.access_unit.specs.Answers.{IsAccepted}
use Rattle.access_unit.specs.StreamUnits.{most_units}
use Rattle.access_unit.specs.declared.refused.Refused.{Refused}
use Rattle.access_unit.specs.declared.refused.Refused.TheVariants as refusals
use Rattle.stream_edits.specs.Edits.{Register}
use Rattle.stream_edits.specs.Ids.{units_with}
use Rattle.stream_edits.specs.Streams.{Stream, ids_of as stream_ids}
use Rattle.stream_edits.specs.declared.snapshots.read_snapshot.SnapshotRefused.{SnapshotRefused}
use Rattle.stream_edits.specs.declared.snapshots.read_snapshot.SnapshotRefused.TheVariants.{Memory, NoStream}
use Rattle.stream_edits.specs.SnapshotsIds.{AreIds, ids_of, times}
use Rattle.stream_edits.specs.SnapshotsRefusals.{AreTextsRefused, IsSnapshotRefused, IsTextRefused, refusal_of_text}
use Rattle.stream_edits.specs.Snapshots.{SnapshotValue, AreReadAs, IsOf}

-- one unit more
pub AreReadAs-push : (texts : List (ℕ × List ℕ)) (units : Stream) (text : ℕ × List ℕ) (unit : ℕ × List (List ℕ)) → AreReadAs texts units
    → unit.0 ≡ text.0 → IsAccepted text.1 unit.1 → AreReadAs (texts ++ text ∷ []) (units ++ unit ∷ [])
AreReadAs-push [] [] text unit read is accepted = (is, accepted, tt)
AreReadAs-push (first ∷ texts) (other ∷ units) text unit read is accepted =
    (read.0, read.1, AreReadAs-push texts units text unit read.2 is accepted)
AreReadAs-push [] (other ∷ units) text unit read is accepted = absurd read
AreReadAs-push (first ∷ texts) [] text unit read is accepted = absurd read

-- units are as many as their texts
length-read : (texts : List (ℕ × List ℕ)) (units : Stream) → AreReadAs texts units → length units ≡ length texts
length-read [] [] read = refl
length-read (text ∷ texts) (unit ∷ units) read = ap suc (length-read texts units read.2)
length-read [] (unit ∷ units) read = absurd read
length-read (text ∷ texts) [] read = absurd read

-- and have their ids
ids_read : (texts : List (ℕ × List ℕ)) (units : Stream) → AreReadAs texts units → stream_ids units ≡ ids_of texts
ids_read [] [] read = refl
ids_read (text ∷ texts) (unit ∷ units) read =
    ap (λ (id : ℕ). id ∷ stream_ids units) read.0 ∙ ap (λ (ids : List ℕ). text.0 ∷ ids) (ids_read texts units read.2)
ids_read [] (unit ∷ units) read = absurd read
ids_read (text ∷ texts) [] read = absurd read

-- each text is one of an access unit
accepted_at : (texts : List (ℕ × List ℕ)) (units : Stream) (at : ℕ) (d : ℕ × List ℕ) → AreReadAs texts units → at < length texts
    → (unit : List (List ℕ)) × IsAccepted (get_or texts at d).1 unit
accepted_at [] [] at d read within = absurd (omega arith)
accepted_at (text ∷ texts) (unit ∷ units) zero d read within = (unit.1, read.1)
accepted_at (text ∷ texts) (unit ∷ units) (suc at) d read within = accepted_at texts units at d read.2 (omega (arith, within))
accepted_at [] (unit ∷ units) at d read within = absurd read
accepted_at (text ∷ texts) [] at d read within = absurd read

-- as often as an id is that of a unit, it is one of a text
count_ids : (stream : Stream) (id : ℕ) → times (stream_ids stream) id ≡ units_with stream id
count_ids [] id = refl
count_ids (unit ∷ units) id =
    omega (
      arith,
      count_ids units id,
      sum_by-cons {X = ℕ} (λ other. cond (eqb other id) 1 0) unit.0 (stream_ids units),
      sum_by-cons {X = ℕ × List (List ℕ)} (λ unit. cond (eqb unit.0 id) 1 0) unit units,
    )

times_read : (texts : List (ℕ × List ℕ)) (units : Stream) → AreReadAs texts units → (id : ℕ) → times (ids_of texts) id ≡ units_with units id
times_read texts units read id = ap (λ (ids : List ℕ). times ids id) (sym (ids_read texts units read)) ∙ count_ids units id

-- the ids of a register that a snapshot is of are those of a stream
AreIds-read : (snapshot : SnapshotValue) (register : Register) → IsOf snapshot register → AreIds (ids_of snapshot.units) snapshot.ids_given
AreIds-read snapshot register is = record {
  once = λ id. let same = times_read snapshot.units register.stream is.read_as id in let once = is.differ.once id in omega arith;
  given = λ id stands.
      let same = times_read snapshot.units register.stream is.read_as id in
      let given = is.differ.given id (omega arith) in
      let all = is.given_is in
      (given.0, omega arith);
}

-- the register that a snapshot is of
pub IsOf-read : (snapshot : SnapshotValue) (texts : List (ℕ × List ℕ)) (ids_given : ℕ) (units : Stream) → texts ≡ snapshot.units
    → ids_given ≡ snapshot.ids_given → length texts ≤ most_units → AreIds (ids_of texts) ids_given → AreReadAs texts units
    → IsOf snapshot (record { ids_given = ids_given; stream = units })
IsOf-read snapshot texts ids_given units texts_are given_is few are read = record {
  read_as = rw texts_are at read;
  given_is = given_is;
  differ = record {
    once = λ id. let same = times_read texts units read id in let once = are.once id in omega arith;
    given = λ id stands. let same = times_read texts units read id in are.given id (omega arith);
  };
  bounded = omega (arith, few, length-read texts units read);
}

-- one of too many units is of none
pub refused_many : (snapshot : SnapshotValue) (texts : List (ℕ × List ℕ)) → texts ≡ snapshot.units → most_units < length texts
    → IsSnapshotRefused snapshot NoStream
refused_many snapshot texts texts_are many = λ register is.
    let same = length-read snapshot.units register.stream is.read_as in
    let few = is.bounded in
    let as_many : length texts ≡ length snapshot.units = ap (λ (xs : List (ℕ × List ℕ)). length xs) texts_are in
    omega arith

-- one whose ids are those of no stream is of none
pub refused_ids : (snapshot : SnapshotValue) (texts : List (ℕ × List ℕ)) (ids_given : ℕ) (are : Bool) → texts ≡ snapshot.units
    → ids_given ≡ snapshot.ids_given → (are ≡ true) ↔ AreIds (ids_of texts) ids_given → are ≡ false → IsSnapshotRefused snapshot NoStream
refused_ids snapshot texts ids_given are texts_are given_is told fails = λ register is.
    let ids : AreIds (ids_of texts) ids_given = rw (texts_are, given_is) (AreIds-read snapshot register is) in
    absurd (false≢true (sym fails ∙ told.1 ids))

-- one whose texts are refused is refused so
pub refused_texts : (snapshot : SnapshotValue) (refused : SnapshotRefused) → AreTextsRefused snapshot.units refused → IsSnapshotRefused snapshot refused
refused_texts snapshot Memory is = tt
refused_texts snapshot NoStream is = λ register of. is register.stream of.read_as

-- texts of which one is refused are refused so
pub refused_at : (texts : List (ℕ × List ℕ)) (at : ℕ) (text : ℕ × List ℕ) (refused : SnapshotRefused) → at < length texts → text ≡ get_or texts at text
    → IsTextRefused text.1 refused → AreTextsRefused texts refused
refused_at texts at text Memory within stands is = tt
refused_at texts at text NoStream within stands is = λ units read.
    let found = accepted_at texts units at text read within in
    let accepted : IsAccepted text.1 found.0 = rw (← stands) at found.1 in
    is found.0 accepted

-- a text is refused as it is read
pub refused_text : (text : List ℕ) (refused : Refused) → ((unit : List (List ℕ)) → IsAccepted text unit → refused ≡ refusals.Memory)
    → IsTextRefused text (refusal_of_text refused)
refused_text text refusals.Memory only = tt
refused_text text refused only = λ unit accepted. let same = only unit accepted in absurd (cc)
