-- Snapshots of streams whose texts are kept.
use Rattle.std.proofs.Common.{◌≡◌, ℕ, ◌+◌, ◌<◌, List, [], ◌∷◌, ◌++◌, length, take, get_or, map, ap, refl, sym, ◌∙◌, subst, arith}
use Rattle.std.specs.Prelude.{zip}
use Rattle.std.proofs.lemmas.List.{take_more}
use Rattle.std.proofs.lemmas.Slice.Zip.{firsts-zip, get_or-zip, length-zip, seconds-zip}
use Rattle.edit_history.specs.Texts.{Texts, Carries}
use Rattle.edit_history.proofs.Carried.{Carries-length}
use Rattle.stream_edits.specs.Edits.{Register}
use Rattle.stream_edits.specs.Streams.{Stream, ids_of}
use Rattle.stream_edits.specs.Snapshots.{AreReadAs, IsOf, SnapshotValue}
use Rattle.edit_history.specs.declared.undo_redo.unit_texts.UnitTexts.{UnitTexts}
use Rattle.edit_history.specs.KeptTexts.{IsKept}
use Rattle.edit_history.specs.Snapshots.{AreOf}
use Rattle.edit_history.proofs.Refused.{as_many}

-- units that a snapshot's texts are read as carry these texts under the snapshot's ids
pub record HasBoth (units : List (ℕ × List ℕ)) (stream : Stream) : Type 0 where
  pub carries : Carries stream (map (λ unit. unit.1) units)
  pub ids_are : map (λ unit. unit.0) units ≡ ids_of stream

pub both : (units : List (ℕ × List ℕ)) (stream : Stream) → AreReadAs units stream → HasBoth units stream
both [] [] are = record { carries = tt; ids_are = refl }
both [] (unit ∷ stream) are = absurd are
both (first ∷ units) [] are = absurd are
both (first ∷ units) (unit ∷ stream) are =
    let rest = both units stream are.2 in
    record {
      carries = (are.1, rest.carries);
      ids_are =
          ap (λ (id : ℕ). id ∷ map (λ (unit : ℕ × List ℕ). unit.0) units) (sym are.0)
          ∙ ap (λ (ids : List ℕ). unit.0 ∷ ids) rest.ids_are;
    }

-- and units that carry them under these ids are what they are read as
pub read : (units : List (ℕ × List ℕ)) (stream : Stream) → HasBoth units stream → AreReadAs units stream
read [] [] has = tt
read [] (unit ∷ stream) has = absurd has.carries
read (first ∷ units) [] has = absurd has.carries
read (first ∷ units) (unit ∷ stream) has = (
  sym (same_first first.0 unit.0 has.ids_are),
  has.carries.0,
  read units stream (record { carries = has.carries.1; ids_are = same_rest first.0 unit.0 has.ids_are }),
)
  where
    same_first : (id other : ℕ) {ids others : List ℕ} → (id ∷ ids) ≡ (other ∷ others) → id ≡ other
    same_first id other same = cc

    same_rest : (id other : ℕ) {ids others : List ℕ} → (id ∷ ids) ≡ (other ∷ others) → ids ≡ others
    same_rest id other same = cc

-- texts that are a snapshot's are kept of each stream that it is of
pub kept-of : (snapshot : SnapshotValue) (units : UnitTexts) (register : Register) → AreOf snapshot units → IsOf snapshot register → IsKept units register
kept-of snapshot units register are of =
    let has = both snapshot.units register.stream of.read_as in
    let carries = subst (λ (texts : Texts). Carries register.stream texts) (sym are.texts_are) has.carries in
    record {
      is = record {
        differ = of.differ;
        carries = carries;
        ids_are = are.ids_are ∙ has.ids_are;
        given_is = are.given_is ∙ sym of.given_is;
      };
      bounded = omega (arith, Carries-length register.stream units.texts.items carries, of.bounded);
    }

-- a snapshot of texts that are kept is of each stream of which they are kept
pub of-kept : (snapshot : SnapshotValue) (units : UnitTexts) (register : Register) → snapshot.units ≡ zip units.ids.items units.texts.items
    → snapshot.ids_given ≡ units.ids_given → IsKept units register → IsOf snapshot register
of-kept snapshot units register units_are given_is kept =
    let ids = units.ids.items in
    let texts = units.texts.items in
    let is = kept.is in
    let many = sym (as_many units register kept) in
    let has : HasBoth (zip ids texts) register.stream = record {
      carries = subst (λ (texts : Texts). Carries register.stream texts) (sym (seconds-zip ids texts many)) is.carries;
      ids_are = firsts-zip ids texts many ∙ is.ids_are;
    } in
    record {
      read_as = subst (λ (units : List (ℕ × List ℕ)). AreReadAs units register.stream) (sym units_are) (read (zip ids texts) register.stream has);
      given_is = sym is.given_is ∙ sym given_is;
      differ = is.differ;
      bounded = omega (arith, Carries-length register.stream texts is.carries, kept.bounded);
    }

-- a pair more
pub pairs-more : (ids : List ℕ) (texts : Texts) (place id : ℕ) (text : List ℕ) → place < length ids → place < length texts
    → id ≡ get_or ids place id → text ≡ get_or texts place text
    → take place (zip ids texts) ++ (id, text) ∷ [] ≡ take (place + 1) (zip ids texts)
pairs-more ids texts place id text below within id_is text_is =
    let pairs = zip ids texts in
    let inside : place < length pairs = omega (arith, length-zip ids texts) in
    let read = get_or-zip ids texts place (id, text) below within in
    let pair = read ∙ (ap (λ (n : ℕ). (n, get_or texts place text)) (sym id_is) ∙ ap (λ (other : List ℕ). (id, other)) (sym text_is)) in
    ap (λ (unit : ℕ × List ℕ). take place pairs ++ unit ∷ []) (sym pair) ∙ sym (take_more pairs place (id, text) inside)
