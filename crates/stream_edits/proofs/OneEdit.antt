-- Edits that are accepted lead to one stream.
use Rattle.std.proofs.Common.{◌≡◌, ℕ, List, [], ◌∷◌, Some, ap, refl, sym, ◌∙◌, subst}
use Rattle.std.specs.Prelude.{insert, remove, set}
use Rattle.access_unit.specs.Answers.{IsAccepted}
use Rattle.annexb.proofs.Readings.{same_reading}
use Rattle.stream_edits.specs.declared.edits.Edit.{Edit}
use Rattle.stream_edits.specs.declared.edits.Edit.TheVariants.{Insert, Delete, Replace}
use Rattle.stream_edits.specs.declared.edits.InsertionPoint.{InsertionPoint}
use Rattle.stream_edits.specs.Streams.{Stream}
use Rattle.stream_edits.specs.Groups.{MakesAll}
use Rattle.stream_edits.specs.Edits.{Register, Inserts, Deletes, Replaces, Makes}

pub some_same : {X : Type 0} (a b : X) → Some a ≡ Some b → a ≡ b
some_same a b same = cc

-- a text is one unit
same_unit : (text : List ℕ) (unit other : List (List ℕ)) → IsAccepted text unit → IsAccepted text other → unit ≡ other
same_unit text unit other is so = same_reading text unit other is.has so.has

same_register : (a b : Register) → a.ids_given ≡ b.ids_given → a.stream ≡ b.stream → a ≡ b
same_register a b given stream =
    ap (λ (n : ℕ). record a { ids_given = n }) given ∙ ap (λ (units : Stream). record b { stream = units }) stream

-- the same id, and the same units after it
pub record SameEdit (id other : ℕ) (new another : Register) : Type 0 where
  pub ids : id ≡ other
  pub registers : new ≡ another

one_insertion : (old : Register) (place : InsertionPoint) (text : List ℕ) (id other : ℕ) (new another : Register)
    → Inserts old place text id new → Inserts old place text other another → SameEdit id other new another
one_insertion old place text id other new another a b =
    let at : a.at ≡ b.at = some_same a.at b.at (sym a.stands ∙ b.stands) in
    let unit : a.unit ≡ b.unit = same_unit text a.unit b.unit a.accepted b.accepted in
    let ids : id ≡ other = a.id_is ∙ sym b.id_is in
    record {
      ids = ids;
      registers =
          same_register new another (a.given_is ∙ (ids ∙ sym b.given_is))
          (a.stream_is
          ∙ (ap (λ (k : ℕ). insert old.stream k (id, a.unit)) at
          ∙ (ap (λ (n : ℕ). insert old.stream b.at (n, a.unit)) ids
          ∙ (ap (λ (u : List (List ℕ)). insert old.stream b.at (other, u)) unit ∙ sym b.stream_is))));
    }

one_deletion : (old : Register) (id : ℕ) (new another : Register) → Deletes old id new → Deletes old id another
    → new ≡ another
one_deletion old id new another a b =
    let at : a.at ≡ b.at = some_same a.at b.at (sym a.stands ∙ b.stands) in
    same_register new another (a.given_is ∙ sym b.given_is)
    (a.stream_is ∙ (ap (λ (k : ℕ). remove old.stream k) at ∙ sym b.stream_is))

one_replacement : (old : Register) (id : ℕ) (text : List ℕ) (new another : Register) → Replaces old id text new
    → Replaces old id text another → new ≡ another
one_replacement old id text new another a b =
    let at : a.at ≡ b.at = some_same a.at b.at (sym a.stands ∙ b.stands) in
    let unit : a.unit ≡ b.unit = same_unit text a.unit b.unit a.accepted b.accepted in
    same_register new another (a.given_is ∙ sym b.given_is)
    (a.stream_is
    ∙ (ap (λ (k : ℕ). set old.stream k (id, a.unit)) at
    ∙ (ap (λ (u : List (List ℕ)). set old.stream b.at (id, u)) unit ∙ sym b.stream_is)))

-- an edit leaves one stream
pub one_edit : (old : Register) (edit : Edit) (id other : ℕ) (new another : Register) → Makes old edit id new
    → Makes old edit other another → SameEdit id other new another
one_edit old (Insert place text) id other new another a b = one_insertion old place text id other new another a b
one_edit old (Delete deleted) id other new another a b =
    record { ids = a.0 ∙ sym b.0; registers = one_deletion old deleted new another a.1 b.1 }
one_edit old (Replace replaced text) id other new another a b =
    record { ids = a.0 ∙ sym b.0; registers = one_replacement old replaced text new another a.1 b.1 }

-- and so do edits that are made together
pub record SameEdits (ids others : List ℕ) (new another : Register) : Type 0 where
  pub given : ids ≡ others
  pub registers : new ≡ another

pub all_edits : (old : Register) (edits : List Edit) (ids others : List ℕ) (new another : Register)
    → MakesAll old edits ids new → MakesAll old edits others another → SameEdits ids others new another
all_edits old [] [] [] new another a b = record { given = refl; registers = sym a ∙ b }
all_edits old [] [] (other ∷ others) new another a b = absurd b
all_edits old [] (id ∷ ids) others new another a b = absurd a
all_edits old (edit ∷ edits) [] others new another a b = absurd a
all_edits old (edit ∷ edits) (id ∷ ids) [] new another a b = absurd b
all_edits old (edit ∷ edits) (id ∷ ids) (other ∷ others) new another a b =
    let first = one_edit old edit id other a.0 b.0 a.1 b.1 in
    let rest = all_edits b.0 edits ids others new another
    (subst (λ (r : Register). MakesAll r edits ids new) first.registers a.2) b.2 in
    record {
      given = ap (λ (k : ℕ). k ∷ ids) first.ids ∙ ap (λ (ks : List ℕ). other ∷ ks) rest.given;
      registers = rest.registers;
    }
