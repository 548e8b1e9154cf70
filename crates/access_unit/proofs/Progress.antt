-- How far the NAL units of an access unit are read: those stored so far, and the text of the others.
use Rattle.std.proofs.Common.{◌≡◌, ℕ, ◌+◌, ◌<◌, ◌≤◌, List, [], ◌∷◌, ◌++◌, length, take, drop, get_or, None, refl, ap, sym, ◌∙◌, arith}
use Rattle.std.proofs.lemmas.List.{drop_more, take_more, take_all}
use Rattle.std.specs.List.{filter}
use Rattle.annexb.specs.NalUnit.{is_slice}
use Rattle.annexb.specs.ByteStream.{HasUnits}
use Rattle.annexb.proofs.Readings.{HasUnits-joined}
use Rattle.access_unit.specs.declared.parts.Parts.{Parts}
use Rattle.access_unit.specs.Answers.{IsShortText}
use Rattle.access_unit.specs.Coded.{HasRest}
use Rattle.access_unit.specs.Sets.{sets_of}
use Rattle.access_unit.specs.Refusals.{refusal_at, first_refusal}
use Rattle.access_unit.specs.Stored.{IsStored, IsOfUnit}
use Rattle.access_unit.proofs.Firsts.{first_refusal-more}
use Rattle.access_unit.proofs.Lengths.{length_joined}
use Rattle.access_unit.proofs.Pieces.{HasRest-all, all_units}

-- the NAL units so far are stored, and none shows a refusal
pub record IsAddedTo (nals : List (List ℕ)) (at : ℕ) (parts : Parts) : Type 0 where
  pub stored : IsStored (take at nals) parts
  pub sound : first_refusal [] (take at nals) ≡ None

-- with one more
pub IsAddedTo-more : (nals : List (List ℕ)) (at : ℕ) (parts : Parts) → IsAddedTo nals at parts → at < length nals → (parts' : Parts)
    → IsStored (parts.nals.items ++ get_or nals at [] ∷ []) parts' → refusal_at parts.nals.items (get_or nals at []) ≡ None
    → IsAddedTo nals (at + 1) parts'
IsAddedTo-more nals at parts added here parts' stored none = record {
  stored = rw (take_more nals at [] here, ← added.stored.nals_are) stored;
  sound = first_refusal-more nals at added.sound here (rw (← added.stored.nals_are) none);
}

-- after the last NAL unit all are stored
module _ (nals : List (List ℕ)) (at : ℕ) (parts : Parts) (added : IsAddedTo nals at parts) (end : length nals ≤ at) where
  stored_all : IsStored nals parts
  stored_all = rw (sym (take_all at nals end)) added.stored

  sound_all : first_refusal [] nals ≡ None
  sound_all = ap (first_refusal []) (sym (take_all at nals end)) ∙ added.sound

  -- and they are an access unit
  pub IsOfUnit-end : (whole : List ℕ) → IsShortText whole nals → IsOfUnit parts
  IsOfUnit-end whole of = record {
    stored = record {
      nals_are = refl;
      slices_are = stored_all.slices_are ∙ ap (filter is_slice) (sym stored_all.nals_are);
      sets_are = stored_all.sets_are ∙ ap sets_of (sym stored_all.nals_are);
    };
    accepted = rw stored_all.nals_are (record {
      has = HasUnits-joined nals of.has.filled (all_units of.has.rest nals of.has.rest_is);
      short = omega (arith, of.short, length_joined whole nals of.has);
      sound = sound_all;
    });
  }

-- the text goes on with the next NAL unit
pub left_next : (nals : List (List ℕ)) (at : ℕ) (text : List ℕ) → HasRest text (drop at nals) → at < length nals
    → HasRest text (get_or nals at [] ∷ drop (at + 1) nals)
left_next nals at text left here = rw (← drop_more nals at [] here) left

-- those so far are stored, and the text goes on with the others
pub record IsReadTo (nals : List (List ℕ)) (at : ℕ) (text : List ℕ) (parts : Parts) : Type 0 where
  pub left : HasRest text (drop at nals)
  pub added : IsAddedTo nals at parts

pub IsReadTo-first : (nals : List (List ℕ)) (text : List ℕ) (parts : Parts) → HasUnits text nals → IsStored [] parts → IsReadTo nals 0 text parts
IsReadTo-first nals text parts has stored =
    record { left = HasRest-all text nals has; added = record { stored = stored; sound = refl } }

-- those so far are cut off, and the text goes on with the others
pub record IsCutTo (nals : List (List ℕ)) (at : ℕ) (text : List ℕ) (cut : List (List ℕ)) : Type 0 where
  pub left : HasRest text (drop at nals)
  pub cut_are : cut ≡ take at nals

pub IsCutTo-more : (nals : List (List ℕ)) (at : ℕ) (text : List ℕ) (cut : List (List ℕ)) → IsCutTo nals at text cut → at < length nals
    → (text' : List ℕ) → HasRest text' (drop (at + 1) nals) → IsCutTo nals (at + 1) text' (cut ++ get_or nals at [] ∷ [])
IsCutTo-more nals at text cut so_far here text' left =
    record { left = left; cut_are = ap (λ cut. cut ++ get_or nals at [] ∷ []) so_far.cut_are ∙ sym (take_more nals at [] here) }
