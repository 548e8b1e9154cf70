-- Where an id stands among ids that differ.
use Rattle.std.proofs.Common.{◌≡◌, ℕ, List, get_or, Some, ap, ◌∙◌, eqb}
use Rattle.std.specs.Prelude.{slice_get}
use Rattle.std.proofs.lemmas.Bool.{eqb-true}
use Rattle.std.proofs.lemmas.List.Quantifiers.{position-Some}
use Rattle.std.proofs.lemmas.Option.{slice_get_within, slice_get-get_or, get_or_from_slice_get}
use Rattle.picture_keys.specs.Units.{AreDifferent}
use Rattle.stream_edits.specs.Streams.{place_among}
use Rattle.stream_edits.proofs.LastId.{found_at}

-- it is found where it stands
pub placed : (ids : List ℕ) (id at : ℕ) → AreDifferent ids → slice_get ids at ≡ Some id → Some at ≡ place_among ids id
placed ids id at different stands =
    found_at ids at id (slice_get_within ids at id stands) different
    ∙ ap (place_among ids) (get_or_from_slice_get ids at id id stands)

-- and stands where it is found
pub found : (ids : List ℕ) (id at : ℕ) → place_among ids id ≡ Some at → slice_get ids at ≡ Some id
unfolding place_among
found ids id at is =
    let first = position-Some (λ other. eqb other id) ids at id is in
    slice_get-get_or ids at id first.0 ∙ ap (λ (other : ℕ). Some other) (eqb-true (get_or ids at id) id first.1)
