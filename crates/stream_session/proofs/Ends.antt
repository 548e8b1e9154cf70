-- The place after the last unit of a stream.
use Rattle.std.proofs.Common.{◌≡◌, ◌∙◌, ℕ, ◌+◌, ◌-◌, ◌<◌, List, [], ◌∷◌, length, Option, None, Some, option_map, ap, sym, refl, arith}
use Rattle.std.specs.Prelude.{slice_get}
use Rattle.std.proofs.lemmas.List.{length-map}
use Rattle.std.proofs.lemmas.Option.{slice_get-map, slice_get-get_or, slice_get_within}
use Rattle.stream_edits.specs.declared.edits.InsertionPoint.TheVariants.{First, After}
use Rattle.stream_edits.specs.declared.receipts.Last.{Last}
use Rattle.stream_edits.specs.Edits.{Register}
use Rattle.stream_edits.specs.Ids.{HasIds}
use Rattle.stream_edits.specs.Streams.{Stream, end_of, ids_of, last_of, place_after, start_of}
use Rattle.stream_edits.proofs.GivenIds.{AreDifferent-ids}
use Rattle.stream_session.proofs.Placed.{placed}

last_id : (stream : Stream) (id : ℕ) → (last_of stream).id ≡ Some id → slice_get (ids_of stream) (length stream - 1) ≡ Some id
last_id stream id is = slice_get-map (λ (unit : ℕ × List (List ℕ)). unit.0) stream (length stream - 1) ∙ is

-- it is the stream's end, behind the last id
end_after : (register : Register) → HasIds register → (last : Last)
    → last ≡ last_of register.stream → (id : ℕ) → last.id ≡ Some id
    → start_of register.stream (After id) ≡ Some (length register.stream)
end_after register ids last last_is id id_is =
    let stream = register.stream in
    let stands = last_id stream id (sym (ap (λ (l : Last). l.id) last_is) ∙ id_is) in
    let different = AreDifferent-ids register ids in
    let within : length stream - 1 < length stream =
    omega (arith, slice_get_within (ids_of stream) (length stream - 1) id stands, length-map stream (λ (unit : ℕ × List (List ℕ)). unit.0)) in
    let next : (length stream - 1) + 1 ≡ length stream = omega (arith, within) in
    ap (option_map (λ place. place + 1)) (sym (placed (ids_of stream) id (length stream - 1) different stands))
    ∙ ap (λ (n : ℕ). Some n) next

-- where there is none, the stream is empty
end_first : (stream : Stream) (last : Last) → last ≡ last_of stream → last.id ≡ None → start_of stream First ≡ Some (length stream)
end_first [] last last_is none = refl
end_first (unit ∷ stream) last last_is none =
    let within : (length (unit ∷ stream) - 1) < length (unit ∷ stream) = omega arith in
    let there = ap (option_map (λ (u : ℕ × List (List ℕ)). u.0)) (slice_get-get_or (unit ∷ stream) (length (unit ∷ stream) - 1) unit within) in
    absurd (some-none _ (sym there ∙ (sym (ap (λ (l : Last). l.id) last_is) ∙ none)))
  where
    some-none : (id : ℕ) → Some id ≡ None → ⊥
    some-none id is = cc

-- so the place after all units is the stream's end
pub end_stands : (register : Register) → HasIds register
    → start_of register.stream (end_of register.stream) ≡ Some (length register.stream)
end_stands register ids = by_id (last_of register.stream).id refl
  where
    by_id : (id : Option ℕ) → (last_of register.stream).id ≡ id → start_of register.stream (place_after id) ≡ Some (length register.stream)
    by_id (Some id) is = end_after register ids (last_of register.stream) refl id is
    by_id None is = end_first register.stream (last_of register.stream) refl is
