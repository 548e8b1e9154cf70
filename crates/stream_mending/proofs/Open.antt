-- What is kept of an access unit, with one segment more.
use Rattle.std.proofs.Common.{◌≡◌, ℕ, ◌+◌, ◌<◌, ◌≤◌, true, false, ◌&&◌, leb, ltb, List, [], ◌∷◌, ◌++◌, length, length-append, replicate, arith, refl, ap, sym, ◌∙◌, append_assoc}
use Rattle.std.proofs.lemmas.Bool.{le-leb, lt-leb, lt-ltb}
use Rattle.std.proofs.lemmas.List.{replicate-append-replicate}
use Rattle.std.specs.List.{filter}
use Rattle.annexb.specs.ByteStream.{start_code, joined}
use Rattle.annexb.specs.NalUnit.{is_slice}
use Rattle.access_unit.specs.Refusals.{most_bytes}
use Rattle.stream_mending.specs.Segments.{Segment}
use Rattle.stream_mending.specs.Faults.{is_sound}
use Rattle.stream_mending.specs.Portions.{Portion, put, sound_units, units_of, with_segment, slices_of, fits, most_slices}
use Rattle.stream_mending.specs.Mended.{whole_text, first_place}
use Rattle.stream_mending.specs.OpenPortions.{IsFirstOf, IsOpen}
use Rattle.stream_mending.specs.declared.open_portion.OpenPortion.{OpenPortion}
use Rattle.stream_mending.proofs.Portions.{joined-append, whole_text-push, zeros_text-push, text-left_out, units-left_out, slices-left_out, text-kept, slices-kept, bytes-kept, place-left_out}

-- one that is left out
pub IsOpen-left_out : (portion : Portion) (segment : Segment) (old new : OpenPortion) → is_sound segment.unit ≡ false → IsOpen portion old
    → new.text.items ≡ old.text.items ++ replicate segment.zeros 0 → new.zeros ≡ old.zeros + segment.zeros
    → new.bytes ≡ old.bytes → new.place ≡ old.place → new.slices ≡ old.slices → new.first ≡ old.first
    → new.is_delimited ≡ old.is_delimited → IsOpen (with_segment portion segment) new
IsOpen-left_out portion segment old new unsound opened text zeros bytes place slices first delimited = record {
  text_is =
      text ∙ ap (λ l. l ++ replicate segment.zeros 0) opened.text_is
      ∙ sym (whole_text-push portion segment ∙ ap (λ l. whole_text portion ++ l) (text-left_out portion segment unsound));
  zeros_are =
      ap (λ n. replicate n 0) zeros ∙ sym (replicate-append-replicate old.zeros segment.zeros 0)
      ∙ ap (λ l. l ++ replicate segment.zeros 0) opened.zeros_are ∙ sym (zeros_text-push portion segment);
  bytes_are = bytes ∙ opened.bytes_are ∙ ap (λ l. length (joined l)) (sym (units-left_out portion segment unsound));
  place_is = place ∙ opened.place_is ∙ sym (place-left_out portion.segments segment unsound);
  slices_are = slices ∙ opened.slices_are ∙ ap length (sym (slices-left_out portion segment unsound));
  first_is = rw (slices-left_out portion segment unsound, first) opened.first_is;
  delimited = delimited ∙ opened.delimited;
}

-- one that stays
pub IsOpen-kept : (portion : Portion) (segment : Segment) (old new : OpenPortion) → is_sound segment.unit ≡ true → IsOpen portion old
    → new.text.items ≡ ((old.text.items ++ start_code) ++ segment.unit) ++ replicate segment.zeros 0
    → new.zeros ≡ old.zeros + segment.zeros
    → new.bytes ≡ old.bytes + (3 + length segment.unit) → new.place ≡ first_place (portion.segments ++ segment ∷ [])
    → new.slices ≡ length (slices_of portion ++ filter is_slice (segment.unit ∷ []))
    → IsFirstOf (slices_of portion ++ filter is_slice (segment.unit ∷ [])) new.first
    → new.is_delimited ≡ old.is_delimited → IsOpen (with_segment portion segment) new
IsOpen-kept portion segment old new sound opened text zeros bytes place slices first delimited = record {
  text_is =
      text ∙ ap (λ l. ((l ++ start_code) ++ segment.unit) ++ replicate segment.zeros 0) opened.text_is
      ∙ regroup (whole_text portion) ∙ sym (whole_text-push portion segment ∙ ap (λ l. whole_text portion ++ l) (text-kept portion segment sound));
  zeros_are =
      ap (λ n. replicate n 0) zeros ∙ sym (replicate-append-replicate old.zeros segment.zeros 0)
      ∙ ap (λ l. l ++ replicate segment.zeros 0) opened.zeros_are ∙ sym (zeros_text-push portion segment);
  bytes_are = bytes ∙ ap (λ n. n + (3 + length segment.unit)) opened.bytes_are ∙ sym (bytes-kept portion segment sound);
  place_is = place;
  slices_are = slices ∙ ap length (sym (slices-kept portion segment sound));
  first_is = rw (slices-kept portion segment sound) first;
  delimited = delimited ∙ opened.delimited;
}
  where
    regroup : (front : List ℕ)
        → ((front ++ start_code) ++ segment.unit) ++ replicate segment.zeros 0
        ≡ front ++ ((start_code ++ segment.unit) ++ replicate segment.zeros 0)
    regroup front =
        ap (λ l. l ++ replicate segment.zeros 0) (append_assoc front start_code segment.unit)
        ∙ append_assoc front (start_code ++ segment.unit) (replicate segment.zeros 0)

joined_some : (units : List (List ℕ)) → ltb 0 (length (joined units)) ≡ ltb 0 (length units)
joined_some [] = refl
joined_some (unit ∷ units) =
    lt-ltb 0 (length (joined (unit ∷ units))) (omega arith) ∙ sym (lt-ltb 0 (length (unit ∷ units)) (omega arith))

-- whether it has a NAL unit, where no delimiter is put
pub units_counted : (portion : Portion) (kept : OpenPortion) → IsOpen portion kept → kept.is_delimited ≡ false
    → ltb 0 kept.bytes ≡ ltb 0 (length (units_of portion))
units_counted portion kept h none =
    ap (ltb 0) h.bytes_are ∙ joined_some (sound_units portion.segments)
    ∙ ap (λ b. ltb 0 (length (put b ++ sound_units portion.segments))) (sym none ∙ h.delimited)

-- where one is
pub units_delimited : (portion : Portion) (kept : OpenPortion) → IsOpen portion kept → kept.is_delimited ≡ true
    → true ≡ ltb 0 (length (units_of portion))
units_delimited portion kept h some =
    sym (lt-ltb 0 (length (put true ++ sound_units portion.segments)) (omega arith))
    ∙ ap (λ b. ltb 0 (length (put b ++ sound_units portion.segments))) (sym some ∙ h.delimited)

-- how many bytes it has
module _ (portion : Portion) (kept : OpenPortion) (h : IsOpen portion kept) (most : ℕ)
    (room : most + length (joined (put kept.is_delimited)) ≡ most_bytes) where
  size : length (joined (units_of portion)) ≡ length (joined (put kept.is_delimited)) + kept.bytes
  size =
      ap length (joined-append (put portion.is_delimited) (sound_units portion.segments))
      ∙ (length-append (joined (put portion.is_delimited)) (joined (sound_units portion.segments))
      ∙ omega (arith, h.bytes_are, ap (λ b. length (joined (put b))) h.delimited))

  pub fits_then : kept.bytes ≤ most → leb kept.slices most_slices ≡ fits portion
  unfolding fits
  fits_then small =
      let short : leb (length (joined (units_of portion))) most_bytes ≡ true = le-leb _ _ (omega (arith, size, room)) in
      ap (λ n. leb n most_slices) h.slices_are ∙ ap (λ b. b && leb (length (slices_of portion)) most_slices) (sym short)

  pub fits_else : most < kept.bytes → leb kept.bytes most ≡ fits portion
  unfolding fits
  fits_else large =
      let long : leb (length (joined (units_of portion))) most_bytes ≡ false = lt-leb _ _ (omega (arith, size, room)) in
      lt-leb kept.bytes most large ∙ ap (λ b. b && leb (length (slices_of portion)) most_slices) (sym long)
