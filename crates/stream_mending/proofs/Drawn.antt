-- The NAL units that are written are given ones, in their order, and delimiters.
use Rattle.std.proofs.Common.{◌≡◌, ℕ, ◌<◌, Bool, true, false, ◌≤◌, List, [], ◌∷◌, ◌++◌, length, length-append, replicate, arith, refl, ap, sym, subst, ◌∙◌}
use Rattle.std.proofs.lemmas.List.{map-append}
use Rattle.std.specs.List.{flat_map, list_any}
use Rattle.annexb.specs.ByteStream.{AreUnits, HasUnits}
use Rattle.annexb.proofs.Readings.{same_reading}
use Rattle.stream_mending.specs.Segments.{Segment, segments_of}
use Rattle.stream_mending.specs.Faults.{is_sound}
use Rattle.stream_mending.specs.Portions.{Portion, put, sound_units, units_of, portions_of, no_segment, fits}
use Rattle.stream_mending.specs.Mended.{mended, stays}
use Rattle.stream_mending.specs.StayingUnits.{IsDrawnFrom, nothing, passes_over, keeps, puts, units_at}
use Rattle.stream_mending.proofs.Linked.{parts_of}
use Rattle.stream_mending.proofs.Written.{units_in, mended_stream, nothing_mended}
use Rattle.stream_mending.proofs.Unchanged.{all_segments}

-- all of one list passed over
pass_all : (one : List (List ℕ)) {other second : List (List ℕ)} → IsDrawnFrom other second → IsDrawnFrom (one ++ other) second
pass_all [] h = h
pass_all (unit ∷ one) h = passes_over (pass_all one h)

-- those of one list, and then those of another
drawn_both : {one other : List (List ℕ)} {first second : List (List ℕ)} → IsDrawnFrom one first → IsDrawnFrom other second
    → IsDrawnFrom (one ++ other) (first ++ second)
drawn_both (nothing {given = given}) h = pass_all given h
drawn_both (passes_over more) h = passes_over (drawn_both more h)
drawn_both (keeps more) h = keeps (drawn_both more h)
drawn_both (puts more) h = puts (drawn_both more h)

-- those that aren't left out
drawn_sound : (segments : List Segment) → IsDrawnFrom (units_at segments) (sound_units segments)
drawn_sound [] = nothing
drawn_sound (segment ∷ segments) = cases (drawn_sound segments) (is_sound segment.unit) refl
  where
    cases : IsDrawnFrom (units_at segments) (sound_units segments) → (b : Bool) → is_sound segment.unit ≡ b
        → IsDrawnFrom (units_at (segment ∷ segments)) (sound_units (segment ∷ segments))
    cases later true e = rw e (keeps later)
    cases later false e = rw e (passes_over later)

drawn_portion : (portion : Portion) → IsDrawnFrom (units_at portion.segments) (units_of portion)
drawn_portion portion = by_put portion.is_delimited
  where
    by_put : (b : Bool) → IsDrawnFrom (units_at portion.segments) (put b ++ sound_units portion.segments)
    by_put true = puts (drawn_sound portion.segments)
    by_put false = drawn_sound portion.segments

drawn_portions : (portions : List Portion) → IsDrawnFrom (units_at (flat_map (λ p. p.segments) portions)) (units_in (parts_of portions))
drawn_portions [] = nothing
drawn_portions (portion ∷ portions) =
    subst (λ l. IsDrawnFrom l (units_in (parts_of (portion ∷ portions))))
    (sym (map-append (λ s. s.unit) portion.segments (flat_map (λ p. p.segments) portions)))
    (cases (drawn_portions portions) (fits portion) refl)
  where
    cases : IsDrawnFrom (units_at (flat_map (λ p. p.segments) portions)) (units_in (parts_of portions)) → (b : Bool) → fits portion ≡ b
        → IsDrawnFrom (units_at portion.segments ++ units_at (flat_map (λ p. p.segments) portions)) (units_in (parts_of (portion ∷ portions)))
    cases later true e = rw e (drawn_both (drawn_portion portion) later)
    cases later false e = rw e (drawn_both (nothing {given = units_at portion.segments}) later)

-- bytes with NAL units aren't none
rest_len : (rest : List ℕ) (units : List (List ℕ)) → AreUnits rest units → 0 < length units → 3 ≤ length rest
rest_len rest [] are some = absurd (omega arith)
rest_len rest (unit ∷ units) (more, begins, others) some = omega (arith, ap length begins.bytes_are)

no_units : (text : List ℕ) (units : List (List ℕ)) → text ≡ [] → HasUnits text units → ⊥
no_units text units none has =
    let size = rest_len has.rest units has.rest_is has.filled in
    omega (arith, ap length has.text_is, ap length none, length-append (replicate has.zeros 0) has.rest)

pub in_order : (text : List ℕ) (units : List (List ℕ)) → HasUnits (mended text) units → IsDrawnFrom (units_at (segments_of text)) units
in_order text units has = cases (list_any stays (portions_of (segments_of text))) refl
  where
    cases : (b : Bool) → list_any stays (portions_of (segments_of text)) ≡ b → IsDrawnFrom (units_at (segments_of text)) units
    cases true some =
        let stream = mended_stream text some in
        let same : units_in (parts_of (portions_of (segments_of text))) ≡ units =
        stream.has.cut.units_are ∙ same_reading (mended text) stream.has.units units stream.has.has has in
        let drawn = drawn_portions (portions_of (segments_of text)) in
        subst (IsDrawnFrom (units_at (segments_of text))) same
        (subst (λ l. IsDrawnFrom (units_at l) (units_in (parts_of (portions_of (segments_of text))))) (all_segments (segments_of text) no_segment) drawn)
    cases false none = absurd (no_units (mended text) units (nothing_mended text none) has)
