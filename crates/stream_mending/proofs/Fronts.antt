-- What was written and said so far comes first of what is written and said of the whole text.
use Rattle.std.proofs.Common.{◌≡◌, ℕ, Bool, true, false, ◌||◌, List, [], ◌∷◌, ◌++◌, Option, None, Some, refl, ap, sym, ◌∙◌, append_assoc}
use Rattle.std.proofs.lemmas.List.{append-nil}
use Rattle.std.proofs.lemmas.Grind.{flat_map-append}
use Rattle.std.proofs.lemmas.List.Folds.{list_any-append}
use Rattle.std.specs.List.{flat_map, list_any}
use Rattle.stream_mending.specs.Segments.{Segment, cut_of, segments_of}
use Rattle.stream_mending.specs.Portions.{Portion, joint_after, ended_by, goes_on_in, with_segment, portions_from, portions_of}
use Rattle.stream_mending.specs.Mended.{mended, told, front_text, told_front, told_segment, told_portion, told_size, portion_text, stays}
use Rattle.stream_mending.specs.Mending.{IsFrontOf, IsLeft, IsMendedTo, IsMendedUpTo}
use Rattle.stream_mending.specs.declared.joint.Joint.{Joint}
use Rattle.stream_mending.specs.declared.joint.Joint.TheVariants.{Joins, Begins, NeedsDelimiter}
use Rattle.stream_mending.specs.declared.mender.Mender.{Mender}
use Rattle.stream_mending.specs.declared.mending.Mending.{Mending}
use Rattle.stream_mending.specs.declared.why.LeftOut.{LeftOut}
use Rattle.stream_mending.proofs.Portions.{told-push}

module _ {A : Type 0} where
  -- a front of a front
  pub front_more : (front more all : List A) → IsFrontOf (front ++ more) all → IsFrontOf front all
  front_more front more all is = (more ++ is.0, is.1 ∙ append_assoc front more is.0)

  front_then : (front more all : List A) → all ≡ front ++ more → IsFrontOf front all
  front_then front more all is = (more, is)

-- what is told of an access unit's segments so far comes first of what is told from there on
told_so_far : (left : List Segment) (portion : Portion)
    → IsFrontOf (flat_map told_segment portion.segments) (flat_map told_portion (portions_from portion left))
told_so_far [] portion =
    (told_size portion, append-nil (told_portion portion))
told_so_far (segment ∷ left) portion =
    by_joint (told_so_far left (with_segment portion segment)) (joint_after portion segment)
  where
    by_joint : IsFrontOf (flat_map told_segment (with_segment portion segment).segments)
        (flat_map told_portion (portions_from (with_segment portion segment) left)) → (joint : Joint) → IsFrontOf (flat_map told_segment portion.segments)
        (flat_map told_portion (ended_by joint portion ++ portions_from (with_segment (goes_on_in joint portion) segment) left))
    by_joint later Joins =
        front_more (flat_map told_segment portion.segments) (told_segment segment) _
        (later.0, later.1 ∙ ap (λ l. l ++ later.0) (told-push portion segment))
    by_joint later Begins = (
      told_size portion ++ flat_map told_portion (portions_from (with_segment (goes_on_in Begins portion) segment) left),
      append_assoc (flat_map told_segment portion.segments) (told_size portion)
          (flat_map told_portion (portions_from (with_segment (goes_on_in Begins portion) segment) left)),
    )
    by_joint later NeedsDelimiter = (
      told_size portion ++ flat_map told_portion (portions_from (with_segment (goes_on_in NeedsDelimiter portion) segment) left),
      append_assoc (flat_map told_segment portion.segments) (told_size portion)
          (flat_map told_portion (portions_from (with_segment (goes_on_in NeedsDelimiter portion) segment) left)),
    )

module _ (text written : List ℕ) (said : List LeftOut) (left : List Segment) (m : Mending) (h : IsMendedTo text written said left m) where
  abbrev after : List Portion
  after = portions_from h.portion left

  written_some : m.stays ≡ true → IsFrontOf written (mended text)
  unfolding mended
  written_some some =
      let front = front_text (cut_of text).front in
      let any : list_any stays (portions_of (segments_of text)) ≡ true =
      ap (list_any stays) h.whole ∙ list_any-append stays h.done after
      ∙ ap (λ b. b || list_any stays after) (sym h.so_far.stays_is ∙ some) in (
        m.bytes.items ++ flat_map portion_text after,
        rw any refl ∙ ap (λ l. front ++ flat_map portion_text l) h.whole
            ∙ ap (λ l. front ++ l) (flat_map-append portion_text h.done after)
            ∙ sym (append_assoc front (flat_map portion_text h.done) (flat_map portion_text after))
            ∙ ap (λ l. l ++ flat_map portion_text after) (sym h.so_far.bytes_are)
            ∙ append_assoc written m.bytes.items (flat_map portion_text after),
      )

  written_by : (stays : Bool) → m.stays ≡ stays → IsFrontOf written (mended text)
  written_by true some = written_some some
  written_by false none = (mended text, ap (λ l. l ++ mended text) (sym (h.so_far.unwritten none)))

  said_by : IsFrontOf said (told text)
  unfolding told
  said_by =
      let front = told_front (cut_of text).front (cut_of text).rest in
      let later = told_so_far left h.portion in (
        m.left_out.items ++ later.0,
        ap (λ l. front ++ flat_map told_portion l) h.whole
            ∙ ap (λ l. front ++ l) (flat_map-append told_portion h.done after ∙ ap (λ l. flat_map told_portion h.done ++ l) later.1)
            ∙ sym (append_assoc front (flat_map told_portion h.done) (flat_map told_segment h.portion.segments ++ later.0))
            ∙ sym (append_assoc (front ++ flat_map told_portion h.done) (flat_map told_segment h.portion.segments) later.0)
            ∙ ap (λ l. l ++ later.0) (sym h.so_far.told_are)
            ∙ append_assoc said m.left_out.items later.0,
      )

module _ (text written : List ℕ) (said : List LeftOut) (left : List ℕ) (place : ℕ) where
  by_begun : (begun : Option Mending) → IsLeft text written said left place begun → IsFrontOf written (mended text)
  by_begun None h = (mended text, ap (λ l. l ++ mended text) (sym h.1))
  by_begun (Some m) h = written_by text written said _ m h m.stays refl

  said_begun : (begun : Option Mending) → IsLeft text written said left place begun → IsFrontOf said (told text)
  said_begun None h = (told text, ap (λ l. l ++ told text) (sym h.2))
  said_begun (Some m) h = said_by text written said _ m h

module _ (text written : List ℕ) (said : List LeftOut) (left : List ℕ) (mender : Mender) (h : IsMendedUpTo text written said left mender) where
  pub written_first : IsFrontOf written (mended text)
  written_first = by_begun text written said left mender.place mender.begun h

  pub said_first : IsFrontOf said (told text)
  said_first = said_begun text written said left mender.place mender.begun h
