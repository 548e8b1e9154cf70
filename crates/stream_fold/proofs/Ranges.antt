-- The range of units that a change gives other outcomes, by what is shown of them.
use Rattle.std.proofs.Common.{◌≡◌, ℕ, ◌+◌, ◌^◌, ◌<◌, ◌≤◌, ◌++◌, Option, List, length, map, take, drop, ap, sym, ◌∙◌, arith}
use Rattle.std.proofs.lemmas.List.{length-map, map-append, take-map, drop-map}
use Rattle.request_core.specs.States.{no_units}
use Rattle.request_core.specs.Fold.{outcomes_of}
use Rattle.request_core.specs.Agreement.{Stream}
use Rattle.stream_edits.specs.declared.changes.Change as changes
use Rattle.stream_fold.specs.declared.folded.PreparedFold.{PreparedFold}
use Rattle.stream_edits.specs.Changes.{IsInside, stream_after, units_of as brought_by}
use Rattle.stream_fold.specs.Prepared.{IsAnew, change_in, begin_in, end_in, outcomes_in}
use Rattle.stream_fold.proofs.Changed.{length_after, place_is}
use Rattle.stream_fold.proofs.Folds.{length-outcomes_from}
use Rattle.output_order.specs.declared.shown.Shown.{Shown}
use Rattle.output_order.specs.Shown.{shown_of}
use Rattle.output_order.specs.Periods.{PeriodValue, units_of, spliced}
use Rattle.output_order.specs.PeriodLists.{Change, IsSplice, changed}
use Rattle.stream_fold.specs.Ordered.{AreOrdered}

-- as many outcomes and units that are shown as the stream has units
pub length-outcomes : (stream : Stream) → length (outcomes_of stream) ≡ length stream
length-outcomes stream = length-outcomes_from no_units stream

pub length-shown : (stream : Stream) → length (map shown_of (outcomes_of stream)) ≡ length stream
length-shown stream = length-map (outcomes_of stream) shown_of ∙ length-outcomes stream

-- a change makes a stream longer by the units that it brings at most
pub longer : (change : changes.Change) (stream : Stream) → IsInside change stream
    → length (stream_after change stream) ≤ length stream + length (brought_by change)
longer change stream inside =
    omega (arith, length_after change stream inside, place_is change (length stream) inside.within, inside.ordered, inside.within)

module _ (stream : Stream) (periods : List PeriodValue) (are : AreOrdered stream periods) where
  pub length-units : length (units_of periods) ≡ length stream
  length-units = ap length (sym are) ∙ length-shown stream

  -- what is shown after a change is what was shown, with the range replaced
  pub shown_anew : (prepared : PreparedFold) → IsAnew prepared stream
      → spliced (begin_in prepared) (end_in prepared stream) (map shown_of (outcomes_in prepared)) (units_of periods)
      ≡ map shown_of (outcomes_of (stream_after (change_in prepared) stream))
  shown_anew prepared anew =
      let was = outcomes_of stream in
      let front : take (begin_in prepared) (units_of periods) ≡ map shown_of (take (begin_in prepared) was) =
      ap (take (begin_in prepared)) (sym are) ∙ take-map shown_of (begin_in prepared) was in
      let back : drop (end_in prepared stream) (units_of periods) ≡ map shown_of (drop (end_in prepared stream) was) =
      ap (drop (end_in prepared stream)) (sym are) ∙ drop-map shown_of (end_in prepared stream) was in
      rw (front, back)
      (sym (ap (map shown_of) anew.outcomes_are
      ∙ map-append shown_of (take (begin_in prepared) was ++ outcomes_in prepared) (drop (end_in prepared stream) was)
      ∙ ap (λ (first : List (Option Shown)). first ++ map shown_of (drop (end_in prepared stream) was))
      (map-append shown_of (take (begin_in prepared) was) (outcomes_in prepared))))

  -- the range can be replaced, by other names of its ends and of what is shown of it
  module _ (prepared : PreparedFold) (anew : IsAnew prepared stream) (inside : IsInside (change_in prepared) stream)
      (begin end : ℕ) (shown : List (Option Shown)) (begin_is : begin ≡ begin_in prepared) (end_is : end ≡ end_in prepared stream)
      (shown_is : shown ≡ map shown_of (outcomes_in prepared)) where
    abbrev after : Stream
    after = stream_after (change_in prepared) stream

    pub ends_ordered : begin ≤ end
    ends_ordered = omega (arith, begin_is, end_is, anew.ordered)

    pub ends_within : end ≤ length (units_of periods)
    ends_within = omega (arith, end_is, anew.within, length-units)

    pub spliced_is : spliced begin end shown (units_of periods) ≡ map shown_of (outcomes_of after)
    spliced_is = rw (begin_is, end_is, shown_is) (shown_anew prepared anew)

    pub spliced_fits : length stream + length (brought_by (change_in prepared)) < 2 ^ 64 → length (spliced begin end shown (units_of periods)) < 2 ^ 64
    spliced_fits short = omega (arith, short, ap length spliced_is ∙ length-shown after, longer (change_in prepared) stream inside)

    -- and then the periods are those of the stream after the change
    pub ordered_after : (splice : Change) → IsSplice splice periods begin end shown → AreOrdered after (changed splice periods)
    ordered_after splice is = sym spliced_is ∙ sym is.does
