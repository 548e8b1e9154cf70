-- What the text of an access unit within a stream is read as, by what its own text is read as.
use Rattle.std.proofs.Common.{◌≡◌, ◌≢◌, ⊎_elim, ℕ, ◌≤◌, Bool, true, false, ◌||◌, List, [], ◌∷◌, ◌++◌, length, Result, Ok, Err, Option, Some, None, refl, ap, arith}
use Rattle.std.proofs.lemmas.Bool.{false≢true}
use Rattle.std.specs.List.{filter}
use Rattle.std.specs.Option.{option_or}
use Rattle.annexb.specs.NalUnit.{is_slice}
use Rattle.annexb.specs.ByteStream.{HasUnits, joined}
use Rattle.annexb.proofs.Readings.{same_reading, HasUnits-joined}
use Rattle.access_unit.specs.declared.refused.Refused.{Refused}
use Rattle.access_unit.specs.declared.refused.Refused.TheVariants as refusals
use Rattle.access_unit.specs.Refusals.{Row, first_shown, header_rows, set_rows, order_rows, refusal_at, first_refusal, refusal_of, most_bytes}
use Rattle.access_unit.specs.Answers.{IsRefused, too_long, unsplit, shown, IsReadAs}
use Rattle.access_unit.proofs.Lengths.{length_joined}
use Rattle.access_unit.proofs.Pieces.{all_units}
use Rattle.plan_stream.specs.Readings.{IsFrontRefused, IsFrontReadAs}

-- whether it's the refusal of a text that doesn't split
abbrev is_split : Refused → Bool
is_split refusals.Split = true
is_split refused = false

abbrev has_split : List Row → Bool
has_split [] = false
has_split ((refused, is_shown) ∷ rows) = is_split refused || has_split rows

or_right_true : (a : Bool) → (a || true) ≡ true
or_right_true true = refl
or_right_true false = refl

-- only a row of it shows it
shown_split : (rows : List Row) → first_shown rows ≡ Some refusals.Split → has_split rows ≡ true
shown_split [] e = absurd (cc)
shown_split ((refused, true) ∷ rows) e = split_first refused (has_split rows) (some_is e)
  where
    some_is : {refused : Refused} → Some refused ≡ Some refusals.Split → refused ≡ refusals.Split
    some_is e = cc

    split_first : (refused : Refused) (rest : Bool) → refused ≡ refusals.Split → (is_split refused || rest) ≡ true
    split_first refused rest e = rw e refl
shown_split ((refused, false) ∷ rows) e = rw (shown_split rows e) (or_right_true (is_split refused))

-- and no NAL unit has one
not_shown_at : (before : List (List ℕ)) (unit : List ℕ) → refusal_at before unit ≡ Some refusals.Split → ⊥
unfolding refusal_at header_rows set_rows order_rows
not_shown_at before unit e = false≢true (shown_split (header_rows unit ++ set_rows unit ++ order_rows (filter is_slice before) unit) e)

either : (first other : Option Refused) → option_or first other ≡ Some refusals.Split
    → (first ≡ Some refusals.Split → ⊥) → (other ≡ Some refusals.Split → ⊥) → ⊥
either None other e none others = others e
either (Some refused) other e none others = none e

not_first : (before units : List (List ℕ)) → first_refusal before units ≡ Some refusals.Split → ⊥
not_first before [] e = absurd (cc)
not_first before (unit ∷ units) e =
    either (refusal_at before unit) (first_refusal (before ++ unit ∷ []) units) e (not_shown_at before unit) (not_first (before ++ unit ∷ []) units)

not_split : (units : List (List ℕ)) → refusal_of units ≡ Some refusals.Split → ⊥
not_split units e = not_first [] units e

-- the units of a text are those of their own text, which isn't longer
own : (text : List ℕ) (units : List (List ℕ)) → HasUnits text units → HasUnits (joined units) units
own text units has = HasUnits-joined units has.filled (all_units has.rest units has.rest_is)

module _ (text : List ℕ) (short : length text ≤ most_bytes) where
  refused_so : (refused : Refused) → refused ≢ refusals.TooLarge → refused ≢ refusals.Split → IsRefused text refused
      → (part : List (List ℕ)) × HasUnits text part × IsRefused (joined part) refused
  refused_so refused large split (too_long long is) = absurd (large is)
  refused_so refused large split (unsplit fits none is) = absurd (split is)
  refused_so refused large split (shown fits units has is) =
      (units, has, shown (omega (arith, length_joined text units has)) units (own text units has) is)

  large_so : IsRefused text refusals.TooLarge → (part : List (List ℕ)) × HasUnits text part × IsRefused (joined part) refusals.TooLarge
  large_so (too_long long is) = absurd (omega (arith, short, long))
  large_so (unsplit fits none is) = absurd (cc)
  large_so (shown fits units has is) =
      (units, has, shown (omega (arith, length_joined text units has)) units (own text units has) is)

  split_so : IsRefused text refusals.Split → (units : List (List ℕ)) → HasUnits text units → ⊥
  split_so (too_long long is) = absurd (cc)
  split_so (unsplit fits none is) = none
  split_so (shown fits units has is) = absurd (not_split units is)

  of_refused : (refused : Refused) → refused ≢ refusals.Memory → IsRefused text refused → IsFrontRefused text refused
  of_refused refusals.Memory other h = tt
  of_refused refusals.Split other h = split_so h
  of_refused refusals.TooLarge other h = large_so h
  of_refused refused other h = refused_so refused (λ e. cc) (λ e. cc) h

  -- where it isn't too long, by what it is read as
  pub front-short : (result : Result (List (List ℕ)) Refused) → IsReadAs text result → IsFrontReadAs text result
  front-short (Ok unit) accepted = (
    accepted.has,
    record { has = own text unit accepted.has; short = omega (arith, length_joined text unit accepted.has, accepted.short); sound = accepted.sound },
  )
  front-short (Err refusals.Memory) read = tt
  front-short (Err refused) read = ⊎_elim (λ memory. absurd (cc)) (λ h. of_refused refused (λ e. cc) h) read

module _ (text : List ℕ) (units : List (List ℕ)) (has : HasUnits text units) where
  own_split : IsRefused (joined units) refusals.Split → ⊥
  own_split (too_long long is) = cc
  own_split (unsplit fits none is) = none units (own text units has)
  own_split (shown fits others has' is) = not_split others is

  of_own : (refused : Refused) → IsRefused (joined units) refused → IsFrontRefused text refused
  of_own refusals.Memory h = tt
  of_own refusals.Split h = absurd (own_split h)
  of_own refused h = (units, has, h)

  -- else by what its NAL units are read as, joined
  pub front-joined : (result : Result (List (List ℕ)) Refused) → IsReadAs (joined units) result → IsFrontReadAs text result
  front-joined (Ok unit) accepted =
      let same : unit ≡ units = same_reading (joined units) unit units accepted.has (own text units has) in
      (rw same has, rw (ap joined same) accepted)
  front-joined (Err refusals.Memory) read = tt
  front-joined (Err refused) read = ⊎_elim (λ memory. absurd (cc)) (λ h. of_own refused h) read
