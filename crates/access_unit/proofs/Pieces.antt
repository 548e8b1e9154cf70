-- The NAL units of a text, each with the start code before it, as they stand in the text.
use Rattle.std.proofs.Common.{◌≡◌, ◌≢◌, ⊎_elim, ℕ, zero, suc, ◌+◌, ◌<◌, ◌≤◌, List, [], ◌∷◌, ◌++◌, length, take, drop, replicate, get_or, All, refl, ap, sym, ◌∙◌, arith, length-append}
use Rattle.std.proofs.lemmas.Bool.{cases_lt}
use Rattle.std.proofs.lemmas.List.{take_at, drop_at, length-replicate}
use Rattle.std.proofs.lemmas.List.Elements.{All-nil, All-cons}
use Rattle.annexb.specs.NalUnit.{IsUnit}
use Rattle.annexb.specs.ByteStream.{start_code, AreUnits, HasUnits}
use Rattle.access_unit.specs.Coded.{IsCoded, HasRest}

-- zeros or none, and then a text of these NAL units
module _ (text unit : List ℕ) (units : List (List ℕ)) (left : HasRest text (unit ∷ units)) where
  abbrev zeros : ℕ
  zeros = left.zeros

  abbrev after : List ℕ
  after = replicate left.rest_is.1.zeros 0 ++ left.rest_is.0

  -- they begin with a start code and the first of them
  pub text_is : text ≡ replicate left.zeros 0 ++ (start_code ++ (unit ++ (replicate left.rest_is.1.zeros 0 ++ left.rest_is.0)))
  text_is = left.text_is ∙ ap (λ l. replicate left.zeros 0 ++ l) left.rest_is.1.bytes_are

  past_zeros : drop zeros text ≡ (start_code ++ unit) ++ after
  past_zeros =
      ap (drop zeros) text_is ∙ drop_at (replicate zeros 0) (start_code ++ (unit ++ after)) zeros (length-replicate {A = ℕ} zeros 0)

  coded_length : length (start_code ++ unit) ≡ 3 + length unit
  coded_length = length-append start_code unit

  pub zeros_in_range : left.zeros ≤ length text
  zeros_in_range = omega (
    arith,
    ap length text_is,
    length-append (replicate zeros 0) (start_code ++ (unit ++ after)),
    length-replicate {A = ℕ} zeros 0,
  )

  pub coded_in_range : 3 + length unit ≤ length (drop left.zeros text)
  coded_in_range = omega (arith, ap length past_zeros, length-append (start_code ++ unit) after, coded_length)

  pub coded_is : take (3 + length unit) (drop left.zeros text) ≡ start_code ++ unit
  coded_is = ap (take (3 + length unit)) past_zeros ∙ take_at (start_code ++ unit) after (3 + length unit) coded_length

  pub rest_is : HasRest (drop (3 + length unit) (drop left.zeros text)) units
  rest_is = record {
    zeros = left.rest_is.1.zeros;
    rest = left.rest_is.0;
    text_is = ap (drop (3 + length unit)) past_zeros ∙ drop_at (start_code ++ unit) after (3 + length unit) coded_length;
    rest_is = left.rest_is.2;
  }

  pub IsCoded-next : IsCoded (take (3 + length unit) (drop left.zeros text))
  IsCoded-next = rw coded_is (record { code = refl; unit = left.rest_is.1.unit_is })

pub all_units : (bytes : List ℕ) (units : List (List ℕ)) → AreUnits bytes units → All IsUnit units
all_units bytes [] h = All-nil IsUnit
all_units bytes (unit ∷ units) (rest, begins, more) = All-cons IsUnit unit units begins.unit_is (all_units rest units more)

pub HasRest-all : (text : List ℕ) (units : List (List ℕ)) → HasUnits text units → HasRest text units
HasRest-all text units has = record { zeros = has.zeros; rest = has.rest; text_is = has.text_is; rest_is = has.rest_is }

-- after the zeros and the two of the start code stands the first byte that isn't 0
zero_before : (zeros : ℕ) (rest : List ℕ) (at : ℕ) → at < zeros + 2 → get_or (replicate zeros 0 ++ (start_code ++ rest)) at 0 ≡ 0
zero_before zero rest zero here = refl
zero_before zero rest (suc zero) here = refl
zero_before zero rest (suc (suc at)) here = absurd (omega arith)
zero_before (suc zeros) rest zero here = refl
zero_before (suc zeros) rest (suc at) here = zero_before zeros rest at (omega arith)

one_after : (zeros : ℕ) (rest : List ℕ) → get_or (replicate zeros 0 ++ (start_code ++ rest)) (suc (suc zeros)) 0 ≡ 1
one_after zero rest = refl
one_after (suc zeros) rest = one_after zeros rest

-- the first byte that isn't 0 ends the start code
module _ (text : List ℕ) (zeros : ℕ) (rest : List ℕ) (text_is : text ≡ replicate zeros 0 ++ (start_code ++ rest)) where
  one_at : get_or text (suc (suc zeros)) 0 ≡ 1
  one_at = ap (λ l. get_or l (suc (suc zeros)) 0) text_is ∙ one_after zeros rest

  one_in_range : zeros + 2 < length text
  one_in_range = omega (
    arith,
    ap length text_is,
    length-append (replicate zeros 0) (start_code ++ rest),
    length-append start_code rest,
    length-replicate {A = ℕ} zeros 0,
  )

  pub first_byte : (at : ℕ) → get_or text at 0 ≢ 0 → ((k : ℕ) → k < at → get_or text k 0 ≡ 0) → at ≡ zeros + 2
  first_byte at other before =
      ⊎_elim
      (λ less. absurd (other (ap (λ l. get_or l at 0) text_is ∙ zero_before zeros rest at less)))
      (λ more. ⊎_elim (λ less. let none = sym one_at ∙ before (suc (suc zeros)) less in cc) (λ most. omega (arith, more, most)) (cases_lt (suc (suc zeros)) at))
      (cases_lt at (zeros + 2))

  pub no_zeros_alone : (at : ℕ) → length text ≤ at → ((k : ℕ) → k < at → get_or text k 0 ≡ 0) → ⊥
  no_zeros_alone at end before =
      let none = sym one_at ∙ before (suc (suc zeros)) (omega (arith, one_in_range, end)) in
      cc
