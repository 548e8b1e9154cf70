-- What is left of a text, access unit after access unit.
use Rattle.std.proofs.Common.{◌≡◌, ℕ, zero, suc, ◌+◌, ◌<◌, false, List, [], ◌∷◌, ◌++◌, length, take, drop, replicate, arith, refl, ap, sym, ◌∙◌, length-append, append_assoc, append-nil}
use Rattle.std.proofs.lemmas.List.{take_at, drop_at, length-replicate}
use Rattle.std.proofs.lemmas.Grind.{flat_map-append}
use Rattle.annexb.specs.ByteStream.{start_code, AreUnits, HasUnits}
use Rattle.annexb.specs.AccessUnits.{AreAccessUnits, IsCut}
use Rattle.annexb.proofs.Clear.{EndsZeros-units}
use Rattle.annexb.proofs.Readings.{same_reading}
use Rattle.annexb.proofs.Cuts.{cut_from, units_of, IsCut-cut_from, same_cut}
use Rattle.access_unit.specs.Coded.{HasRest}
use Rattle.access_unit.specs.Streams.{HasAccessUnits}
use Rattle.access_unit.proofs.Pieces.{HasRest-all}
use Rattle.plan_stream.specs.Fronts.{front_len, IsFront}
use Rattle.plan_stream.specs.Readings.{IsReadTo}
use Rattle.plan_stream.proofs.Lengths.{past_zeros}
use Rattle.plan_stream.proofs.Cuts.{cut_units_at, take_past, drop_past}

-- what is left after a front
pub record IsCutOff (left front rest : List ℕ) (units : List (List ℕ)) : Type 0 where
  pub part : List (List ℕ)
  pub more : List (List ℕ)
  pub front_has : HasRest front part
  pub rest_are : AreUnits rest more
  pub units_are : units ≡ part ++ more
  pub parts_are : 0 < length units → cut_from [] units ≡ part ∷ cut_from [] more
  pub filled : 0 < length units → 0 < length part

-- a part that is cut off has a unit
some_part : (part more units : List (List ℕ)) → cut_from [] units ≡ part ∷ cut_from [] more → 0 < length part
some_part part more units cut = first_filled (rw cut at (IsCut-cut_from units)).parts_are
  where
    first_filled : AreAccessUnits (part ∷ cut_from [] more) → 0 < length part
    first_filled h = h.0

-- the prefix of units, with zeros before them
cut_off : (left front rest : List ℕ) (units : List (List ℕ)) → HasRest left units → IsFront left front rest → IsCutOff left front rest units
cut_off left front rest units has is = of_units units has.rest_is
  where
    zeros : List ℕ
    zeros = replicate has.zeros 0

    unit_len : length front ≡ length zeros + front_len false has.rest
    unit_len =
        is.len ∙ ap (front_len false) has.text_is ∙ past_zeros false has.rest (EndsZeros-units has.rest units has.rest_is) has.zeros
        ∙ ap (λ n. n + front_len false has.rest) (sym (length-replicate {A = ℕ} has.zeros 0))

    whole : front ++ rest ≡ zeros ++ has.rest
    whole = sym is.whole ∙ has.text_is

    front_is : front ≡ zeros ++ take (front_len false has.rest) has.rest
    front_is =
        sym (take_at front rest (length front) refl) ∙ ap (take (length front)) whole ∙ ap (λ n. take n (zeros ++ has.rest)) unit_len
        ∙ take_past zeros has.rest (front_len false has.rest)

    rest_is : rest ≡ drop (front_len false has.rest) has.rest
    rest_is =
        sym (drop_at front rest (length front) refl) ∙ ap (drop (length front)) whole ∙ ap (λ n. drop n (zeros ++ has.rest)) unit_len
        ∙ drop_past zeros has.rest (front_len false has.rest)

    of_units : (units : List (List ℕ)) → AreUnits has.rest units → IsCutOff left front rest units
    of_units [] none = record {
      part = [];
      more = [];
      front_has = record { zeros = has.zeros; rest = take (front_len false has.rest) has.rest; text_is = front_is; rest_is = rw none refl };
      rest_are = rest_is ∙ rw none refl;
      units_are = refl;
      parts_are = λ some. absurd (omega arith);
      filled = λ some. absurd (omega arith);
    }
    of_units (unit ∷ units) are =
        let cut = cut_units_at has.rest (unit ∷ units) [] are (omega arith) in record {
          part = cut.part;
          more = cut.more;
          front_has = record { zeros = has.zeros; rest = take (front_len false has.rest) has.rest; text_is = front_is; rest_is = cut.front };
          rest_are = rw rest_is cut.rest;
          units_are = cut.units_are;
          parts_are = λ some. cut.parts_are;
          filled = λ some. some_part cut.part cut.more (unit ∷ units) cut.parts_are;
        }

-- units after units are units of both texts
append_units : (bytes rest : List ℕ) (units more : List (List ℕ)) → AreUnits bytes units → HasRest rest more → 0 < length units
    → AreUnits (bytes ++ rest) (units ++ more)
append_units bytes rest [] more are has some = absurd (omega arith)
append_units bytes rest (unit ∷ []) more (none, begins, nil) has some = (
  has.rest,
  record {
    zeros = begins.zeros + has.zeros;
    bytes_are =
        ap (λ l. l ++ rest) (begins.bytes_are ∙ ap (λ l. start_code ++ (unit ++ (replicate begins.zeros 0 ++ l))) nil)
        ∙ together unit begins.zeros;
    unit_is = begins.unit_is;
  },
  has.rest_is,
)
  where
    zeros_add : (a b : ℕ) (l : List ℕ) → replicate a 0 ++ (replicate b 0 ++ l) ≡ replicate (a + b) 0 ++ l
    zeros_add zero b l = let e : zero + b ≡ b = omega arith in rw e refl
    zeros_add (suc a) b l = let e : suc a + b ≡ suc (a + b) = omega arith in rw e (ap (λ m. 0 ∷ m) (zeros_add a b l))

    together : (unit : List ℕ) (zeros : ℕ)
        → (start_code ++ (unit ++ (replicate zeros 0 ++ []))) ++ rest ≡ start_code ++ (unit ++ (replicate (zeros + has.zeros) 0 ++ has.rest))
    together unit zeros =
        ap (λ l. start_code ++ l) (
        append_assoc unit (replicate zeros 0 ++ []) rest
        ∙ ap (λ l. unit ++ l) (ap (λ l. l ++ rest) (append-nil (replicate zeros 0)) ∙ ap (λ l. replicate zeros 0 ++ l) has.text_is ∙ zeros_add zeros has.zeros has.rest))
append_units bytes rest (unit ∷ next ∷ units) more (later, begins, are) has some = (
  later ++ rest,
  record {
    zeros = begins.zeros;
    bytes_are =
        ap (λ l. l ++ rest) begins.bytes_are
        ∙ ap (λ l. start_code ++ l) (append_assoc unit (replicate begins.zeros 0 ++ later) rest
        ∙ ap (λ l. unit ++ l) (append_assoc (replicate begins.zeros 0) later rest));
    unit_is = begins.unit_is;
  },
  append_units later rest (next ∷ units) more are has (omega arith),
)

join_rest : (left front rest : List ℕ) (part more : List (List ℕ)) → left ≡ front ++ rest → HasUnits front part → HasRest rest more
    → HasRest left (part ++ more)
join_rest left front rest part more whole has has_rest = record {
  zeros = has.zeros;
  rest = has.rest ++ rest;
  text_is = whole ∙ ap (λ l. l ++ rest) has.text_is ∙ append_assoc (replicate has.zeros 0) has.rest rest;
  rest_is = append_units has.rest rest part more has.rest_is has_rest has.filled;
}

-- with some units, it is a text that has them
filled_rest : (text : List ℕ) (units : List (List ℕ)) → HasRest text units → 0 < length units → HasUnits text units
filled_rest text units has some = record { zeros = has.zeros; rest = has.rest; text_is = has.text_is; rest_is = has.rest_is; filled = some }

-- nothing is read
pub read_none : (text : List ℕ) → IsReadTo text [] text
read_none text = record {
  whole = λ more parts has cut. (has, cut);
  only = λ units has. (units, HasRest-all text units has, λ some. has.filled);
  started = λ none. refl;
  filled = λ some. absurd (omega arith);
}

-- units are none, or bytes
some_units : (bytes : List ℕ) (units : List (List ℕ)) → AreUnits bytes units → 0 < length bytes → 0 < length units
some_units bytes [] are some = absurd (omega (arith, ap length are))
some_units bytes (unit ∷ units) are some = omega arith

units_of-push : (done : List (List (List ℕ))) (part : List (List ℕ)) → units_of (done ++ part ∷ []) ≡ units_of done ++ part
units_of-push done part = flat_map-append (λ part. part) done (part ∷ []) ∙ ap (λ l. units_of done ++ l) (append-nil part)

-- one access unit more is read
module _ (text : List ℕ) (done : List (List (List ℕ))) (left front rest : List ℕ) (read : IsReadTo text done left) (is : IsFront left front rest) where
  -- the text of an access unit that has no units is one of a text that has none
  pub no_units_in_front : 0 < length left → ((part : List (List ℕ)) → HasUnits front part → ⊥) → (units : List (List ℕ)) → HasUnits text units → ⊥
  no_units_in_front some none units has =
      let left_has = read.only units has in
      let cut = cut_off left front rest left_has.0 left_has.1 is in
      none cut.part (filled_rest front cut.part cut.front_has (cut.filled (left_has.2 some)))

  module _ (part : List (List ℕ)) (has : HasUnits front part) where
    -- the units of the front are those up to the next boundary
    cut_here : (more : List (List ℕ)) → HasRest rest more → cut_from [] (part ++ more) ≡ part ∷ cut_from [] more
    cut_here more has_rest =
        let joined = join_rest left front rest part more is.whole has has_rest in
        let some : 0 < length (part ++ more) = omega (arith, has.filled, length-append part more) in
        let cut = cut_off left front rest (part ++ more) joined is in
        let same : cut.part ≡ part = same_reading front cut.part part (filled_rest front cut.part cut.front_has (cut.filled some)) has in
        let others : cut.more ≡ more = same_tail part cut.more more (sym (ap (λ l. l ++ cut.more) same) ∙ sym cut.units_are) in
        cut.parts_are some ∙ (ap (λ l. l ∷ cut_from [] cut.more) same ∙ ap (λ l. part ∷ cut_from [] l) others)
      where
        same_tail : (front one other : List (List ℕ)) → front ++ one ≡ front ++ other → one ≡ other
        same_tail front one other e = sym (drop_at front one (length front) refl) ∙ ap (drop (length front)) e ∙ drop_at front other (length front) refl

    cut_more : (more : List (List ℕ)) (parts : List (List (List ℕ))) → HasRest rest more → IsCut more parts → IsCut (part ++ more) (part ∷ parts)
    cut_more more parts has_rest cut =
        let parts_are : cut_from [] (part ++ more) ≡ part ∷ parts = cut_here more has_rest ∙ ap (λ l. part ∷ l) (same_cut more parts cut) in
        rw parts_are at (IsCut-cut_from (part ++ more))

    pub read_more : IsReadTo text (done ++ part ∷ []) rest
    read_more = record {
      whole = λ more parts has_rest cut.
          let joined = join_rest left front rest part more is.whole has has_rest in
          let both = read.whole (part ++ more) (part ∷ parts) joined (cut_more more parts has_rest cut) in
          let units_are : units_of (done ++ part ∷ []) ++ more ≡ units_of done ++ (part ++ more) =
          ap (λ l. l ++ more) (units_of-push done part) ∙ append_assoc (units_of done) part more in
          rw (units_are, append_assoc done (part ∷ []) parts) both;
      only = λ units text_has.
          let left_has = read.only units text_has in
          let cut = cut_off left front rest left_has.0 left_has.1 is in
          (cut.more, record { zeros = 0; rest = rest; text_is = refl; rest_is = cut.rest_are }, some_units rest cut.more cut.rest_are);
      started = λ none. absurd (no_push done part none);
      filled = λ some. omega (arith, has.filled, ap length (units_of-push done part), length-append (units_of done) part);
    }
      where
        no_push : (done : List (List (List ℕ))) (part : List (List ℕ)) → done ++ part ∷ [] ≡ [] → ⊥
        no_push done part e = omega (arith, ap length e, length-append done (part ∷ []))

-- all is read
module _ (text : List ℕ) (done : List (List (List ℕ))) (read : IsReadTo text done []) where
  nothing_left : HasRest [] []
  nothing_left = record { zeros = 0; rest = []; text_is = refl; rest_is = refl }

  pub read_all : 0 < length done → HasAccessUnits text done
  read_all some = record {
    units = units_of done;
    has = filled_rest text (units_of done) (rw append-nil at (both.0)) (read.filled some);
    cut = rw (append-nil (units_of done), append-nil done) at (both.1);
  }
    where
      both : HasRest text (units_of done ++ []) × IsCut (units_of done ++ []) (done ++ [])
      both = read.whole [] [] nothing_left (record { units_are = refl; parts_are = tt })

  -- and there was nothing
  pub read_nothing : done ≡ [] → (units : List (List ℕ)) → HasUnits text units → ⊥
  read_nothing none units has = no_text text units (read.started none) has
    where
      no_text : (text : List ℕ) (units : List (List ℕ)) → [] ≡ text → HasUnits text units → ⊥
      no_text text [] e has = omega (arith, has.filled)
      no_text text (unit ∷ units) e has =
          let begins = has.rest_is.1 in
          omega (
            arith,
            ap length e,
            ap length has.text_is,
            length-append (replicate has.zeros 0) has.rest,
            ap length begins.bytes_are,
          )
