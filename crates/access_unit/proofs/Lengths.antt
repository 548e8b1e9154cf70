-- How long NAL units are with the plainest start codes.
use Rattle.std.proofs.Common.{◌≡◌, ℕ, ◌+◌, ◌<◌, ◌≤◌, List, [], ◌∷◌, ◌++◌, length, take, drop, get_or, replicate, ap, sym, ◌∙◌, arith, length-append}
use Rattle.std.proofs.lemmas.List.{take_more, take-append-drop}
use Rattle.std.proofs.lemmas.Grind.{flat_map-append}
use Rattle.annexb.specs.ByteStream.{start_code, AreUnits, HasUnits, joined}

joined-append : (units more : List (List ℕ)) → joined (units ++ more) ≡ joined units ++ joined more
joined-append units more = flat_map-append (λ unit. start_code ++ unit) units more

pub length-joined-more : (units : List (List ℕ)) (at : ℕ) → at < length units
    → length (joined (take (at + 1) units)) ≡ length (joined (take at units)) + (3 + length (get_or units at []))
length-joined-more units at here =
    let unit : List ℕ = get_or units at [] in
    let split = ap joined (take_more units at [] here) ∙ joined-append (take at units) (unit ∷ []) in
    ap length split ∙ omega (arith, length-append (joined (take at units)) (joined (unit ∷ [])), length-append (start_code ++ unit) [], length-append start_code unit)

pub length-joined-part : (units : List (List ℕ)) (at : ℕ) → length (joined (take at units)) ≤ length (joined units)
length-joined-part units at =
    let split = ap joined (sym (take-append-drop at units)) ∙ joined-append (take at units) (drop at units) in
    omega (arith, ap length split, length-append (joined (take at units)) (joined (drop at units)))

-- those of a text are no longer than it
length_of_units : (bytes : List ℕ) (units : List (List ℕ)) → AreUnits bytes units → length (joined units) ≤ length bytes
length_of_units bytes [] h = omega arith
length_of_units bytes (unit ∷ units) (rest, begins, more) =
    let zeros : List ℕ = replicate begins.zeros 0 in
    omega (
      arith,
      length_of_units rest units more,
      ap length begins.bytes_are,
      length-append start_code (unit ++ (zeros ++ rest)),
      length-append unit (zeros ++ rest),
      length-append zeros rest,
      length-append (start_code ++ unit) (joined units),
      length-append start_code unit,
    )

pub length_joined : (text : List ℕ) (units : List (List ℕ)) → HasUnits text units → length (joined units) ≤ length text
length_joined text units h =
    omega (arith, length_of_units h.rest units h.rest_is, ap length h.text_is, length-append {A = ℕ} (replicate h.zeros 0) h.rest)
