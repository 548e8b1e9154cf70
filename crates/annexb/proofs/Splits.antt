-- How far a text is split, unit by unit.
use Rattle.std.proofs.Common.{◌≡◌, ℕ, ◌+◌, ◌-◌, ◌<◌, ◌≤◌, ⊎_elim, Bool, true, leb, List, [], ◌∷◌, ◌++◌, length, drop, replicate, Option, Some, None, IfSome, arith, refl, ap, sym, ◌∙◌, length-append, length-drop, append_assoc}
use Rattle.std.proofs.lemmas.Bool.{false≢true, and_parts, leb-true, eqb-true, cases_lt}
use Rattle.std.proofs.lemmas.List.{append-nil, drop-drop, drop_at, length-replicate}
use Rattle.annexb.specs.ByteStream.{start_code, FollowsStartCode, BeginsWithUnit, AreUnits, HasUnits}
use Rattle.annexb.specs.Faults.{zero_run, after_zeros, begins_with_one, begins_with_start_code}
use Rattle.annexb.specs.Search.{IsFirstUnit, IsFoundAt, from_code}
use Rattle.annexb.proofs.ZeroRuns.{start_code_split, code_in_range}
use Rattle.annexb.proofs.Clear.{IsClear, a_code, clear_in_zeros, clear_piece}

-- some units are found, whatever units the rest has, and no fault stands before the rest
pub record IsSplitTo (text : List ℕ) (next : Option ℕ) (is_stored : Bool) (items : List (List ℕ)) : Type 0 where
  pub found : List (List ℕ)
  pub stored : is_stored ≡ true → items ≡ found
  pub whole : (more : List (List ℕ)) → AreUnits (from_code text next) more → HasUnits text (found ++ more)
  pub begins : begins_with_start_code text ≡ true
  pub after : IfSome next (FollowsStartCode text)
  pub clear : IfSome next (λ at. (place : ℕ) → place + 3 < at → IsClear (drop place text))

-- how much of the text is left
abbrev pub text_left : List ℕ → Option ℕ → ℕ
text_left text None = 0
text_left text (Some at) = length text + 1 - at

one_first : (bytes : List ℕ) → begins_with_one bytes ≡ true → bytes ≡ 1 ∷ drop 1 bytes
one_first [] h = absurd (false≢true h)
one_first (byte ∷ bytes) h = let one : byte ≡ 1 = eqb-true byte 1 h in ap (λ b. b ∷ bytes) one

-- units after a start code are one or more
filled_units : (bytes : List ℕ) (units : List (List ℕ)) → AreUnits (start_code ++ bytes) units → 0 < length units
filled_units bytes [] h = cc
filled_units bytes (unit ∷ units) h = omega arith

-- before the first unit
module _ (text : List ℕ) (first : ℕ) (h : IsFirstUnit text (Some first)) where
  parts : (leb 2 (zero_run text) ≡ true) × (begins_with_one (after_zeros text) ≡ true)
  parts = and_parts (leb 2 (zero_run text)) (begins_with_one (after_zeros text)) h.0

  one_there : after_zeros text ≡ 1 ∷ drop first text
  one_there = one_first (after_zeros text) parts.1 ∙ ap (λ l. 1 ∷ l) (drop-drop 1 (zero_run text) text ∙ ap (λ n. drop n text) (sym h.1))

  enough : 2 ≤ zero_run text
  enough = leb-true 2 (zero_run text) parts.0

  text_split : text ≡ replicate (zero_run text - 2) 0 ++ (start_code ++ drop first text)
  text_split = start_code_split text (drop first text) enough one_there

  pub IsSplitTo-first : IsSplitTo text (Some first) true []
  IsSplitTo-first = record {
    found = [];
    stored = λ _. refl;
    whole = λ more units. record { zeros = zero_run text - 2; rest = start_code ++ drop first text; text_is = text_split; rest_is = units; filled = filled_units (drop first text) more units };
    begins = h.0;
    after = record {
      start = zero_run text - 2;
      place = omega (arith, enough, h.1);
      code = ap (drop (zero_run text - 2)) text_split ∙ drop_at (replicate (zero_run text - 2) 0) (start_code ++ drop first text) (zero_run text - 2) (length-replicate (zero_run text - 2) 0);
    };
    clear = λ place below. rw text_split (clear_in_zeros (start_code ++ drop first text) a_code (zero_run text - 2) place (omega (arith, enough, h.1)));
  }

-- one unit more
module _ (text : List ℕ) (at : ℕ) (is_stored : Bool) (items : List (List ℕ)) (split : IsSplitTo text (Some at) is_stored items) where
  whole_more : (unit rest : List ℕ) (more : List (List ℕ)) → BeginsWithUnit (start_code ++ drop at text) unit rest
      → AreUnits rest more → HasUnits text ((split.found ++ unit ∷ []) ++ more)
  whole_more unit rest more begins units = rw append_assoc (split.whole (unit ∷ more) (rest, begins, units))

  -- up to the next start code the text stays clear
  clear_more : (unit : List ℕ) (next : ℕ) → next ≤ length text
      → BeginsWithUnit (start_code ++ drop at text) unit (start_code ++ drop next text) → (place : ℕ) → place + 3 < next
      → IsClear (drop place text)
  clear_more unit next in_range begins place below =
      let start = split.after.start in
      let rest = start_code ++ drop next text in
      let size : length (drop at text) ≡ length unit + begins.zeros + 3 + length (drop next text) =
      omega (arith, ap length begins.bytes_are, length-append unit (replicate begins.zeros 0 ++ rest), length-append (replicate begins.zeros 0) rest, length-replicate {A = ℕ} begins.zeros 0) in
      let end : next ≡ at + length unit + begins.zeros + 3 = omega (arith, length-drop at text, length-drop next text, code_in_range text at split.after) in
      ⊎_elim (split.clear place) (λ from.
      let ahead = place - start in
      let there : start + ahead ≡ place = omega (arith, split.after.place) in
      let inside : ahead < 3 + length unit + begins.zeros = omega (arith, split.after.place) in
      rw there at (rw drop-drop at (rw (← split.after.code) at (rw (← begins.bytes_are) at (clear_piece unit rest begins.zeros begins.unit_is a_code ahead inside)))))
      (cases_lt (place + 3) at)

  pub IsSplitTo-more : (unit : List ℕ) (next : Option ℕ) (is_stored' : Bool) (items' : List (List ℕ))
      → IsFoundAt text at unit next → (is_stored' ≡ true → (is_stored ≡ true) × (items' ≡ items ++ unit ∷ []))
      → IsSplitTo text next is_stored' items'
  IsSplitTo-more unit None is_stored' items' found stores = record {
    found = split.found ++ unit ∷ [];
    stored = λ yes. let both = stores yes in both.1 ∙ ap (λ l. l ++ unit ∷ []) (split.stored both.0);
    whole = λ more units. whole_more unit [] more found.begins units;
    begins = split.begins;
    after = tt;
    clear = tt;
  }
  IsSplitTo-more unit (Some next) is_stored' items' found stores = record {
    found = split.found ++ unit ∷ [];
    stored = λ yes. let both = stores yes in both.1 ∙ ap (λ l. l ++ unit ∷ []) (split.stored both.0);
    whole = λ more units. whole_more unit (start_code ++ drop next text) more found.begins units;
    begins = split.begins;
    after = found.follows.1;
    clear = clear_more unit next (code_in_range text next found.follows.1) found.begins;
  }

-- at the end
pub HasUnits-from_split : (text : List ℕ) (is_stored : Bool) (items : List (List ℕ)) → (split : IsSplitTo text None is_stored items) → HasUnits text split.found
HasUnits-from_split text is_stored items split = rw append-nil at (split.whole [] refl)
