-- The zeros that bytes begin with.
use Rattle.std.proofs.Common.{◌≡◌, ◌≢◌, ℕ, zero, suc, ◌+◌, ◌-◌, ◌<◌, ◌≤◌, true, eqb, leb, cond, List, [], ◌∷◌, ◌++◌, length, drop, replicate, get_or, length-drop, arith, refl, ap, ◌∙◌}
use Rattle.std.proofs.lemmas.Bool.{ne_eqb, le-leb, or_right}
use Rattle.std.proofs.lemmas.List.{drop_more}
use Rattle.annexb.specs.ByteStream.{start_code, FollowsStartCode}
use Rattle.annexb.specs.Faults.{zero_run, after_zeros, begins_with_start_code, ends_unit}

-- how the run goes on at a place
pub zero_run-drop : (bytes : List ℕ) (at : ℕ) → at < length bytes
    → zero_run (drop at bytes) ≡ cond (eqb (get_or bytes at 0) 0) (zero_run (drop (at + 1) bytes) + 1) 0
zero_run-drop bytes at here = ap zero_run (drop_more bytes at 0 here) ∙ first (get_or bytes at 0) (drop (at + 1) bytes)
  where
    first : (byte : ℕ) (bytes : List ℕ) → zero_run (byte ∷ bytes) ≡ cond (eqb byte 0) (zero_run bytes + 1) 0
    first zero bytes = omega arith
    first (suc n) bytes = let other : suc n ≢ 0 = omega arith in rw (ne_eqb (suc n) 0 other) refl

-- for the tactics
pub ruleset zero_run_steps = (zero_run-drop)

-- bytes are the zeros that they begin with, and the rest
pub zeros_split : (bytes : List ℕ) → bytes ≡ replicate (zero_run bytes) 0 ++ after_zeros bytes
zeros_split [] = refl
zeros_split (zero ∷ bytes) = ap (λ l. 0 ∷ l) (zeros_split bytes)
zeros_split (suc n ∷ bytes) = refl

-- a start code stands within the text
pub code_in_range : (text : List ℕ) (at : ℕ) → FollowsStartCode text at → at ≤ length text
code_in_range text at after = omega (arith, after.place, length-drop after.start text, ap length after.code)

-- two of the zeros stand at the end of their run
two_zeros_last : (count : ℕ) (bytes : List ℕ) → replicate (suc (suc count)) 0 ++ bytes ≡ replicate count 0 ++ 0 ∷ 0 ∷ bytes
two_zeros_last zero bytes = refl
two_zeros_last (suc count) bytes = ap (λ l. 0 ∷ l) (two_zeros_last count bytes)

-- zeros, two or more, and 01 are zeros and a start code
pub start_code_split : (bytes rest : List ℕ) → 2 ≤ zero_run bytes → after_zeros bytes ≡ 1 ∷ rest
    → bytes ≡ replicate (zero_run bytes - 2) 0 ++ (start_code ++ rest)
start_code_split bytes rest enough code =
    let count = zero_run bytes - 2 in
    let all : zero_run bytes ≡ suc (suc count) = omega arith in
    zeros_split bytes ∙ ap (λ n. replicate n 0 ++ after_zeros bytes) all ∙ two_zeros_last count (after_zeros bytes) ∙ ap (λ l. replicate count 0 ++ 0 ∷ 0 ∷ l) code

pub length-zero_run : (bytes : List ℕ) → zero_run bytes + length (after_zeros bytes) ≡ length bytes
length-zero_run [] = refl
length-zero_run (zero ∷ bytes) = let rest = length-zero_run bytes in omega arith
length-zero_run (suc n ∷ bytes) = omega arith

-- zeros before bytes are counted, and passed over
pub zero_run-replicate : (count : ℕ) (bytes : List ℕ) → zero_run (replicate count 0 ++ bytes) ≡ count + zero_run bytes
zero_run-replicate zero bytes = omega arith
zero_run-replicate (suc count) bytes = let rest = zero_run-replicate count bytes in omega arith

pub after_zeros-replicate : (count : ℕ) (bytes : List ℕ) → after_zeros (replicate count 0 ++ bytes) ≡ after_zeros bytes
after_zeros-replicate zero bytes = refl
after_zeros-replicate (suc count) bytes = after_zeros-replicate count bytes

-- zeros and a start code are one, however many zeros there are
pub begins_with_start_code-zeros : (count : ℕ) (rest : List ℕ) → begins_with_start_code (replicate count 0 ++ (start_code ++ rest)) ≡ true
begins_with_start_code-zeros count rest =
    let two : leb 2 (count + 2) ≡ true = le-leb 2 (count + 2) (omega arith) in
    rw (after_zeros-replicate count (start_code ++ rest), zero_run-replicate count (start_code ++ rest), two) refl

-- zeros end a unit at the end of the bytes, and before a start code
pub ends_unit-end : (count : ℕ) → ends_unit (replicate count 0 ++ []) ≡ true
ends_unit-end count = rw (after_zeros-replicate count []) refl

pub ends_unit-code : (count : ℕ) (rest : List ℕ) → ends_unit (replicate count 0 ++ (start_code ++ rest)) ≡ true
ends_unit-code count rest = or_right _ _ (begins_with_start_code-zeros count rest)
