-- A text has one fault at most, and the search meets it first.
use Rattle.std.proofs.Common.{◌≡◌, ◌≢◌, ℕ, zero, suc, ◌+◌, ◌-◌, ◌<◌, ⊎_elim, true, false, ◌&&◌, ◌||◌, eqb, leb, List, [], ◌∷◌, ◌++◌, drop, Result, Ok, Err, IfOk, IfErr, IsErrOf, IsOkUnless, ◌↔◌, arith, refl, ap, sym, ◌∙◌}
use Rattle.std.proofs.lemmas.Bool.{false≢true, both_ways, and_right, and_parts, ne_eqb, eqb-true, false_from_ne_true, cases_lt}
use Rattle.std.proofs.lemmas.List.{drop-drop}
use Rattle.annexb.specs.declared.fault.SplitFault.{SplitFault}
use Rattle.annexb.specs.declared.fault.SplitFault.TheVariants.{NoStartCode, ForbiddenBytes, EmptyUnit, Memory}
use Rattle.annexb.specs.NalUnit.{begins_above_three, begins_forbidden}
use Rattle.annexb.specs.ByteStream.{start_code, FollowsStartCode, HasUnits}
use Rattle.annexb.specs.Faults.{zero_run, after_zeros, begins_with_one, begins_with_start_code, is_forbidden_run, begins_forbidden_run, is_nothing, ends_unit, IsForbiddenAt, IsEmptyAt}
use Rattle.annexb.specs.SplitFault.{IsFaultOf}
use Rattle.annexb.specs.Search.{IsFaultFrom}
use Rattle.annexb.proofs.Clear.{begins_empty, IsClear, clear_text, begins_with_start_code-text}
use Rattle.annexb.proofs.Readings.{same_reading}

-- a forbidden run begins with a forbidden sequence
begins_forbidden_run-allowed : (bytes : List ℕ) → begins_forbidden bytes ≡ false → begins_forbidden_run bytes ≡ false
begins_forbidden_run-allowed [] h = refl
begins_forbidden_run-allowed (zero ∷ []) h = refl
begins_forbidden_run-allowed (zero ∷ zero ∷ []) h = refl
begins_forbidden_run-allowed (zero ∷ zero ∷ zero ∷ bytes) h = absurd (false≢true (sym h))
begins_forbidden_run-allowed (zero ∷ zero ∷ suc zero ∷ bytes) h = absurd (false≢true (sym h))
begins_forbidden_run-allowed (zero ∷ zero ∷ suc (suc zero) ∷ bytes) h = absurd (false≢true (sym h))
begins_forbidden_run-allowed (zero ∷ zero ∷ suc (suc (suc zero)) ∷ bytes) h =
    let above : begins_above_three bytes ≡ false = h in rw above refl
begins_forbidden_run-allowed (zero ∷ zero ∷ suc (suc (suc (suc n))) ∷ bytes) h =
    let no_two : suc (suc (suc (suc n))) ≢ 2 = omega arith in
    let no_three : suc (suc (suc (suc n))) ≢ 3 = omega arith in
    rw (ne_eqb _ 2 no_two, ne_eqb _ 3 no_three) refl
begins_forbidden_run-allowed (zero ∷ suc n ∷ bytes) h = refl
begins_forbidden_run-allowed (suc n ∷ bytes) h = refl

-- and so does a start code
begins_empty-allowed : (bytes : List ℕ) → begins_forbidden bytes ≡ false → begins_empty bytes ≡ false
begins_empty-allowed [] h = refl
begins_empty-allowed (zero ∷ []) h = refl
begins_empty-allowed (zero ∷ zero ∷ []) h = refl
begins_empty-allowed (zero ∷ zero ∷ zero ∷ bytes) h = refl
begins_empty-allowed (zero ∷ zero ∷ suc zero ∷ bytes) h = absurd (false≢true (sym h))
begins_empty-allowed (zero ∷ zero ∷ suc (suc n) ∷ bytes) h = refl
begins_empty-allowed (zero ∷ suc n ∷ bytes) h = refl
begins_empty-allowed (suc n ∷ bytes) h = refl

-- zeros before 01 are allowed, however many
is_forbidden_run-one : (count : ℕ) (bytes : List ℕ) → is_forbidden_run count (1 ∷ bytes) ≡ false
is_forbidden_run-one count bytes = rw (and_right (eqb count 2) false refl, and_right (leb 3 count) false refl) refl

-- a forbidden run ends no unit
ends_unit-forbidden : (bytes : List ℕ) → begins_forbidden_run bytes ≡ true → ends_unit bytes ≡ false
ends_unit-forbidden bytes = at_rest (zero_run bytes) (after_zeros bytes)
  where
    at_rest : (count : ℕ) (rest : List ℕ) → is_forbidden_run count rest ≡ true → (is_nothing rest || (leb 2 count && begins_with_one rest)) ≡ false
    at_rest count [] h = absurd (false≢true h)
    at_rest count (byte ∷ rest) h = false_from_ne_true (leb 2 count && eqb byte 1) (λ code.
        let one : byte ≡ 1 = eqb-true byte 1 (and_parts (leb 2 count) (eqb byte 1) code).1 in
        both_ways _ (is_forbidden_run-one count rest) (rw one at h))

-- one zero more before bytes that end no unit
ends_unit-zero : (bytes : List ℕ) → ends_unit bytes ≡ false → begins_forbidden (0 ∷ bytes) ≡ false → ends_unit (0 ∷ bytes) ≡ false
ends_unit-zero [] ends h = absurd (false≢true (sym ends))
ends_unit-zero (zero ∷ []) ends h = absurd (false≢true (sym ends))
ends_unit-zero (zero ∷ zero ∷ bytes) ends h = absurd (false≢true (sym h))
ends_unit-zero (zero ∷ suc zero ∷ bytes) ends h = absurd (false≢true (sym h))
ends_unit-zero (zero ∷ suc (suc n) ∷ bytes) ends h = let no_one : suc (suc n) ≢ 1 = omega arith in rw (ne_eqb _ 1 no_one) refl
ends_unit-zero (suc n ∷ bytes) ends h = refl

-- allowed bytes before a forbidden run end no unit
ends_unit-before : (bytes : List ℕ) (run : ℕ)
    → ((place : ℕ) → place < run → begins_forbidden (drop place bytes) ≡ false)
    → begins_forbidden_run (drop run bytes) ≡ true → ends_unit bytes ≡ false
ends_unit-before bytes zero allowed forbidden = ends_unit-forbidden bytes forbidden
ends_unit-before [] (suc run) allowed forbidden = absurd (false≢true forbidden)
ends_unit-before (zero ∷ bytes) (suc run) allowed forbidden =
    ends_unit-zero bytes (ends_unit-before bytes run (λ place below. allowed (suc place) (omega arith)) forbidden) (allowed 0 (omega arith))
ends_unit-before (suc n ∷ bytes) (suc run) allowed forbidden = refl

-- a start code without a unit begins three places before it ends
begins_empty-there : (text : List ℕ) (at : ℕ) → (fault : IsEmptyAt text at) → begins_empty (drop fault.code.start text) ≡ true
begins_empty-there text at fault = rw fault.code.code fault.empty

-- no fault stands in a text that has units
no_forbidden : (text : List ℕ) (units : List (List ℕ)) (at : ℕ) → HasUnits text units → ¬ IsForbiddenAt text at
no_forbidden text units at h fault = both_ways _ (clear_text text units h at).allowed fault.forbidden

no_empty : (text : List ℕ) (units : List (List ℕ)) (at : ℕ) → HasUnits text units → ¬ IsEmptyAt text at
no_empty text units at h fault = both_ways _ (clear_text text units h fault.code.start).filled (begins_empty-there text at fault)

-- each two first places of one text are one
same_place : (a b : ℕ) → ¬ (a < b) → ¬ (b < a) → a ≡ b
same_place a b not_less not_more = omega arith

pub one_fault : (text : List ℕ) (fault other : SplitFault) → IsFaultOf text fault → IsFaultOf text other → fault ≡ other
one_fault text NoStartCode NoStartCode h h' = refl
one_fault text NoStartCode (ForbiddenBytes b) h (here, sound) = absurd (both_ways _ h sound.begins)
one_fault text NoStartCode (EmptyUnit b) h (here, allowed, sound) = absurd (both_ways _ h sound.begins)
one_fault text NoStartCode Memory h (units, h') = absurd (both_ways _ h (begins_with_start_code-text text units h'))
one_fault text (ForbiddenBytes a) NoStartCode (here, sound) h' = absurd (both_ways _ h' sound.begins)
one_fault text (ForbiddenBytes a) (ForbiddenBytes b) (here, sound) (here', sound') =
    ap ForbiddenBytes (same_place a b (λ less. sound'.allowed a less here) (λ more. sound.allowed b more here'))
one_fault text (ForbiddenBytes a) (EmptyUnit b) (here, sound) (here', allowed', sound') =
    let same = same_place a b (λ less. sound'.allowed a less here) (λ more. sound.filled b more here') in
    absurd (allowed' (rw same at here))
one_fault text (ForbiddenBytes a) Memory (here, sound) (units, h') = absurd (no_forbidden text units a h' here)
one_fault text (EmptyUnit a) NoStartCode (here, allowed, sound) h' = absurd (both_ways _ h' sound.begins)
one_fault text (EmptyUnit a) (ForbiddenBytes b) (here, allowed, sound) (here', sound') =
    let same = same_place a b (λ less. sound'.filled a less here) (λ more. sound.allowed b more here') in
    absurd (allowed (rw (← same) at here'))
one_fault text (EmptyUnit a) (EmptyUnit b) (here, allowed, sound) (here', allowed', sound') =
    ap EmptyUnit (same_place a b (λ less. sound'.filled a less here) (λ more. sound.filled b more here'))
one_fault text (EmptyUnit a) Memory (here, allowed, sound) (units, h') = absurd (no_empty text units a h' here)
one_fault text Memory NoStartCode (units, h) h' = absurd (both_ways _ h' (begins_with_start_code-text text units h))
one_fault text Memory (ForbiddenBytes b) (units, h) (here, sound) = absurd (no_forbidden text units b h here)
one_fault text Memory (EmptyUnit b) (units, h) (here, allowed, sound) = absurd (no_empty text units b h here)
one_fault text Memory Memory h h' = refl

-- after a start code, before which the text is clear
module _ (text : List ℕ) (at : ℕ) (after : FollowsStartCode text at) (clear : (place : ℕ) → place + 3 < at → IsClear (drop place text)) where
  -- the bytes from a place of the start code on
  in_code : (ahead : ℕ) → drop (after.start + ahead) text ≡ drop ahead (start_code ++ drop at text)
  in_code ahead = sym (drop-drop ahead after.start text) ∙ ap (drop ahead) after.code

  -- each place before ours is before the start code, or one of its three
  module _ (P : List ℕ → Type 0) (before : (place : ℕ) → place < after.start → P (drop place text)) where
    each_before : ((ahead : ℕ) → ahead < 3 → P (drop ahead (start_code ++ drop at text))) → (place : ℕ) → place < at → P (drop place text)
    each_before inside place below = ⊎_elim (before place) (λ from.
        let ahead = place - after.start in
        let there : after.start + ahead ≡ place = omega arith in
        rw there at (rw (← in_code ahead) at (inside ahead (omega (arith, after.place)))))
        (cases_lt place after.start)

  clear_before : (place : ℕ) → place < after.start → IsClear (drop place text)
  clear_before place below = clear place (omega (arith, after.place))

  -- no forbidden run stands before the place
  allowed_before : (place : ℕ) → place < at → begins_forbidden_run (drop place text) ≡ false
  allowed_before = each_before (λ l. begins_forbidden_run l ≡ false) (λ place below. (clear_before place below).allowed) inside
    where
      inside : (ahead : ℕ) → ahead < 3 → begins_forbidden_run (drop ahead (start_code ++ drop at text)) ≡ false
      inside zero below = refl
      inside (suc zero) below = refl
      inside (suc (suc zero)) below = refl
      inside (suc (suc (suc n))) below = absurd (omega arith)

  -- nor a start code without a unit, if that before the place has one
  filled_before : ends_unit (drop at text) ≡ false → (place : ℕ) → place < at → begins_empty (drop place text) ≡ false
  filled_before filled = each_before (λ l. begins_empty l ≡ false) (λ place below. (clear_before place below).filled) inside
    where
      inside : (ahead : ℕ) → ahead < 3 → begins_empty (drop ahead (start_code ++ drop at text)) ≡ false
      inside zero below = filled
      inside (suc zero) below = refl
      inside (suc (suc zero)) below = refl
      inside (suc (suc (suc n))) below = absurd (omega arith)

  -- the first fault after the start code is the text's
  pub IsFaultOf-from_fault : (fault : SplitFault) → begins_with_start_code text ≡ true → IsFaultFrom text at fault → IsFaultOf text fault
  IsFaultOf-from_fault NoStartCode begins h = elim h [ ]
  IsFaultOf-from_fault (ForbiddenBytes place) begins (past, here, scanned) =
      let run = place - at in
      let there : at + run ≡ place = omega arith in
      let filled = ends_unit-before (drop at text) run
      (λ ahead below. rw drop-drop (scanned (at + ahead) (omega arith) (omega arith)))
      (rw (drop-drop run at text, there) here.forbidden) in (
        here,
        record {
          begins = begins;
          allowed = λ k below fault. both_ways _ (⊎_elim (allowed_before k) (λ from. begins_forbidden_run-allowed (drop k text) (scanned k from below)) (cases_lt k at)) fault.forbidden;
          filled = λ k below fault. let start = fault.code.start in
              let e = fault.code.place in
              both_ways _ (⊎_elim (filled_before filled start) (λ from. begins_empty-allowed (drop start text) (scanned start from (omega arith))) (cases_lt start at)) (begins_empty-there text k fault);
        },
      )
  IsFaultOf-from_fault (EmptyUnit place) begins (same, here) = (
    record { code = rw same after; empty = rw same here },
    λ fault. both_ways _ (ends_unit-forbidden (drop at text) (rw same at fault.forbidden)) here,
    record {
      begins = begins;
      allowed = λ k below fault. both_ways _ (allowed_before k (omega arith)) fault.forbidden;
      filled = λ k below fault. let e = fault.code.place in both_ways _ (clear fault.code.start (omega arith)).filled (begins_empty-there text k fault);
    },
  )
  IsFaultOf-from_fault Memory begins h = elim h [ ]

-- An answer that has the text's units, or its fault, is those units where the text has them
pub answer_only : {A : Type 0} (text : List ℕ) (units_of : A → List (List ℕ)) (answer : Result A SplitFault)
    → IfOk answer (λ a. HasUnits text (units_of a)) → IfErr answer (IsFaultOf text)
    → (units : List (List ℕ)) → HasUnits text units → IfOk answer (λ a. units_of a ≡ units) × IsOkUnless answer Memory
answer_only text units_of (Ok a) ok err units h = (same_reading text (units_of a) units ok h, tt)
answer_only text units_of (Err fault) ok err units h = (tt, one_fault text fault Memory err (units, h))

-- and a fault exactly where the text has that
pub answer_fault : {A : Type 0} (text : List ℕ) (units_of : A → List (List ℕ)) (answer : Result A SplitFault)
    → IfOk answer (λ a. HasUnits text (units_of a)) → IfErr answer (IsFaultOf text) → (fault : SplitFault)
    → (fault ≡ Memory → ⊥) → IsErrOf answer fault ↔ IsFaultOf text fault
answer_fault text units_of (Ok a) ok err fault other = (λ e. absurd cc, λ h. absurd (other (one_fault text fault Memory h (units_of a, ok))))
answer_fault text units_of (Err found) ok err fault other =
    (λ e. let same : found ≡ fault = cc in rw same at err, λ h. ap Err (one_fault text found fault err h))
