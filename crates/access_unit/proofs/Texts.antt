-- What a text is read as, by its NAL units.
use Rattle.std.proofs.Common.{◌≡◌, ℕ, ◌≤◌, ⊎_elim, List, length, Result, Ok, Err, None, Some, IfOk, IfErr, ap, sym, ◌∙◌, inl, inr, arith}
use Rattle.std.specs.Result.{IsOkUnless}
use Rattle.annexb.specs.ByteStream.{HasUnits}
use Rattle.annexb.proofs.Readings.{same_reading}
use Rattle.access_unit.specs.declared.refused.Refused.{Refused}
use Rattle.access_unit.specs.declared.refused.Refused.TheVariants.{Memory}
use Rattle.access_unit.specs.Refusals.{refusal_of, most_bytes}
use Rattle.access_unit.specs.Answers.{IsAccepted, IsRefused, too_long, unsplit, shown, IsReadAs}
use Rattle.access_unit.specs.Stored.{IsShown}

-- a text of NAL units is read as they are
pub IsReadAs-units : (text : List ℕ) (units : List (List ℕ)) → HasUnits text units → length text ≤ most_bytes
    → (result : Result (List (List ℕ)) Refused) → IfOk result (λ unit. (unit ≡ units) × (refusal_of units ≡ None))
    → IfErr result (IsShown (refusal_of units)) → IsReadAs text result
IsReadAs-units text units has short (Ok unit) ok err = rw ok.0 (record { has = has; short = short; sound = ok.1 })
IsReadAs-units text units has short (Err refused) ok err =
    ⊎_elim (λ memory. inl memory) (λ (is : refusal_of units ≡ Some refused). inr (shown short units has is)) err

-- a text of an access unit isn't refused
pub never_refused : (text : List ℕ) (units : List (List ℕ)) (refused : Refused) → IsAccepted text units → IsRefused text refused → ⊥
never_refused text units refused accepted (too_long long is) = omega (arith, accepted.short)
never_refused text units refused accepted (unsplit short none is) = none units accepted.has
never_refused text units refused accepted (shown short others has is) =
    let same = same_reading text units others accepted.has has in
    let none : refusal_of others ≡ None = rw same at accepted.sound in
    let both = sym none ∙ is in
    cc

-- it has one answer, but for lack of memory
pub only_answer : (text : List ℕ) (units : List (List ℕ)) → IsAccepted text units → (result : Result (List (List ℕ)) Refused)
    → IsReadAs text result → IfOk result (λ unit. unit ≡ units) × IsOkUnless result Memory
only_answer text units accepted (Ok unit) read = (same_reading text unit units read.has accepted.has, tt)
only_answer text units accepted (Err refused) read =
    (tt, ⊎_elim (λ (memory : refused ≡ Memory). memory) (λ h. absurd (never_refused text units refused accepted h)) read)

-- it is refused in one way
pub one_refusal : (text : List ℕ) (refused other : Refused) → IsRefused text refused → IsRefused text other → refused ≡ other
one_refusal text refused other (too_long long is) (too_long long' is') = is ∙ sym is'
one_refusal text refused other (too_long long is) (unsplit fits none is') = absurd (omega arith)
one_refusal text refused other (too_long long is) (shown fits units has is') = absurd (omega arith)
one_refusal text refused other (unsplit fits none is) (too_long long is') = absurd (omega arith)
one_refusal text refused other (unsplit fits none is) (unsplit fits' none' is') = is ∙ sym is'
one_refusal text refused other (unsplit fits none is) (shown fits' units has is') = absurd (none units has)
one_refusal text refused other (shown fits units has is) (too_long long is') = absurd (omega arith)
one_refusal text refused other (shown fits units has is) (unsplit fits' none is') = absurd (none units has)
one_refusal text refused other (shown fits units has is) (shown fits' units' has' is') =
    let same = same_reading text units units' has has' in
    let both = sym is ∙ ap refusal_of same ∙ is' in
    cc
