-- The first bytes of an input, and the rest behind them.
use Rattle.std.proofs.Common.{◌≡◌, ℕ, ◌≤◌, ◌⊎◌, inl, inr, List, [], ◌++◌, length, take, Option, Some, None, IfSome, refl, sym, ap, subst, ◌∙◌}
use Rattle.std.proofs.lemmas.List.{append-nil, take-append-le}
use Rattle.std.specs.Fmt.{option_append}
use Rattle.std.specs.Io.KnownBytes.{Consumes, IsAtEnd}
use Rattle.stream_reasons.specs.Kinds.{kind_in, kind_of}
use Rattle.stream_reasons.specs.declared.file_kinds.detection.TheConstants.{FIRST_BYTES}
use Rattle.failure_reasons.specs.Fronts.{IsFront}

-- behind its first bytes the rest gives the whole
pub front-gives : (old new : Option (List ℕ)) (front : List ℕ) → IsFront old new front
    → IfSome old (λ text. option_append (Some front) new ≡ Some text)
front-gives None new front is = tt
front-gives (Some text) None front is = absurd is.0
front-gives (Some text) (Some rest) front is = ap Some (sym is.0)

-- they have its kind
pub front-kind : (old new : Option (List ℕ)) (front : List ℕ) → IsFront old new front
    → IfSome old (λ text. kind_of front ≡ kind_of text)
front-kind None new front is = tt
front-kind (Some text) None front is = absurd is.0
front-kind (Some text) (Some rest) front (read, inl long) =
    let same : take FIRST_BYTES text ≡ take FIRST_BYTES front = ap (take FIRST_BYTES) read ∙ take-append-le FIRST_BYTES front rest long in
    ap kind_in (sym same)
front-kind (Some text) (Some rest) front (read, inr over) =
    let same : text ≡ front = read ∙ ap (λ l. front ++ l) over ∙ append-nil front in
    ap kind_of (sym same)

-- what holds of the first bytes with the rest holds of the whole
pub front-holds : (old new : Option (List ℕ)) (front : List ℕ) (P : List ℕ → Type 0) → IsFront old new front
    → IfSome (option_append (Some front) new) P → IfSome old P
front-holds None new front P is holds = tt
front-holds (Some text) None front P is holds = absurd is.0
front-holds (Some text) (Some rest) front P is holds = subst P (sym is.0) holds
