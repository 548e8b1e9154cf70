-- What is found of a text whose first bytes were read before the rest.
use Rattle.std.proofs.Common.{◌≡◌, ◌∙◌, ℕ, List, ◌++◌, Option, Some, None, IfSome, sym, subst}
use Rattle.std.specs.Fmt.{option_append}
use Rattle.access_unit.specs.StreamUnits.{IsStream, IsStreamRefused, most_units}
use Rattle.access_unit.specs.declared.stream_units.Refusal.{Refusal}
use Rattle.stream_reasons.specs.Kinds.{kind_of}
use Rattle.stream_reasons.specs.declared.file_kinds.kind.FileKind.{FileKind}
use Rattle.failure_reasons.specs.Files.{IsReasonFor}
use Rattle.failure_reasons.specs.Fronts.{IsFront}
use Rattle.failure_reasons.proofs.Fronts.{front-holds, front-kind}

-- what holds of what is known holds of the whole
whole-holds : (old rest known : Option (List ℕ)) (front : List ℕ) (P : List ℕ → Type 0)
    → known ≡ option_append (Some front) rest → IfSome known P → IsFront old rest front → IfSome old P
whole-holds old rest known front P same holds is =
    front-holds old rest front P is (subst (λ (k : Option (List ℕ)). IfSome k P) same holds)

-- what is known of both, of a text
both : (old : Option (List ℕ)) (P Q R : List ℕ → Type 0) → IfSome old P → IfSome old Q
    → ((text : List ℕ) → P text → Q text → R text) → IfSome old R
both None P Q R p q all = tt
both (Some text) P Q R p q all = all text p q

-- it is a stream
pub found-stream : (old rest known : Option (List ℕ)) (front : List ℕ) (P : List ℕ → Type 0)
    → known ≡ option_append (Some front) rest → IfSome known P
    → ((text : List ℕ) → P text → (parts : List (List (List ℕ))) × IsStream text parts)
    → IsFront old rest front → IfSome old (IsReasonFor None)
found-stream old rest known front P same holds all is =
    let here = whole-holds old rest known front P same holds is in
    both old P P (IsReasonFor None) here here (λ text p q. all text p)

-- it is refused
pub found-refused : (old rest known : Option (List ℕ)) (front : List ℕ) (P : List ℕ → Type 0) (kind : FileKind) (refusal : Refusal)
    → known ≡ option_append (Some front) rest → kind ≡ kind_of front → IfSome known P
    → ((text : List ℕ) → P text → IsStreamRefused text most_units refusal)
    → IsFront old rest front → IfSome old (IsReasonFor (Some record { kind = kind; refusal = refusal }))
found-refused old rest known front P kind refusal same is_kind holds all is =
    both old P (λ text. kind_of front ≡ kind_of text) (IsReasonFor (Some record { kind = kind; refusal = refusal }))
    (whole-holds old rest known front P same holds is) (front-kind old rest front is)
    (λ text p q. (is_kind ∙ q, all text p))
