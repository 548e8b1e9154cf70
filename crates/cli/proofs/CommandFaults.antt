-- How a command line fails.
use Rattle.std.proofs.Common.{◌≡◌, true, cond, refl, ap₂, subst, sym, inl, inr, List, [], ◌∷◌, Option, None, Some, is_some}
use Rattle.clap.specs.Kinds.{HasKind, or_else}
use Rattle.clap.specs.Words.{Kinds, Text, fault_of, kind_of, is_simple_and_free}
use Rattle.clap.specs.declared.Error.{Error}
use Rattle.clap.specs.declared.error.ErrorKind.{ErrorKind}
use Rattle.clap.specs.declared.error.ErrorKind.TheVariants.{MissingRequiredArgument, OutOfMemory}
use Rattle.clap.proofs.FaultLemmas.{first_fails}
use Rattle.cli.specs.CommandLine.{HasOne, IsRequest, Wanted, faults_of, preview_app, wanted_in}

-- clap's statements on matches and errors are on this command
pub preview-simple : is_simple_and_free preview_app ≡ true
preview-simple = refl

-- where clap finds no fault and something is asked for there is none
pub no-fault : (words : List Text) (wanted : Wanted) → fault_of preview_app words ≡ [] → wanted_in words ≡ Some wanted → faults_of words ≡ []
no-fault words wanted none some = ap₂ (λ (a : Kinds) (o : Option Wanted). or_else a (cond (is_some o) [] (MissingRequiredArgument ∷ []))) none some

-- where clap finds no fault and nothing is asked for, that is the fault
pub nothing-asked : (words : List Text) (e : Error) → fault_of preview_app words ≡ [] → wanted_in words ≡ None
    → kind_of e ≡ MissingRequiredArgument → HasKind (faults_of words) e
nothing-asked words e none nobody kind =
    let is = ap₂ (λ (a : Kinds) (o : Option Wanted). or_else a (cond (is_some o) [] (MissingRequiredArgument ∷ []))) none nobody in
    subst (λ (kinds : Kinds). HasKind kinds e) (sym is) (inr (inl kind))

-- an error of clap's is one of the command line
pub clap-fails : (words : List Text) (e : Error) → HasKind (fault_of preview_app words) e → HasKind (faults_of words) e
clap-fails words e h = first_fails (fault_of preview_app words) _ _ h

-- an error that memory alone doesn't give has one of the kinds
pub kind-among : (P : ErrorKind → Type 0) (kinds : Kinds) (e : Error) → HasKind kinds e → (P OutOfMemory → ⊥) → P (kind_of e) → HasOne P kinds
kind-among P kinds e (inl memory) other p = absurd (other (subst P memory p))
kind-among P kinds e (inr among) other p = (kind_of e, among, p)

-- a request that a fault asks for is one of the kinds
pub request-among : (kinds : Kinds) (e : Error) → HasKind kinds e → IsRequest (kind_of e) → HasOne IsRequest kinds
request-among kinds e h request =
    kind-among IsRequest kinds e h (λ none. elim none [ inl f ↦ cc | inr f ↦ cc ]) request
