-- What is said of a drawing after edits, by what its names stand for.
use Rattle.std.proofs.Common.{◌≡◌, ℕ, List, Option, Some, None, IfSome, inl, inr, ◌⊎◌, ap, subst}
use Rattle.std.proofs.KnownBytes.{Keeps-refl}
use Rattle.std.specs.Borrow.{Bor}
use Rattle.std.specs.Prelude.{Result}
use Rattle.console_io.specs.Inputs.{Files}
use Rattle.console_io.specs.Messages.{Tells, input_fault_text}
use Rattle.console_io.specs.declared.chunks.PrintFault.{PrintFault}
use Rattle.console_io.specs.declared.input.InputFault.{InputFault}
use Rattle.cli.specs.CommandLine.{draw_edited}
use Rattle.cli.specs.Programs.{FailsAt, IsDone}
use Rattle.draw_run.specs.EditedDrawings.{EndsBy, WritesEdited, edits_fault_text}
use Rattle.draw_run.specs.declared.fault.EditsFault.{EditsFault}
use Rattle.console_io.specs.Inputs.{text_named}

-- what holds of two texts holds of what is known of them
pub both-known : (known more : Option (List ℕ)) (text edits : List ℕ) (P : List ℕ → List ℕ → Type 0)
    → IfSome known (λ it. text ≡ it) → IfSome more (λ it. edits ≡ it) → P text edits
    → IfSome known (λ it. IfSome more (λ other. P it other))
both-known None more text edits P is so holds = tt
both-known (Some known) None text edits P is so holds = tt
both-known (Some known) (Some more) text edits P is so holds = subst (λ it. P it more) is (subst (P text) so holds)

-- the drawing is that of the texts that the two names stand for
pub edited-right : {T : Type 0} (files : Files) (standard : Option (List ℕ)) (told : Result T PrintFault) (mute : Type 0)
    (old new had has : Option (List ℕ)) (name script : List ℕ) (from : Option ℕ) (units : ℕ) (text edits : List ℕ)
    → IfSome (text_named files standard name) (λ it. text ≡ it)
    → IfSome (text_named files standard script) (λ it. edits ≡ it)
    → ((refusals : List ℕ) × WritesEdited from units text edits refusals old new × Tells told mute had has refusals)
    → IsDone files standard (draw_edited name script from units) told old new mute had has
edited-right files standard told mute old new had has name script from units text edits is so (refusals, writes, tells) = (
  refusals,
  both-known (text_named files standard name) (text_named files standard script) text edits
      (λ it other. WritesEdited from units it other refusals old new) is so writes,
  tells,
)

-- the fault is that of the texts that the two names stand for
pub edited-fails : {T : Type 0} (files : Files) (standard : Option (List ℕ)) (told : Result T PrintFault) (refused mute : Type 0)
    (old new had has : Option (List ℕ)) (name script : List ℕ) (from : Option ℕ) (units : ℕ) (text edits : List ℕ)
    → IfSome (text_named files standard name) (λ it. text ≡ it)
    → IfSome (text_named files standard script) (λ it. edits ≡ it)
    → ((fault : EditsFault) × EndsBy from units text edits fault refused old new
    × Tells told mute had has (edits_fault_text fault))
    → FailsAt files standard (draw_edited name script from units) told refused old new mute had has
edited-fails files standard told refused mute old new had has name script from units text edits is so (fault, ends, tells) =
    inl (
      fault,
      both-known (text_named files standard name) (text_named files standard script) text edits
          (λ it other. EndsBy from units it other fault refused old new) is so ends,
      tells,
    )

-- one of the two isn't read
pub edited-unread : {T : Type 0} (files : Files) (standard : Option (List ℕ)) (told : Result T PrintFault) (refused mute : Type 0)
    (old had has : Option (List ℕ)) (name script unread : Bor (List ℕ)) (from : Option ℕ) (units : ℕ) (fault : InputFault)
    → (unread ≡ name) ⊎ (unread ≡ script) → Tells told mute had has (input_fault_text unread.now fault)
    → FailsAt files standard (draw_edited name.now script.now from units) told refused old old mute had has
edited-unread files standard told refused mute old had has name script unread from units fault (inl is) tells =
    inr (fault, Keeps-refl old, inl (subst (λ (n : Bor (List ℕ)). Tells told mute had has (input_fault_text n.now fault)) is tells))
edited-unread files standard told refused mute old had has name script unread from units fault (inr is) tells =
    inr (fault, Keeps-refl old, inr (subst (λ (n : Bor (List ℕ)). Tells told mute had has (input_fault_text n.now fault)) is tells))
