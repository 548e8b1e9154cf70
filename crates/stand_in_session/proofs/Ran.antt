-- Runs one command on.
use Rattle.std.proofs.Common.{List, [], ◌∷◌, ◌++◌, refl, sym, subst}
use Rattle.stand_in_session.specs.declared.commands.Command.{Command}
use Rattle.stand_in_session.specs.declared.commands.Command.TheVariants as commands
use Rattle.stand_in_session.specs.declared.replies.Reply.{Reply}
use Rattle.stream_edits.specs.declared.edits.Edit.{Edit}
use Rattle.stand_in_session.specs.Copies.{IsCopy}
use Rattle.stream_session.specs.Grouping.{AnswersGroup}
use Rattle.stand_in_session.specs.Machines.{Machine}
use Rattle.stand_in_session.specs.Runs.{Answers, Runs}

-- one command more, after others
pub Runs-push : (from : Machine) (commands : List Command) (replies : List Reply) (between : Machine) (command : Command) (reply : Reply) (to : Machine)
    → Runs from commands replies between → Answers between command reply to → Runs from (commands ++ command ∷ []) (replies ++ reply ∷ []) to
Runs-push from [] [] between command reply to is answers =
    let same = sym is in
    (to, rw same at answers, refl)
Runs-push from [] (other ∷ replies) between command reply to is answers = absurd is
Runs-push from (first ∷ commands) [] between command reply to is answers = absurd is
Runs-push from (first ∷ commands) (other ∷ replies) between command reply to runs answers =
    (runs.0, runs.1, Runs-push runs.0 commands replies between command reply to runs.2 answers)

-- a copy is answered as the command is
pub Answers-copy : (old : Machine) (command copy : Command) (reply : Reply) (new : Machine) → IsCopy command copy → Answers old copy reply new
    → Answers old command reply new
Answers-copy old (commands.Group edits) (commands.Group copies) reply new is answers =
    (answers.0, answers.1, subst (λ (edits : List Edit). AnswersGroup old edits answers.0 new) is answers.2)
Answers-copy old (commands.Group edits) (commands.Edit edit) reply new is answers = absurd is
Answers-copy old (commands.Group edits) (commands.Unit id) reply new is answers = absurd is
Answers-copy old (commands.Group edits) commands.Take reply new is answers = absurd is
Answers-copy old (commands.Group edits) (commands.Land number) reply new is answers = absurd is
Answers-copy old (commands.Group edits) (commands.GiveBack number) reply new is answers = absurd is
Answers-copy old (commands.Group edits) (commands.Show id) reply new is answers = absurd is
Answers-copy old (commands.Group edits) (commands.TakeFor id) reply new is answers = absurd is
Answers-copy old (commands.Group edits) (commands.Drop id) reply new is answers = absurd is
Answers-copy old (commands.Group edits) commands.ClearCache reply new is answers = absurd is
Answers-copy old (commands.Edit edit) copy reply new is answers = subst (λ (it : Command). Answers old it reply new) is answers
Answers-copy old (commands.Unit id) copy reply new is answers = subst (λ (it : Command). Answers old it reply new) is answers
Answers-copy old commands.Take copy reply new is answers = subst (λ (it : Command). Answers old it reply new) is answers
Answers-copy old (commands.Land number) copy reply new is answers = subst (λ (it : Command). Answers old it reply new) is answers
Answers-copy old (commands.GiveBack number) copy reply new is answers = subst (λ (it : Command). Answers old it reply new) is answers
Answers-copy old (commands.Show id) copy reply new is answers = subst (λ (it : Command). Answers old it reply new) is answers
Answers-copy old (commands.TakeFor id) copy reply new is answers = subst (λ (it : Command). Answers old it reply new) is answers
Answers-copy old (commands.Drop id) copy reply new is answers = subst (λ (it : Command). Answers old it reply new) is answers
Answers-copy old commands.ClearCache copy reply new is answers = subst (λ (it : Command). Answers old it reply new) is answers
