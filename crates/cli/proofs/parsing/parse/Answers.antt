use Rattle.std.proofs.Common.{ap, refl, subst, sym, map, ◌∙◌, ◌≡◌, []}
use Rattle.clap.specs.Kinds.{HasKind}
use Rattle.clap.specs.Words.{App, fault_of, is_simple, is_simple_and_free, subcommand_of}
use Rattle.clap.proofs.FaultLemmas.{failed_up}
use Rattle.cli.specs.CommandLine.{preview_app, wanted_from, wanted_of}
use Rattle.cli.proofs.CommandFaults.{clap-fails, no-fault, nothing-asked, preview-simple}
use Rattle.cli.proofs.parsing.parse.Goals as goal

pub returns-in_err-matches-clause-faults : goal.returns-in_err-matches-clause-faults
returns-in_err-matches-clause-faults g c =
    let words = map g.S.AsStr.text c.args.words.now in
    let fails = c.in_err-matches.ensures.kinds (ap is_simple_and_free c.in_ok-preview.ensures ∙ preview-simple) in
    let here = subst (λ (a : App). HasKind (fault_of a words) c.in_err-matches.field-0.0) c.in_ok-preview.ensures fails in
    failed_up c.from_residual-in_err-matches.result c.in_err-matches.field-0.0 _ _ c.from_residual-in_err-matches.ensures.1 (clap-fails words c.in_err-matches.field-0.0 here)

pub returns-in-Some-clause-faults : goal.returns-in-Some-clause-faults
returns-in-Some-clause-faults g c =
    let words = map g.S.AsStr.text c.args.words.now in
    let none = c.in_ok-matches.ensures.kinds (ap is_simple_and_free c.in_ok-preview.ensures ∙ preview-simple) in
    let here : fault_of preview_app words ≡ [] = subst (λ (a : App). fault_of a words ≡ []) c.in_ok-preview.ensures none in
    let met = (c.in_ok-matches.ensures.ok.2 (ap is_simple c.in_ok-preview.ensures ∙ refl)).1 in
    let asks = c.in-Some.ensures ∙ ap wanted_from (met ∙ ap (λ (a : App). subcommand_of a words) c.in_ok-preview.ensures) in
    no-fault words (wanted_of c.in-Some.asked) here (sym asks)

pub returns-in-Some-clause-ok : goal.returns-in-Some-clause-ok
returns-in-Some-clause-ok g c =
    let words = map g.S.AsStr.text c.args.words.now in
    let met = (c.in_ok-matches.ensures.ok.2 (ap is_simple c.in_ok-preview.ensures ∙ refl)).1 in
    sym (c.in-Some.ensures ∙ ap wanted_from (met ∙ ap (λ (a : App). subcommand_of a words) c.in_ok-preview.ensures))

pub returns-clause-faults : goal.returns-clause-faults
returns-clause-faults g c =
    let words = map g.S.AsStr.text c.args.words.now in
    let none = c.in_ok-matches.ensures.kinds (ap is_simple_and_free c.in_ok-preview.ensures ∙ preview-simple) in
    let here : fault_of preview_app words ≡ [] = subst (λ (a : App). fault_of a words ≡ []) c.in_ok-preview.ensures none in
    let met = (c.in_ok-matches.ensures.ok.2 (ap is_simple c.in_ok-preview.ensures ∙ refl)).1 in
    let asks = c.in-None.ensures ∙ ap wanted_from (met ∙ ap (λ (a : App). subcommand_of a words) c.in_ok-preview.ensures) in
    nothing-asked words c.in_ok-error-in-None.field-0 here (sym asks) c.in_ok-error-in-None.ensures.kind
