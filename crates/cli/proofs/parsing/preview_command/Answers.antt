use Rattle.std.proofs.Common.{ap, ap₂, true, ◌≡◌, ◌∙◌}
use Rattle.std.proofs.lemmas.Result.{IfOk-weaker}
use Rattle.clap.specs.Simple.{app_of_fields, on_top}
use Rattle.clap.specs.Words.{App, with_subcommand}
use Rattle.clap.proofs.SimpleLemmas.{is_false}
use Rattle.clap.proofs.WalkLemmas.{both}
use Rattle.cli.proofs.parsing.preview_command.Goals as goal

pub returns : goal.returns
returns c =
    let plan_is = c.in_ok-plan_command.ensures in
    let mend_is = c.in_ok-mend_command.ensures in
    let check_is = c.in_ok-check_command.ensures in
    let draw_is = c.in_ok-draw_command.ensures in
    let run_is = c.in_ok-run_command.ensures in
    let audit_is = c.in_ok-audit_command.ensures in
    let serve_is = c.in_ok-serve_command.ensures in
    let base = ap app_of_fields c.subcommand_required.ensures ∙ ap (on_top (λ s. record s { subcommand_required = true }))
    (ap app_of_fields c.in_ok-bin_name.ensures.0 ∙ (ap app_of_fields c.version.ensures
    ∙ ap (on_top (λ s. record s { has_version = true })) (ap app_of_fields c.about.ensures ∙ c.new.ensures.app))) in
    IfOk-weaker c.subcommand-7.result _ _ (λ command added. added.shape (is_false _ (both _ _ (both _ _ (both _ _ (ap (λ (a : App). a.top.is_plain) serve_is)).1).1).0)
    ∙ ap₂ with_subcommand
    (c.in_ok-subcommand-6.ensures.shape (is_false _ (both _ _ (both _ _ (both _ _ (ap (λ (a : App). a.top.is_plain) audit_is)).1).1).0)
    ∙ ap₂ with_subcommand
    (c.in_ok-subcommand-5.ensures.shape (is_false _ (both _ _ (both _ _ (both _ _ (ap (λ (a : App). a.top.is_plain) run_is)).1).1).0)
    ∙ ap₂ with_subcommand
    (c.in_ok-subcommand-4.ensures.shape (is_false _ (both _ _ (both _ _ (both _ _ (ap (λ (a : App). a.top.is_plain) draw_is)).1).1).0)
    ∙ ap₂ with_subcommand
    (c.in_ok-subcommand-3.ensures.shape (is_false _ (both _ _ (both _ _ (both _ _ (ap (λ (a : App). a.top.is_plain) check_is)).1).1).0)
    ∙ ap₂ with_subcommand
    (c.in_ok-subcommand-2.ensures.shape (is_false _ (both _ _ (both _ _ (both _ _ (ap (λ (a : App). a.top.is_plain) mend_is)).1).1).0)
    ∙ ap₂ with_subcommand
    (c.in_ok-subcommand.ensures.shape (is_false _ (both _ _ (both _ _ (both _ _ (ap (λ (a : App). a.top.is_plain) plan_is)).1).1).0)
    ∙ ap₂ with_subcommand base (ap (λ (a : App). a.top) plan_is))
    (ap (λ (a : App). a.top) mend_is))
    (ap (λ (a : App). a.top) check_is))
    (ap (λ (a : App). a.top) draw_is))
    (ap (λ (a : App). a.top) run_is))
    (ap (λ (a : App). a.top) audit_is))
    (ap (λ (a : App). a.top) serve_is)) c.subcommand-7.ensures
