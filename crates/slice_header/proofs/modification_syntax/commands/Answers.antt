-- Command by command, up to the end.
use Rattle.std.proofs.Common.{◌≡◌, ◌+◌, ◌-◌, suc, [], ap, sym, ◌∙◌, arith}
use Rattle.std.proofs.lemmas.Result.{err_from_is_err_and}
use Rattle.slice_header.specs.RefPicListModificationSyntax.{command_table}
use Rattle.expgolomb.specs.Structures.{syntax_at, ended}
use Rattle.slice_header.proofs.Refusals.{refuses_is}
use Rattle.expgolomb.proofs.Structures.{ended_step, ended_end, ended_stop, ended_full, ended_full_stop}
use Rattle.slice_header.proofs.modification_syntax.commands.Goals as goal

pub returns-in_err-command-clause-exact : goal.returns-in_err-command-clause-exact
returns-in_err-command-clause-exact c =
    let p = err_from_is_err_and c.from_residual.result c.from_residual.ensures.1 in
    let more : (c.args.entries - c.loop.counter) ≡ suc (c.args.entries - (c.loop.counter + 1)) = omega arith in
    rw (p.1, p.2) (refuses_is c.in_err-command.field-0.0 (syntax_at (ended (command_table c.args.max_frame_num) c.args.entries []) c.args.bits.now)
    (c.loop.invariant.so_far ∙ ended_stop (command_table c.args.max_frame_num) (c.args.entries - c.loop.counter) c.loop.commands c.loop.bits (c.args.entries - (c.loop.counter + 1)) c.in_err-command.field-0.0 more c.in_err-command.ensures.exact))

pub returns-in-None-clause-exact : goal.returns-in-None-clause-exact
returns-in-None-clause-exact c =
    let more : (c.args.entries - c.loop.counter) ≡ suc (c.args.entries - (c.loop.counter + 1)) = omega arith in
    c.loop.invariant.so_far ∙ ended_end (command_table c.args.max_frame_num) (c.args.entries - c.loop.counter) c.loop.commands c.loop.bits (c.args.entries - (c.loop.counter + 1)) c.command.new.bits more (rw c.in-None.is at c.in_ok-command.ensures.exact)

pub loop-preserved : goal.loop-preserved
loop-preserved c =
    let more : (c.args.entries - c.loop.counter) ≡ suc (c.args.entries - (c.loop.counter + 1)) = omega arith in
    record {
      so_far =
          c.loop.invariant.so_far
          ∙ (ended_step (command_table c.args.max_frame_num) (c.args.entries - c.loop.counter) c.loop.commands c.loop.bits (c.args.entries - (c.loop.counter + 1)) c.in-Some.command c.command.new.bits more (rw c.in-Some.is at c.in_ok-command.ensures.exact)
          ∙ ap (λ items. syntax_at (ended (command_table c.args.max_frame_num) (c.args.entries - (c.loop.counter + 1)) items) c.command.new.bits) (sym c.in_ok-push-in-Some.ensures.ok));
      near = omega (arith, c.in_ok-command.ensures.near);
    }

pub returns-in_err-_end-clause-exact : goal.returns-in_err-_end-clause-exact
returns-in_err-_end-clause-exact c =
    let p = err_from_is_err_and c.from_residual-in_err-_end.result c.from_residual-in_err-_end.ensures.1 in
    let none : (c.args.entries - c.loop.counter) ≡ 0 = omega arith in
    rw (p.1, p.2) (refuses_is c.in_err-_end.field-0.0 (syntax_at (ended (command_table c.args.max_frame_num) c.args.entries []) c.args.bits.now)
    (c.loop.invariant.so_far ∙ ended_full_stop (command_table c.args.max_frame_num) (c.args.entries - c.loop.counter) c.loop.commands c.loop.bits c.in_err-_end.field-0.0 none c.in_err-_end.ensures.exact))

pub returns-clause-exact : goal.returns-clause-exact
returns-clause-exact c =
    let none : (c.args.entries - c.loop.counter) ≡ 0 = omega arith in
    c.loop.invariant.so_far ∙ ended_full (command_table c.args.max_frame_num) (c.args.entries - c.loop.counter) c.loop.commands c.loop.bits c.in_ok-_end._end c.command-2.new.bits none c.in_ok-_end.ensures.exact
