-- The flag, and the commands where it is 1.
use Rattle.std.proofs.Common.{◌≡◌, ◌+◌, [], subst, sym, refl}
use Rattle.std.proofs.lemmas.Result.{err_from_is_err_and}
use Rattle.slice_header.specs.HeaderAnswer.{Stores}
use Rattle.slice_header.specs.RefPicListModificationSyntax.{command_table, modification_syntax}
use Rattle.expgolomb.specs.Structures.{syntax_at, ended}
use Rattle.slice_header.proofs.Refusals.{refuses_is}
use Rattle.slice_header.proofs.modification_syntax.ref_pic_list_modification.Goals as goal

pub returns-in_err-modification_flag-clause-exact : goal.returns-in_err-modification_flag-clause-exact
unfolding modification_syntax syntax_at
returns-in_err-modification_flag-clause-exact c =
    let p = err_from_is_err_and c.from_residual.result c.from_residual.ensures.1 in
    let stop = c.in_err-modification_flag.ensures.exact in
    rw (p.1, p.2) (refuses_is c.in_err-modification_flag.field-0.0 (syntax_at (modification_syntax c.args.is_there c.args.active_minus1 c.args.max_frame_num) c.args.bits.now) (rw stop refl))

pub returns-then-branch-clause-exact : goal.returns-then-branch-clause-exact
unfolding modification_syntax syntax_at
returns-then-branch-clause-exact c =
    let same : syntax_at (modification_syntax c.args.is_there c.args.active_minus1 c.args.max_frame_num) c.args.bits.now ≡ syntax_at (ended (command_table c.args.max_frame_num) (c.args.active_minus1 + 1) []) c.modification_flag.new.bits =
    rw (c.in_ok-modification_flag.ensures.exact, c.if-branch.true) refl in
    subst (λ read. Stores (λ commands. commands) c.commands.result c.commands.new.bits read) (sym same) c.commands.ensures.exact

pub returns-else-branch-clause-exact : goal.returns-else-branch-clause-exact
unfolding modification_syntax syntax_at
returns-else-branch-clause-exact c = rw (c.in_ok-modification_flag.ensures.exact, c.if-branch.false, c.new.ensures) refl
