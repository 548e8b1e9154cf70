use Rattle.std.proofs.Common.{◌≡◌, length, false, ◌∙◌, rules}
use Rattle.std.specs.List.{AllByRecursion}
use Rattle.session_journal.specs.RecordRows.{IsStep}
use Rattle.session_journal.specs.Records.{given_by_steps, lines_of_steps}
use Rattle.session_journal.specs.Standing.{Standing}
use Rattle.session_journal.proofs.OpenLemmas.{opened_end, opened_has}
use Rattle.session_journal.proofs.opening.opened.Goals as goal

pub returns-clause-ends : goal.returns-clause-ends
returns-clause-ends g c front edits is =
    let steps = c.in-Some.steps.items in
    let lines : c.args.lines.now ≡ lines_of_steps 0 1 steps = search rules in
    let given : c.in-Some.given ≡ given_by_steps 0 steps = search rules in
    let are : AllByRecursion IsStep steps = search rules in
    let entries : c.args.journal.entries ≡ length steps = search rules in
    let read : c.deref-2.result.now ≡ steps = search rules in
    let stands : Standing g.S.Store (record { journal = c.args.journal; alloc = c.args.alloc; given = c.in-Some.given; last = c.in_ok-last.last; is_shut = false }) steps =
    record { given = given; holds = λ _. opened_has g.S.Store c.args.journal c.args.lines.now steps lines entries c.requires (λ db. g.met.S.Store.settled c.args.journal.store db) } in
    opened_end g.S.Store _ steps front edits is stands are (c.in_ok-last.ensures.rows front edits (read ∙ is)) (c.in_ok-last.ensures.before front edits (read ∙ is)) c.in_ok-last.ensures.load
