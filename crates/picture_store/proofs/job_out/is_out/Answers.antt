use Rattle.std.proofs.Common.{◌≡◌, sym, ◌==◌, rules, tests, ◌∙◌}
use Rattle.std.specs.List.{list_any}
use Rattle.std.proofs.lemmas.Iterator.{YieldsList-from_slice}
use Rattle.std.proofs.lemmas.Iterator.Search.{any_from_yields_List}
use Rattle.picture_store.specs.declared.job_out.JobOut.{JobOut}
use Rattle.picture_store.proofs.Loops.{key_among, among_key}
use Rattle.picture_store.proofs.job_out.is_out.Goals as goal

pub returns : goal.returns
returns g c =
    let jobs = c.args.jobs.now in
    let key = c.args.key in
    let found : c.any.result ≡ list_any (λ (job : JobOut g.row.P.Denot). job.key == key) jobs =
    any_from_yields_List (λ (job : JobOut g.row.P.Denot). job.key == key) _ _ c.any.result c.any.ensures.ran (YieldsList-from_slice jobs cc) (λ x b q k. search (rules, tests)) in
    (λ yes. key_among key jobs (sym found ∙ yes), λ there. found ∙ among_key key jobs there)
