use Rattle.std.proofs.Common.{◌≡◌, ℕ, List, subst, rules}
use Rattle.decode_pool.specs.Appends.{AppendsSome}
use Rattle.script_run.proofs.shared.loading.insert_handful.Goals as goal

pub returns-clause-inserted : goal.returns-clause-inserted
returns-clause-inserted g c =
    let same : c.replace-units.result.items ≡ c.args.handful.now.items = search rules in (
      c.append_read.result.inserted,
      subst (λ (parts : List (List (List ℕ))). AppendsSome c.args.seat.now parts c.append_read.result c.append_read.new.self)
          same c.append_read.ensures,
    )
