use Rattle.std.proofs.Common.{◌≡◌, ◌+◌, ◌<◌, rules, arith}
use Rattle.std.specs.Option.{option_map}
use Rattle.annexb.proofs.ZeroRuns.{code_in_range}
use Rattle.annexb.proofs.Tails.{IsUnit-from_scanned}
use Rattle.annexb.proofs.Finds.{IsFaultFrom_forbidden, IsFaultFrom_empty, IsFoundAt-from_extent}
use Rattle.annexb.proofs.search.unit_at.Goals as goal

pub split_at-requires : goal.split_at-requires
split_at-requires c = code_in_range c.args.text.now c.args.at c.requires

pub returns-in-Err-clause-err : goal.returns-in-Err-clause-err
returns-in-Err-clause-err c =
    IsFaultFrom_forbidden c.args.text.now c.args.at c.requires c.in-Err.run' (rw c.split_at.ensures.back at c.in-Err.ensures.err)

pub returns-in-Ok-eq0-clause-err : goal.returns-in-Ok-eq0-clause-err
returns-in-Ok-eq0-clause-err c =
    let extent = c.in-Ok-eq0.field-0 in
    let none : extent.len ≡ 0 = omega arith in
    IsFaultFrom_empty c.args.text.now c.args.at c.requires extent.next (rw (none, c.split_at.ensures.back) at c.in-Ok-eq0.ensures.ok.1)

pub new-requires : goal.new-requires
new-requires c =
    let some : 0 < c.in-Ok.field-0.len = omega arith in
    rw c.split_at-in-Ok.ensures.front (IsUnit-from_scanned c.split_at.result.1.now c.in-Ok.field-0.len some c.in-Ok.ensures.ok.0)

pub returns-in-Ok-clause-ok : goal.returns-in-Ok-clause-ok
returns-in-Ok-clause-ok c =
    let some : 0 < c.in-Ok.field-0.len = omega arith in
    let moved : c.map.result ≡ option_map (λ n. c.args.at + n) c.in-Ok.field-0.next = search rules in
    let found = rw c.split_at.ensures.back at c.in-Ok.ensures.ok in
    rw (c.new.ensures, c.split_at-in-Ok.ensures.front, c.split_at.ensures.back, moved) (IsFoundAt-from_extent c.args.text.now c.args.at c.requires c.in-Ok.field-0.len c.in-Ok.field-0.next some found.0 found.1)
