use Rattle.std.proofs.Common.{◌≡◌, ◌-◌, length, cond, eqb, drop, arith}
use Rattle.std.proofs.lemmas.List.Sums.{sum_by-take-drop, sum_by-take-le}
use Rattle.picture_store.proofs.WithSplice.{least_found}
use Rattle.picture_store.proofs.changing.changed_by.Goals as goal

pub widen-changed-requires-clause-different : goal.widen-changed-requires-clause-different
widen-changed-requires-clause-different c = λ id.
    let ids = c.args.ids.now in
    let from = c.args.splice.now.from in
    omega (
      arith,
      sum_by-take-le (λ other. cond (eqb other id) 1 0) (drop from ids) (c.args.past - from),
      sum_by-take-drop (λ other. cond (eqb other id) 1 0) ids from,
      c.requires.different id,
    )

pub widen-requires-clause-different : goal.widen-requires-clause-different
widen-requires-clause-different c = λ id.
    let ids = c.args.ids.now in
    let from = c.args.splice.now.from in
    omega (
      arith,
      sum_by-take-le (λ other. cond (eqb other id) 1 0) (drop from ids) (c.args.past - from),
      sum_by-take-drop (λ other. cond (eqb other id) 1 0) ids from,
      c.requires.different id,
    )

pub returns : goal.returns
returns c =
    let splice = c.args.splice.now in
    let count : c.len-count.result ≡ length splice.ids.items = omega (arith, c.len-count.ensures, splice.ids.ok.0) in
    least_found c.args.ids.now c.args.outcomes.now c.args.numbers.now splice c.requires.splice c.requires.outcomes c.requires.numbers
    c.args.past c.requires.behind c.requires.within c.args.later.now c.requires.later c.requires.apart c.deref.result.now
    c.deref-2.result.now c.len-count.result c.none.result c.widen-changed.result c.widen.result c.deref.ensures.value
    c.deref-2.ensures.value count c.none.ensures c.widen-changed.ensures.least c.widen.ensures.least
