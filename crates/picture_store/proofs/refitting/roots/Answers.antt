use Rattle.std.proofs.Common.{◌++◌, ◌⊎◌, Contains, sym, subst, inl, inr}
use Rattle.std.proofs.lemmas.List.Elements.{Contains-append_cases, Contains-append_left, Contains-append_right}
use Rattle.picture_store.specs.Stored.{numbers_out, IsStored}
use Rattle.picture_store.specs.Marks.{numbers_marked}
use Rattle.picture_store.proofs.Swept.{only_added}
use Rattle.picture_store.proofs.refitting.roots.Goals as goal

pub returns : goal.returns
returns g c = λ number.
    let before = c.in_ok-roots.roots.items in
    let added = c.add_numbers.new.roots.items in
    let out = numbers_out c.args.out.now in
    let all = c.add_out.new.roots.items in
    let marked = numbers_marked c.args.mark.now in
    let last : Contains (added ++ out) number → Contains all number =
    λ there. subst (λ xs. Contains xs number) (sym c.in_ok-add_out.ensures) there in
    let ends : Contains (all ++ marked) number → Contains c.add_marked.new.roots.items number =
    λ there. subst (λ xs. Contains xs number) (sym c.in_ok-add_marked.ensures) there in
    let stored : Contains (added ++ out) number → IsStored c.args.numbers.now c.args.cache.now.pairs c.args.out.now number =
    λ there. elim (Contains-append_cases added out number there) [
      | inl earlier ↦
          elim (only_added before added c.args.numbers.now number (c.in_ok-add_numbers.ensures.counted number) earlier) [
            | inl cached ↦ inr (inl (subst (λ xs. Contains xs number) c.in_ok-roots.ensures cached))
            | inr unit ↦ inl unit
          ]
      | inr job ↦ inr (inr job)
    ] in
    let root : IsStored c.args.numbers.now c.args.cache.now.pairs c.args.out.now number → Contains (added ++ out) number =
    λ is. elim is [
      | inl unit ↦ Contains-append_left added out number (c.in_ok-add_numbers.ensures.added number unit)
      | inr (inl cached) ↦
          Contains-append_left added out number
          (c.in_ok-add_numbers.ensures.old number (subst (λ xs. Contains xs number) (sym c.in_ok-roots.ensures) cached))
      | inr (inr job) ↦ Contains-append_right added out number job
    ] in
    let either : Contains (all ++ marked) number
    → Contains marked number ⊎ IsStored c.args.numbers.now c.args.cache.now.pairs c.args.out.now number =
    λ there. elim (Contains-append_cases all marked number there) [
      | inl earlier ↦ inr (stored (subst (λ xs. Contains xs number) c.in_ok-add_out.ensures earlier))
      | inr mark ↦ inl mark
    ] in (
      λ there. either (subst (λ xs. Contains xs number) c.in_ok-add_marked.ensures there),
      λ is. elim is [
        | inl mark ↦ ends (Contains-append_right all marked number mark)
        | inr other ↦ ends (Contains-append_left all marked number (last (root other)))
      ],
    )
