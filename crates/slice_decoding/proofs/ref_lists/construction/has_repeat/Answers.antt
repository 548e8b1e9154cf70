use Rattle.std.proofs.Common.{rules, ◌+◌, ◌∙◌, get_or, pos, sym, SFits, w32}
use Rattle.std.proofs.lemmas.Int.{to_z-of_z}
use Rattle.std.proofs.lemmas.List.{take_rest}
use Rattle.slice_decoding.proofs.SliceLists.{has_repeat-found, has_repeat_more}
use Rattle.slice_decoding.proofs.ref_lists.construction.has_repeat.Goals as goal

pub returns-then-is_among : goal.returns-then-is_among
returns-then-is_among c =
    let numbers = c.args.numbers.now in
    let index = c.loop-index.index in
    let fits : SFits w32 (get_or numbers index (pos 0)) = search rules in
    let again = rw (to_z-of_z w32 (get_or numbers index (pos 0)) fits, take_rest numbers (index + 1)) at (sym c.is_among.ensures ∙ c.if-is_among.true) in
    sym (sym c.loop-index.invariant ∙ has_repeat-found numbers index c.loop-index-test.true again)

pub loop-index-preserved : goal.loop-index-preserved
loop-index-preserved c =
    let numbers = c.args.numbers.now in
    let index = c.loop-index.index in
    let fits : SFits w32 (get_or numbers index (pos 0)) = search rules in
    let none = rw (to_z-of_z w32 (get_or numbers index (pos 0)) fits, take_rest numbers (index + 1)) at (sym c.is_among.ensures ∙ c.if-is_among.false) in
    sym (has_repeat_more numbers index c.loop-index-test.true none) ∙ c.loop-index.invariant
