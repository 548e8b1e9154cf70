-- One pair more, and all of them.
use Rattle.std.proofs.Common.{◌≡◌, ◌∙◌, ◌≤◌, ◌+◌, [], ◌∷◌, ◌++◌, length, take, flat_map, ap, sym, arith, rules, length-append}
use Rattle.std.specs.List.{zip}
use Rattle.std.proofs.lemmas.List.{take_all}
use Rattle.std.proofs.lemmas.Slice.Zip.{length-zip, zip_end, zip_turn}
use Rattle.unit_printing.specs.Lines.{next_text}
use Rattle.unit_printing.proofs.Appending.{as_well, more}
use Rattle.unit_printing.proofs.DpbTexts.{pairs-more}
use Rattle.unit_printing.proofs.lines.references.put_more_entries.Goals as goal

pub loop-unit-preserved : goal.loop-unit-preserved
loop-unit-preserved c =
    let units = c.args.units.now in
    let entries = c.args.entries.now in
    let xs = c.loop-unit.yielded in
    let turn = zip_turn units entries xs c.into_iter-unit-iterator.result c.loop-unit.unit-iterator c.next.new.self c.next.result (search rules) (search rules) c.loop-unit.yielded_by (c.in-Some.unit, c.in-Some.entry) c.in-Some.is c.next.ensures.steps in
    let longer = pairs-more next_text units entries (length xs) c.in-Some.unit.now c.in-Some.entry.now turn.0 turn.1 (turn.2 c.in-Some.unit.now) (turn.3 c.in-Some.entry.now) in
    let long : length (xs ++ (c.in-Some.unit, c.in-Some.entry) ∷ []) ≡ length xs + 1 = length-append xs ((c.in-Some.unit, c.in-Some.entry) ∷ []) in
    as_well (sym longer ∙ ap (λ n. flat_map next_text (take n (zip units entries))) (sym long))
    (more c.loop-unit.invariant (more c.in_ok-put_text.ensures c.in_ok-put_entry.ensures))

pub returns : goal.returns
returns c =
    let units = c.args.units.now in
    let entries = c.args.entries.now in
    let xs = c.loop-unit.yielded in
    let end = zip_end units entries xs c.into_iter-unit-iterator.result c.loop-unit.unit-iterator c.next.new.self c.next.result (search rules) (search rules) c.loop-unit.yielded_by c.in-None.is c.next.ensures.steps in
    let all : length (zip units entries) ≤ length xs = omega (arith, end ∙ sym (length-zip units entries)) in
    rw (take_all (length xs) (zip units entries) all) at c.loop-unit.invariant
