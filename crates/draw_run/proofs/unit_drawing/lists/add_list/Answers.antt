use Rattle.std.proofs.Common.{◌≡◌, ◌∙◌, ◌+◌, ◌∷◌, [], ◌++◌, None, take, ap, get_or, append_assoc}
use Rattle.std.specs.List.{cons_option}
use Rattle.std.proofs.lemmas.List.{take_all, take_more}
use Rattle.std.proofs.lemmas.List.Elements.{filter_map-append}
use Rattle.draw_run.specs.Lists.{named_by, reference_at}
use Rattle.draw_run.proofs.unit_drawing.lists.add_list.Goals as goal

pub loop-entry-preserved : goal.loop-entry-preserved
loop-entry-preserved c = λ before are.
    let request = c.args.request.now in
    let list = c.args.list in
    let entries = c.args.entries.now in
    let at = c.loop-entry.entry-index in
    let entry = get_or entries at None in
    let old = named_by request list (take at entries) in
    let longer : named_by request list (take (at + 1) entries) ≡ old ++ cons_option (reference_at request list entry) [] =
    ap (named_by request list) (take_more entries at None c.loop-entry-test.true)
    ∙ filter_map-append (reference_at request list) (take at entries) (entry ∷ []) in
    rw (longer, ← append_assoc before old (cons_option (reference_at request list entry) []))
    (c.in_ok-add_entry.ensures (before ++ old) (c.loop-entry.invariant before are))

pub returns : goal.returns
returns c = λ before are.
    rw (take_all c.loop-entry.entry-index c.args.entries.now c.loop-entry-test.false) at (c.loop-entry.invariant before are)
