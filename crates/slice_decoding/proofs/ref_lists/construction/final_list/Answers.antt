use Rattle.std.proofs.Common.{rules, ◌≡◌, ◌+◌, refl}
use Rattle.slice_decoding.specs.InitialLists.{cut}
use Rattle.slice_decoding.proofs.Entries.{length-cut, count_by-cut}
use Rattle.slice_decoding.proofs.ref_lists.construction.final_list.Goals as goal

pub modified-requires-clause-once : goal.modified-requires-clause-once
modified-requires-clause-once c place = rw c.cut-list.ensures (count_by-cut place _ c.args.initial.now c.requires.once)

pub returns : goal.returns
returns c =
    let active = c.args.num_ref_idx_active_minus1 + 1 in
    let list : c.cut-list.result ≡ cut (c.args.num_ref_idx_active_minus1 + 1) c.args.initial.now = search rules in
    rw (c.modified.ensures, list, length-cut active c.args.initial.now, c.as_slice-commands.ensures) refl
