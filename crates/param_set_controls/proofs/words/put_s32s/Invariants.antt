-- The first numbers are after the form.
use Rattle.std.proofs.Common.{◌≡◌, ◌+◌, ◌*◌, ◌≤◌, ◌++◌, take, vec_len}
use Rattle.std.specs.Vec.{vec_capacity}
use Rattle.std.specs.List.{flat_map}
use Rattle.param_set_controls.specs.Words.{s32}
use Rattle.param_set_controls.proofs.words.put_s32s.Given as goal

abbrev pub invariant-loop-number : goal.invariant-loop-number
invariant-loop-number l = record {
  items : l.form.items ≡ l.fn.form.items ++ flat_map s32 (take l.number-index l.numbers);
  len : vec_len l.form ≡ vec_len l.fn.form + 4 * l.number-index;
  capacity : vec_capacity l.fn.form ≤ vec_capacity l.form;
}
