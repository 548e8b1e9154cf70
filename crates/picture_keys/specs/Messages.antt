-- The bytes that stand for the bodies of a unit where keys are looked for.
use Rattle.std.specs.Prelude.{ℕ, List, ◌++◌, map}
use Rattle.std.specs.List.{flat_map}
use Rattle.param_set_controls.specs.Words.{s32}
use Rattle.h264_controls.specs.declared.request.RequestBody.{RequestBody}
use Rattle.picture_keys.specs.SliceBytes.{slices_digest}

-- those of a slice's order: its TopFieldOrderCnt
abbrev pub order_bytes : RequestBody → List ℕ
order_bytes body = s32 body.controls.decode_params.top_field_order_cnt

-- those of all slices' orders, one after the other, and the digest of the slices' bytes
abbrev pub bodies_bytes : List RequestBody → List ℕ
bodies_bytes bodies = flat_map order_bytes bodies ++ slices_digest (map (λ body. body.bytes) bodies)
