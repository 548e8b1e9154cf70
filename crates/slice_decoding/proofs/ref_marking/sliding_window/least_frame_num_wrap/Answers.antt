use Rattle.std.proofs.Common.{rules, tests, ◌∙◌, ℤ, sym}
use Rattle.std.proofs.lemmas.Iterator.{YieldsList-from_slice}
use Rattle.std.proofs.lemmas.Iterator.Consumers.{reduce_by_from_yields_List, YieldsList-from_filter_map}
use Rattle.std.proofs.lemmas.Iterator.Adapters.{option_map_id}
use Rattle.std.specs.Int.{int_min}
use Rattle.std.specs.Ordering.{int_cmp, min_by_ordering}
use Rattle.h264_types.specs.PicNums.{pic_num}
use Rattle.slice_decoding.proofs.Least.{min_is}
use Rattle.slice_decoding.proofs.ref_marking.sliding_window.least_frame_num_wrap.Goals as goal

pub returns : goal.returns
returns c = sym (option_map_id c.min.result) ∙ reduce_by_from_yields_List {v = λ (z : ℤ). z} (λ (x y : ℤ). min_by_ordering (int_cmp x y) x y) int_min _ c.min.result min_is c.min.ensures.ran (YieldsList-from_filter_map _ (pic_num c.args.sps.now c.args.frame_num) (YieldsList-from_slice c.args.marks.now.frames cc) c.filter_map.ensures.closure (λ x r q k. search (rules, tests)))
