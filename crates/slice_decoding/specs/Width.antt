-- Counts in the width in which the code forms them.
use Rattle.h264_types.specs.declared.pictures.counts.Counts.{Counts}
use Rattle.slice_decoding.specs.declared.order_count.counting.WideCounts.{WideCounts}

-- the same counts
abbrev pub plain : WideCounts → Counts
plain wide = record { top = wide.top; bottom = wide.bottom }
